-- Trusted: "Numbers given back": what is wrong with a text, 6 to 15.
use Rattle.std.specs.Prelude.{ℕ}
use Rattle.load_text.specs.declared.Wrong.{Wrong}
use Rattle.load_text.specs.declared.Wrong.TheVariants.{BadByte, Malformed, OpenQuote, LastBackslash, UnknownProperty, OutsideRule}
use Rattle.load_text.specs.declared.Wrong.TheVariants.{TooManyDependencies, NoType, NoCommand, NoSuchService}

abbrev pub wrong_number : Wrong → ℕ
wrong_number BadByte = 6
wrong_number Malformed = 7
wrong_number OpenQuote = 8
wrong_number LastBackslash = 9
wrong_number UnknownProperty = 10
wrong_number OutsideRule = 11
wrong_number TooManyDependencies = 12
wrong_number NoType = 13
wrong_number NoCommand = 14
wrong_number NoSuchService = 15
