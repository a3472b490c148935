-- Of the code: readings of whole descriptions: which line and which byte decides, and with which number. One table, one statement.
use Rattle.std.specs.Prelude.{ℕ, ◌≡◌, refl, List, [], ◌∷◌, Result, Ok, Err, map}
use Prim.Native.String.{String}
use Rattle.base.specs.Folds.{some}
use Rattle.load_text.specs.Strings.{bytes, same, index_from, part_of}
use Rattle.load_text.specs.Bytes.{run}
use Rattle.load_text.specs.Lines.{line_of, lines_of, bad_from, line_from, line_number, column_from, column_number, opening}
use Rattle.load_text.specs.Numbers.{wrong_number}
use Rattle.load_text.specs.declared.Fault.{Fault}
use Rattle.load_value.specs.Steps.{step_of, bare_step}
use Rattle.load_value.specs.Values.{fault_from, marks_from, sizes_from, scan_of, written, leading, word_of}
use Rattle.service.specs.Numbers.{settings_from}
use Rattle.load_word.specs.Words.{flag_of, no_of, kind_of, signal_names, signal_of, name_bytes, is_name}
use Rattle.load_word.specs.Decimals.{digit_of, read_of, decimal_from, time_end, time_of, count_end, count_of}
use Rattle.load_word.specs.Properties.{property_names, property_of, setting_of}
use Rattle.load_description.specs.declared.Description.{Description}
use Rattle.load_description.specs.Settings.{value_at, word_at, known}
use Rattle.load_description.specs.Lines.{dependency_read, word_read, tokens_read, property_read, line_read}
use Rattle.load_description.specs.Texts.{completion, lines_read, text_read}

-- a refusal by its number and the offset of the byte that decided it
pub record Told : Type 0 where
  pub number : ℕ
  pub at : ℕ

-- a text with the verdict on it, and the line and the column of the offset in it
pub record Example : Type 0 where
  pub text : String
  pub verdict : Result (Unit {0}) Told
  pub line : ℕ
  pub column : ℕ

pub record Outcome : Type 0 where
  pub verdict : Result (Unit {0}) Told
  pub line : ℕ
  pub column : ℕ

abbrev good : Result (Unit {0}) Told
good = Ok tt

abbrev offset : Result (Unit {0}) Told → ℕ
offset (Ok u) = 0
offset (Err f) = f.at

abbrev refused : ℕ → ℕ → Result (Unit {0}) Told
refused n i = Err (record { number = n; at = i })

abbrev pub examples : List Example
examples =
    record { text = ""; verdict = refused 13 0; line = 1; column = 1 } ∷
    record { text = "type=internal"; verdict = good; line = 1; column = 1 } ∷
    record { text = " # x\n\ntype : internal # y\n"; verdict = good; line = 1; column = 1 } ∷
    record { text = "type=process\n"; verdict = refused 14 0; line = 1; column = 1 } ∷
    record { text = "type=process\ncommand= /bin/x  y\n"; verdict = good; line = 1; column = 1 } ∷
    -- what is no name and sign is 7, and a well-formed name that is not in the list 10
    record { text = "Type=internal"; verdict = refused 7 0; line = 1; column = 1 } ∷
    record { text = "type2=internal"; verdict = refused 7 4; line = 1; column = 5 } ∷
    record { text = "type=internal\ncommand +=x"; verdict = refused 7 22; line = 2; column = 9 } ∷
    record { text = "\n@include x"; verdict = refused 7 1; line = 2; column = 1 } ∷
    record { text = "depends on: a"; verdict = refused 7 8; line = 1; column = 9 } ∷
    record { text = "bogus\ntype=x"; verdict = refused 7 5; line = 1; column = 6 } ∷
    record { text = "  depends-on.d: a"; verdict = refused 10 2; line = 1; column = 3 } ∷
    record { text = "options=a#b"; verdict = refused 10 0; line = 1; column = 1 } ∷
    record { text = ".="; verdict = refused 10 0; line = 1; column = 1 } ∷
    -- a bad byte anywhere comes before all else
    record { text = "bogus\n# \u{1}"; verdict = refused 6 8; line = 2; column = 3 } ∷
    record { text = "type=internal\0"; verdict = refused 6 13; line = 1; column = 14 } ∷
    -- then the value, then the rule of its property
    record { text = "type=a#b"; verdict = refused 7 6; line = 1; column = 7 } ∷
    record { text = "type= \"internal"; verdict = refused 8 6; line = 1; column = 7 } ∷
    record { text = "type=internal\\\nrestart=yes"; verdict = refused 9 13; line = 1; column = 14 } ∷
    record { text = "type=\"internal\""; verdict = good; line = 1; column = 1 } ∷
    record { text = "type=in\\ternal"; verdict = good; line = 1; column = 1 } ∷
    record { text = "type= process \"\""; verdict = refused 11 6; line = 1; column = 7 } ∷
    record { text = "type="; verdict = refused 11 5; line = 1; column = 6 } ∷
    record { text = "type=internal\nrestart= # yes"; verdict = refused 11 23; line = 2; column = 10 } ∷
    record { text = "type=internal\ncommand=\"\" a"; verdict = refused 11 22; line = 2; column = 9 } ∷
    record { text = "type=internal\nrestart=Yes\nrestart=yes"; verdict = refused 11 22; line = 2; column = 9 } ∷
    record { text = "depends-on=a/b"; verdict = refused 11 11; line = 1; column = 12 } ∷
    record { text = "depends-on=a b"; verdict = refused 11 11; line = 1; column = 12 } ∷
    record { text = "depends-on=abcdefghijklmnopqrstuvwxyz-01234"; verdict = refused 13 0; line = 1; column = 1 } ∷
    record { text = "depends-on=abcdefghijklmnopqrstuvwxyz-012345"; verdict = refused 11 11; line = 1; column = 12 } ∷
    -- a column counts bytes from the line's start, tabs, carriage returns and each byte from 128 up; where the byte is missing it is the one past the line
    record { text = "type = \tprocess x"; verdict = refused 11 8; line = 1; column = 9 } ∷
    record { text = "type=  \r"; verdict = refused 11 8; line = 1; column = 9 } ∷
    record { text = "\n\ntype=  \r\n"; verdict = refused 11 10; line = 3; column = 9 } ∷
    record { text = "  bogus"; verdict = refused 7 7; line = 1; column = 8 } ∷
    record { text = "#\n  bogus \t\ntype=internal"; verdict = refused 7 11; line = 2; column = 10 } ∷
    record { text = "type=internal\ncommand = \"a\" #x \"b"; verdict = good; line = 1; column = 1 } ∷
    record { text = "command=a#b"; verdict = refused 7 9; line = 1; column = 10 } ∷
    record { text = "x = \"ab"; verdict = refused 10 0; line = 1; column = 1 } ∷
    record { text = "command= \"a\" \"b"; verdict = refused 8 13; line = 1; column = 14 } ∷
    record { text = "type=internal\n# é\ncommand=Ã© \u{2} \u{1}\n"; verdict = refused 6 29; line = 3; column = 12 } ∷
    -- a repeat is never the 17th
    record { text = "depends-on=a\ndepends-on=b\ndepends-on=c\ndepends-on=d\ndepends-on=e\ndepends-on=f\ndepends-on=g\ndepends-on=h\ndepends-on=i\ndepends-on=j\ndepends-on=k\ndepends-on=l\nwaits-for=a\nwaits-for=b\nwaits-for=c\nwaits-for=d\ndepends-on=\"a\"\ntype=internal"; verdict = good; line = 1; column = 1 } ∷
    record { text = "depends-on=a\ndepends-on=b\ndepends-on=c\ndepends-on=d\ndepends-on=e\ndepends-on=f\ndepends-on=g\ndepends-on=h\ndepends-on=i\ndepends-on=j\ndepends-on=k\ndepends-on=l\nwaits-for=a\nwaits-for=b\nwaits-for=c\nwaits-for=d\ndepends-on=\"a\"\nwaits-for= e\n"; verdict = refused 12 230; line = 18; column = 12 } ∷
    []

abbrev verdict_of : Result Description Fault → Result (Unit {0}) Told
verdict_of (Ok d) = good
verdict_of (Err f) = Err (record { number = wrong_number f.wrong; at = f.at })

abbrev outcome : Example → Outcome
outcome e =
    let v = verdict_of (text_read (bytes e.text)) in
    record { verdict = v; line = line_number (bytes e.text) (offset v); column = column_number (bytes e.text) (offset v) }

abbrev given : Example → Outcome
given e = record { verdict = e.verdict; line = e.line; column = e.column }

pub examples_hold : map outcome examples ≡ map given examples
unfolding some bytes same index_from part_of run line_of lines_of bad_from line_from line_number column_from column_number opening step_of bare_step fault_from marks_from sizes_from scan_of written leading word_of flag_of no_of kind_of signal_names signal_of name_bytes is_name digit_of read_of decimal_from time_end time_of count_end count_of property_names property_of setting_of settings_from value_at word_at known dependency_read word_read tokens_read property_read line_read completion lines_read text_read
examples_hold = refl
