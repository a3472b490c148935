-- `read_flag` meets its contract: the table is the definition's.
use Rattle.load_text.specs.Strings.{bytes}
use Rattle.load_word.specs.Words.{found, flag_of, no_of}
use Rattle.load_word.proofs.read_flag.Goals as goal

pub returns : goal.returns
unfolding flag_of no_of found bytes
returns c = c.find.ensures
