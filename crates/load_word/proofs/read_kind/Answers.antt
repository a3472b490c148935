-- `read_kind` meets its contract: the table is the definition's.
use Rattle.load_text.specs.Strings.{bytes}
use Rattle.load_word.specs.Words.{found, kind_of}
use Rattle.load_word.proofs.read_kind.Goals as goal

pub returns : goal.returns
unfolding kind_of found bytes
returns c = c.find.ensures
