-- `read_signal` meets its contract: the table is the definition's.
use mathlib.Core.Path.{◌∙◌}
use Rattle.load_text.specs.Strings.{bytes, index_from}
use Rattle.load_word.specs.Words.{found, signal_names, signal_of}
use Rattle.load_word.proofs.Words.{signal_chosen}
use Rattle.load_word.proofs.read_signal.Goals as goal

pub returns : goal.returns
unfolding signal_of signal_names index_from found bytes
returns c = c.find.ensures ∙ signal_chosen _ _ _ _ _ _ _ _
