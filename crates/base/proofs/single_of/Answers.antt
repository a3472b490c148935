-- `single_of` meets its contract: the shift stays in the word.
use Rattle.base.proofs.Words.{shifted_guarded, empty_guarded, empty_high}
use Rattle.base.proofs.single_of.Goals as goal

pub returns-then-b : goal.returns-then-b
returns-then-b c = search shifted_guarded

pub returns-else-b : goal.returns-else-b
returns-else-b c = search empty_guarded

pub returns : goal.returns
returns c = search empty_high
