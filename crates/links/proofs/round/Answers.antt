-- `round` meets its contract: the rows below i are changed.
use Rattle.links.proofs.Rounds.{rounding_none, rounding_more}
use Rattle.links.proofs.round.Goals as goal

pub loop-row-init : goal.loop-row-init
loop-row-init c = search rounding_none

pub loop-row-preserved : goal.loop-row-preserved
loop-row-preserved c = search rounding_more
