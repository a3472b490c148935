-- `reached` meets its contract: k rounds are done.
use Rattle.links.proofs.Rounds.{reaching_none, reaching_more}
use Rattle.links.proofs.reached.Goals as goal

pub loop-k-init : goal.loop-k-init
loop-k-init c = reaching_none _

pub loop-k-preserved : goal.loop-k-preserved
loop-k-preserved c = search reaching_more
