-- `pieces` meets its contract: what was counted, and the pieces of what is left.
use Rattle.scenario_words.proofs.Parting.{counting_none, counting_more, counting_all}
use Rattle.scenario_words.proofs.pieces.Goals as goal

pub loop-b-init : goal.loop-b-init
loop-b-init c = counting_none

pub loop-b-preserved : goal.loop-b-preserved
loop-b-preserved c = counting_more c.loop-b.invariant c.loop-b-test.true c.from-count.ensures

pub returns : goal.returns
returns c = search counting_all
