-- `query` meets its contract: the earliest time of the services below i.
use Rattle.service.specs.Records.{record_at}
use Rattle.rules.specs.Calls.{check, outcome}
use Rattle.engine_calls.proofs.Asked.{asking_none, asking_more, asking_all}
use Rattle.engine_calls.proofs.times.query.Goals as goal

pub loop-i-init : goal.loop-i-init
loop-i-init c = search asking_none

pub loop-i-preserved : goal.loop-i-preserved
unfolding record_at
loop-i-preserved c = search asking_more

pub returns-then-is_formed : goal.returns-then-is_formed
returns-then-is_formed c = search asking_all

pub returns : goal.returns
unfolding outcome check
returns c = simp (c.if-is_formed.false, ← c.is_formed.ensures)
