-- `start` meets its contract: the checks in order, then the services below i are changed.
use Rattle.service.specs.Records.{record_at, with_record}
use Rattle.engine_calls.proofs.Accepted.{start_ill, start_absent, start_done, changing_none, changing_more, changing_all}
use Rattle.engine_calls.proofs.events.start.Goals as goal

pub returns-then-not-is_formed : goal.returns-then-not-is_formed
returns-then-not-is_formed c = search start_ill

pub returns-then-t-s : goal.returns-then-t-s
returns-then-t-s c = search start_absent

pub loop-i-init : goal.loop-i-init
loop-i-init c = search changing_none

pub loop-i-preserved : goal.loop-i-preserved
unfolding record_at with_record
loop-i-preserved c = search changing_more

pub returns : goal.returns
returns c = search (start_done, changing_all)
