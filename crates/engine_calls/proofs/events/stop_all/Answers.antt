-- `stop_all` meets its contract: the check, then the services below k are changed.
use Rattle.service.specs.Records.{record_at, with_record}
use Rattle.engine_calls.proofs.Accepted.{stop_all_ill, stop_all_done, changing_none, changing_more, changing_all}
use Rattle.engine_calls.proofs.events.stop_all.Goals as goal

pub returns-then-not-is_formed : goal.returns-then-not-is_formed
returns-then-not-is_formed c = search stop_all_ill

pub loop-k-init : goal.loop-k-init
loop-k-init c = search changing_none

pub loop-k-preserved : goal.loop-k-preserved
unfolding record_at with_record
loop-k-preserved c = search changing_more

pub returns : goal.returns
returns c = search (stop_all_done, changing_all)
