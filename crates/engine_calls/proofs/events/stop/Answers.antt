-- `stop` meets its contract: the checks in order, then the state.
use Rattle.service.specs.Records.{record_at, with_record}
use Rattle.engine_calls.proofs.Accepted.{stop_done, stop_absent, stop_ill}
use Rattle.engine_calls.proofs.events.stop.Goals as goal

pub returns-then-formed : goal.returns-then-formed
returns-then-formed c = search (stop_done, stop_absent, stop_ill)

pub returns : goal.returns
returns c = search (stop_done, stop_absent, stop_ill)

pub returns-then-s-n : goal.returns-then-s-n
unfolding record_at with_record
returns-then-s-n c = search stop_done
