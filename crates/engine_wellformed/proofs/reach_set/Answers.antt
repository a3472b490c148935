-- `reach_set` meets its contract: what the rows reach, the dependencies do.
use Rattle.engine_wellformed.proofs.Whole.{reach_found}
use Rattle.engine_wellformed.proofs.reach_set.Goals as goal

pub returns-then-t-le-MAX_SERVICES : goal.returns-then-t-le-MAX_SERVICES
returns-then-t-le-MAX_SERVICES c = search reach_found
