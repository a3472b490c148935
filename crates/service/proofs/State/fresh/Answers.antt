-- `State::fresh` meets its contract: an array of fresh records.
use Rattle.service.specs.Records.{fresh_state}
use Rattle.service.proofs.State.fresh.Goals as goal

pub returns : goal.returns
unfolding fresh_state
returns c = rw c.fresh-r.ensures
