-- `place_formed` meets its contract: by the tests that it calls.
use Rattle.engine_wellformed.specs.Place.{place_formed}
use Rattle.engine_wellformed.proofs.place_formed.Goals as goal

pub returns : goal.returns
unfolding place_formed
returns c = cc
