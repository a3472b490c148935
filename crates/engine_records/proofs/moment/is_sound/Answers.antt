-- `is_sound` meets its contract: by the tests that it calls.
use Rattle.engine_records.specs.Sound.{sound}
use Rattle.engine_records.proofs.moment.is_sound.Goals as goal

pub returns : goal.returns
unfolding sound
returns c = cc
