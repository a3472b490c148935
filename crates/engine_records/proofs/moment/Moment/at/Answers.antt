-- `at` meets its contract: what has passed the test is in range.
use Rattle.engine_records.proofs.Bounds.{sound_facts}
use Rattle.engine_records.proofs.moment.Moment.at.Goals as goal

pub invariant_of-result : goal.invariant_of-result
invariant_of-result c =
    let h = sound_facts c.is_sound.ensures c.if-is_sound.true in
    record { clock = h.clock; delay = h.delay; begin = h.begin; finish = h.finish; launch = h.launch; count = h.count }
