-- The test `sound` as facts.
use Prim.Native.Nat.{ℕ}
use mathlib.Core.Path.{◌≡◌, sym, ◌∙◌}
use mathlib.Core.Bool.{Bool, true, ◌&&◌}
use lib.Dec.{leb}
use borrow.Author.Tests.{leb-true}
use Rattle.base.proofs.Tests.{and_true}
use Rattle.service.specs.declared.Settings.{Settings}
use Rattle.service.specs.declared.Record.{Record}
use Rattle.service.specs.Limits.{last_clock}
use Rattle.rules.specs.WellFormed.{settings_in_range, times_in_range}
use Rattle.rules.proofs.Formed.{ranged, timely}
use Rattle.engine_records.specs.Sound.{sound, Sound}

-- q is what the code computed of the test
pub sound_facts : {v : Settings} {now : ℕ} {r : Record} {q : Bool} → q ≡ sound v now r → q ≡ true → Sound v now r
unfolding sound
sound_facts {v} {now} {r} i j =
    let h = (and_true (leb now last_clock && settings_in_range v) (times_in_range now r)).0 (sym i ∙ j) in
    let k = (and_true (leb now last_clock) (settings_in_range v)).0 h.0 in
    let g = ranged v k.1 in
    let b = (timely now r).0 h.1 in
    record {
      clock = leb-true now last_clock k.0;
      delay = g.delay;
      begin = g.starting;
      finish = g.stopping;
      launch = b.launched;
      window = b.window;
      count = b.count;
    }
