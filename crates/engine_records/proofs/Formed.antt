-- What list 24 gives to a call that has passed it: at each service the times are in range.
use Prim.Native.Nat.{ℕ, ◌<◌}
use mathlib.Core.Path.{◌≡◌}
use mathlib.Core.Bool.{true, ◌&&◌}
use lib.Dec.{leb}
use borrow.Author.Tests.{le-leb}
use Rattle.base.proofs.Tests.{and_true}
use Rattle.service.specs.Limits.{last_clock}
use Rattle.service.specs.Settings.{settings_at}
use Rattle.service.specs.Records.{record_at}
use Rattle.service.specs.declared.Table.{Table}
use Rattle.service.specs.declared.State.{State}
use Rattle.rules.specs.WellFormed.{settings_in_range, times_in_range, formed}
use Rattle.rules.proofs.Formed.{formed_parts, state_parts}
use Rattle.rules.proofs.Links.{table_sound}
use Rattle.engine_records.specs.Sound.{sound}

pub sound_at : (t : Table) (x : State) → formed t x ≡ true → (s : ℕ) → s < t.count → sound (settings_at t s) x.clock (record_at x s) ≡ true
unfolding sound
sound_at t x f s l =
    let h = formed_parts t x f in
    let p = state_parts t x h.1 in
    (and_true (leb x.clock last_clock && settings_in_range (settings_at t s)) (times_in_range x.clock (record_at x s))).1
    ((and_true (leb x.clock last_clock) (settings_in_range (settings_at t s))).1 (le-leb _ _ p.0, ((table_sound t).0 h.0).ranged s l), (p.1 s l).0)
