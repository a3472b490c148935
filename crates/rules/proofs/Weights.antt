-- The weight of a state: a sum over the services, which falls where one record becomes lighter.
use Prim.Native.Nat.{◌*◌, ◌<◌, ◌≤◌, ℕ}
use native.Mathlib.Nat.{le_refl, le_trans}
use Rattle.base.specs.Folds.{sum}
use Rattle.base.proofs.Sums.{sum_bound, sum_le, sum_lt}
use Rattle.service.specs.Limits.{max_services}
use Rattle.service.specs.Records.{record_at, with_record}
use Rattle.service.specs.Settings.{settings_at}
use Rattle.service.specs.declared.Record.{Record}
use Rattle.service.specs.declared.Settings.{Settings}
use Rattle.service.specs.declared.State.{State}
use Rattle.service.specs.declared.Table.{Table}
use Rattle.service.proofs.States.{Sized, with_other, with_same}

-- of a service, by its settings, the clock and its record
abbrev pub Weight : Type 0
Weight = Settings → ℕ → Record → ℕ

unfoldable pub total : Weight → Table → State → ℕ
total w t x = sum (λ i. w (settings_at t i) x.clock (record_at x i)) t.count

pub total_le : (v w : Weight) (t : Table) (x : State) → ((u : Settings) (r : Record) → v u x.clock r ≤ w u x.clock r) → total v t x ≤ total w t x
unfolding total
total_le v w t x h = sum_le _ _ t.count (λ i l. h (settings_at t i) (record_at x i))

pub total_bound : (w : Weight) (k : ℕ) (t : Table) (x : State) → ((u : Settings) (r : Record) → w u x.clock r ≤ k) → total w t x ≤ k * t.count
unfolding total
total_bound w k t x h = sum_bound _ k t.count (λ i l. h (settings_at t i) (record_at x i))

-- one record becomes lighter
pub total_with : (w : Weight) (t : Table) (x : State) (s : ℕ) (r : Record) → Sized x → t.count ≤ max_services → s < t.count
    → w (settings_at t s) x.clock r < w (settings_at t s) x.clock (record_at x s) → total w t (with_record x s r) < total w t x
unfolding total
total_with w t x s r z few l f =
    sum_lt _ _ t.count s l
    (rw (with_same x s r z (le_trans l few)) (unfold with_record in f))
    (λ i il ne. rw (with_other x s r z (le_trans l few) i ne) (unfold with_record in le_refl _))
