-- A change of each record by itself: what it does at one service.
use Prim.Native.Nat.{◌<◌, ◌≤◌, suc, zero, ℕ}
use mathlib.Core.Path.{◌∙◌, ◌≡◌, ap, refl}
use native.Mathlib.Nat.{eq-or-lt_of_le, le_of_suc-le-suc, le_refl, not-suc-le-zero}
use native.Mathlib.Omega.{arith}
use Rattle.base.proofs.Tests.{either}
use Rattle.service.specs.Limits.{max_services}
use Rattle.service.specs.Records.{record_at, with_record}
use Rattle.service.specs.declared.Record.{Record}
use Rattle.service.specs.declared.State.{State}
use Rattle.service.proofs.States.{Sized, sized_with, with_other, with_same}
use Rattle.rules.specs.Events.{each}

pub each_sized : (f : ℕ → Record → Record) (x : State) (n : ℕ) → Sized x → Sized (each f x n)
unfolding each
each_sized f x zero z = z
each_sized f x (suc n) z = sized_with (each f x n) n _ (each_sized f x n z)

pub each_clock : (f : ℕ → Record → Record) (x : State) (n : ℕ) → (each f x n).clock ≡ x.clock
unfolding each with_record
each_clock f x zero = refl
each_clock f x (suc n) = each_clock f x n

-- a service that has not been passed is as it was
each_above : (f : ℕ → Record → Record) (x : State) (n : ℕ) → Sized x → n ≤ max_services → (j : ℕ) → n ≤ j → record_at (each f x n) j ≡ record_at x j
unfolding each
each_above f x zero z l j h = refl
each_above f x (suc n) z l j h =
    with_other (each f x n) n _ (each_sized f x n z) l j (λ e. absurd (omega arith)) ∙ each_above f x n z (omega arith) j (omega arith)

-- one that has been passed is changed once
pub each_below : (f : ℕ → Record → Record) (x : State) (n : ℕ) → Sized x → n ≤ max_services → (j : ℕ) → j < n → record_at (each f x n) j ≡ f j (record_at x j)
unfolding each
each_below f x zero z l j h = absurd (not-suc-le-zero h)
each_below f x (suc n) z l j h =
    either
    (eq-or-lt_of_le (le_of_suc-le-suc h))
    (λ (e : j ≡ n).
    rw e
    (with_same (each f x n) n _ (each_sized f x n z) l ∙ ap (f n) (each_above f x n z (omega arith) n (le_refl n))))
    (λ (m : j < n).
    with_other (each f x n) n _ (each_sized f x n z) l j (λ e. absurd (omega arith)) ∙ each_below f x n z (omega arith) j m)
