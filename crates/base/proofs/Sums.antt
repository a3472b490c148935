-- Sums over the numbers below a bound: what one term's fall does to the sum.
use Prim.Native.Nat.{ℕ, zero, suc, ◌*◌, ◌≤◌, ◌<◌}
use native.Mathlib.Nat.{not-suc-le-zero, le_of_suc-le-suc, eq-or-lt_of_le, lt-suc_self, le_step, le_refl, add-le-add, lt_irrefl}
use native.Mathlib.Omega.{arith}
use mathlib.Core.Logic.{◌≢◌}
use Rattle.base.specs.Folds.{sum}
use Rattle.base.proofs.Tests.{either}

pub sum_le : (v w : ℕ → ℕ) (n : ℕ) → ((i : ℕ) → i < n → v i ≤ w i) → sum v n ≤ sum w n
unfolding sum
sum_le v w zero h = le_refl 0
sum_le v w (suc n) h = add-le-add (sum_le v w n (λ i l. h i (le_step l))) (h n (lt-suc_self n))

-- one term falls and no other rises: the sum falls
pub sum_lt : (v w : ℕ → ℕ) (n s : ℕ) → s < n → v s < w s → ((i : ℕ) → i < n → i ≢ s → v i ≤ w i) → sum v n < sum w n
unfolding sum
sum_lt v w zero s l f h = absurd (not-suc-le-zero l)
sum_lt v w (suc n) s l f h =
    either
    (eq-or-lt_of_le (le_of_suc-le-suc l))
    (λ q.
    let a : v n < w n = rw q at f in
    let b : sum v n ≤ sum w n = sum_le v w n (λ i il. h i (le_step il) (λ e. lt_irrefl n (rw (e, q) at il))) in omega arith)
    (λ m.
    let a : sum v n < sum w n = sum_lt v w n s m f (λ i il. h i (le_step il)) in
    let b : v n ≤ w n = h n (lt-suc_self n) (λ e. lt_irrefl s (rw e at m)) in omega arith)

-- a term is no more than the sum
pub sum_term : (w : ℕ → ℕ) (n s : ℕ) → s < n → w s ≤ sum w n
unfolding sum
sum_term w zero s l = absurd (not-suc-le-zero l)
sum_term w (suc n) s l =
    either
    (eq-or-lt_of_le (le_of_suc-le-suc l))
    (λ q. rw q (omega arith))
    (λ m. let a : w s ≤ sum w n = sum_term w n s m in omega arith)

pub sum_bound : (w : ℕ → ℕ) (k n : ℕ) → ((i : ℕ) → i < n → w i ≤ k) → sum w n ≤ k * n
unfolding sum
sum_bound w k zero h = omega arith
sum_bound w k (suc n) h =
    let a : sum w n ≤ k * n = sum_bound w k n (λ i l. h i (le_step l)) in
    let b : w n ≤ k = h n (lt-suc_self n) in omega arith
