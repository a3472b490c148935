-- What a test or a search over the numbers below a bound says of each of them.
use Prim.Native.Nat.{ℕ, zero, suc, ◌+◌, ◌<◌}
use native.Mathlib.Nat.{not-suc-le-zero, le_of_suc-le-suc, eq-or-lt_of_le, lt-suc_self, le_step}
use native.Mathlib.Omega.{arith}
use mathlib.Core.Path.{◌≡◌, refl, sym, subst}
use mathlib.Core.Bool.{Bool, true, false}
use mathlib.Core.Logic.{◌↔◌, inl, inr}
use Rattle.base.specs.Folds.{pick, some, every, first_from, first}
use Rattle.base.proofs.Tests.{no_ft, and_true, or_true, or_false, either}

-- what holds below n and at n holds below n + 1
pub below_suc : (P : ℕ → Type 0) (n : ℕ) → ((i : ℕ) → i < n → P i) → P n → (i : ℕ) → i < suc n → P i
below_suc P n h here i l = either (eq-or-lt_of_le (le_of_suc-le-suc l)) (λ e. subst P (sym e) here) (λ lt. h i lt)

pub some_false : (p : ℕ → Bool) (n : ℕ) → (some p n ≡ false) ↔ ((i : ℕ) → i < n → p i ≡ false)
unfolding some
some_false p zero = (λ _ i l. absurd (not-suc-le-zero l), λ _. refl)
some_false p (suc n) = (
  λ e. below_suc (λ i. p i ≡ false) n ((some_false p n).0 ((or_false (some p n) (p n)).0 e).0) ((or_false (some p n) (p n)).0 e).1,
  λ h. (or_false (some p n) (p n)).1 ((some_false p n).1 (λ i l. h i (le_step l)), h n (lt-suc_self n)),
)

pub some_true : (p : ℕ → Bool) (n : ℕ) → (some p n ≡ true) ↔ ((i : ℕ) × (i < n) × (p i ≡ true))
unfolding some
some_true p zero = (λ e. no_ft e, λ h. absurd (not-suc-le-zero h.1))
some_true p (suc n) = (
  λ e.
      either
      ((or_true (some p n) (p n)).0 e)
      (λ a. let w = (some_true p n).0 a in (w.0, le_step w.1, w.2))
      (λ b. (n, lt-suc_self n, b)),
  λ w.
      (or_true (some p n) (p n)).1
      (either
      (eq-or-lt_of_le (le_of_suc-le-suc w.1))
      (λ e. inr (subst (λ (i : ℕ). p i ≡ true) e w.2))
      (λ l. inl ((some_true p n).1 (w.0, l, w.2)))),
)

pub every_true : (p : ℕ → Bool) (n : ℕ) → (every p n ≡ true) ↔ ((i : ℕ) → i < n → p i ≡ true)
unfolding every
every_true p zero = (λ _ i l. absurd (not-suc-le-zero l), λ _. refl)
every_true p (suc n) = (
  λ e. below_suc (λ i. p i ≡ true) n ((every_true p n).0 ((and_true (every p n) (p n)).0 e).0) ((and_true (every p n) (p n)).0 e).1,
  λ h. (and_true (every p n) (p n)).1 ((every_true p n).1 (λ i l. h i (le_step l)), h n (lt-suc_self n)),
)

-- two tests that agree below n
pub some_as : (p q : ℕ → Bool) (n : ℕ) → ((i : ℕ) → i < n → p i ≡ q i) → some p n ≡ some q n
unfolding some
some_as p q zero h = refl
some_as p q (suc n) h = rw (some_as p q n (λ i l. h i (le_step l)), h n (lt-suc_self n))

-- the lowest number below n at which p holds
pub record Lowest (p : ℕ → Bool) (n i : ℕ) : Type 0 where
  pub bound : i < n
  pub passes : p i ≡ true
  pub first : (j : ℕ) → j < i → p j ≡ false

-- what a search has come to: the lowest number, or the bound where there is none
pub data Sought (p : ℕ → Bool) (n : ℕ) : ℕ → Type 0 where
  found : {i : ℕ} → Lowest p n i → Sought p n i
  nowhere : ((i : ℕ) → i < n → p i ≡ false) → Sought p n n

sought_from : (p : ℕ → Bool) (k i n : ℕ) → i + k ≡ n → ((j : ℕ) → j < i → p j ≡ false) → Sought p n (first_from p k i)
sought_from p zero i n e h =
    let q : i ≡ n = omega arith in
    rw q (nowhere (rw q at h))
sought_from p (suc k) i n e h =
    go (p i) refl (λ f. sought_from p k (suc i) n (omega arith) (below_suc (λ j. p j ≡ false) i h f))
  where
    go : (b : Bool) → p i ≡ b → (p i ≡ false → Sought p n (first_from p k (suc i))) → Sought p n (pick b i (first_from p k (suc i)))
    go true q rest = found {i = i} record { bound = omega arith; passes = q; first = h }
    go false q rest = rest q

pub sought : (p : ℕ → Bool) (n : ℕ) → Sought p n (first p n)
unfolding first
sought p n = sought_from p n 0 n (omega arith) (λ j l. absurd (not-suc-le-zero l))

-- p holds at no number that the search has passed
pub before_first : (p : ℕ → Bool) (n j : ℕ) → j < first p n → p j ≡ false
before_first p n j l = go (sought p n) l
  where
    go : {s : ℕ} → Sought p n s → j < s → p j ≡ false
    go (found w) k = w.first j k
    go (nowhere h) k = h j k

from_as : (p q : ℕ → Bool) (k i : ℕ) → ((j : ℕ) → j < i + k → p j ≡ q j) → first_from p k i ≡ first_from q k i
from_as p q zero i h = refl
from_as p q (suc k) i h = rw (h i (omega arith), from_as p q k (suc i) (λ j l. h j (omega arith)))

pub first_as : (p q : ℕ → Bool) (n : ℕ) → ((i : ℕ) → i < n → p i ≡ q i) → first p n ≡ first q n
unfolding first
first_as p q n h = from_as p q n 0 (λ j l. h j (omega arith))
