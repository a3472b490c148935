-- Loops that count up to a bound: an invariant for each kind of fold, and the three laws that its proof cites:
-- it holds at 0, it holds after one more turn, and what it says at the end.
-- Each premise is a fact that stands in the place's record as it is, so that `search` finds it with no path.
use Prim.Native.Nat.{ℕ, zero, suc, ◌+◌, ◌-◌, ◌≤◌, ◌<◌}
use native.Mathlib.Nat.{eq-or-lt_of_le, le_refl, lt-suc_self}
use native.Mathlib.Numerals.{add-one}
use native.Mathlib.Omega.{arith}
use mathlib.Core.Path.{◌≡◌, refl, sym, ap, ◌∙◌, subst}
use mathlib.Core.Bool.{Bool, true, false, ◌||◌, ◌&&◌}
use Rattle.base.specs.Folds.{fold, some, every, first_from, first}
use Rattle.base.proofs.Tests.{either}
use Rattle.base.proofs.Below.{Lowest}

-- a loop that counts i up to n has b after the steps at the numbers below i
pub record Folded {A : Type 0} (f : A → ℕ → A) (a : A) (n : ℕ) (b : A) (i : ℕ) : Type 0 where
  pub within : i ≤ n
  pub is : b ≡ fold f a i

module _ {A : Type 0} {f : A → ℕ → A} {a : A} {n : ℕ} where
  pub folded_none : Folded f a n a 0
  folded_none = record { within = omega arith; is = refl }

  pub folded_more : {b c : A} {i : ℕ} → Folded f a n b i → i < n → c ≡ f b i → Folded f a n c (i + 1)
  folded_more {b} {c} {i} h l q = record { within = omega arith; is = rw add-one (q ∙ ap (λ x. f x i) h.is) }

  pub folded_all : {b : A} {i : ℕ} → Folded f a n b i → n ≤ i → b ≡ fold f a n
  folded_all {b} {i} h l =
      let s : n ≡ i = omega arith in
      rw s h.is

-- the loops for `some` and `every`
abbrev pub Some : (ℕ → Bool) → ℕ → Bool → ℕ → Type 0
Some p n b i = Folded (λ x k. x || p k) false n b i

abbrev pub Every : (ℕ → Bool) → ℕ → Bool → ℕ → Type 0
Every p n b i = Folded (λ x k. x && p k) true n b i

module _ {p : ℕ → Bool} {n i : ℕ} {b q : Bool} where
  pub some_more : Some p n b i → i < n → q ≡ p i → Some p n (b || q) (i + 1)
  some_more h l e = folded_more h l (ap (λ x. b || x) e)

  pub every_more : Every p n b i → i < n → q ≡ p i → Every p n (b && q) (i + 1)
  every_more h l e = folded_more h l (ap (λ x. b && x) e)

module _ {p : ℕ → Bool} {n i : ℕ} {b : Bool} where
  pub some_all : Some p n b i → n ≤ i → b ≡ some p n
  unfolding some
  some_all h l = folded_all h l

  pub every_all : Every p n b i → n ≤ i → b ≡ every p n
  unfolding every
  every_all h l = folded_all h l

-- a search has passed i numbers, at none of which p holds
pub record Passed (p : ℕ → Bool) (n i : ℕ) : Type 0 where
  pub within : i ≤ n
  pub rest : first p n ≡ first_from p (n - i) i

module _ {p : ℕ → Bool} {n : ℕ} where
  pub passed_none : Passed p n 0
  unfolding first
  passed_none =
      let s : n - 0 ≡ n = omega arith in
      record { within = omega arith; rest = rw s }

  -- q is what the code computed of p at i
  pub passed_more : {i : ℕ} {q : Bool} → Passed p n i → i < n → q ≡ p i → q ≡ false → Passed p n (i + 1)
  passed_more {i} {q} h l e f =
      let s : n - i ≡ suc (n - (i + 1)) = omega arith in
      record { within = omega arith; rest = h.rest ∙ rw (s, sym e ∙ f, add-one) }

  pub passed_hit : {i : ℕ} {q : Bool} → Passed p n i → i < n → q ≡ p i → q ≡ true → i ≡ first p n
  passed_hit {i} {q} h l e t =
      let s : n - i ≡ suc (n - (i + 1)) = omega arith in
      sym (h.rest ∙ rw (s, sym e ∙ t))

  pub passed_all : {i : ℕ} → Passed p n i → n ≤ i → i ≡ first p n
  passed_all {i} h l =
      let s : n - i ≡ 0 = omega arith in
      sym (h.rest ∙ rw s)

  -- a search passes all numbers below i, if p holds at none of them
  pub passed_below : (i : ℕ) → i ≤ n → ((j : ℕ) → j < i → p j ≡ false) → Passed p n i
  passed_below zero l h = passed_none
  passed_below (suc i) l h =
      let before = passed_below i (omega arith) (λ j k. h j (omega arith)) in
      subst (Passed p n) (add-one i) (passed_more before l refl (h i (lt-suc_self i)))

  -- the lowest number of another bound that is not past n
  pub first_lowest : {i k : ℕ} → Lowest p k i → i ≤ n → i ≡ first p n
  first_lowest {i} w l =
      let here = passed_below i l w.first in
      either (eq-or-lt_of_le l) (λ (e : i ≡ n). passed_all here (omega arith)) (λ q. passed_hit here q refl w.passes)

-- so where p holds at no number below n the search comes to n
pub first_none : (p : ℕ → Bool) (n : ℕ) → ((j : ℕ) → j < n → p j ≡ false) → n ≡ first p n
first_none p n h = passed_all (passed_below n (le_refl n) h) (le_refl n)
