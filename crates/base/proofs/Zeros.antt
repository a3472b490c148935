-- The lowest number of a set is how many zeros stand below it, and the lowest number outside is that of all other numbers.
use Prim.Native.Nat.{◌%◌, ◌/◌, ◌-◌, ◌^◌, ◌<◌, ◌≤◌, suc, zero, ℕ}
use native.Mathlib.Nat.{lt_irrefl, lt_of_lt_of_le, not-suc-le-zero, pow-suc}
use native.Mathlib.Omega.{arith}
use mathlib.Core.Bool.{Bool, true, false, not, ◌&&◌, or-true, or-false}
use mathlib.Core.Path.{◌∙◌, ◌≡◌, ap, refl, subst, sym}
use borrow.Author.Tests.{lt-ltb, ltb-false, ltb-true}
use lib.Bits.{bit_or}
use lib.Count.{count_trailing_zeros, under}
use lib.Dec.{eqb, ltb}
use lib.Pow.{shr-shr}
use Rattle.base.specs.Folds.{pick, first, first_from}
use Rattle.base.specs.Sets.{has_bit, single}
use Rattle.base.proofs.Tests.{either, not_both, not_false, or_not}
use Rattle.base.proofs.Below.{Sought, before_first, first_as, found, nowhere, sought}
use Rattle.base.proofs.Loops.{first_lowest, first_none}
use Rattle.base.proofs.Bits.{has_bit_or}
use Rattle.base.proofs.Sets.{single_at, single_over}
use Rattle.base.proofs.Words.{high_bit}

-- half of a set: each number less by one, and 0 gone
pub has_bit_half : (m i : ℕ) → has_bit (m / 2) i ≡ has_bit m (suc i)
unfolding has_bit
has_bit_half m i = ap (λ a. eqb (a % 2) 1) (shr-shr m 1 i ∙ ap (λ j. m / 2 ^ j) (omega arith))

has_bit_zero : (m : ℕ) → has_bit m 0 ≡ eqb (m % 2) 1
unfolding has_bit
has_bit_zero m = ap (λ a. eqb (a % 2) 1) (let e : m / 1 ≡ m = omega arith in e)

-- the lowest number of a set, by counting zeros
from_half : (m k i : ℕ) → first_from (has_bit m) k (suc i) ≡ suc (first_from (has_bit (m / 2)) k i)
from_half m zero i = refl
from_half m (suc k) i = rw (← has_bit_half m i, from_half m k (suc i)) (go (has_bit (m / 2) i))
  where
    go : (b : Bool) → pick b (suc i) (suc (first_from (has_bit (m / 2)) k (suc i))) ≡ suc (pick b i (first_from (has_bit (m / 2)) k (suc i)))
    go true = refl
    go false = refl

digit_under : (d t : ℕ) → d < 2 → pick (eqb d 1) 0 (suc t) ≡ under d t
digit_under zero t l = refl
digit_under (suc zero) t l = refl
digit_under (suc (suc d)) t l = absurd (omega (arith, l))

pub zeros_first : (k m : ℕ) → count_trailing_zeros k m ≡ first (has_bit m) k
unfolding count_trailing_zeros first
zeros_first zero m = refl
zeros_first (suc k) m =
    sym (rw (has_bit_zero m, from_half m k 0, ← zeros_first k (m / 2)) (digit_under (m % 2) (count_trailing_zeros k (m / 2)) (omega arith)))

-- the numbers below k that are not in a set
digit_not : (d : ℕ) → d < 2 → eqb (1 - d) 1 ≡ not (eqb d 1)
digit_not zero l = refl
digit_not (suc zero) l = refl
digit_not (suc (suc d)) l = absurd (omega (arith, l))

pub has_bit_others : (k m i : ℕ) → m < 2 ^ k → i < k → has_bit (2 ^ k - 1 - m) i ≡ not (has_bit m i)
has_bit_others zero m i h l = absurd (not-suc-le-zero l)
has_bit_others (suc k) m zero h l =
    let p = pow-suc 2 k in
    let e : (2 ^ suc k - 1 - m) % 2 ≡ 1 - m % 2 = omega (arith, p, h) in
    has_bit_zero (2 ^ suc k - 1 - m) ∙ ap (λ a. eqb a 1) e ∙ digit_not (m % 2) (omega arith) ∙ ap not (sym (has_bit_zero m))
has_bit_others (suc k) m (suc i) h l =
    let p = pow-suc 2 k in
    let e : (2 ^ suc k - 1 - m) / 2 ≡ 2 ^ k - 1 - m / 2 = omega (arith, p, h) in
    sym (has_bit_half (2 ^ suc k - 1 - m) i) ∙ ap (λ a. has_bit a i) e
    ∙ has_bit_others k (m / 2) i (omega (arith, p, h)) (omega arith) ∙ ap not (has_bit_half m i)

-- r is what the code found of all other numbers of a word
pub lowest_others : (m r : ℕ) → m < 2 ^ 64 → r ≡ first (has_bit (2 ^ 64 - 1 - m)) 64 → r ≡ first (λ i. not (has_bit m i)) 64
lowest_others m r h e = e ∙ first_as _ _ 64 (λ i l. has_bit_others 64 m i h l)

-- all below the lowest number outside the set are in it
pub below_outside : (m s j : ℕ) → s ≡ first (λ i. not (has_bit m i)) 64 → j < s → has_bit m j ≡ true
below_outside m s j e l = (not_false (has_bit m j)).0 (before_first (λ i. not (has_bit m i)) 64 j (subst (λ a. j < a) e l))

-- x is n alone if it has a place in a word, and s the lowest number of m and x: the search for the lowest below n comes to s, or to n
module _ (m n x s : ℕ) (alone : x ≡ single n (ltb n 64 && true)) where
  abbrev with_n : ℕ → Bool
  with_n = has_bit (bit_or m x)

  same_below : (j : ℕ) → j < n → with_n j ≡ has_bit m j
  same_below j l = has_bit_or m x j ∙ rw (alone, single_over n j (ltb n 64 && true) l) (or-false (has_bit m j))

  has_n : n < 64 → with_n n ≡ true
  has_n l = has_bit_or m x n ∙ rw (alone, lt-ltb n 64 l, single_at n true) (or-true (has_bit m n))

  pub lowest_below : s ≡ first with_n 64 → s < 64 → s ≡ first (has_bit m) n
  lowest_below e l = go (subst (Sought with_n 64) (sym e) (sought with_n 64)) l
    where
      go : {i : ℕ} → Sought with_n 64 i → i < 64 → i ≡ first (has_bit m) n
      go {i} (found w) k =
          either
          (or_not (ltb n i))
          (λ h. let q : n < i = ltb-true n i h in absurd (not_both (has_n (omega arith)) (w.first n q)))
          (λ h. first_lowest w (ltb-false n i h) ∙ first_as with_n (has_bit m) n same_below)
      go (nowhere h) k = absurd (lt_irrefl 64 k)

  pub lowest_past : m < 2 ^ 64 → s ≡ first with_n 64 → 64 ≤ s → n ≡ first (has_bit m) n
  lowest_past h e l =
      first_none (has_bit m) n
      (λ j k.
      either
      (or_not (ltb j 64))
      (λ q.
      let low : j < s = lt_of_lt_of_le (ltb-true j 64 q) l in
      sym (same_below j k) ∙ before_first with_n 64 j (subst (λ a. j < a) e low))
      (λ q. sym (high_bit m j h (ltb-false j 64 q))))
