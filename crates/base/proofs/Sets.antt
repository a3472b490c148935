-- Sets that a loop gathers as bits, and what is asked of them: the laws that turn a test on sets into a test on services.
use Prim.Native.Nat.{ℕ, zero, suc, ◌+◌, ◌*◌, ◌/◌, ◌%◌, ◌^◌, ◌<◌}
use native.Mathlib.Nat.{not-suc-le-zero, le_of_suc-le-suc, le_refl, lt_of_le_of_lt, lt_of_lt_of_le, eq-or-lt_of_le}
use native.Mathlib.Nat.{mod-eq_of_lt, mod-one, one-mul, zero-add, zero-mul}
use native.Mathlib.Omega.{arith}
use mathlib.Core.Path.{◌≡◌, refl, sym, ap, ◌∙◌}
use mathlib.Core.Bool.{Bool, true, false, ◌||◌, ◌&&◌, not, false≢true, and-true, and-false, or-true, or-false}
use mathlib.Core.Logic.{◌⊎◌, inl, inr}
use lib.Dec.{eqb, eqb-suc-zero}
use lib.Pow.{pow_pos, pow_mono, pow-lt, mod-pow-add, shl_exact}
use lib.Bits.{bit_and, and_le_r, or_lt}
use Rattle.base.specs.Folds.{implies, some, every, first}
use Rattle.base.specs.Sets.{has_bit, single, kept, overlap, marked, union}
use Rattle.base.proofs.Tests.{either}
use Rattle.base.proofs.Below.{some_as, first_as}
use Rattle.base.proofs.Loops.{first_none}
use Rattle.base.proofs.Bits.{has_bit_or, has_bit_and, has_bit_none, has_bit_small, power_at, power_over}

-- a digit at k and what is below it are 0 together where both are
digit_zero : (d q r : ℕ) → 0 < q → d < 2 → not (eqb (d * q + r) 0) ≡ (not (eqb r 0) || eqb d 1)
digit_zero zero q r h l = ap (λ m. not (eqb m 0)) (ap (λ m. m + r) (zero-mul q) ∙ zero-add r) ∙ sym (or-false (not (eqb r 0)))
digit_zero (suc zero) (suc q) r h l = ap (λ m. not (eqb m 0)) (one r) ∙ ap not (eqb-suc-zero (q + r)) ∙ sym (or-true (not (eqb r 0)))
  where
    one : (r : ℕ) → 1 * suc q + r ≡ suc (q + r)
    one r = omega arith
digit_zero (suc zero) zero r h l = absurd (not-suc-le-zero h)
digit_zero (suc (suc d)) q r h l = absurd (not-suc-le-zero (le_of_suc-le-suc (le_of_suc-le-suc l)))

-- some bit below k is 1 where the low k bits are not 0
pub some_bit : (m k : ℕ) → some (has_bit m) k ≡ not (eqb (m % 2 ^ k) 0)
unfolding has_bit some
some_bit m zero = sym (ap (λ a. not (eqb a 0)) (mod-one m))
some_bit m (suc k) =
    ap (λ b. b || has_bit m k) (some_bit m k)
    ∙ sym (digit_zero (m / 2 ^ k % 2) (2 ^ k) (m % 2 ^ k) (pow_pos k) (omega arith))
    ∙ sym (ap (λ a. not (eqb a 0)) (ap (λ j. m % 2 ^ j) (s k) ∙ mod-pow-add m 1 k))
  where
    s : (k : ℕ) → suc k ≡ 1 + k
    s k = omega arith

-- two sets overlap where some number below n is in both, if one of them ends before n
pub overlap_some : (m c n : ℕ) → c < 2 ^ n → overlap m c ≡ some (λ d. has_bit m d && has_bit c d) n
unfolding overlap
overlap_some m c n h =
    ap (λ a. not (eqb a 0)) (sym (mod-eq_of_lt (lt_of_le_of_lt (and_le_r m c) h)))
    ∙ sym (some_bit (bit_and m c) n)
    ∙ some_as (has_bit (bit_and m c)) (λ d. has_bit m d && has_bit c d) n (λ i l. has_bit_and m c i)

pub single_at : (i : ℕ) (b : Bool) → has_bit (single i b) i ≡ b
single_at i true = power_at i
single_at i false = has_bit_none i

pub single_over : (i j : ℕ) (b : Bool) → j < i → has_bit (single i b) j ≡ false
single_over i j true l = power_over i j l
single_over i j false l = has_bit_none j

single_lt : (i : ℕ) (b : Bool) → single i b < 2 ^ suc i
single_lt i true = pow-lt (le_refl (suc i))
single_lt i false = pow_pos (suc i)

pub kept_bit : (b : Bool) (m s : ℕ) → has_bit (kept b m) s ≡ (has_bit m s && b)
kept_bit true m s = sym (and-true (has_bit m s))
kept_bit false m s = has_bit_none s ∙ sym (and-false (has_bit m s))

pub marked_lt : (p : ℕ → Bool) (n : ℕ) → marked p n < 2 ^ n
marked_lt p zero = pow_pos 0
marked_lt p (suc n) =
    or_lt (suc n) (marked p n) (single n (p n)) (lt_of_lt_of_le (marked_lt p n) (pow_mono (omega arith))) (single_lt n (p n))

-- a number below n is in the set where p holds at it
pub marked_bit : (p : ℕ → Bool) (n i : ℕ) → i < n → has_bit (marked p n) i ≡ p i
marked_bit p zero i l = absurd (not-suc-le-zero l)
marked_bit p (suc n) i l =
    has_bit_or (marked p n) (single n (p n)) i
    ∙ either
    (eq-or-lt_of_le (le_of_suc-le-suc l))
    (λ (q : i ≡ n). rw (q, has_bit_small (marked p n) n (marked_lt p n)) (single_at n (p n)))
    (λ (q : i < n). rw (single_over n i (p n) q) (or-false (has_bit (marked p n) i) ∙ marked_bit p n i q))

-- for dependencies: some d below n in m has p
pub marked_overlap : (p : ℕ → Bool) (m n : ℕ) → overlap m (marked p n) ≡ some (λ d. has_bit m d && p d) n
marked_overlap p m n =
    overlap_some m (marked p n) n (marked_lt p n)
    ∙ some_as (λ d. has_bit m d && has_bit (marked p n) d) (λ d. has_bit m d && p d) n
    (λ i l. ap (λ b. has_bit m i && b) (marked_bit p n i l))

-- for dependents: s is in one of the sets f e with e below n
pub union_bit : (f : ℕ → ℕ) (n s : ℕ) → has_bit (union f n) s ≡ some (λ e. has_bit (f e) s) n
unfolding some
union_bit f zero s = has_bit_none s
union_bit f (suc n) s = has_bit_or (union f n) (f n) s ∙ ap (λ b. b || has_bit (f n) s) (union_bit f n s)

-- the same where f e is a set that is kept where p holds at e
pub union_kept : (p : ℕ → Bool) (m : ℕ → ℕ) (n s : ℕ) → has_bit (union (λ e. kept (p e) (m e)) n) s ≡ some (λ e. has_bit (m e) s && p e) n
union_kept p m n s =
    union_bit (λ e. kept (p e) (m e)) n s
    ∙ some_as (λ e. has_bit (kept (p e) (m e)) s) (λ e. has_bit (m e) s && p e) n (λ e l. kept_bit (p e) (m e) s)

-- the empty set has no lowest number
pub first_empty : (m n : ℕ) → m ≡ 0 → n ≡ first (has_bit m) n
first_empty m n e = first_none (has_bit m) n (λ j l. ap (λ a. has_bit a j) e ∙ has_bit_none j)

-- the lowest number of the set of those at which p holds
pub marked_first : (p : ℕ → Bool) (n : ℕ) → first (has_bit (marked p n)) n ≡ first p n
marked_first p n = first_as (has_bit (marked p n)) p n (λ i l. marked_bit p n i l)

-- `1 << i` in 64 bits
pub shifted_one : (i : ℕ) (b : Bool) → i < 64 → b ≡ true → 1 * 2 ^ i % 2 ^ 64 ≡ single i b
shifted_one i b l e = shl_exact 1 i 64 (omega arith) (omega arith) ∙ one-mul (2 ^ i) ∙ rw e

compared : (a b : ℕ) → (a ≡ b) ⊎ ((a < b) ⊎ (b < a))
compared zero zero = inl refl
compared zero (suc b) = inr (inl (omega arith))
compared (suc a) zero = inr (inr (omega arith))
compared (suc a) (suc b) =
    either
    (compared a b)
    (λ (q : a ≡ b). inl (ap suc q))
    (λ o. either o (λ (q : a < b). inr (inl (omega arith))) (λ (q : b < a). inr (inr (omega arith))))

-- the set of one number has no other
pub single_only : (i s : ℕ) (b : Bool) → has_bit (single i b) s ≡ true → (s ≡ i) × (b ≡ true)
single_only i s false e = absurd (false≢true (sym (has_bit_none s) ∙ e))
single_only i s true e =
    either
    (compared s i)
    (λ (q : s ≡ i). (q, refl))
    (λ o.
    either
    o
    (λ (q : s < i). absurd (false≢true (sym (power_over i s q) ∙ e)))
    (λ (q : i < s). absurd (false≢true (sym (has_bit_small (2 ^ i) s (pow-lt q)) ∙ e))))

-- ---- a test on sets, asked the other way round

implied : (a b : Bool) → not (a && not b) ≡ implies a b
implied true true = refl
implied true false = refl
implied false b = refl

not_or : (a b : Bool) → not (a || b) ≡ (not a && not b)
not_or true b = refl
not_or false b = refl

-- q holds at every number below n where p holds at none of them
pub none_every : (p q : ℕ → Bool) (n : ℕ) → ((i : ℕ) → not (p i) ≡ q i) → not (some p n) ≡ every q n
unfolding some every
none_every p q zero h = refl
none_every p q (suc n) h = not_or (some p n) (p n) ∙ rw (none_every p q n h, h n)

-- for dependencies: every d below n in m has p
pub marked_disjoint : (p : ℕ → Bool) (m n : ℕ) → not (overlap m (marked (λ d. not (p d)) n)) ≡ every (λ d. implies (has_bit m d) (p d)) n
marked_disjoint p m n =
    ap not (marked_overlap (λ d. not (p d)) m n)
    ∙ none_every (λ d. has_bit m d && not (p d)) (λ d. implies (has_bit m d) (p d)) n (λ d. implied (has_bit m d) (p d))
