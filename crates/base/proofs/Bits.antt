-- A bit of a union, of an intersection, of the empty set, of a power of two and of a set that ends before it.
use Prim.Native.Nat.{◌%◌, ◌*◌, ◌+◌, ◌-◌, ◌/◌, ◌<◌, ◌≤◌, ◌^◌, suc, zero, ℕ}
use borrow.Author.Tests.{eq-eqb, eqb-true, ltb-false, ltb-true}
use lib.Bits.{and_mod, and_shr, bit_and, bit_or, or_lt, or_mod, or_shr, shifted_even}
use lib.Dec.{eqb, ltb}
use lib.Pow.{mod-pow-add, pow-add, pow-lt, pow_mono, pow_pos, shl-shr}
use mathlib.Core.Bool.{◌&&◌, ◌||◌, false, true}
use mathlib.Core.Logic.{◌↔◌}
use mathlib.Core.Path.{◌∙◌, ◌≡◌, ap, refl, sym}
use native.Mathlib.Nat.{div-eq_of_lt, le_of_suc-le-suc, lt-div-mul-add, lt_of_le_of_lt, lt_of_lt_of_le, mod-eq_of_lt, mod-one, not-suc-le-zero, one-mul, zero-div}
use native.Mathlib.Omega.{arith}
use Rattle.base.specs.Sets.{has_bit, within}
use Rattle.base.proofs.Tests.{either, not_both, or_not}

or_digits : (p q : ℕ) → p < 2 → q < 2 → eqb (bit_or p q) 1 ≡ (eqb p 1 || eqb q 1)
or_digits zero q h k = refl
or_digits (suc zero) zero h k = refl
or_digits (suc zero) (suc zero) h k = refl
or_digits (suc zero) (suc (suc q)) h k = absurd (not-suc-le-zero (le_of_suc-le-suc (le_of_suc-le-suc k)))
or_digits (suc (suc p)) q h k = absurd (not-suc-le-zero (le_of_suc-le-suc (le_of_suc-le-suc h)))

-- a number is in the union of two sets where it is in one of them
pub has_bit_or : (a b i : ℕ) → has_bit (bit_or a b) i ≡ (has_bit a i || has_bit b i)
unfolding has_bit
has_bit_or a b i =
    ap (λ m. eqb (m % 2) 1) (or_shr a b i) ∙ ap (λ m. eqb m 1) (or_mod (a / 2 ^ i) (b / 2 ^ i) 1)
    ∙ or_digits (a / 2 ^ i % 2) (b / 2 ^ i % 2) (omega arith) (omega arith)

and_digits : (p q : ℕ) → p < 2 → q < 2 → eqb (bit_and p q) 1 ≡ (eqb p 1 && eqb q 1)
and_digits zero q h k = refl
and_digits (suc zero) zero h k = refl
and_digits (suc zero) (suc zero) h k = refl
and_digits (suc zero) (suc (suc q)) h k = absurd (not-suc-le-zero (le_of_suc-le-suc (le_of_suc-le-suc k)))
and_digits (suc (suc p)) q h k = absurd (not-suc-le-zero (le_of_suc-le-suc (le_of_suc-le-suc h)))

-- a number is in what two sets have in common where it is in both
pub has_bit_and : (a b i : ℕ) → has_bit (bit_and a b) i ≡ (has_bit a i && has_bit b i)
unfolding has_bit
has_bit_and a b i =
    ap (λ m. eqb (m % 2) 1) (and_shr a b i) ∙ ap (λ m. eqb m 1) (and_mod (a / 2 ^ i) (b / 2 ^ i) 1)
    ∙ and_digits (a / 2 ^ i % 2) (b / 2 ^ i % 2) (omega arith) (omega arith)

-- the empty set has no number
pub has_bit_none : (i : ℕ) → has_bit 0 i ≡ false
unfolding has_bit
has_bit_none i = ap (λ m. eqb (m % 2) 1) (zero-div (2 ^ i))

-- a set below 2 ^ k has no number k
pub has_bit_small : (m k : ℕ) → m < 2 ^ k → has_bit m k ≡ false
unfolding has_bit
has_bit_small m k h = ap (λ a. eqb (a % 2) 1) (div-eq_of_lt h)

pub power_at : (i : ℕ) → has_bit (2 ^ i) i ≡ true
unfolding has_bit
power_at i = ap (λ a. eqb (a % 2) 1) (ap (λ a. a / 2 ^ i) (sym (one-mul (2 ^ i))) ∙ shl-shr 1 i)

power_above : (d j : ℕ) → has_bit (2 ^ (suc d + j)) j ≡ false
unfolding has_bit
power_above d j =
    ap (λ a. eqb (a % 2) 1) (ap (λ a. a / 2 ^ j) (pow-add 2 (suc d) j) ∙ shl-shr (2 ^ suc d) j)
    ∙ ap (λ a. eqb a 1) (ap (λ a. a % 2) (sym (one-mul (2 ^ suc d))) ∙ shifted_even 1 d)

pub power_over : (i j : ℕ) → j < i → has_bit (2 ^ i) j ≡ false
power_over i j l =
    let e : i ≡ suc (i - suc j) + j = omega arith in
    ap (λ a. has_bit (2 ^ a) j) e ∙ power_above (i - suc j) j

-- a set ends before n where it is below 2 ^ n
pub within_lt : (n m : ℕ) → (within n m ≡ true) ↔ (m < 2 ^ n)
unfolding within
within_lt n m = (
  λ w.
      let e : m / 2 ^ n ≡ 0 = eqb-true (m / 2 ^ n) 0 w in
      let l : m < m / 2 ^ n * 2 ^ n + 2 ^ n = lt-div-mul-add (pow_pos n) in
      let k : m < 0 * 2 ^ n + 2 ^ n = rw e at l in
      omega (arith, k),
  λ h. eq-eqb (m / 2 ^ n) 0 (div-eq_of_lt h),
)

-- what is in a set that ends before n is below n
pub within_bit : (n m j : ℕ) → within n m ≡ true → has_bit m j ≡ true → j < n
within_bit n m j w h =
    either
    (or_not (ltb j n))
    (λ l. ltb-true j n l)
    (λ l. absurd (not_both h (has_bit_small m j (lt_of_lt_of_le ((within_lt n m).0 w) (pow_mono (ltb-false j n l))))))

-- the union of two sets, and a number more, end where they do
pub within_or : (n a b : ℕ) → within n a ≡ true → within n b ≡ true → within n (bit_or a b) ≡ true
within_or n a b v w = (within_lt n (bit_or a b)).1 (or_lt n a b ((within_lt n a).0 v) ((within_lt n b).0 w))

pub within_power : (n i : ℕ) → i < n → within n (2 ^ i) ≡ true
within_power n i l = (within_lt n (2 ^ i)).1 (pow-lt l)

pub within_none : (n : ℕ) → within n 0 ≡ true
within_none n = (within_lt n 0).1 (pow_pos n)

-- sets with the same numbers are the same
digit_same : (p q : ℕ) → p < 2 → q < 2 → eqb p 1 ≡ eqb q 1 → p ≡ q
digit_same zero zero h k e = refl
digit_same (suc zero) (suc zero) h k e = refl
digit_same zero (suc zero) h k e = absurd (not_both e refl)
digit_same (suc zero) zero h k e = absurd (not_both (sym e) refl)
digit_same (suc (suc p)) q h k e = absurd (not-suc-le-zero (le_of_suc-le-suc (le_of_suc-le-suc h)))
digit_same zero (suc (suc q)) h k e = absurd (not-suc-le-zero (le_of_suc-le-suc (le_of_suc-le-suc k)))
digit_same (suc zero) (suc (suc q)) h k e = absurd (not-suc-le-zero (le_of_suc-le-suc (le_of_suc-le-suc k)))

low_same : (a b k : ℕ) → ((j : ℕ) → has_bit a j ≡ has_bit b j) → a % 2 ^ k ≡ b % 2 ^ k
unfolding has_bit
low_same a b zero h = mod-one a ∙ sym (mod-one b)
low_same a b (suc k) h =
    let e : suc k ≡ 1 + k = omega arith in
    let d : a / 2 ^ k % 2 ≡ b / 2 ^ k % 2 = digit_same (a / 2 ^ k % 2) (b / 2 ^ k % 2) (omega arith) (omega arith) (h k) in
    rw (e, mod-pow-add a 1 k, mod-pow-add b 1 k, low_same a b k h, d)

below_power : (n : ℕ) → n < 2 ^ n
below_power zero = omega arith
below_power (suc n) =
    let h = below_power n in
    let e : 2 ^ suc n ≡ 2 * 2 ^ n = ap (λ k. 2 ^ k) (let s : suc n ≡ 1 + n = omega arith in s) ∙ pow-add 2 1 n in
    omega (arith, h, e)

pub same_bits : (a b : ℕ) → ((j : ℕ) → has_bit a j ≡ has_bit b j) → a ≡ b
same_bits a b h =
    let k = a + b in
    let below : (n : ℕ) → n ≤ k → n < 2 ^ k = λ n l. lt_of_le_of_lt l (below_power k) in
    sym (mod-eq_of_lt (below a (omega arith))) ∙ low_same a b k h ∙ mod-eq_of_lt (below b (omega arith))
