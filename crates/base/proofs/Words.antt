-- Sets in a word of 64 bits: what lies from bit 64 on.
use Prim.Native.Nat.{ℕ, ◌*◌, ◌%◌, ◌^◌, ◌≤◌, ◌<◌}
use native.Mathlib.Nat.{lt_of_lt_of_le, div-eq_of_lt}
use mathlib.Core.Path.{◌≡◌, sym, ap, ◌∙◌}
use mathlib.Core.Bool.{Bool, true, false, ◌&&◌}
use lib.Dec.{eqb, ltb}
use lib.Pow.{pow_mono}
use borrow.Author.Tests.{lt-ltb, le-ltb}
use Rattle.base.specs.Sets.{has_bit, within, single}
use Rattle.base.proofs.Bits.{has_bit_small}
use Rattle.base.proofs.Sets.{shifted_one}

-- a word has no number from 64 on
pub high_bit : (m i : ℕ) → m < 2 ^ 64 → 64 ≤ i → false ≡ has_bit m i
high_bit m i h l = sym (has_bit_small m i (lt_of_lt_of_le h (pow_mono l)))

pub high_within : (m n : ℕ) → m < 2 ^ 64 → 64 ≤ n → true ≡ within n m
unfolding within
high_within m n h l = sym (ap (λ a. eqb a 0) (div-eq_of_lt (lt_of_lt_of_le h (pow_mono l))))

-- `1 << i` where i has a place in a word
pub shifted_guarded : (i : ℕ) (b : Bool) → i < 64 → b ≡ true → 1 * 2 ^ i % 2 ^ 64 ≡ single i (ltb i 64 && b)
shifted_guarded i b l e = shifted_one i b l e ∙ rw (lt-ltb i 64 l)

pub empty_guarded : (i : ℕ) (b : Bool) → i < 64 → b ≡ false → 0 ≡ single i (ltb i 64 && b)
empty_guarded i b l e = rw (lt-ltb i 64 l, e)

pub empty_high : (i : ℕ) (b : Bool) → 64 ≤ i → 0 ≡ single i (ltb i 64 && b)
empty_high i b l = rw (le-ltb i 64 l)
