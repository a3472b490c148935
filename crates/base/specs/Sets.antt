-- Trusted: a set of numbers is a number: i is in it where its bit i is 1.
use Rattle.std.specs.Prelude.{ℕ, ◌/◌, ◌%◌, ◌^◌, Bool, not, eqb}
use Rattle.std.specs.Int.Bits.{bit_and, bit_or}
use Rattle.base.specs.Folds.{pick, fold}

unfoldable pub has_bit : ℕ → ℕ → Bool
has_bit m i = eqb (m / 2 ^ i % 2) 1

-- the set has no number from n on
unfoldable pub within : ℕ → ℕ → Bool
within n m = eqb (m / 2 ^ n) 0

-- the set of i alone where b holds, and else the empty one
abbrev pub single : ℕ → Bool → ℕ
single i b = pick b (2 ^ i) 0

-- the set m where b holds, and else the empty one
abbrev pub kept : Bool → ℕ → ℕ
kept b m = pick b m 0

-- the two sets have a number in common
unfoldable pub overlap : ℕ → ℕ → Bool
overlap a b = not (eqb (bit_and a b) 0)

-- the numbers below n at which p holds
abbrev pub marked : (ℕ → Bool) → ℕ → ℕ
marked p = fold (λ m i. bit_or m (single i (p i))) 0

-- all that is in one of the sets f 0, .., f (n - 1)
abbrev pub union : (ℕ → ℕ) → ℕ → ℕ
union f = fold (λ m i. bit_or m (f i)) 0
