-- Trusted: links between numbers: d i is the set that i is linked to. What a number reaches: by a path, and computed in rounds.
use Rattle.std.specs.Prelude.{ℕ, zero, suc, ◌≡◌, Bool, true}
use Rattle.std.specs.Int.Bits.{bit_or}
use Rattle.base.specs.Folds.{pick, some}
use Rattle.base.specs.Sets.{has_bit}

-- i is linked to j, directly or through others
pub data Path (d : ℕ → ℕ) : ℕ → ℕ → Type 0 where
  link : {i j : ℕ} → has_bit (d i) j ≡ true → Path d i j
  on : {i j k : ℕ} → has_bit (d i) k ≡ true → Path d k j → Path d i j

-- a, with all that b has where a has k
abbrev pub through : ℕ → ℕ → ℕ → ℕ
through k a b = pick (has_bit a k) (bit_or a b) a

-- the set that i reaches with all between on the way below k
unfoldable pub reach : (ℕ → ℕ) → ℕ → ℕ → ℕ
reach d zero i = d i
reach d (suc k) i = through k (reach d k i) (reach d k k)

-- some number below n reaches itself through numbers below n
unfoldable pub cyclic : (ℕ → ℕ) → ℕ → Bool
cyclic d n = some (λ i. has_bit (reach d n i) i) n
