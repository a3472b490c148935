-- Of the code: the descent: who joins its set, and what is then safe, which is to be on no cycle.
use Rattle.std.specs.Prelude.{ℕ, ◌<◌, ◌≡◌, Bool, true, List, eqb}
use Rattle.std.specs.Int.Bits.{bit_and, bit_or}
use Rattle.base.specs.Sets.{has_bit, single}
use Rattle.links.specs.Rows.{rows_as}

-- all that i is linked to is safe
pub data Safe (d : ℕ → ℕ) : ℕ → Type 0 where
  safe : {i : ℕ} → ((j : ℕ) → has_bit (d i) j ≡ true → Safe d j) → Safe d i

-- all of m is in c
abbrev pub subset : ℕ → ℕ → Bool
subset m c = eqb (bit_and m c) m

-- i joins the set where all that it is linked to, m, is there
abbrev pub grown : ℕ → ℕ → ℕ → ℕ
grown done m i = bit_or done (single i (subset m done))

-- b says that the first n numbers are safe
pub record AllSafe (rows : List ℕ) (n : ℕ) (b : Bool) : Type 0 where
  pub safes : b ≡ true → (s : ℕ) → s < n → Safe (rows_as rows) s
