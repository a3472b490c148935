-- Counting through a list or up to a bound: one step further.
use Prim.Native.Nat.{ℕ, suc, ◌+◌, ◌-◌, ◌<◌}
use native.Mathlib.Numerals.{add-one}
use native.Mathlib.Omega.{arith}
use mathlib.Core.Path.{◌≡◌}
use mathlib.Core.List.{List, ◌∷◌}
use lib.ListN.{length, get_or, drop}
use lib.Seq.{drop-cons}

-- what is left of n at j is one more than what is left at the next place
pub one_left : (n j : ℕ) → j < n → n - j ≡ suc (n - (j + 1))
one_left n j h = omega arith

-- what is left of a list at place k is what stands there and what is left at the next place
pub drop_more : {A : Type 0} (l : List A) (k : ℕ) (d : A) → k < length l → drop k l ≡ get_or l k d ∷ drop (k + 1) l
drop_more l k d h = rw (add-one k) (drop-cons l k d h)
