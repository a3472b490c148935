-- Trusted: byte strings: the bytes of a text in quotes, equality as a test, the place among a list of strings, a part.
use Rattle.std.specs.Prelude.{ℕ, ◌+◌, ◌-◌, Bool, true, false, ◌&&◌, List, [], ◌∷◌, eqb, leb, length, take, drop}
use Prim.Native.Char.{code}
use Prim.Native.String.{String, [] as end, ◌∷◌ as then}
use Rattle.base.specs.Folds.{pick}

unfoldable pub bytes : String → List ℕ
bytes end = []
bytes (then c s) = code c ∷ bytes s

-- "compared byte for byte"
unfoldable pub same : List ℕ → List ℕ → Bool
same [] [] = true
same [] (y ∷ ys) = false
same (x ∷ xs) [] = false
same (x ∷ xs) (y ∷ ys) = eqb x y && same xs ys

-- the place, from k on, of the first of the strings that n is; past the last where it is none
unfoldable pub index_from : List ℕ → ℕ → List (List ℕ) → ℕ
index_from n k [] = k
index_from n k (t ∷ ts) = pick (same n t) k (index_from n (k + 1) ts)

-- the bytes from a to e, or none where they are not there
unfoldable pub part_of : List ℕ → ℕ → ℕ → List ℕ
part_of l a e = pick (leb a e) (pick (leb e (length l)) (take (e - a) (drop a l)) []) []
