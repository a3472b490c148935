-- Trusted: W-201, "the quote": whether a quoted stretch is closed again.
use Rattle.std.specs.Prelude.{Bool, true, false, List, [], ◌∷◌, ℕ, eqb}
use Rattle.base.specs.Folds.{pick}

-- the bytes after an opening quote have another one, and no backslash makes it literal; escaped: the byte before them is such a backslash
unfoldable pub closes_from : Bool → List ℕ → Bool
closes_from escaped [] = false
closes_from true (b ∷ bs) = closes_from false bs
closes_from false (b ∷ bs) = pick (eqb b 92) (closes_from true bs) (pick (eqb b 34) true (closes_from false bs))

abbrev pub closes : List ℕ → Bool
closes bs = closes_from false bs
