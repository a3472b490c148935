-- Of the code: one pass over a set of numbers: each that is in it brings in what it is linked to.
use Rattle.std.specs.Prelude.{ℕ, List}
use Rattle.base.specs.Folds.{fold}
use Rattle.base.specs.Links.{through}
use Rattle.links.specs.Rows.{rows_as}

abbrev pub wide : List ℕ → ℕ → ℕ → ℕ
wide rows m n = fold (λ a i. through i a (rows_as rows i)) m n
