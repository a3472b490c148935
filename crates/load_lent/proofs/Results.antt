-- A Result whose error was mapped: what it says of the one before. Q is what the mapping says of an error and of what came of it.
use mathlib.Core.Path.{◌≡◌, refl}
use Rattle.std.specs.Prelude.{Err, IsErrAnd, MatchResult, Ok, Result}

module _ {T E D : Type 0} (Q : E → D → Type 0) where
  pub mapped_ok : (s : Result T E) (r : Result T D) {x : T} → MatchResult s (λ x. r ≡ Ok x) (λ e. IsErrAnd r (Q e)) → r ≡ Ok x → s ≡ Ok x
  mapped_ok (Ok y) r h e = cc
  mapped_ok (Err d) r {x} h e =
      let k : IsErrAnd (Ok x) (Q d) = rw e at h in
      absurd k

  pub mapped_err : (s : Result T E) (r : Result T D) {o : D} → MatchResult s (λ x. r ≡ Ok x) (λ e. IsErrAnd r (Q e)) → r ≡ Err o
      → (d : E) × (s ≡ Err d) × Q d o
  mapped_err (Ok y) r h e = cc
  mapped_err (Err d) r h e = (d, refl, rw e at h)
