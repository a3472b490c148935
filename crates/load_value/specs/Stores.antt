-- Of the code: bytes stored into a lent buffer. What does not fit is dropped; the place goes on all the same.
use Rattle.std.specs.Prelude.{◌≡◌, List, ℕ, ◌+◌, length, set}
use Rattle.std.proofs.lemmas.List.Edits.{sets}

-- d with b at a place is d', and the next place is r
pub record Put (d : List ℕ) (at b : ℕ) (d' : List ℕ) (r : ℕ) : Type 0 where
  pub buffer : d' ≡ set d at b
  pub next : r ≡ at + 1

-- d with vs from a place on is d', and the place past them is r
pub record Puts (d : List ℕ) (at : ℕ) (vs : List ℕ) (d' : List ℕ) (r : ℕ) : Type 0 where
  pub buffer : d' ≡ sets d at vs
  pub next : r ≡ at + length vs
