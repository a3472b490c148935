-- Of the code: the pieces of a text that a byte separates: words by spaces, lines by newlines. Exactly one byte separates two pieces, so a piece may
-- have no bytes, and a text of none is one such piece.
use Rattle.std.specs.Prelude.{ℕ, Bool, Option, true, false, List, [], ◌∷◌, eqb, ltb, length, get_or}
use Rattle.base.specs.Folds.{first}
use Rattle.load_text.specs.Strings.{same}
use Rattle.load_text.specs.Lines.{grow}
use Rattle.scenario_words.specs.Numbers.{read_if}

-- a byte before these pieces, which separates them from one of no bytes, or is the first byte of the first
abbrev pub opened : Bool → ℕ → List (List ℕ) → List (List ℕ)
opened true b ls = [] ∷ ls
opened false b ls = grow b ls

unfoldable pub pieces_of : ℕ → List ℕ → List (List ℕ)
pieces_of p [] = [] ∷ []
pieces_of p (b ∷ bs) = opened (eqb b p) b (pieces_of p bs)

-- piece k, counted from 0; one that is not there has no bytes
abbrev pub piece_of : List ℕ → ℕ → ℕ → List ℕ
piece_of text p k = get_or (pieces_of p text) k []

abbrev pub piece_count : List ℕ → ℕ → ℕ
piece_count text p = length (pieces_of p text)

-- the place of the first piece that is the word, as a number where there is one
unfoldable pub place_of : List ℕ → ℕ → List ℕ → Option ℕ
place_of choices p w =
    let n = piece_count choices p in
    let k = first (λ i. same w (piece_of choices p i)) n in
    read_if (ltb k n) k
