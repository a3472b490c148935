-- Trusted: the lent bytes and positions: "for each service its name's end, then its text's". Numbers 1 and 2.
use Rattle.std.specs.Prelude.{ℕ, ◌+◌, ◌-◌, ◌*◌, ◌/◌, ◌%◌, Bool, ◌&&◌, List, [], ◌∷◌, eqb, leb, length, get_or}
use Rattle.base.specs.Folds.{pick}
use Rattle.load_text.specs.Strings.{part_of}

-- the services, "counted as whole pairs of lent positions"
abbrev pub service_count : List ℕ → ℕ
service_count ends = length ends / 2

-- at most n of the services lent
abbrev pub within : ℕ → List ℕ → ℕ
within n ends = pick (leb n (service_count ends)) n (service_count ends)

-- the positions from p on don't fall, and the last is m
unfoldable pub rises_to : ℕ → ℕ → List ℕ → Bool
rises_to m p [] = eqb p m
rises_to m p (e ∷ es) = leb p e && rises_to m e es

-- 2 is due where this fails: "odd in number, fall, or don't end with the lent bytes"
unfoldable pub positioned : List ℕ → List ℕ → Bool
positioned lent ends = eqb (length ends % 2) 0 && rises_to (length lent) 0 ends

-- a service's name begins where the text before it ends
unfoldable pub name_start : List ℕ → ℕ → ℕ
name_start ends j = pick (eqb j 0) 0 (get_or ends (2 * j - 1) 0)

unfoldable pub name_at : List ℕ → List ℕ → ℕ → List ℕ
name_at lent ends j = part_of lent (name_start ends j) (get_or ends (2 * j) 0)

unfoldable pub text_at : List ℕ → List ℕ → ℕ → List ℕ
text_at lent ends j = part_of lent (get_or ends (2 * j) 0) (get_or ends (2 * j + 1) 0)
