-- Of the code: worked examples of pieces and of numbers: one table each, one statement each.
use Rattle.std.specs.Prelude.{ℕ, Option, Some, None, ◌≡◌, refl, List, [], ◌∷◌, map}
use Prim.Native.String.{String}
use Rattle.base.specs.Folds.{first}
use Rattle.load_text.specs.Strings.{bytes, same}
use Rattle.scenario_words.specs.Numbers.{number_to}
use Rattle.scenario_words.specs.Pieces.{pieces_of, place_of}

-- a text and its pieces, separated by spaces
pub record Parted : Type 0 where
  pub text : String
  pub are : List String

abbrev pub parted : List Parted
parted =
    record { text = "set 3 live"; are = "set" ∷ "3" ∷ "live" ∷ [] } ∷
    record { text = "next"; are = "next" ∷ [] } ∷
    record { text = ""; are = "" ∷ [] } ∷
    record { text = "run "; are = "run" ∷ "" ∷ [] } ∷
    record { text = " a  b"; are = "" ∷ "a" ∷ "" ∷ "b" ∷ [] } ∷
    []

pub parted_hold : map (λ e. pieces_of 32 (bytes e.text)) parted ≡ map (λ e. map bytes e.are) parted
unfolding bytes pieces_of
parted_hold = refl

-- a word and its place among the phases
pub record Placed : Type 0 where
  pub word : String
  pub is : Option ℕ

abbrev pub placed : List Placed
placed =
    record { word = "down"; is = Some 0 } ∷
    record { word = "up"; is = Some 3 } ∷
    record { word = "Up"; is = None } ∷
    record { word = "down|waiting"; is = None } ∷
    record { word = ""; is = None } ∷
    []

pub placed_hold : map (λ e. place_of (bytes "down|waiting|starting|up|ending") 124 (bytes e.word)) placed ≡ map (λ e. e.is) placed
unfolding bytes same first pieces_of place_of
placed_hold = refl

-- a word, the most that its number may be, and what it is
pub record Numbered : Type 0 where
  pub word : String
  pub most : ℕ
  pub is : Option ℕ

abbrev pub numbered : List Numbered
numbered =
    record { word = "31"; most = 31; is = Some 31 } ∷
    record { word = "32"; most = 31; is = None } ∷
    record { word = "00000000000000000007"; most = 31; is = Some 7 } ∷
    record { word = "000000000000000000007"; most = 31; is = None } ∷
    record { word = "18446744073709551615"; most = 18446744073709551615; is = Some 18446744073709551615 } ∷
    record { word = "18446744073709551616"; most = 18446744073709551615; is = None } ∷
    record { word = "99999999999999999999"; most = 18446744073709551615; is = None } ∷
    record { word = ""; most = 31; is = None } ∷
    record { word = "1a"; most = 31; is = None } ∷
    record { word = "-1"; most = 31; is = None } ∷
    []

pub numbered_hold : map (λ e. number_to (bytes e.word) e.most) numbered ≡ map (λ e. e.is) numbered
unfolding bytes
numbered_hold = refl
