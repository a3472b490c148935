-- Of the code: a service given line by line into a small buffer, and the positions that a load then lends.
use Rattle.std.specs.Prelude.{ℕ, ◌+◌, List, [], ◌∷◌, ◌++◌, ◌≡◌, refl, replicate}
use Prim.Native.String.{String}
use Rattle.load_text.specs.Strings.{bytes, part_of}
use Rattle.load_text.specs.Lines.{line_of}
use Rattle.scenario_words.specs.Pieces.{pieces_of}
use Rattle.scenario_lines.specs.declared.Verb.TheVariants.{Load, LoadAt, Begin, AddLine, AddPiece}
use Rattle.scenario_lines.specs.Lines.{most_positions}
use Rattle.scenario_services.specs.declared.Given.{Given}
use Rattle.scenario_services.specs.Keeping.{kept_services, after_line}
use Rattle.scenario_services.specs.Lending.{with_positions, lent_positions}

abbrev given : ℕ → ℕ → ℕ → List ℕ → List ℕ → Given
given n b t d p = record { begun = n; bytes = b; text = t; buffer = d; positions = p }

-- a line with its newline
abbrev lined : String → List ℕ
lined s = bytes s ++ 10 ∷ []

-- nothing was given; the buffer has room for six bytes, and there are positions for two services
abbrev none : Given
none = given 0 0 0 (replicate 6 0) (replicate (most_positions + 4) 0)

-- "service ab", then "|c" and "!d"
abbrev pub one : Given
one = after_line AddPiece (lined "!d") (after_line AddLine (lined "|c") (after_line Begin (lined "service ab") none))

pub one_holds : one ≡ given 1 5 3 (97 ∷ 98 ∷ 99 ∷ 10 ∷ 100 ∷ 0 ∷ []) (replicate most_positions 0 ++ 2 ∷ 5 ∷ 0 ∷ 0 ∷ [])
unfolding bytes line_of
one_holds = refl

-- the ends of that service are lent to a load, and two positions that a line gives
pub one_lent : lent_positions one.positions (record { verb = Load; first = 0; last = 0 }) 1 ≡ (2 ∷ 5 ∷ [])
unfolding bytes part_of line_of
one_lent = refl

pub two_lent :
    lent_positions
    (with_positions (record { verb = LoadAt; first = 9; last = 2 }) (bytes "load 9 2 5") (replicate (most_positions + 4) 0))
    (record { verb = LoadAt; first = 9; last = 2 }) 1
    ≡ (2 ∷ 5 ∷ [])
unfolding bytes part_of pieces_of
two_lent = refl

-- a service past those that are kept is only counted, and has no text
pub past_holds : after_line AddLine (lined "|c") (after_line Begin (lined "service ab") (given kept_services 0 0 [] []))
    ≡ given (kept_services + 1) 0 0 [] []
unfolding bytes line_of
past_holds = refl
