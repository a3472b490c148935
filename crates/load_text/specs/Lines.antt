-- Trusted: "Reading a text": the lines, how a line begins, the first bad byte, and the line and column of an offset.
use Rattle.std.specs.Prelude.{ℕ, ◌+◌, Bool, ◌||◌, List, [], ◌∷◌, Option, Some, None, Result, Ok, Err, eqb, leb, length, get_or, take, drop}
use Rattle.base.specs.Folds.{pick}
use Rattle.load_text.specs.Bytes.{is_white, is_newline, is_bad, is_property_byte, is_sign, run}
use Rattle.load_text.specs.declared.Fault.{Fault}
use Rattle.load_text.specs.declared.Places.{Places}
use Rattle.load_text.specs.declared.Wrong.{Wrong}
use Rattle.load_text.specs.declared.Wrong.TheVariants.{BadByte, Malformed}

-- the bytes before the first newline
unfoldable pub line_of : List ℕ → List ℕ
line_of [] = []
line_of (b ∷ bs) = pick (is_newline b) [] (b ∷ line_of bs)

abbrev pub grow : ℕ → List (List ℕ) → List (List ℕ)
grow b [] = (b ∷ []) ∷ []
grow b (l ∷ ls) = (b ∷ l) ∷ ls

-- "A newline ends a line; the last may lack it"
unfoldable pub lines_of : List ℕ → List (List ℕ)
lines_of [] = []
lines_of (b ∷ bs) = pick (is_newline b) ([] ∷ lines_of bs) (grow b (lines_of bs))

abbrev pub fault : Wrong → ℕ → Fault
fault w i = record { wrong = w; at = i }

-- 6: "bad byte", over the whole text; i is the offset of what is left
unfoldable pub bad_from : ℕ → List ℕ → Result (Unit {0}) Fault
bad_from i [] = Ok tt
bad_from i (b ∷ bs) = pick (is_bad b) (Err (fault BadByte i)) (bad_from (i + 1) bs)

-- "lines from 1": the line after these bytes, of which the first stands in line k
unfoldable pub line_from : ℕ → List ℕ → ℕ
line_from k [] = k
line_from k (b ∷ bs) = line_from (pick (is_newline b) (k + 1) k) bs

-- the line of the byte at an offset: the line after the bytes before it, which from the text's end on are all
unfoldable pub line_number : List ℕ → ℕ → ℕ
line_number text at = line_from 1 (take at text)

-- W-201: "the column, from 1": the column after these bytes, of which the first stands in column k; each byte counts as one
unfoldable pub column_from : ℕ → List ℕ → ℕ
column_from k [] = k
column_from k (b ∷ bs) = column_from (pick (is_newline b) 1 (k + 1)) bs

-- the column of the byte at an offset, "a missing byte counts as the one past its line"
unfoldable pub column_number : List ℕ → ℕ → ℕ
column_number text at = column_from 1 (take at text)

-- "A line of white space only, or whose first other byte is `#`, says nothing"; a is the length of the leading white space
abbrev pub says_nothing : List ℕ → ℕ → Bool
says_nothing l a = leb (length l) a || eqb (get_or l a 0) 35

-- where the name ends that begins at a, and where the sign is after a name that ends at e
abbrev pub name_end : List ℕ → ℕ → ℕ
name_end l a = a + run is_property_byte (drop a l)

abbrev pub white_end : List ℕ → ℕ → ℕ
white_end l a = a + run is_white (drop a l)

-- "Otherwise: optional white space, a property name .., optional white space, `=` or `:`, the value"; 7 "for name and sign"
abbrev pub named : List ℕ → ℕ → ℕ → ℕ → Result (Option Places) Fault
named l a e s =
    pick (eqb a e) (Err (fault Malformed a))
    (pick (is_sign (get_or l s 0)) (Ok (Some (record { from = a; end = e; value = s + 1 }))) (Err (fault Malformed s)))

-- a line that says nothing names nothing
unfoldable pub opening : List ℕ → Result (Option Places) Fault
opening l =
    let a = white_end l 0 in
    let e = name_end l a in
    pick (says_nothing l a) (Ok None) (named l a e (white_end l e))
