-- Of the code: the line and the column of an offset: before a newline, at it, after it, at the text's end and past it.
use Rattle.std.specs.Prelude.{ℕ, ◌≡◌, refl, List, [], ◌∷◌, map}
use Rattle.load_text.specs.Strings.{bytes}
use Rattle.load_text.specs.Lines.{line_from, line_number, column_from, column_number}

abbrev offsets : List ℕ
offsets = 0 ∷ 1 ∷ 2 ∷ 4 ∷ 5 ∷ 6 ∷ 18446744073709551615 ∷ []

-- a text of five bytes whose last line lacks its newline
pub lines_of_offsets : map (line_number (bytes "a\nb\nc")) offsets ≡ 1 ∷ 1 ∷ 2 ∷ 3 ∷ 3 ∷ 3 ∷ 3 ∷ []
unfolding bytes line_from line_number
lines_of_offsets = refl

-- one of four whose last line has it: the text's end is a line of its own
pub lines_past_newline : map (line_number (bytes "a\nb\n")) offsets ≡ 1 ∷ 1 ∷ 2 ∷ 3 ∷ 3 ∷ 3 ∷ 3 ∷ []
unfolding bytes line_from line_number
lines_past_newline = refl

-- the column at a line's end is its length and 1
pub columns_of_offsets : map (column_number (bytes "a\nb\nc")) offsets ≡ 1 ∷ 2 ∷ 1 ∷ 1 ∷ 2 ∷ 2 ∷ 2 ∷ []
unfolding bytes column_from column_number
columns_of_offsets = refl

pub columns_past_newline : map (column_number (bytes "a\nb\n")) offsets ≡ 1 ∷ 2 ∷ 1 ∷ 1 ∷ 1 ∷ 1 ∷ 1 ∷ []
unfolding bytes column_from column_number
columns_past_newline = refl

-- a tab, a carriage return and each byte from 128 up are one column: here the two bytes of a character, written as the characters of their numbers
pub columns_count_bytes : map (column_number (bytes "\tÃ©\r\n\r")) (0 ∷ 1 ∷ 2 ∷ 3 ∷ 4 ∷ 5 ∷ 6 ∷ []) ≡ 1 ∷ 2 ∷ 3 ∷ 4 ∷ 5 ∷ 1 ∷ 2 ∷ []
unfolding bytes column_from column_number
columns_count_bytes = refl
