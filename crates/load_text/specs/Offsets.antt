-- Trusted: W-201: what a line and a column say of an offset: the byte that stands there, and the offset itself.
use Rattle.std.specs.Prelude.{ℕ, zero, suc, ◌+◌, ◌-◌, ◌≤◌, Bool, true, false, ◌||◌, List, [], ◌∷◌, ◌≡◌, leb, length, get_or}
use Rattle.load_text.specs.Bytes.{is_newline}
use Rattle.load_text.specs.Lines.{lines_of, line_number, column_number}

-- a line by its number, "from 1"; past the last line there is nothing
abbrev pub line_at : List ℕ → ℕ → List ℕ
line_at text line = get_or (lines_of text) (line - 1) []

-- how many bytes the first k lines take, each with its newline
unfoldable pub taken_by : ℕ → List (List ℕ) → ℕ
taken_by zero ls = 0
taken_by (suc k) [] = 0
taken_by (suc k) (l ∷ ls) = length l + 1 + taken_by k ls

-- no byte of a line stands at an offset: a newline does, or it is from the text's end on
abbrev pub is_end : List ℕ → ℕ → Bool
is_end text at = leb (length text) at || is_newline (get_or text at 0)

-- a line and a column name the place of an offset
pub record Stands (text : List ℕ) (at line column : ℕ) : Type 0 where
  pub line_from_1 : 1 ≤ line
  pub column_from_1 : 1 ≤ column
  -- the byte there is the one at the offset
  pub inside : is_end text at ≡ false → (column ≤ length (line_at text line)) × (get_or (line_at text line) (column - 1) 0 ≡ get_or text at 0)
  -- "a missing byte counts as the one past its line"
  pub past : is_end text at ≡ true → column ≡ length (line_at text line) + 1
  -- the lines before, and the bytes before it in its line: so no other offset of the text has this line and this column
  pub back : at ≤ length text → at ≡ taken_by (line - 1) (lines_of text) + (column - 1)

-- THE STATEMENT
abbrev pub LineAndColumnTell : Type 0
LineAndColumnTell = (text : List ℕ) (at : ℕ) → Stands text at (line_number text at) (column_number text at)
