-- Trusted: W-201: what a refused load points at: the byte that decided, by number, and its line and column.
use Rattle.std.specs.Prelude.{ℕ, ◌+◌, ◌-◌, ◌<◌, ◌≤◌, eqb, drop, get_or, length, Bool, ◌||◌, false, true, List, Err, ◌≡◌}
use Rattle.load_text.specs.Bytes.{is_bad, is_newline, is_property_byte, is_sign}
use Rattle.load_text.specs.Lines.{line_of, name_end, white_end}
use Rattle.load_text.specs.Offsets.{Stands, is_end}
use Rattle.load_value.specs.Quotes.{closes}
use Rattle.load_lent.specs.Parts.{text_at}
use Rattle.load_lent.specs.Refusals.{has_byte}
use Rattle.load_lent.specs.declared.Refused.{Refused}
use Rattle.loader.specs.Load.{load}

-- a line begins at an offset
abbrev pub is_start : List ℕ → ℕ → Bool
is_start text from = eqb from 0 || is_newline (get_or text (from - 1) 0)

-- of the line that begins at `from`: its first byte that is no white space, and the place of its sign, after name and white space
abbrev pub first_at : List ℕ → ℕ → ℕ
first_at text from = white_end text from

abbrev pub sign_at : List ℕ → ℕ → ℕ
sign_at text from = white_end text (name_end text (first_at text from))

-- an offset is in the value of a line: after the line's sign, with no end of a line before it
pub record InValue (text : List ℕ) (at : ℕ) : Type 0 where
  pub from : ℕ
  pub start : is_start text from ≡ true
  pub signed : is_sign (get_or text (sign_at text from) 0) ≡ true
  pub after : sign_at text from < at
  pub line : (i : ℕ) → from ≤ i → i < at → is_end text i ≡ false

-- "the byte that decided it", by number. A byte may be missing at a sign and at a value: a newline stands there, or it is the text's end.
pub data Decides (text : List ℕ) (at : ℕ) : ℕ → Type 0 where
  -- 6: the first bad byte of the text
  bad_byte : at < length text → is_bad (get_or text at 0) ≡ true → ((i : ℕ) → i < at → is_bad (get_or text i 0) ≡ false) → Decides text at 6
  -- 7: a line's first byte, where it says something and no name begins; what stands in the place of the sign; a `#` in a value
  no_name : (from : ℕ) → is_start text from ≡ true → at ≡ first_at text from → is_end text at ≡ false → eqb (get_or text at 0) 35 ≡ false
      → is_property_byte (get_or text at 0) ≡ false → Decides text at 7
  no_sign : (from : ℕ) → is_start text from ≡ true → at ≡ sign_at text from → is_sign (get_or text at 0) ≡ false → Decides text at 7
  hash : InValue text at → get_or text at 0 ≡ 35 → Decides text at 7
  -- "for 8 that is the quote": none on its line closes it
  quote : InValue text at → get_or text at 0 ≡ 34 → closes (line_of (drop (at + 1) text)) ≡ false → Decides text at 8
  -- "for 9 the backslash", with which its line ends
  backslash : InValue text at → get_or text at 0 ≡ 92 → is_end text (at + 1) ≡ true → Decides text at 9
  -- "for 10 the name's first"
  name : (from : ℕ) → is_start text from ≡ true → at ≡ first_at text from → is_property_byte (get_or text at 0) ≡ true → Decides text at 10
  -- "for 11 and 12 the first after the sign that isn't white space"
  value : (from : ℕ) → is_start text from ≡ true → is_sign (get_or text (sign_at text from) 0) ≡ true → at ≡ white_end text (sign_at text from + 1)
      → Decides text at 11
  seventeenth : (from : ℕ) → is_start text from ≡ true → is_sign (get_or text (sign_at text from) 0) ≡ true → at ≡ white_end text (sign_at text from + 1)
      → Decides text at 12

-- a line and a column name the offset of a byte, or of the one past its line, that decides for a number
pub record Points (text : List ℕ) (number line column : ℕ) : Type 0 where
  pub at : ℕ
  pub inside : at ≤ length text
  pub stands : Stands text at line column
  pub decides : Decides text at number

-- a refusal by number, line and column
pub record Told (text : List ℕ) (number line column : ℕ) : Type 0 where
  -- "Every refusal met in a text (6 to 12)"
  pub met : has_byte number ≡ true → Points text number line column
  -- "15 carries 1"
  pub absent : number ≡ 15 → (1 ≤ line) × (column ≡ 1)
  -- "column 0 where there is none"
  pub bare : has_byte number ≡ false → eqb number 15 ≡ false → (line ≡ 0) × (column ≡ 0)

-- THE STATEMENT: every refusal of a load
abbrev pub RefusalsPoint : Type 0
RefusalsPoint =
    (lent ends tokens : List ℕ) (r : Refused) → (load lent ends tokens).loaded.answer ≡ Err r → Told (text_at lent ends r.service) r.number r.line r.column
