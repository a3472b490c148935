-- Trusted: "Value", "Commands are lists of tokens": the first fault of a value, its tokens, and their number and sizes.
use Rattle.std.specs.Prelude.{ℕ, zero, suc, ◌+◌, ◌-◌, Bool, ◌&&◌, List, [], ◌∷◌, map, eqb, leb, ltb}
use Rattle.base.specs.Folds.{pick}
use Rattle.load_text.specs.Bytes.{longest_name}
use Rattle.load_text.specs.Lines.{fault}
use Rattle.std.specs.Prelude.{Result, Ok, Err}
use Rattle.load_text.specs.declared.Fault.{Fault}
use Rattle.load_text.specs.declared.Wrong.TheVariants.{LastBackslash, Malformed as IsMalformed, OpenQuote}
use Rattle.load_value.specs.declared.Mode.{Mode}
use Rattle.load_value.specs.declared.Step.{Step}
use Rattle.load_value.specs.declared.Step.TheVariants.{Skip, Quote, Keep, Close, Malformed}
use Rattle.load_value.specs.declared.Sizes.{Sizes}
use Rattle.load_value.specs.Steps.{between, step_of}

-- ---- faults: "value from left (7, 9, at its end 8)"

-- at the end, i bytes from the value's start: 9 "a value's backslash at line or text end", 8 "quote open at line end"
abbrev pub ended : Mode → ℕ → ℕ → Result (Unit {0}) Fault
ended m q i = pick m.escaped (Err (fault LastBackslash (i - 1))) (pick m.quoted (Err (fault OpenQuote q)) (Ok tt))

-- the way on after a step: q is where the last quoted stretch was opened
abbrev pub onward : Step → ℕ → ℕ → (Mode → ℕ → Result (Unit {0}) Fault) → Result (Unit {0}) Fault
onward (Skip m) q i on = on m q
onward (Quote m) q i on = on m i
onward (Keep m) q i on = on m q
onward (Close m) q i on = on m q
onward Malformed q i on = Err (fault IsMalformed i)

unfoldable pub fault_from : Mode → ℕ → ℕ → List ℕ → Result (Unit {0}) Fault
fault_from m q i [] = ended m q i
fault_from m q i (b ∷ bs) = onward (step_of m b) q i (λ m' q'. fault_from m' q' (i + 1) bs)

-- ---- tokens

-- a value as it is read: the bytes kept, and the ends of tokens
pub data Mark : Type 0 where
  kept : ℕ → Mark
  close : Mark

-- what a step adds, before what the way on adds
abbrev pub marked : Step → ℕ → (Mode → List Mark) → List Mark
marked (Skip m) b on = on m
marked (Quote m) b on = on m
marked (Keep m) b on = kept b ∷ on m
marked (Close m) b on = close ∷ on m
marked Malformed b on = []

unfoldable pub marks_from : Mode → List ℕ → List Mark
marks_from m [] = pick m.token (close ∷ []) []
marks_from m (b ∷ bs) = marked (step_of m b) b (λ m'. marks_from m' bs)

-- "each followed by a zero byte"
abbrev pub byte_of : Mark → ℕ
byte_of (kept b) = b
byte_of close = 0

-- the tokens of a value as they go to the lent buffer
unfoldable pub written : List ℕ → List ℕ
written l = map byte_of (marks_from between l)

-- "a run of white space becomes one space; leading and trailing runs go": the tokens with one space between
unfoldable pub joined : List Mark → List ℕ
joined [] = []
joined (kept b ∷ ks) = b ∷ joined ks
joined (close ∷ []) = []
joined (close ∷ k ∷ ks) = 32 ∷ joined (k ∷ ks)

-- the value as a string of bytes
unfoldable pub spaced : List ℕ → List ℕ
spaced l = joined (marks_from between l)

-- ---- the number and the sizes of the tokens

abbrev pub no_sizes : Sizes
no_sizes = record { tokens = 0; room = 0; first = 0 }

-- one mark more: a byte of the first token counts for its length
abbrev pub counted : Sizes → Mark → Sizes
counted z (kept b) = record { tokens = z.tokens; room = z.room + 1; first = pick (eqb z.tokens 0) (z.first + 1) z.first }
counted z close = record { tokens = z.tokens + 1; room = z.room + 1; first = z.first }

unfoldable pub sizes_from : Sizes → List Mark → Sizes
sizes_from z [] = z
sizes_from z (k ∷ ks) = sizes_from (counted z k) ks

abbrev pub scanned : Result (Unit {0}) Fault → Sizes → Result Sizes Fault
scanned (Ok tt) z = Ok z
scanned (Err f) z = Err f

-- a value: the number and the sizes of its tokens, or its first fault
unfoldable pub scan_of : List ℕ → Result Sizes Fault
scan_of l = scanned (fault_from between 0 0 l) (sizes_from no_sizes (marks_from between l))

-- "there is a first token and it is not empty"
abbrev pub is_command : Sizes → Bool
is_command z = ltb 0 z.first

-- the longest value that a property which is no command can have: that of a name
abbrev pub longest_word : ℕ
longest_word = longest_name

-- the room that a word is given
abbrev pub word_room : ℕ
word_room = longest_word + 1

-- exactly one token, of 1 to 32 bytes
abbrev pub is_word : Sizes → Bool
is_word z = eqb z.tokens 1 && ltb 0 z.first && leb z.first longest_word

-- the bytes before the first end of a token, at most n
unfoldable pub leading : ℕ → List Mark → List ℕ
leading zero ks = []
leading (suc n) [] = []
leading (suc n) (kept b ∷ ks) = b ∷ leading n ks
leading (suc n) (close ∷ ks) = []

-- the word that a value begins with: its first token, or as much of one that is too long for a word as the room holds
unfoldable pub word_of : List ℕ → List ℕ
word_of l = leading word_room (marks_from between l)
