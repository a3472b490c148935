-- Trusted: a refusal as the load answers it: bare, or a fault met in the text of a service, with its line and column where it has them.
use Rattle.std.specs.Prelude.{ℕ, eqb, leb, Bool, ◌&&◌, ◌||◌, List, Result, Ok, Err}
use Rattle.base.specs.Folds.{pick}
use Rattle.load_text.specs.Lines.{column_number, line_number}
use Rattle.load_text.specs.Numbers.{wrong_number}
use Rattle.load_text.specs.declared.Fault.{Fault}
use Rattle.load_lent.specs.declared.Refused.{Refused}

-- what a check of a set answers: accepted, or what refuses it
abbrev pub Answer : Type 0
Answer = Result (Unit {0}) Refused

-- a refusal that has no line: "column 0 where there is none"
abbrev pub bare : ℕ → ℕ → Refused
bare n s = record { number = n; service = s; line = 0; column = 0 }

-- W-201: "met in a text (6 to 12)": one byte of the text decided it
abbrev pub has_byte : ℕ → Bool
has_byte n = leb 6 n && leb n 12

-- "line 0 outside 6 to 12 and 15"
abbrev pub line_at : List ℕ → ℕ → ℕ → ℕ
line_at text n at = pick (has_byte n || eqb n 15) (line_number text at) 0

abbrev pub line_of_fault : List ℕ → Fault → ℕ
line_of_fault text f = line_at text (wrong_number f.wrong) f.at

-- W-201: "the column, from 1, of the byte that decided it", "and 15 carries 1"
abbrev pub column_at : List ℕ → ℕ → ℕ → ℕ
column_at text n at = pick (has_byte n) (column_number text at) (pick (eqb n 15) 1 0)

abbrev pub column_of_fault : List ℕ → Fault → ℕ
column_of_fault text f = column_at text (wrong_number f.wrong) f.at

-- a fault met in the text of service j, by its number, whichever it is
abbrev pub refused_at : List ℕ → ℕ → ℕ → ℕ → Refused
refused_at text j n at = record { number = n; service = j; line = line_at text n at; column = column_at text n at }

-- and by what is wrong
abbrev pub refused_in : List ℕ → ℕ → Fault → Refused
refused_in text j f = refused_at text j (wrong_number f.wrong) f.at

-- the way on in the text of service j: a fault in it refuses the set
abbrev pub in_text : {A B : Type 0} → List ℕ → ℕ → Result A Fault → (A → Result B Refused) → Result B Refused
in_text text j (Ok x) on = on x
in_text text j (Err f) on = Err (refused_in text j f)
