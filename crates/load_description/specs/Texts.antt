-- Trusted: "each text in turn: 6 over the whole text, its lines, 13, 14"
use Rattle.std.specs.Prelude.{ℕ, ◌+◌, Bool, ◌&&◌, not, true, false, List, [], ◌∷◌, Result, Ok, Err, is_none, length}
use Rattle.base.specs.Folds.{pick}
use Rattle.service.specs.declared.Kind.{Kind}
use Rattle.service.specs.declared.Kind.TheVariants.{Internal, Process, Scripted}
use Rattle.load_text.specs.Lines.{fault, lines_of, bad_from}
use Rattle.load_text.specs.declared.Fault.{Fault}
use Rattle.load_text.specs.declared.Wrong.TheVariants.{NoCommand, NoType}
use Rattle.load_description.specs.declared.Description.{Description}
use Rattle.load_description.specs.declared.Effect.{Effect}
use Rattle.load_description.specs.Settings.{blank, affected}
use Rattle.load_description.specs.Lines.{line_read}

-- "a refusal met inside a line ends the whole load at once"
abbrev pub read_on : Result Effect Fault → Description → (Description → Result Description Fault) → Result Description Fault
read_on (Ok e) d on = on (affected d e)
read_on (Err f) d on = Err f

-- "process or scripted"
abbrev pub needs_command : Kind → Bool
needs_command Process = true
needs_command Scripted = true
needs_command Internal = false

-- 13 / 14: "no type / process or scripted without command"; they have no byte that decides
unfoldable pub completion : Description → Result (Unit {0}) Fault
completion d =
    pick (not d.typed) (Err (fault NoType 0))
    (pick (needs_command d.settings.kind && is_none d.kept.command) (Err (fault NoCommand 0)) (Ok tt))

-- what is read, if a check of it is good
abbrev pub checked : Result (Unit {0}) Fault → Result Description Fault → Result Description Fault
checked (Ok u) read = read
checked (Err f) read = Err f

-- the lines that are left, of which the first begins at the offset `from`
unfoldable pub lines_read : List ℕ → Description → ℕ → List (List ℕ) → Result Description Fault
lines_read text d from [] = checked (completion d) (Ok d)
lines_read text d from (l ∷ ls) =
    read_on (line_read text d from l) d (λ d'. lines_read text d' (from + length l + 1) ls)

-- the settings of a description, or its first fault by number and offset
unfoldable pub text_read : List ℕ → Result Description Fault
text_read text = checked (bad_from 0 text) (lines_read text blank 0 (lines_of text))
