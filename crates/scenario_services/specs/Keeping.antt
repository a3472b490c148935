-- Of the code: what is kept of the services that a scenario gives: their names and texts one after the other, and where each ends.
use Rattle.std.specs.Prelude.{ℕ, ◌+◌, ◌-◌, ◌*◌, ◌&&◌, List, leb, ltb, length, take, drop, set, replicate}
use Rattle.std.proofs.lemmas.List.Edits.{sets}
use Rattle.base.specs.Folds.{pick}
use Rattle.service.specs.Limits.{max_services}
use Rattle.load_text.specs.Lines.{line_of}
use Rattle.load_text.specs.Bytes.{longest_name}
use Rattle.load_lent.specs.Checks.{longest_text}
use Rattle.scenario_lines.specs.declared.Verb.{Verb}
use Rattle.scenario_lines.specs.declared.Verb.TheVariants.{Begin, AddLine, AddPiece}
use Rattle.scenario_lines.specs.Lines.{most_positions}
use Rattle.scenario_services.specs.declared.Given.{Given}

-- one more than is allowed of each, so that a load sees what is too much
abbrev pub kept_services : ℕ
kept_services = max_services + 1

abbrev pub kept_name : ℕ
kept_name = longest_name + 1

abbrev pub kept_text : ℕ
kept_text = longest_text + 1

-- the room for all that is kept
abbrev pub room : ℕ
room = kept_services * (kept_name + kept_text)

-- nothing was given
abbrev pub nothing_given : Given
nothing_given = record { begun = 0; bytes = 0; text = 0; buffer = replicate room 0; positions = replicate (most_positions + 2 * kept_services) 0 }

-- the first of these bytes, as far as they fit from a place on
abbrev pub fitting : ℕ → List ℕ → List ℕ
fitting at bs = take (room - at) bs

-- bytes more are kept, as far as they fit
abbrev pub kept : List ℕ → Given → Given
kept bs h =
    let fs = fitting h.bytes bs in
    record h { bytes = h.bytes + length fs; buffer = sets h.buffer h.bytes fs }

-- the places of the ends of service n, which stand after those of a load's own positions
abbrev pub name_end : ℕ → ℕ
name_end n = most_positions + 2 * n

abbrev pub text_end : ℕ → ℕ
text_end n = most_positions + 1 + 2 * n

-- a service more: its name ends where it was kept to, and so does its text; one too many is only counted
abbrev pub after_name : List ℕ → Given → Given
after_name name h =
    let n = h.begun in
    let k = kept (take kept_name name) h in
    pick (ltb n kept_services)
    (record k { begun = n + 1; text = 0; positions = set (set h.positions (name_end n) k.bytes) (text_end n) k.bytes })
    (record h { begun = kept_services + 1; text = 0 })

-- a piece more of the text of the last service, which then ends later
abbrev pub after_text : List ℕ → Given → Given
after_text added h =
    let n = h.begun in
    let few = take (kept_text - h.text) added in
    let k = kept few h in
    pick (leb 1 n && leb n kept_services && ltb h.text kept_text)
    (record k { text = h.text + length few; positions = set h.positions (text_end (n - 1)) k.bytes })
    h

-- "service NAME"; "|TEXT", with the newline that ends the line; "!TEXT", without it
abbrev pub after_line : Verb → List ℕ → Given → Given
after_line Begin line h = after_name (drop 8 (line_of line)) h
after_line AddLine line h = after_text (drop 1 line) h
after_line AddPiece line h = after_text (drop 1 (line_of line)) h
after_line _ line h = h
