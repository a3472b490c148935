-- Of the code: a line of a scenario, read to what it asks for.
use Rattle.std.specs.Prelude.{ℕ, ◌+◌, ◌-◌, ◌*◌, Bool, true, ◌&&◌, ◌||◌, Option, Some, None, List, [], eqb, leb, ltb, length, get_or}
use Rattle.std.specs.Option.{is_some, unwrap_or, option_map}
use Rattle.std.specs.List.{slice_get}
use Rattle.base.specs.Folds.{pick, every}
use Rattle.service.specs.Limits.{max_services}
use Rattle.load_text.specs.Strings.{bytes, same}
use Rattle.scenario_words.specs.Numbers.{number_of}
use Rattle.scenario_lines.specs.declared.Command.{Command}
use Rattle.scenario_lines.specs.declared.Verb.{Verb}
use Rattle.scenario_lines.specs.declared.Verb.TheVariants.{Load, LoadNone, LoadAt, Nothing, Begin, AddLine, AddPiece}
use Rattle.scenario_lines.specs.Forms.{forms, named_verbs, word_of, word_count, value_at, begins_as, form_of, read_form}

-- a verb with no numbers
abbrev pub plain : Verb → Command
plain v = record { verb = v; first = 0; last = 0 }

-- "1 to 70 numbers": two for each service, and of three services more than a set may have
abbrev pub most_positions : ℕ
most_positions = 2 * (max_services + 3)

-- the n words from the third on are numbers
abbrev pub are_numbers : List ℕ → ℕ → Bool
are_numbers l n = every (λ k. is_some (number_of (word_of l (k + 2)))) n

-- the form of a load
abbrev pub load_form : List ℕ
unfolding bytes
load_form = bytes "load #65536"

-- "load ROOM P P ..", with the room and the number of positions
abbrev pub read_load : List ℕ → Option Command
read_load l =
    let n = word_count l in
    pick (leb 3 n && leb n (most_positions + 2) && (begins_as load_form l 2 && are_numbers l (n - 2)))
    (Some (record { verb = LoadAt; first = unwrap_or (value_at load_form l 1) 0; last = n - 2 })) None

-- a line that is separated into words: it fits a form, or is a load with positions
abbrev pub read_found : List (List ℕ) → List ℕ → Option ℕ → Option Command
read_found fs l (Some k) = option_map (read_form (get_or fs k []) l) (slice_get named_verbs k)
read_found fs l None = read_load l

abbrev pub read_parted : List (List ℕ) → List ℕ → Option Command
read_parted forms l = read_found forms l (form_of forms l)

-- "A line of no bytes, and a line that begins with `%`, says nothing"; "service NAME"; "|TEXT"; "!TEXT"
unfoldable pub opening_of : List ℕ → Option Verb
unfolding bytes
opening_of l =
    let byte = get_or l 0 0 in
    pick (eqb (length l) 0 || eqb byte 37) (Some Nothing)
    (pick (same (word_of l 0) (bytes "service") && ltb 1 (word_count l)) (Some Begin)
    (pick (eqb byte 124) (Some AddLine) (pick (eqb byte 33) (Some AddPiece) None)))

-- a line by itself: its opening decides it, or its words
abbrev pub read_opened : List (List ℕ) → List ℕ → Option Verb → Option Command
read_opened fs l (Some verb) = Some (plain verb)
read_opened fs l None = read_parted fs l

abbrev pub read_any : List (List ℕ) → List ℕ → Option Command
read_any forms l = read_opened forms l (opening_of l)

-- "a line that comes before what it needs (`|` or `!` before a `service`; `show`, `state`, `set`, `table` or a call with no
-- set loaded)"
abbrev pub has_needed : Verb → Bool → Bool → Bool
has_needed AddLine begun loaded = begun
has_needed AddPiece begun loaded = begun
has_needed Load begun loaded = true
has_needed LoadNone begun loaded = true
has_needed LoadAt begun loaded = true
has_needed Nothing begun loaded = true
has_needed Begin begun loaded = true
has_needed _ begun loaded = loaded

-- a line that has what it needs
abbrev pub needed : Bool → Bool → Option Command → Option Command
needed begun loaded (Some c) = pick (has_needed c.verb begun loaded) (Some c) None
needed begun loaded None = None

abbrev pub read_after : List (List ℕ) → List ℕ → Bool → Bool → Option Command
read_after forms l begun loaded = needed begun loaded (read_any forms l)

-- what a line asks for, after a service was begun or not, and with a set loaded or not; there is none where it is bad
abbrev pub command_of : List ℕ → Bool → Bool → Option Command
command_of l begun loaded = read_after forms l begun loaded
