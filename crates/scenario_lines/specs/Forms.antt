-- Of the code: what a line of a scenario may be, as forms, and how a line fits one.
use Rattle.std.specs.Prelude.{ℕ, ◌-◌, Bool, ◌&&◌, Option, List, [], ◌∷◌, map, eqb, ltb, length, get_or, drop}
use Rattle.std.specs.Option.{is_some, unwrap_or}
use Rattle.std.specs.List.{slice_get}
use Prim.Native.String.{String}
use Rattle.base.specs.Folds.{pick, every, first}
use Rattle.service.specs.Limits.{max_services}
use Rattle.load_text.specs.Strings.{bytes, same, index_from}
use Rattle.scenario_words.specs.Numbers.{read_if, number_of, number_to}
use Rattle.scenario_words.specs.Pieces.{piece_of, piece_count, place_of}
use Rattle.scenario_lines.specs.declared.Command.{Command}
use Rattle.scenario_lines.specs.declared.Verb.{Verb}
use Rattle.scenario_lines.specs.declared.Verb.TheVariants.{Next, Run, RunIn, Start, Stop, StopAll, End, Clock, Query, State, Show, SetClock, SetRecord, SetCount, SetTable, Load, LoadNone}

-- A form gives the words of a line: # stands for a number, #256 for one up to 256, #service for one that a service may have, and | separates
-- the words of which a line has one. The lines that fit it have its verb.
pub record Form : Type 0 where
  pub words : String
  pub verb : Verb

abbrev pub formed : List Form
formed =
    record { words = "next"; verb = Next } ∷
    record { words = "run"; verb = Run } ∷
    record { words = "run #256 #256"; verb = RunIn } ∷
    record { words = "start #"; verb = Start } ∷
    record { words = "stop #"; verb = Stop } ∷
    record { words = "stop-all"; verb = StopAll } ∷
    record { words = "end # bad|good"; verb = End } ∷
    record { words = "clock #"; verb = Clock } ∷
    record { words = "query"; verb = Query } ∷
    record { words = "state"; verb = State } ∷
    record { words = "show"; verb = Show } ∷
    record { words = "set clock #"; verb = SetClock } ∷
    record { words = "set #service phase down|waiting|starting|up|ending"; verb = SetRecord 0 } ∷
    record { words = "set #service wanted 0|1"; verb = SetRecord 1 } ∷
    record { words = "set #service aside 0|1"; verb = SetRecord 2 } ∷
    record { words = "set #service live 0|1"; verb = SetRecord 3 } ∷
    record { words = "set #service cause none|user|released|fell|failed"; verb = SetRecord 4 } ∷
    record { words = "set #service deadline none"; verb = SetRecord 5 } ∷
    record { words = "set #service deadline #"; verb = SetRecord 6 } ∷
    record { words = "set #service killed 0|1"; verb = SetRecord 7 } ∷
    record { words = "set #service not-before #"; verb = SetRecord 8 } ∷
    record { words = "set #service last-launch #"; verb = SetRecord 9 } ∷
    record { words = "set #service window-start #"; verb = SetRecord 10 } ∷
    record { words = "set #service restarts #"; verb = SetRecord 11 } ∷
    record { words = "table count #"; verb = SetCount } ∷
    record { words = "table #service restart-delay #"; verb = SetTable 0 } ∷
    record { words = "table #service restart-limit-interval #"; verb = SetTable 1 } ∷
    record { words = "table #service restart-limit-count #"; verb = SetTable 2 } ∷
    record { words = "table #service start-timeout #"; verb = SetTable 3 } ∷
    record { words = "table #service stop-timeout #"; verb = SetTable 4 } ∷
    record { words = "table #service depends-on #"; verb = SetTable 5 } ∷
    record { words = "table #service depends-ms #"; verb = SetTable 6 } ∷
    record { words = "table #service waits-for #"; verb = SetTable 7 } ∷
    record { words = "load #65536"; verb = Load } ∷
    record { words = "load #65536 -"; verb = LoadNone } ∷
    []

unfoldable pub forms : List (List ℕ)
unfolding bytes
forms = map (λ f. bytes f.words) formed

-- the verbs of the forms, in their order
abbrev pub named_verbs : List Verb
named_verbs = map (λ f. f.verb) formed

-- the verb of the lines that fit a form
abbrev pub verb_of : String → Option Verb
verb_of form = slice_get named_verbs (index_from (bytes form) 0 forms)

-- how many they are
abbrev pub form_count : ℕ
form_count = 35

-- docs/SCENARIO.md: the words of a line are separated by exactly one space
abbrev pub word_of : List ℕ → ℕ → List ℕ
word_of l k = piece_of l 32 k

abbrev pub word_count : List ℕ → ℕ
word_count l = piece_count l 32

-- the most that a number may be where a form has the word f
unfoldable pub most_of : List ℕ → ℕ
unfolding bytes
most_of f =
    pick (same f (bytes "#service")) (max_services - 1)
    (unwrap_or (number_of (drop 1 f)) 18446744073709551615)

-- the number that the word w is where a form has the word f: a number, or its place among the choices
abbrev pub value_of : List ℕ → List ℕ → Option ℕ
value_of f w = pick (eqb (get_or f 0 0) 35) (number_to w (most_of f)) (place_of f 124 w)

abbrev pub value_at : List ℕ → List ℕ → ℕ → Option ℕ
value_at form l k = value_of (word_of form k) (word_of l k)

-- the first n words of a line fit those of a form
abbrev pub begins_as : List ℕ → List ℕ → ℕ → Bool
begins_as form l n = every (λ k. is_some (value_at form l k)) n

abbrev pub fits_form : List ℕ → List ℕ → Bool
fits_form form l = eqb (word_count l) (word_count form) && begins_as form l (word_count form)

-- the place of the first of the forms that a line fits
abbrev pub form_of : List (List ℕ) → List ℕ → Option ℕ
form_of forms l =
    let n = length forms in
    let k = first (λ k. fits_form (get_or forms k []) l) n in
    read_if (ltb k n) k

-- a line that fits a form, with the numbers of its second word and of its last; what is not there is 0
abbrev pub read_form : List ℕ → List ℕ → Verb → Command
read_form form l verb =
    record {
      verb = verb;
      first = unwrap_or (value_at form l 1) 0;
      last = unwrap_or (value_at form l (word_count form - 1)) 0;
    }
