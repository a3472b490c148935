-- Of the code: the forms are as many as said, and stand where it is said; worked examples of lines, in one table with one statement.
use Rattle.std.specs.Prelude.{ℕ, Bool, true, false, Option, Some, None, ◌≡◌, refl, List, [], ◌∷◌, map, length}
use Prim.Native.String.{String}
use Rattle.base.specs.Folds.{every, first}
use Rattle.service.specs.Numbers.{cause_number, phase_number}
use Rattle.service.specs.declared.Cause.TheVariants.{Failed, Released}
use Rattle.service.specs.declared.Phase.TheVariants.{Ending, Starting}
use Rattle.load_text.specs.Strings.{bytes, same, index_from}
use Rattle.scenario_words.specs.Pieces.{pieces_of, place_of}
use Rattle.scenario_lines.specs.declared.Command.{Command}
use Rattle.scenario_lines.specs.declared.Verb.{Verb}
use Rattle.scenario_lines.specs.declared.Verb.TheVariants.{Next, Run, RunIn, Start, Stop, StopAll, End, Clock, Query, State, Show, SetClock, SetRecord, SetCount, SetTable, Load, LoadNone, LoadAt, Nothing, Begin, AddLine, AddPiece}
use Rattle.scenario_lines.specs.Forms.{forms, verb_of, form_count, most_of}
use Rattle.scenario_lines.specs.Lines.{opening_of, command_of}

pub forms_counted : length forms ≡ form_count
unfolding bytes forms
forms_counted = refl

-- the verbs are those of their forms; of those that set a record or a table's settings the first and the last
pub verbs_stand : map verb_of (
    "next" ∷
    "run" ∷
    "run #256 #256" ∷
    "start #" ∷
    "stop #" ∷
    "stop-all" ∷
    "end # bad|good" ∷
    "clock #" ∷
    "query" ∷
    "state" ∷
    "show" ∷
    "set clock #" ∷
    "set #service phase down|waiting|starting|up|ending" ∷
    "set #service restarts #" ∷
    "table count #" ∷
    "table #service restart-delay #" ∷
    "table #service waits-for #" ∷
    "load #65536" ∷
    "load #65536 -" ∷
    []) ≡ map (λ v. Some v) (Next ∷ Run ∷ RunIn ∷ Start ∷ Stop ∷ StopAll ∷ End ∷ Clock ∷ Query ∷ State ∷ Show ∷ SetClock ∷ SetRecord 0 ∷ SetRecord 11 ∷ SetCount ∷ SetTable 0 ∷ SetTable 7 ∷ Load ∷ LoadNone ∷ [])
unfolding bytes index_from same forms
verbs_stand = refl

-- a line, whether a service was begun and a set loaded before it, and what it asks for
pub record Example : Type 0 where
  pub line : String
  pub begun : Bool
  pub loaded : Bool
  pub is : Option Command

-- the verb with these two numbers
abbrev pub asks : Verb → ℕ → ℕ → Option Command
asks v a b = Some (record { verb = v; first = a; last = b })

abbrev pub examples : List Example
examples =
    record { line = "next"; begun = true; loaded = true; is = asks Next 0 0 } ∷
    record { line = "next"; begun = true; loaded = false; is = None } ∷
    record { line = "next "; begun = true; loaded = true; is = None } ∷
    record { line = "run 256 4"; begun = true; loaded = true; is = asks RunIn 256 4 } ∷
    record { line = "run 257 4"; begun = true; loaded = true; is = None } ∷
    record { line = "end 1 good"; begun = true; loaded = true; is = asks End 1 1 } ∷
    record { line = "set 3 phase starting"; begun = true; loaded = true; is = asks (SetRecord 0) 3 (phase_number Starting) } ∷
    record { line = "set 3 phase ending"; begun = true; loaded = true; is = asks (SetRecord 0) 3 (phase_number Ending) } ∷
    record { line = "set 3 cause released"; begun = true; loaded = true; is = asks (SetRecord 4) 3 (cause_number Released) } ∷
    record { line = "set 3 cause failed"; begun = true; loaded = true; is = asks (SetRecord 4) 3 (cause_number Failed) } ∷
    record { line = "set 3 deadline none"; begun = true; loaded = true; is = asks (SetRecord 5) 3 0 } ∷
    record { line = "set 3 deadline 0070"; begun = true; loaded = true; is = asks (SetRecord 6) 3 70 } ∷
    record { line = "set 4096 deadline none"; begun = true; loaded = true; is = None } ∷
    record { line = "load 40"; begun = false; loaded = false; is = asks Load 40 40 } ∷
    record { line = "load 40 -"; begun = false; loaded = false; is = asks LoadNone 40 0 } ∷
    record { line = "load 40 3 9"; begun = false; loaded = false; is = asks LoadAt 40 2 } ∷
    record { line = "load 40 3 x"; begun = false; loaded = false; is = None } ∷
    record { line = "load 65537 3 9"; begun = false; loaded = false; is = None } ∷
    record { line = ""; begun = false; loaded = false; is = asks Nothing 0 0 } ∷
    record { line = "% next"; begun = false; loaded = false; is = asks Nothing 0 0 } ∷
    record { line = "service "; begun = false; loaded = false; is = asks Begin 0 0 } ∷
    record { line = "service"; begun = true; loaded = true; is = None } ∷
    record { line = "|type = internal"; begun = true; loaded = false; is = asks AddLine 0 0 } ∷
    record { line = "!x"; begun = true; loaded = false; is = asks AddPiece 0 0 } ∷
    record { line = "!x"; begun = false; loaded = true; is = None } ∷
    []

pub examples_hold : map (λ e. command_of (bytes e.line) e.begun e.loaded) examples ≡ map (λ e. e.is) examples
unfolding every first bytes same pieces_of place_of forms most_of opening_of
examples_hold = refl
