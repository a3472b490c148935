-- Of the code: "Readings that look right and are wrong": for each a case that the wrong reading fails. One table, one statement.
use Rattle.std.specs.Prelude.{ℕ, false, true, List, [], ◌∷◌, refl}
use Rattle.base.specs.Folds.{every, first, some}
use Rattle.base.specs.Links.{cyclic, reach}
use Rattle.base.specs.Sets.{has_bit, within}
use Rattle.service.specs.Records.{fresh_state, record_at, with_record}
use Rattle.service.specs.Numbers.{settings_from, with_number}
use Rattle.service.specs.Settings.{defaults_with, process, settings_at}
use Rattle.service.specs.declared.Action.TheVariants.{Launch, Moved, Quiet, Signal}
use Rattle.service.specs.declared.Kind.TheVariants.{Scripted}
use Rattle.service.specs.declared.Settings.{Settings}
use Rattle.service.specs.declared.Signal.TheVariants.{Int, Term}
use Rattle.service.specs.declared.Table.{Table}
use Rattle.rules.specs.Calls.{acted, check, clock, done, end, next, outcome, start, stop}
use Rattle.rules.specs.Dependencies.{all_links, blocked, depends, hard, hard_links, needed, soft, strong, strong_links}
use Rattle.rules.specs.Events.{after_clock, after_end, after_start, after_stop, after_stop_all, each, ended_as, start_reaches}
use Rattle.rules.specs.Rules.{act, act_on, chosen, chosen_from, due, fits, hands, leaves, lost_to_user, next_action}
use Rattle.rules.specs.WellFormed.{formed, shaped_at, state_formed, table_formed}
use Rattle.rules.specs.Worked.{AllGiven, Played, answers, pair, played, table_of}

-- a scripted service that has ten units to start
abbrev script : ℕ → Settings
script h = with_number 6 10 (with_number 5 10 (defaults_with Scripted false h))

abbrev pub scripts : Table
scripts = table_of (script 0 ∷ script 1 ∷ [])

-- a reader, and two averagers on it
abbrev pub three : Table
three = table_of (process 0 ∷ process 1 ∷ process 1 ∷ [])

abbrev pub lone : Table
lone = table_of (process 0 ∷ [])

-- "Launching the reader again while the averager lives": it is not launched before the averager has ended
abbrev reader_waits : Played
reader_waits =
    played pair
    (start 1 ∷ next ∷ next ∷ next ∷ next ∷ clock 50000 ∷ end 0 false ∷ next ∷ next ∷ next ∷ [])
    (done ∷ acted (Moved 1) ∷ acted (Moved 0) ∷ acted (Launch 0) ∷ acted (Launch 1) ∷ done ∷ done ∷ acted (Moved 1) ∷ acted (Signal 1 Term) ∷ acted Quiet ∷ [])

-- "The start timeout .. runs from launch": 1 waits from 0 on, is launched at 5 and has until 15
abbrev timeout_from_launch : Played
timeout_from_launch =
    played scripts
    (start 1 ∷ next ∷ next ∷ next ∷ clock 5 ∷ end 0 true ∷ next ∷ clock 14 ∷ next ∷ clock 15 ∷ next ∷ [])
    (done ∷ acted (Moved 1) ∷ acted (Moved 0) ∷ acted (Launch 0) ∷ done ∷ done ∷ acted (Launch 1) ∷ done ∷ acted Quiet ∷ done ∷ acted (Signal 1 Int) ∷ [])

-- "Restarting after a user's stop": a stopped reader stays down, restart or not
abbrev stop_inhibits : Played
stop_inhibits =
    played lone
    (start 0 ∷ next ∷ next ∷ stop 0 ∷ next ∷ end 0 false ∷ clock 50000 ∷ next ∷ [])
    (done ∷ acted (Moved 0) ∷ acted (Launch 0) ∷ done ∷ acted (Signal 0 Term) ∷ done ∷ done ∷ acted Quiet ∷ [])

-- "Releasing a dependency before its fallen dependent wakes (rule 5 before 4)": the pair up, the averager ends, and the reader
-- is not released
abbrev reader_kept : Played
reader_kept =
    played pair
    (start 1 ∷ next ∷ next ∷ next ∷ next ∷ clock 50000 ∷ end 1 false ∷ next ∷ next ∷ next ∷ next ∷ [])
    (done ∷ acted (Moved 1) ∷ acted (Moved 0) ∷ acted (Launch 0) ∷ acted (Launch 1) ∷ done ∷ done ∷ acted (Moved 1) ∷ acted (Moved 1) ∷ acted (Launch 1) ∷ acted Quiet ∷ [])

-- "Treating a closing dependency as up": 0 is stopped while 1 lives, and 2, started then, is not launched on it
abbrev closing_not_up : Played
closing_not_up =
    played three
    (start 1 ∷ next ∷ next ∷ next ∷ next ∷ stop 0 ∷ start 2 ∷ next ∷ next ∷ next ∷ next ∷ [])
    (done ∷ acted (Moved 1) ∷ acted (Moved 0) ∷ acted (Launch 0) ∷ acted (Launch 1) ∷ done ∷ done ∷ acted (Moved 1) ∷ acted (Moved 2) ∷ acted (Signal 1 Term) ∷ acted Quiet ∷ [])

-- THE TABLE
abbrev pub readings : List Played
readings = reader_waits ∷ timeout_from_launch ∷ stop_inhibits ∷ reader_kept ∷ closing_not_up ∷ []

-- THE STATEMENT
pub readings_hold : AllGiven readings
unfolding settings_from answers some every first has_bit within reach cyclic settings_at record_at with_record fresh_state hard_links strong_links all_links hard strong soft depends blocked needed table_formed shaped_at state_formed formed each start_reaches after_start after_stop after_stop_all ended_as after_end after_clock due fits lost_to_user leaves hands chosen_from chosen act act_on next_action check outcome
readings_hold = (refl, (refl, (refl, (refl, (refl, tt)))))
