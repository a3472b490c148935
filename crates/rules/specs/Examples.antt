-- Of the code: further cases computed over the definitions, in one table with one statement: the lone reader's falls, what a user's stop does to
-- those above, the refusals in the order of checks, the query; and a run with its lent places.
use Rattle.std.specs.Prelude.{ℕ, false, true, List, [], ◌++◌, ◌∷◌, ◌≡◌, refl, Some, None}
use Rattle.base.specs.Folds.{every, first, some}
use Rattle.base.specs.Links.{cyclic, reach}
use Rattle.base.specs.Sets.{has_bit, within}
use Rattle.service.specs.Records.{fresh_state, record_at, with_record}
use Rattle.service.specs.Numbers.{settings_from}
use Rattle.service.specs.Settings.{process, settings_at}
use Rattle.service.specs.declared.Action.TheVariants.{Launch, Moved, Quiet, Signal}
use Rattle.service.specs.declared.Signal.TheVariants.{Term}
use Rattle.service.specs.declared.State.{State}
use Rattle.service.specs.declared.Table.{Table}
use Rattle.rules.specs.Calls.{Answer, Call, acted, check, clock, done, end, next, outcome, query, ran, refused, run, start, stop, stop_all, told}
use Rattle.rules.specs.Dependencies.{all_links, blocked, depends, hard, hard_links, needed, soft, strong, strong_links}
use Rattle.rules.specs.Events.{after_clock, after_end, after_start, after_stop, after_stop_all, each, ended_as, start_reaches}
use Rattle.rules.specs.Readings.{lone, scripts}
use Rattle.rules.specs.Rules.{act, act_on, chosen, chosen_from, due, fits, hands, leaves, lost_to_user, next_action}
use Rattle.rules.specs.Runs.{action_after, earliest, state_after, steps_to_quiet, written, written_actions, written_services}
use Rattle.rules.specs.WellFormed.{formed, shaped_at, state_formed, table_formed}
use Rattle.rules.specs.Worked.{AllGiven, Played, answers, pair, played, table_of}

-- ---- "A lone wanted reader, restart yes, launched at 0 and falling at 10,000, 20,000, 30,000 is launched again"

abbrev falls : List Call
falls =
    start 0 ∷ next ∷ next ∷ clock 10000 ∷ end 0 false ∷ next ∷ next ∷ next ∷ clock 20000 ∷ end 0 false ∷ next ∷ next ∷ next ∷ clock 30000 ∷ end 0 false ∷ next ∷ next ∷ next ∷ []

abbrev again : List Answer
again =
    done ∷ acted (Moved 0) ∷ acted (Launch 0) ∷ done ∷ done ∷ acted (Moved 0) ∷ acted (Moved 0) ∷ acted (Launch 0) ∷ done ∷ done ∷ acted (Moved 0) ∷ acted (Moved 0) ∷ acted (Launch 0)
    ∷ done ∷ done ∷ acted (Moved 0) ∷ acted (Moved 0) ∷ acted (Launch 0) ∷ []

-- "a fourth fall at 40,000 sets it aside"
abbrev fourth_fall_aside : Played
fourth_fall_aside =
    played lone
    (falls ++ (clock 40000 ∷ end 0 false ∷ next ∷ next ∷ []))
    (again ++ (done ∷ done ∷ acted (Moved 0) ∷ acted Quiet ∷ []))

-- "at 100,000 it doesn't"
abbrev fourth_fall_later : Played
fourth_fall_later =
    played lone
    (falls ++ (clock 100000 ∷ end 0 false ∷ next ∷ next ∷ next ∷ []))
    (again ++ (done ∷ done ∷ acted (Moved 0) ∷ acted (Moved 0) ∷ acted (Launch 0) ∷ []))

-- ---- a user's stop, and those above

-- "cause user if one such has user": the averager above a stopped reader ends by the user's will and does not wake again
abbrev stop_spreads : Played
stop_spreads =
    played pair
    (start 1 ∷ next ∷ next ∷ next ∷ next ∷ stop 0 ∷ next ∷ next ∷ next ∷ end 1 false ∷ clock 50000 ∷ next ∷ end 0 false ∷ next ∷ [])
    (done ∷ acted (Moved 1) ∷ acted (Moved 0) ∷ acted (Launch 0) ∷ acted (Launch 1) ∷ done ∷ acted (Moved 1) ∷ acted (Signal 1 Term) ∷ acted Quiet
    ∷ done ∷ done ∷ acted (Signal 0 Term) ∷ done ∷ acted Quiet ∷ [])

abbrev chain : Table
chain = table_of (process 0 ∷ process 1 ∷ process 2 ∷ [])

-- 1 was wanted, and a user's stop below it has ended that: started later for 2 alone, it is released when 2 is stopped
abbrev stop_unwants : Played
stop_unwants =
    played chain
    (start 1 ∷ next ∷ next ∷ next ∷ next ∷ stop 0 ∷ next ∷ next ∷ end 1 false ∷ next ∷ end 0 false
    ∷ start 2 ∷ next ∷ next ∷ next ∷ next ∷ next ∷ next ∷ stop 2 ∷ next ∷ end 2 false ∷ next ∷ next ∷ [])
    (done ∷ acted (Moved 1) ∷ acted (Moved 0) ∷ acted (Launch 0) ∷ acted (Launch 1) ∷ done ∷ acted (Moved 1) ∷ acted (Signal 1 Term) ∷ done ∷ acted (Signal 0 Term) ∷ done
    ∷ done ∷ acted (Moved 2) ∷ acted (Moved 1) ∷ acted (Moved 0) ∷ acted (Launch 0) ∷ acted (Launch 1) ∷ acted (Launch 2)
    ∷ done ∷ acted (Signal 2 Term) ∷ done ∷ acted (Moved 1) ∷ acted (Signal 1 Term) ∷ [])

-- ---- "Event checks: 24, 20, 21; clock 24, 22, 23; next action and query 24; run to quiet 24, 25"

-- a table with a dependency past its last service
abbrev ill_formed : Table
ill_formed = table_of (process 2 ∷ [])

abbrev eight : List ℕ
eight = 7 ∷ 7 ∷ 7 ∷ 7 ∷ 7 ∷ 7 ∷ 7 ∷ 7 ∷ []

abbrev refusals : Played
refusals =
    played pair
    (start 2 ∷ stop 2 ∷ end 2 true ∷ end 0 true ∷ clock 281474976710657 ∷ clock 281474976710656 ∷ clock 281474976710655 ∷ run eight [] ∷ [])
    (refused 20 ∷ refused 20 ∷ refused 20 ∷ refused 21 ∷ refused 23 ∷ done ∷ refused 22 ∷ refused 25 ∷ [])

-- 24 comes before every other number
abbrev form_first : Played
form_first =
    played ill_formed
    (start 1 ∷ stop 1 ∷ stop_all ∷ end 1 true ∷ end 0 true ∷ clock 281474976710657 ∷ next ∷ query ∷ run [] [] ∷ [])
    (refused 24 ∷ refused 24 ∷ refused 24 ∷ refused 24 ∷ refused 24 ∷ refused 24 ∷ refused 24 ∷ refused 24 ∷ refused 24 ∷ [])

-- ---- the query

-- a fall at 1,000 is launched again at 2,000
abbrev query_restart : Played
query_restart =
    played lone
    (query ∷ start 0 ∷ next ∷ next ∷ clock 1000 ∷ end 0 false ∷ next ∷ query ∷ clock 2000 ∷ query ∷ [])
    (told None ∷ done ∷ acted (Moved 0) ∷ acted (Launch 0) ∷ done ∷ done ∷ acted (Moved 0) ∷ told (Some 2000) ∷ done ∷ told None ∷ [])

-- a scripted service started at 0 has until 10
abbrev query_timeout : Played
query_timeout = played scripts (start 0 ∷ next ∷ next ∷ query ∷ []) (done ∷ acted (Moved 0) ∷ acted (Launch 0) ∷ told (Some 10) ∷ [])

-- THE TABLE
abbrev pub examples : List Played
examples = fourth_fall_aside ∷ fourth_fall_later ∷ stop_spreads ∷ stop_unwants ∷ refusals ∷ form_first ∷ query_restart ∷ query_timeout ∷ []

-- THE STATEMENT
pub examples_hold : AllGiven examples
unfolding settings_from answers some every first has_bit within reach cyclic settings_at record_at with_record fresh_state hard_links strong_links all_links hard strong soft depends blocked needed table_formed shaped_at state_formed formed each start_reaches after_start after_stop after_stop_all ended_as after_end after_clock due fits lost_to_user leaves hands chosen_from chosen act act_on next_action state_after action_after steps_to_quiet written written_services written_actions earliest check outcome
examples_hold = (refl, (refl, (refl, (refl, (refl, (refl, (refl, (refl, tt))))))))

-- ---- a run, with what its slices hold then

abbrev started : State
started = (outcome pair fresh_state (start 1)).state

-- moved 1, moved 0, launch 0, launch 1, and the places past them as they were
pub run_fills : ((outcome pair started (run eight eight)).answer ≡ ran 4)
    × ((outcome pair started (run eight eight)).services ≡ (1 ∷ 0 ∷ 0 ∷ 1 ∷ 7 ∷ 7 ∷ 7 ∷ 7 ∷ []))
    × ((outcome pair started (run eight eight)).actions ≡ (0 ∷ 0 ∷ 1 ∷ 1 ∷ 7 ∷ 7 ∷ 7 ∷ 7 ∷ []))
unfolding answers some every first has_bit within reach cyclic settings_at record_at with_record fresh_state hard_links strong_links all_links hard strong soft depends blocked needed table_formed shaped_at state_formed formed each start_reaches after_start after_stop after_stop_all ended_as after_end after_clock due fits lost_to_user leaves hands chosen_from chosen act act_on next_action state_after action_after steps_to_quiet written written_services written_actions earliest check outcome
run_fills = (refl, refl, refl)
