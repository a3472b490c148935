-- Of the code: numbers in and out, computed: the pair of paper 01 and the fresh state as numbers, a start, a refusal, the next action, quiet and a
-- query; and numbers that stand for nothing.
use Rattle.std.specs.Prelude.{ℕ, ◌+◌, ◌-◌, ◌*◌, List, [], ◌∷◌, ◌++◌, ◌≡◌, None, Some, Ok, Err, refl, replicate, set}
use Rattle.base.specs.Folds.{every, first, some}
use Rattle.base.specs.Links.{cyclic, reach}
use Rattle.base.specs.Sets.{has_bit, within}
use Rattle.service.specs.Limits.{max_services}
use Rattle.service.specs.Records.{record_at, with_record}
use Rattle.service.specs.Settings.{settings_at}
use Rattle.rules.specs.Calls.{check, next, outcome, query, run}
use Rattle.rules.specs.Dependencies.{all_links, blocked, depends, hard, hard_links, needed, soft, strong, strong_links}
use Rattle.rules.specs.Events.{after_clock, after_start, each, start_reaches}
use Rattle.rules.specs.Rules.{act, act_on, chosen, chosen_from, due, fits, hands, leaves, lost_to_user, next_action}
use Rattle.rules.specs.Runs.{earliest}
use Rattle.rules.specs.WellFormed.{formed, shaped_at, state_formed, table_formed}
use Rattle.service.specs.Numbers.{settings_from}
use Rattle.plain_encoding.specs.Meaning.{is_record, is_settings, is_state, is_table, stand_as}
use Rattle.plain_encoding.specs.Numbers.{all_numbers, per_place, place_of, record_from, state_numbers, state_of, table_of}
use Rattle.plain.specs.Calls.{asked_of, call_of, event_of, next_of, numbers_after, on}
use Rattle.plain.specs.Loads.{counted, load_of}
use Rattle.plain.specs.declared.forms.Event.TheVariants.{Start, Clock}

-- the fresh state in numbers
abbrev fresh : List ℕ
fresh = replicate all_numbers 0

-- "0 reader, process; 1 averager, process, hard on 0; both restart"
abbrev process_numbers : ℕ → List ℕ
process_numbers hard = 0 ∷ 1 ∷ 2000 ∷ 100000 ∷ 3 ∷ 600000 ∷ 100000 ∷ 3 ∷ hard ∷ 0 ∷ 0 ∷ 0 ∷ 0 ∷ 0 ∷ 0 ∷ 0 ∷ []

abbrev pair_numbers : List ℕ
pair_numbers = 2 ∷ 0 ∷ (process_numbers 0 ++ process_numbers 1 ++ replicate (per_place * (max_services - 2)) 0)

-- service 1 wanted: its second number
abbrev wanted : List ℕ
wanted = set fresh (place_of 1 + 1) 1

-- there is no service 2: the number of the refusal, and the numbers as they were
pub start_refused : (event_of (on pair_numbers fresh (call_of (Start 2))).answer ≡ Err 20)
    × (numbers_after fresh (on pair_numbers fresh (call_of (Start 2))) ≡ fresh)
unfolding some every first has_bit within reach cyclic settings_at record_at with_record hard_links strong_links all_links hard strong soft depends blocked needed table_formed shaped_at state_formed formed each start_reaches after_start after_clock due fits lost_to_user leaves hands chosen_from chosen act act_on next_action earliest check outcome state_numbers state_of record_from table_of settings_from stand_as is_record is_settings is_state is_table
start_refused = (refl, refl)

-- "Start 1: moved 1", which is then waiting; its phase is its first number, and the clock the first of all
pub start_done : (event_of (on pair_numbers fresh (call_of (Start 1))).answer ≡ Ok tt)
    × (numbers_after fresh (on pair_numbers fresh (call_of (Start 1))) ≡ wanted)
    × (next_of (on pair_numbers wanted next).answer ≡ Ok (Some (record { service = 1; action = 0 })))
    × (numbers_after wanted (on pair_numbers wanted next) ≡ set wanted (place_of 1) 1)
    × (numbers_after wanted (on pair_numbers wanted (call_of (Clock 50000))) ≡ set wanted 0 50000)
unfolding some every first has_bit within reach cyclic settings_at record_at with_record hard_links strong_links all_links hard strong soft depends blocked needed table_formed shaped_at state_formed formed each start_reaches after_start after_clock due fits lost_to_user leaves hands chosen_from chosen act act_on next_action earliest check outcome state_numbers state_of record_from table_of settings_from stand_as is_record is_settings is_state is_table
start_done = (refl, refl, refl, refl, refl)

-- nothing is wanted: quiet, with no earliest time; and a table of more than the most services is refused
pub quiet_told : (next_of (on pair_numbers fresh next).answer ≡ Ok None)
    × (asked_of (on pair_numbers fresh query).answer ≡ Ok None)
    × (asked_of (on (set pair_numbers 0 (max_services + 1)) fresh query).answer ≡ Err 24)
unfolding some every first has_bit within reach cyclic settings_at record_at with_record hard_links strong_links all_links hard strong soft depends blocked needed table_formed shaped_at state_formed formed each start_reaches after_start after_clock due fits lost_to_user leaves hands chosen_from chosen act act_on next_action earliest check outcome state_numbers state_of record_from table_of settings_from stand_as is_record is_settings is_state is_table
quiet_told = (refl, refl, refl)

-- numbers that stand for nothing: a phase of 77, a flag of 2, a number where none is used, and a type past the last at the last place. The call
-- is refused with 24 before all else, and leaves the numbers and the lent slices as they were
abbrev nowhere : List ℕ
nowhere = set fresh (place_of 1) 77

pub nothing_told : (event_of (on pair_numbers nowhere (call_of (Start 1))).answer ≡ Err 24)
    × (numbers_after nowhere (on pair_numbers nowhere (call_of (Start 1))) ≡ nowhere)
    × (event_of (on pair_numbers nowhere (call_of (Start 2))).answer ≡ Err 24)
    × (next_of (on pair_numbers (set fresh (place_of 0 + 1) 2) next).answer ≡ Err 24)
    × (asked_of (on pair_numbers (set fresh (place_of 0 + (per_place - 1)) 1) query).answer ≡ Err 24)
    × (asked_of (on (set pair_numbers (place_of (max_services - 1)) 3) fresh query).answer ≡ Err 24)
    × ((on pair_numbers nowhere (run (7 ∷ []) (9 ∷ []))).services ≡ (7 ∷ []))
unfolding every check stand_as record_from settings_from is_record is_settings is_state is_table
nothing_told = (refl, refl, refl, refl, refl, refl, refl)

-- a load's answers, and the counts of service 1: three tokens for its command, two for its stop-command
pub load_told : (load_of (Ok tt) 2 ≡ Ok 2)
    × (load_of (Err (record { number = 15; service = 1; line = 3; column = 1 })) 0 ≡ Err (record { number = 15; service = 1; line = 3; column = 1 }))
    × (counted (replicate 4 0) 1 (record { start = record { at = 0; count = 3 }; stop = record { at = 20; count = 2 } }) ≡ (0 ∷ 0 ∷ 3 ∷ 2 ∷ []))
load_told = (refl, refl, refl)
