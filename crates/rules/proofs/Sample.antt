-- The statement is about something: a list with its rounds, over a single process that does not end at its TERM.
use Prim.Native.Nat.{◌<◌, ◌≤◌, suc, zero, ℕ}
use lib.Dec.{lit<, lit≤}
use mathlib.Core.Bool.{Bool, false, true}
use mathlib.Core.List.{List, [], ◌∷◌}
use mathlib.Core.Logic.{◌≢◌}
use mathlib.Core.Path.{◌≡◌, ap, refl}
use native.Mathlib.Nat.{le_of_suc-le-suc, not-suc-le-zero}
use native.Mathlib.Omega.{arith}
use Rattle.base.specs.Folds.{every, first, listed, some}
use Rattle.base.specs.Links.{cyclic, reach}
use Rattle.base.specs.Sets.{has_bit, within}
use Rattle.base.proofs.Tests.{no_ft}
use Rattle.service.specs.Records.{fresh_state, record_at, with_record}
use Rattle.service.specs.Settings.{settings_at}
use Rattle.std.specs.Prelude.{Option, Some, None}
use Rattle.service.specs.declared.Phase.TheVariants.{Down}
use Rattle.rules.specs.Calls.{Call, after_calls, check, clock, end, next, outcome, run, start, stop_all}
use Rattle.rules.specs.Demand.{NoZeroTimeout, Now, Reported, Round, WoundDown, accepted, another, call, deadline_kill, empty, eventless, fed, fresh_now, here, moments, moments_by, no_rounds, now_after, now_at, read_back, round, wound}
use Rattle.rules.specs.Dependencies.{all_links, blocked, depends, hard, hard_links, needed, soft, strong, strong_links}
use Rattle.rules.specs.Events.{after_clock, after_end, after_start, after_stop, after_stop_all, each, ended_as, start_reaches}
use Rattle.rules.specs.Readings.{lone}
use Rattle.rules.specs.Rules.{act, act_on, chosen, chosen_from, due, fits, hands, leaves, lost_to_user, next_action}
use Rattle.rules.specs.Runs.{action_after, state_after, steps_to_quiet, written, written_actions, written_services}
use Rattle.rules.specs.WellFormed.{formed, shaped_at, state_formed, table_formed}
use Rattle.rules.proofs.Demand.{demand3}

-- room for the run of one service
unfoldable pub room : List ℕ
room = 0 ∷ 0 ∷ 0 ∷ 0 ∷ []

unfoldable pub opening : List Call
opening = start 0 ∷ run room room ∷ []

-- the stop all
unfoldable pub all_stopped : Now
all_stopped = now_after lone (now_at lone fresh_now opening) stop_all

only : (P : ℕ → Type 0) → P 0 → (s : ℕ) → s < 1 → P s
only P h zero l = h
only P h (suc s) l = absurd (not-suc-le-zero (le_of_suc-le-suc l))

-- the time of a deadline, and 0 for none
abbrev time_of : Option ℕ → ℕ
time_of None = 0
time_of (Some d) = d

abbrev is_set : Option ℕ → Bool
is_set None = false
is_set (Some d) = true

-- the first round sends TERM; the second, past the deadline, KILL, and the end is reported
unfoldable pub first_read : Now
first_read = now_after lone all_stopped (clock 0)

unfoldable pub first_quiet : Now
first_quiet = now_after lone first_read (run room room)

unfoldable pub second_read : Now
second_read = now_after lone first_quiet (clock 200000)

unfoldable pub killed : Now
killed = now_after lone second_read next

unfoldable pub second_quiet : Now
second_quiet = now_after lone killed next

second_reported : Now
second_reported = now_after lone second_quiet (end 0 false)

second_over : Now
second_over = now_after lone second_reported (run room room)

first_round : Round lone all_stopped (clock 0 ∷ run room room ∷ []) first_quiet
unfolding room opening all_stopped first_read first_quiet second_read killed second_quiet second_reported second_over some every first listed has_bit within reach cyclic settings_at fresh_state record_at with_record hard_links strong_links all_links hard strong soft depends blocked needed table_formed shaped_at state_formed formed each start_reaches after_start after_stop after_stop_all ended_as after_end after_clock due fits lost_to_user leaves hands chosen_from chosen act act_on next_action state_after action_after steps_to_quiet written written_services written_actions check outcome deadline_kill read_back moments_by moments fed accepted eventless now_after now_at
first_round =
    round {n = all_stopped} {waited = all_stopped} {read = first_read} {still = first_quiet} {reported = first_quiet} {over = first_quiet} {pause = []} {between = []} {acts = run room room ∷ []} {ends = []} {rest = []} 0
    (empty {n = all_stopped})
    refl
    (λ s e. only (λ i. (record_at all_stopped.state i).deadline ≡ Some e → e ≤ 0) (λ d. no_ft (ap is_set d)) s)
    (empty {n = first_read})
    record { calls = call {n = first_read} {n' = first_quiet} {cs = []} (run room room) refl (empty {n = first_quiet}); between = refl; quiet = refl }
    (empty {n = first_quiet})
    (only (λ i. first_quiet.live i ≡ true → first_quiet.sent_kill i ≡ true → Reported lone i first_quiet []) (λ _ k. no_ft k))
    record { calls = empty {n = first_quiet}; between = refl; quiet = refl }

second_round : Round lone first_quiet (clock 200000 ∷ next ∷ next ∷ end 0 false ∷ run room room ∷ []) second_over
unfolding room opening all_stopped first_read first_quiet second_read killed second_quiet second_reported second_over some every first listed has_bit within reach cyclic settings_at fresh_state record_at with_record hard_links strong_links all_links hard strong soft depends blocked needed table_formed shaped_at state_formed formed each start_reaches after_start after_stop after_stop_all ended_as after_end after_clock due fits lost_to_user leaves hands chosen_from chosen act act_on next_action state_after action_after steps_to_quiet written written_services written_actions check outcome deadline_kill read_back moments_by moments fed accepted eventless now_after now_at
second_round =
    round {n = first_quiet} {waited = first_quiet} {read = second_read} {still = second_quiet} {reported = second_reported} {over = second_over} {pause = []} {between = []} {acts = next ∷ next ∷ []} {ends = end 0 false ∷ []} {rest = run room room ∷ []} 200000
    (empty {n = first_quiet})
    refl
    (λ s e. only (λ i. (record_at first_quiet.state i).deadline ≡ Some e → e ≤ 200000) (λ d. rw (← (ap time_of d)) (lit≤ tt)) s)
    (empty {n = second_read})
    record {
      calls = call {n = second_read} {n' = second_quiet} {cs = next ∷ []} next refl (call {n = killed} {n' = second_quiet} {cs = []} next refl (empty {n = second_quiet}));
      between = refl;
      quiet = refl;
    }
    (call {n = second_quiet} {n' = second_reported} {cs = []} (end 0 false) refl (empty {n = second_reported}))
    (only (λ i. second_quiet.live i ≡ true → second_quiet.sent_kill i ≡ true → Reported lone i second_quiet (end 0 false ∷ [])) (λ _ _. here {n = second_quiet} {cs = []} false refl))
    record { calls = call {n = second_reported} {n' = second_over} {cs = []} (run room room) refl (empty {n = second_over}); between = refl; quiet = refl }

-- the whole list
pub sample : WoundDown lone (start 0 ∷ run room room ∷ stop_all ∷ clock 0 ∷ run room room ∷ clock 200000 ∷ next ∷ next ∷ end 0 false ∷ run room room ∷ [])
unfolding opening all_stopped
sample =
    wound {n = second_over} {n' = second_over} opening (clock 0 ∷ run room room ∷ clock 200000 ∷ next ∷ next ∷ end 0 false ∷ run room room ∷ []) []
    (another {cs = clock 0 ∷ run room room ∷ []} (another {cs = []} no_rounds first_round) second_round)
    empty

pub sample_formed : table_formed lone ≡ true
unfolding room opening all_stopped first_read first_quiet second_read killed second_quiet second_reported second_over some every first listed has_bit within reach cyclic settings_at fresh_state record_at with_record hard_links strong_links all_links hard strong soft depends blocked needed table_formed shaped_at state_formed formed each start_reaches after_start after_stop after_stop_all ended_as after_end after_clock due fits lost_to_user leaves hands chosen_from chosen act act_on next_action state_after action_after steps_to_quiet written written_services written_actions check outcome deadline_kill read_back moments_by moments fed accepted eventless now_after now_at
sample_formed = refl

pub sample_timeouts : NoZeroTimeout lone
unfolding settings_at
sample_timeouts = only (λ i. ((settings_at lone i).start_timeout ≢ 0) × ((settings_at lone i).stop_timeout ≢ 0)) (λ e. absurd (omega arith), λ e. absurd (omega arith))

-- in it the KILL is a deadline's, by the rules' state before it, and the theorem covers it
pub sample_killed : second_quiet.sent_kill 0 ≡ true
unfolding room opening all_stopped first_read first_quiet second_read killed second_quiet second_reported second_over some every first listed has_bit within reach cyclic settings_at fresh_state record_at with_record hard_links strong_links all_links hard strong soft depends blocked needed table_formed shaped_at state_formed formed each start_reaches after_start after_stop after_stop_all ended_as after_end after_clock due fits lost_to_user leaves hands chosen_from chosen act act_on next_action state_after action_after steps_to_quiet written written_services written_actions check outcome deadline_kill read_back moments_by moments fed accepted eventless now_after now_at
sample_killed = refl

pub sample_down : (record_at (after_calls lone fresh_state (start 0 ∷ run room room ∷ stop_all ∷ clock 0 ∷ run room room ∷ clock 200000 ∷ next ∷ next ∷ end 0 false ∷ run room room ∷ [])) 0).phase ≡ Down
sample_down = (demand3 lone sample_formed _).down sample_timeouts sample 0 (lit< tt)
