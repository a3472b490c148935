-- Trusted: the calls: what each gives back, its refusals in the order of checks, and the state after a list of them.
use Rattle.std.specs.Prelude.{ℕ, ◌*◌, Bool, ◌&&◌, List, [], ◌∷◌, Option, Result, Ok, Err, leb, ltb, length}
use Rattle.base.specs.Folds.{pick}
use Rattle.service.specs.declared.Action.{Action}
use Rattle.service.specs.declared.State.{State}
use Rattle.service.specs.declared.Table.{Table}
use Rattle.service.specs.declared.Answered.{Answered}
use Rattle.service.specs.declared.Refusal.{Refusal}
use Rattle.service.specs.Limits.{last_clock}
use Rattle.service.specs.Records.{record_at}
use Rattle.service.specs.Numbers.{refusal_number}
use Rattle.rules.specs.WellFormed.{formed}
use Rattle.rules.specs.Events.{after_start, after_stop, after_stop_all, after_end, after_clock}
use Rattle.rules.specs.Rules.{next_action}
use Rattle.rules.specs.Runs.{state_after, steps_to_quiet, written_services, written_actions, earliest}

-- a run lends two slices, for services and actions
pub data Call : Type 0 where
  start stop clock : ℕ → Call
  end : ℕ → Bool → Call
  stop_all next query : Call
  run : List ℕ → List ℕ → Call

pub data Answer : Type 0 where
  refused : ℕ → Answer
  done : Answer
  acted : Action → Answer
  ran : ℕ → Answer
  told : Option ℕ → Answer

-- what a call gives back, and what the lent slices hold then (empty for a call that lends none)
pub record Outcome : Type 0 where
  pub answer : Answer
  pub state : State
  pub services : List ℕ
  pub actions : List ℕ

abbrev pub lent_services : Call → List ℕ
lent_services (start s) = []
lent_services (stop s) = []
lent_services (clock c) = []
lent_services (end s good) = []
lent_services stop_all = []
lent_services next = []
lent_services query = []
lent_services (run ss as') = ss

abbrev pub lent_actions : Call → List ℕ
lent_actions (start s) = []
lent_actions (stop s) = []
lent_actions (clock c) = []
lent_actions (end s good) = []
lent_actions stop_all = []
lent_actions next = []
lent_actions query = []
lent_actions (run ss as') = as'

-- an answer that leaves the lent slices as they were
abbrev pub gives : Call → Answer → State → Outcome
gives c a x = record { answer = a; state = x; services = lent_services c; actions = lent_actions c }

-- the outcome o where the test holds; else the refusal k, which "gives back the state it got"
unfoldable pub check : Call → State → Bool → ℕ → Outcome → Outcome
check c x test k o = pick test o (gives c (refused k) x)

-- "Event checks: 24, 20, 21; clock 24, 22, 23; next action and query 24; run to quiet 24, 25"
unfoldable pub outcome : Table → State → Call → Outcome
outcome t x (start s) =
    check (start s) x (formed t x) 24
    (check (start s) x (ltb s t.count) 20 (gives (start s) done (after_start t x s)))
outcome t x (stop s) =
    check (stop s) x (formed t x) 24
    (check (stop s) x (ltb s t.count) 20 (gives (stop s) done (after_stop x s)))
outcome t x stop_all = check stop_all x (formed t x) 24 (gives stop_all done (after_stop_all t x))
outcome t x (end s good) =
    check (end s good) x (formed t x) 24
    (check (end s good) x (ltb s t.count) 20
    (check (end s good) x (record_at x s).live 21 (gives (end s good) done (after_end t x s good))))
outcome t x (clock c) =
    check (clock c) x (formed t x) 24
    (check (clock c) x (leb x.clock c) 22
    (check (clock c) x (leb c last_clock) 23 (gives (clock c) done (after_clock x c))))
outcome t x next =
    check next x (formed t x) 24 (gives next (acted (next_action t x).action) (next_action t x).state)
outcome t x query = check query x (formed t x) 24 (gives query (told (earliest t x)) x)
outcome t x (run ss as') =
    check (run ss as') x (formed t x) 24
    (check (run ss as') x (leb (4 * t.count) (length ss) && leb (4 * t.count) (length as')) 25
    record {
      answer = ran (steps_to_quiet t x);
      state = state_after t x (steps_to_quiet t x);
      services = written_services t x ss;
      actions = written_actions t x as';
    })

-- the state after a list of calls: each gets what the one before gave back
unfoldable pub after_calls : Table → State → List Call → State
after_calls t x [] = x
after_calls t x (c ∷ cs) = after_calls t (outcome t x c).state cs

-- ---- what the program's answers say, as paper 01's numbers and values

abbrev pub event_answer : Result (Unit {0}) Refusal → Answer
event_answer (Ok _) = done
event_answer (Err k) = refused (refusal_number k)

abbrev pub action_answer : Result Action Refusal → Answer
action_answer (Ok a) = acted a
action_answer (Err k) = refused (refusal_number k)

abbrev pub run_answer : Result ℕ Refusal → Answer
run_answer (Ok n) = ran n
run_answer (Err k) = refused (refusal_number k)

abbrev pub query_answer : Result (Option ℕ) Refusal → Answer
query_answer (Ok d) = told d
query_answer (Err k) = refused (refusal_number k)

abbrev pub changed_outcome : Answered (Unit {0}) → Outcome
changed_outcome r = record { answer = event_answer r.answer; state = r.state; services = []; actions = [] }

abbrev pub stepped_outcome : Answered Action → Outcome
stepped_outcome r = record { answer = action_answer r.answer; state = r.state; services = []; actions = [] }

abbrev pub ran_outcome : Answered ℕ → List ℕ → List ℕ → Outcome
ran_outcome r ss as' = record { answer = run_answer r.answer; state = r.state; services = ss; actions = as' }

abbrev pub query_outcome : Result (Option ℕ) Refusal → State → Outcome
query_outcome a x = record { answer = query_answer a; state = x; services = []; actions = [] }
