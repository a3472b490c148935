-- Trusted: the calls over a table and a state in numbers, and their answers as numbers.
use Rattle.std.specs.Prelude.{ℕ, Bool, ◌&&◌, List, Option, None, Some, Result, Ok, Err, ◌≡◌}
use Rattle.base.specs.Folds.{pick}
use Rattle.service.specs.Numbers.{action_number, action_service, is_quiet}
use Rattle.service.specs.declared.Action.{Action}
use Rattle.rules.specs.Calls.{Answer, Call, Outcome, acted, check, clock, done, end, outcome, ran, refused, start, stop, stop_all, told}
use Rattle.rules.specs.Demand.{is_refused}
use Rattle.plain_encoding.specs.Meaning.{is_state, is_table}
use Rattle.plain_encoding.specs.Numbers.{state_numbers, state_of, table_of}
use Rattle.plain.specs.declared.forms.Event.{Event}
use Rattle.plain.specs.declared.forms.Event.TheVariants.{Start, Stop, StopAll, End, Clock}
use Rattle.plain.specs.declared.forms.Handed.{Handed}

-- the call that an event is
abbrev pub call_of : Event → Call
call_of (Start s) = start s
call_of (Stop s) = stop s
call_of StopAll = stop_all
call_of (End s good) = end s good
call_of (Clock c) = clock c

-- the numbers stand for a table and a state
abbrev pub meant : List ℕ → List ℕ → Bool
meant t x = is_table t && is_state x

-- the outcome of a call with the table and the state that the numbers say; 24 comes first, where they stand for nothing
abbrev pub on : List ℕ → List ℕ → Call → Outcome
on t x c = check c (state_of x) (meant t x) 24 (outcome (table_of t) (state_of x) c)

-- an answer as what an event gives back: nothing, or the number of the refusal; what other calls answer says nothing there
abbrev pub event_of : Answer → Result (Unit {0}) ℕ
event_of (refused k) = Err k
event_of done = Ok tt
event_of (acted a) = Ok tt
event_of (ran n) = Ok tt
event_of (told d) = Ok tt

-- an action in numbers, none for quiet
abbrev pub handed_of : Action → Option Handed
handed_of a = pick (is_quiet a) None (Some (record { service = action_service a; action = action_number a }))

-- the same for a next action
abbrev pub next_of : Answer → Result (Option Handed) ℕ
next_of (refused k) = Err k
next_of done = Ok (Some (record { service = 0; action = 0 }))
next_of (acted a) = Ok (handed_of a)
next_of (ran n) = Ok (Some (record { service = 0; action = 0 }))
next_of (told d) = Ok (Some (record { service = 0; action = 0 }))

-- the same for a run
abbrev pub run_of : Answer → Result ℕ ℕ
run_of (refused k) = Err k
run_of done = Ok 0
run_of (acted a) = Ok 0
run_of (ran n) = Ok n
run_of (told d) = Ok 0

-- the same for a query
abbrev pub asked_of : Answer → Result (Option ℕ) ℕ
asked_of (refused k) = Err k
asked_of done = Ok None
asked_of (acted a) = Ok None
asked_of (ran n) = Ok None
asked_of (told d) = Ok d

-- the state's numbers after a call: a refused one leaves them as they were
abbrev pub numbers_after : List ℕ → Outcome → List ℕ
numbers_after x o = pick (is_refused o.answer) x (state_numbers x o.state)

-- what a call with the outcome o, reported in numbers as r, leaves in the state's numbers x
pub record Called {A : Type 0} (tell : Answer → A) (o : Outcome) (x : List ℕ) (r : A) (left : List ℕ) : Type 0 where
  pub answer : r ≡ tell o.answer
  pub state : left ≡ numbers_after x o

-- what a run leaves in the two lent slices
pub record Written (o : Outcome) (ss as' : List ℕ) : Type 0 where
  pub services : ss ≡ o.services
  pub actions : as' ≡ o.actions
