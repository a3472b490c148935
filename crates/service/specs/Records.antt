-- Trusted: the service record: phases and causes, the fresh record, and the records of a state.
use Rattle.std.specs.Prelude.{ℕ, Bool, true, false, get_or, set, replicate}
use Rattle.service.specs.declared.Phase.{Phase}
use Rattle.service.specs.declared.Phase.TheVariants.{Down, Waiting, Starting, Up, Ending}
use Rattle.service.specs.declared.Cause.{Cause}
use Rattle.service.specs.declared.Cause.TheVariants.{None as NoCause, User, Released, Fell, Failed}
use Rattle.std.specs.Prelude.{Option, None}
use Rattle.service.specs.declared.Record.{Record}
use Rattle.service.specs.declared.State.{State}
use Rattle.service.specs.Limits.{max_services}

abbrev pub is_down : Phase → Bool
is_down Down = true
is_down Waiting = false
is_down Starting = false
is_down Up = false
is_down Ending = false

abbrev pub is_waiting : Phase → Bool
is_waiting Down = false
is_waiting Waiting = true
is_waiting Starting = false
is_waiting Up = false
is_waiting Ending = false

abbrev pub is_starting : Phase → Bool
is_starting Down = false
is_starting Waiting = false
is_starting Starting = true
is_starting Up = false
is_starting Ending = false

abbrev pub is_up : Phase → Bool
is_up Down = false
is_up Waiting = false
is_up Starting = false
is_up Up = true
is_up Ending = false

abbrev pub is_ending : Phase → Bool
is_ending Down = false
is_ending Waiting = false
is_ending Starting = false
is_ending Up = false
is_ending Ending = true

-- starting, up or ending
abbrev pub active : Phase → Bool
active Down = false
active Waiting = false
active Starting = true
active Up = true
active Ending = true

-- no cause
abbrev pub is_none : Cause → Bool
is_none NoCause = true
is_none User = false
is_none Released = false
is_none Fell = false
is_none Failed = false

abbrev pub is_user : Cause → Bool
is_user NoCause = false
is_user User = true
is_user Released = false
is_user Fell = false
is_user Failed = false

-- "Fresh: down, all else false, none or 0, clock 0"
abbrev pub fresh_record : Record
fresh_record = record {
  phase = Down;
  wanted = false;
  aside = false;
  live = false;
  cause = NoCause;
  deadline = None;
  killed = false;
  not_before = 0;
  last_launch = 0;
  window_start = 0;
  restarts = 0;
}

-- ---- a record changed: the one place that names every field. What is not given is kept

-- the record r with another phase, cause and deadline, four flags and four numbers
abbrev pub remade : Phase → Cause → Option ℕ → Bool → Bool → Bool → Bool → ℕ → ℕ → ℕ → ℕ → Record → Record
remade p c d wanted aside live killed notBefore launch window count r = record {
  phase = p;
  wanted = wanted;
  aside = aside;
  live = live;
  cause = c;
  deadline = d;
  killed = killed;
  not_before = notBefore;
  last_launch = launch;
  window_start = window;
  restarts = count;
}

-- the record r with another phase, cause and deadline
abbrev pub moved : Phase → Cause → Option ℕ → Record → Record
moved p c d r =
    remade p c d r.wanted r.aside r.live r.killed
    r.not_before r.last_launch r.window_start r.restarts r

-- the record r with other flags: wanted, aside, live, killed
abbrev pub flagged : Bool → Bool → Bool → Bool → Record → Record
flagged wanted aside live killed r =
    remade r.phase r.cause r.deadline wanted aside live killed
    r.not_before r.last_launch r.window_start r.restarts r

-- the record r with other numbers: not-before, last launch, window start, restart count
abbrev pub clocked : ℕ → ℕ → ℕ → ℕ → Record → Record
clocked notBefore launch window count r =
    remade r.phase r.cause r.deadline r.wanted r.aside r.live r.killed notBefore launch window count r

abbrev pub with_phase : Phase → Record → Record
with_phase p r = moved p r.cause r.deadline r

abbrev pub with_cause : Cause → Record → Record
with_cause c r = moved r.phase c r.deadline r

abbrev pub with_wanted : Bool → Record → Record
with_wanted b r = flagged b r.aside r.live r.killed r

abbrev pub with_aside : Bool → Record → Record
with_aside b r = flagged r.wanted b r.live r.killed r

abbrev pub with_live : Bool → Record → Record
with_live b r = flagged r.wanted r.aside b r.killed r

abbrev pub with_killed : Bool → Record → Record
with_killed b r = flagged r.wanted r.aside r.live b r

abbrev pub with_not_before : ℕ → Record → Record
with_not_before n r = clocked n r.last_launch r.window_start r.restarts r

abbrev pub with_launch : ℕ → Record → Record
with_launch n r = clocked r.not_before n r.window_start r.restarts r

abbrev pub with_window : ℕ → Record → Record
with_window n r = clocked r.not_before r.last_launch n r.restarts r

abbrev pub with_count : ℕ → Record → Record
with_count n r = clocked r.not_before r.last_launch r.window_start n r

unfoldable pub fresh_state : State
fresh_state = record { clock = 0; records = replicate max_services fresh_record }

-- the record of service s
unfoldable pub record_at : State → ℕ → Record
record_at x s = get_or x.records s fresh_record

-- the state with another record for service s
unfoldable pub with_record : State → ℕ → Record → State
with_record x s r = record { clock = x.clock; records = set x.records s r }
