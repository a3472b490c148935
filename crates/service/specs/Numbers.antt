-- Trusted: the numbers of types, signals, phases, causes, refusals, actions and settings: the first four from 0 in paper 01's order, and back; a
-- number past a list's last stands for none, and is read as the last.
use Rattle.std.specs.Prelude.{ℕ, zero, suc, ◌+◌, Bool, true, false, List, [], ◌∷◌, eqb, get_or, set}
use Rattle.base.specs.Folds.{pick}
use Rattle.service.specs.declared.Kind.{Kind}
use Rattle.service.specs.declared.Kind.TheVariants.{Process, Scripted, Internal}
use Rattle.service.specs.declared.Signal.{Signal as SignalName}
use Rattle.service.specs.declared.Signal.TheVariants.{None as NoSignal, Hup, Int, Term, Quit, Usr1, Usr2, Kill}
use Rattle.service.specs.declared.Settings.{Settings}
use Rattle.service.specs.declared.Phase.{Phase}
use Rattle.service.specs.declared.Phase.TheVariants.{Down, Waiting, Starting, Up, Ending}
use Rattle.service.specs.declared.Cause.{Cause}
use Rattle.service.specs.declared.Cause.TheVariants.{None as NoCause, User, Released, Fell, Failed}
use Rattle.service.specs.declared.Action.{Action}
use Rattle.service.specs.declared.Action.TheVariants.{Quiet, Moved, Launch, StopCommand, Signal}
use Rattle.service.specs.declared.Refusal.{Refusal}
use Rattle.service.specs.declared.Refusal.TheVariants.{IllFormed, NoService, NotLive, ClockBack, ClockPast, NoRoom}

-- "process, scripted, internal"
abbrev pub kind_number : Kind → ℕ
kind_number Process = 0
kind_number Scripted = 1
kind_number Internal = 2

abbrev pub last_kind : ℕ
last_kind = 2

abbrev pub kind_at : ℕ → Kind
kind_at n =
    pick (eqb n 0) Process (pick (eqb n 1) Scripted Internal)

-- a signal's place in paper 01's list, from 0
abbrev pub signal_number : SignalName → ℕ
signal_number NoSignal = 0
signal_number Hup = 1
signal_number Int = 2
signal_number Term = 3
signal_number Quit = 4
signal_number Usr1 = 5
signal_number Usr2 = 6
signal_number Kill = 7

abbrev pub last_signal : ℕ
last_signal = 7

abbrev pub signal_at : ℕ → SignalName
signal_at n =
    pick (eqb n 0) NoSignal (pick (eqb n 1) Hup (pick (eqb n 2) Int (pick (eqb n 3) Term (pick (eqb n 4) Quit (pick (eqb n 5) Usr1 (pick (eqb n 6) Usr2 Kill))))))

-- "Phase: down, waiting, starting, up, ending"
abbrev pub phase_number : Phase → ℕ
phase_number Down = 0
phase_number Waiting = 1
phase_number Starting = 2
phase_number Up = 3
phase_number Ending = 4

abbrev pub last_phase : ℕ
last_phase = 4

abbrev pub phase_at : ℕ → Phase
phase_at n =
    pick (eqb n 0) Down (pick (eqb n 1) Waiting (pick (eqb n 2) Starting (pick (eqb n 3) Up Ending)))

-- "cause (none, user, released, fell, failed)"
abbrev pub cause_number : Cause → ℕ
cause_number NoCause = 0
cause_number User = 1
cause_number Released = 2
cause_number Fell = 3
cause_number Failed = 4

abbrev pub last_cause : ℕ
last_cause = 4

abbrev pub cause_at : ℕ → Cause
cause_at n =
    pick (eqb n 0) NoCause (pick (eqb n 1) User (pick (eqb n 2) Released (pick (eqb n 3) Fell Failed)))

abbrev pub is_quiet : Action → Bool
is_quiet Quiet = true
is_quiet (Moved s) = false
is_quiet (Launch s) = false
is_quiet (StopCommand s) = false
is_quiet (Signal s g) = false

-- the two numbers that a run writes for an action: the service, and moved 0, launch 1, stop command 2, a signal 3 and its place. A run
-- ends before quiet, so quiet's numbers are never written
abbrev pub action_service : Action → ℕ
action_service Quiet = 0
action_service (Moved s) = s
action_service (Launch s) = s
action_service (StopCommand s) = s
action_service (Signal s g) = s

abbrev pub action_number : Action → ℕ
action_number Quiet = 0
action_number (Moved s) = 0
action_number (Launch s) = 1
action_number (StopCommand s) = 2
action_number (Signal s g) = 3 + signal_number g

-- the action that two such numbers stand for
abbrev pub action_of : ℕ → ℕ → Action
action_of s zero = Moved s
action_of s (suc zero) = Launch s
action_of s (suc (suc zero)) = StopCommand s
action_of s (suc (suc (suc g))) = Signal s (signal_at g)

-- "Numbers given back"
abbrev pub refusal_number : Refusal → ℕ
refusal_number IllFormed = 24
refusal_number NoService = 20
refusal_number NotLive = 21
refusal_number ClockBack = 22
refusal_number ClockPast = 23
refusal_number NoRoom = 25

-- a flag
abbrev pub flag_number : Bool → ℕ
flag_number b = pick b 1 0

abbrev pub flag_of : ℕ → Bool
flag_of n = eqb n 1

-- the settings of a service as sixteen numbers: in paper 01's order, those of the dependencies as sets; last whether there is a stop-command
abbrev pub settings_numbers : Settings → List ℕ
settings_numbers v =
    kind_number v.kind
    ∷ flag_number v.restart
    ∷ v.delay
    ∷ v.interval
    ∷ v.limit
    ∷ v.start_timeout
    ∷ v.stop_timeout
    ∷ signal_number v.signal
    ∷ v.hard
    ∷ v.milestone
    ∷ v.soft
    ∷ flag_number v.has_stop
    ∷ 0
    ∷ 0
    ∷ 0
    ∷ 0
    ∷ []

unfoldable pub settings_from : List ℕ → ℕ → Settings
settings_from l a = record {
  kind = kind_at (get_or l a 0);
  restart = flag_of (get_or l (a + 1) 0);
  has_stop = flag_of (get_or l (a + 11) 0);
  signal = signal_at (get_or l (a + 7) 0);
  delay = get_or l (a + 2) 0;
  interval = get_or l (a + 3) 0;
  limit = get_or l (a + 4) 0;
  start_timeout = get_or l (a + 5) 0;
  stop_timeout = get_or l (a + 6) 0;
  hard = get_or l (a + 8) 0;
  milestone = get_or l (a + 9) 0;
  soft = get_or l (a + 10) 0;
}

-- the settings v with the number n at the place k among theirs
abbrev pub with_number : ℕ → ℕ → Settings → Settings
with_number k n v = settings_from (set (settings_numbers v) k n) 0
