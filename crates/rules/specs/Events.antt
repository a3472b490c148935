-- Trusted: "Events": what an accepted start, stop, stop all, end and clock reading make of the state.
use Rattle.std.specs.Prelude.{ℕ, Bool, true, false, not, ◌&&◌, ◌||◌, eqb, None}
use Rattle.base.specs.Folds.{pick, fold}
use Rattle.base.specs.Sets.{has_bit}
use Rattle.base.specs.Links.{reach}
use Rattle.service.specs.declared.Phase.{Phase}
use Rattle.service.specs.declared.Phase.TheVariants.{Down, Waiting, Starting, Up, Ending}
use Rattle.service.specs.declared.Cause.{Cause}
use Rattle.service.specs.declared.Cause.TheVariants.{None as NoCause, User, Released, Fell, Failed}
use Rattle.service.specs.declared.Settings.{Settings}
use Rattle.service.specs.declared.Record.{Record}
use Rattle.service.specs.declared.State.{State}
use Rattle.service.specs.declared.Table.{Table}
use Rattle.service.specs.Settings.{form_of, is_passing, settings_at}
use Rattle.service.specs.Records.{record_at, with_record, is_none, active, moved, with_aside, with_cause, with_live, with_not_before, with_phase, with_wanted}
use Rattle.rules.specs.Dependencies.{all_links}
use Rattle.rules.specs.Settling.{settled_as, settled}

-- the state with the record of each service below n changed by f
unfoldable pub each : (ℕ → Record → Record) → State → ℕ → State
each f x n = fold (λ y i. with_record y i (f i (record_at y i))) x n

-- ---- start s

-- "s and all it reaches by any kind"
unfoldable pub start_reaches : Table → ℕ → ℕ → Bool
start_reaches t s d = eqb d s || has_bit (reach (all_links t) t.count s) d

-- "cause user or failed becomes released"
abbrev pub revived_cause : Cause → Cause
revived_cause NoCause = NoCause
revived_cause User = Released
revived_cause Released = Released
revived_cause Fell = Fell
revived_cause Failed = Released

-- the record of a service that is s itself or not, and is reached or not
abbrev pub started_as : Bool → Bool → Record → Record
started_as self reached r =
    with_cause (pick reached (revived_cause r.cause) r.cause)
    (with_wanted (r.wanted || self) (with_aside (r.aside && not reached) (with_not_before (pick reached 0 r.not_before) r)))

unfoldable pub after_start : Table → State → ℕ → State
after_start t x s = each (λ d r. started_as (eqb d s) (start_reaches t s d) r) x t.count

-- ---- stop s, stop all

-- "down or waiting gives down and aside; else cause user"
abbrev pub stopped_phase : Phase → Phase
stopped_phase Down = Down
stopped_phase Waiting = Down
stopped_phase Starting = Starting
stopped_phase Up = Up
stopped_phase Ending = Ending

abbrev pub stopped : Record → Record
stopped r =
    with_phase (stopped_phase r.phase) (with_cause (pick (active r.phase) User r.cause)
    (with_wanted false (with_aside (not (active r.phase) || r.aside) r)))

unfoldable pub after_stop : State → ℕ → State
after_stop x s = with_record x s (stopped (record_at x s))

-- "stop for each"
unfoldable pub after_stop_all : Table → State → State
after_stop_all t x = each (λ d r. stopped r) x t.count

-- ---- end of s, good or bad

-- "live off"
abbrev pub dead : Record → Record
dead r = with_live false r

-- "Starting: good gives up (no deadline, cause kept)"
abbrev pub started_up : Record → Record
started_up r = moved Up r.cause None r

-- the end of a start brings the service up
abbrev pub brings : Settings → Bool → Bool
brings v good = good && is_passing (form_of v)

unfoldable pub ended_as : Phase → Settings → ℕ → Bool → Record → Record
ended_as Down v now good r = dead r
ended_as Waiting v now good r = dead r
ended_as Starting v now true r = started_up (dead r)
ended_as Starting v now false r = settled_as User v now (dead r)
ended_as Up v now good r = with_cause (pick (is_none r.cause) Fell r.cause) (dead r)
ended_as Ending v now good r = settled v now (dead r)

unfoldable pub after_end : Table → State → ℕ → Bool → State
after_end t x s good =
    with_record x s (ended_as (record_at x s).phase (settings_at t s) x.clock (brings (settings_at t s) good) (record_at x s))

-- ---- clock

unfoldable pub after_clock : State → ℕ → State
after_clock x c = record { clock = c; records = x.records }
