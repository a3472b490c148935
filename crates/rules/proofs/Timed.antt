-- A service that is starting or ending has a deadline, where no timeout is zero.
use Prim.Native.Nat.{◌+◌, ◌<◌, ℕ}
use borrow.Author.Tests.{ne_eqb}
use mathlib.Core.Bool.{Bool, ◌&&◌, ◌||◌, false, not, true}
use mathlib.Core.Logic.{◌≢◌}
use mathlib.Core.Path.{◌∙◌, ◌≡◌, refl}
use Rattle.base.specs.Folds.{pick}
use Rattle.base.proofs.Tests.{no_ft}
use Rattle.service.specs.Records.{is_ending, is_starting, is_waiting, record_at}
use Rattle.service.specs.Settings.{form_of, settings_at, starts_first}
use Rattle.std.specs.Prelude.{Some}
use Rattle.service.specs.declared.Form.{Form}
use Rattle.service.specs.declared.Phase.{Phase}
use Rattle.service.specs.declared.Phase.TheVariants.{Down, Ending, Starting, Up, Waiting}
use Rattle.service.specs.declared.Record.{Record}
use Rattle.service.specs.declared.State.{State}
use Rattle.service.specs.declared.Table.{Table}
use Rattle.service.proofs.Finite.{bools, finite, given, forms, phases}
use Rattle.rules.specs.Demand.{NoZeroTimeout}
use Rattle.rules.specs.Events.{ended_as, stopped_phase}
use Rattle.rules.specs.Rules.{begun_phase, deadline_in, fits, leaves}
use Rattle.rules.specs.declared.Rule.{Rule}
use Rattle.rules.specs.declared.Rule.TheVariants.{Abandon, Begin, End, Expire, Lose, Release, Settle, Wake}
use Rattle.rules.proofs.Fitting.{expire_fits}
use Rattle.rules.proofs.LastRests.{starting_deadline}

abbrev pub timing : Phase → Bool
timing p = is_starting p || is_ending p

test_released_timing : phases (λ p. given (timing (pick (is_waiting p) Down p)) (timing p)) ≡ true
unfolding phases given
test_released_timing = refl

pub released_timing : (p : Phase) → timing (pick (is_waiting p) Down p) ≡ true → timing p ≡ true
released_timing = simp finite at test_released_timing

test_begun_timing : forms (λ k. given (timing (begun_phase k)) (starts_first k)) ≡ true
unfolding forms given
test_begun_timing = refl

pub begun_timing : (k : Form) → timing (begun_phase k) ≡ true → starts_first k ≡ true
begun_timing = simp finite at test_begun_timing

test_stopped_timing : phases (λ p. given (timing (stopped_phase p)) (timing p)) ≡ true
unfolding phases given
test_stopped_timing = refl

pub stopped_timing : (p : Phase) → timing (stopped_phase p) ≡ true → timing p ≡ true
stopped_timing = simp finite at test_stopped_timing

test_expire_timing : phases (λ p. bools (λ b. given (is_starting p || is_ending p && b) (timing p))) ≡ true
unfolding phases bools given
test_expire_timing = refl

pub expire_timing : (p : Phase) (b : Bool) → (is_starting p || is_ending p && b) ≡ true → timing p ≡ true
expire_timing = simp finite at test_expire_timing

-- a deadline is set
abbrev pub HasDeadline : Record → Type 0
HasDeadline r = (e : ℕ) × (r.deadline ≡ Some e)

abbrev pub TimedAt : Record → Type 0
TimedAt r = timing r.phase ≡ true → HasDeadline r

-- of every service
abbrev pub Timed : Table → State → Type 0
Timed t x = (s : ℕ) → s < t.count → TimedAt (record_at x s)

deadline_set_lem : (now wait : ℕ) → wait ≢ 0 → deadline_in now wait ≡ Some (now + wait)
deadline_set_lem now wait h = rw (ne_eqb wait 0 h)

module _ (t : Table) (nz : NoZeroTimeout t) (x : State) (s : ℕ) (l : s < t.count) (h : TimedAt (record_at x s)) where
  pub leaves_timed : (k : Rule) → fits k t x s ≡ true → TimedAt (leaves k t x s)
  unfolding leaves
  leaves_timed Lose f = h
  leaves_timed Abandon f = λ e. no_ft e
  leaves_timed Settle f = λ e. no_ft e
  leaves_timed Wake f = λ e. no_ft e
  leaves_timed Release f = λ e. h (released_timing (record_at x s).phase e)
  leaves_timed Begin f =
      λ e. (
        x.clock + (settings_at t s).start_timeout,
        starting_deadline (form_of (settings_at t s)) (deadline_in x.clock (settings_at t s).start_timeout) (record_at x s).deadline
            (begun_timing (form_of (settings_at t s)) e)
            ∙ deadline_set_lem x.clock (settings_at t s).start_timeout (nz s l).0,
      )
  leaves_timed End f = λ e. (x.clock + (settings_at t s).stop_timeout, deadline_set_lem x.clock (settings_at t s).stop_timeout (nz s l).1)
  leaves_timed Expire f = λ e. go (is_starting (record_at x s).phase)
    where
      go : (b : Bool) → (d : ℕ) × (pick b (deadline_in x.clock (settings_at t s).stop_timeout) (record_at x s).deadline ≡ Some d)
      go true = (x.clock + (settings_at t s).stop_timeout, deadline_set_lem x.clock (settings_at t s).stop_timeout (nz s l).1)
      go false = h (expire_timing (record_at x s).phase (not (record_at x s).killed) ((expire_fits t x s).0 f).which)

  pub end_timed : (p : Phase) (b : Bool) → TimedAt (ended_as p (settings_at t s) x.clock b (record_at x s))
  unfolding ended_as
  end_timed Down b = h
  end_timed Waiting b = h
  end_timed Starting true = λ e. no_ft e
  end_timed Starting false = λ e. no_ft e
  end_timed Up b = h
  end_timed Ending b = λ e. no_ft e
