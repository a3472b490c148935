-- After a stop all, and while no start is accepted, every service is down and aside, or active by the user's will; so what is
-- down stays down, nothing comes to be starting, and what is ending stays ending with its deadline or goes down.
use Prim.Native.Nat.{ℕ}
use mathlib.Core.Bool.{Bool, ◌&&◌, ◌||◌, false, not, true}
use mathlib.Core.Logic.{◌⊎◌, inl, inr}
use mathlib.Core.Path.{◌∙◌, ◌≡◌, refl}
use Rattle.base.specs.Folds.{pick}
use Rattle.base.proofs.Tests.{either, no_ft, not_true}
use Rattle.service.specs.Records.{active, is_down, is_ending, is_none, is_starting, is_up, is_user, is_waiting, record_at}
use Rattle.service.specs.Settings.{settings_at}
use Rattle.service.specs.declared.Cause.{Cause}
use Rattle.service.specs.declared.Cause.TheVariants.{Failed, Fell, User}
use Rattle.service.specs.declared.Phase.{Phase}
use Rattle.service.specs.declared.Phase.TheVariants.{Down, Ending, Starting, Up, Waiting}
use Rattle.service.specs.declared.Record.{Record}
use Rattle.service.specs.declared.State.{State}
use Rattle.service.specs.declared.Table.{Table}
use Rattle.service.proofs.Finite.{bools, causes, finite, given, phases}
use Rattle.service.proofs.Named.{is_ending_lem, is_up_lem, is_user_lem}
use Rattle.rules.specs.Events.{ended_as, stopped, stopped_phase}
use Rattle.rules.specs.Rules.{fits, leaves}
use Rattle.rules.specs.declared.Rule.{Rule}
use Rattle.rules.specs.declared.Rule.TheVariants.{Abandon, Begin, End, Expire, Lose, Release, Settle, Wake}
use Rattle.rules.proofs.Fitting.{abandon_fits, begin_fits, end_fits, expire_fits, lose_fits, release_fits, settle_fits, wake_fits}
use Rattle.rules.proofs.Shapes.{expire_active, up_active}

abbrev pub halting : Phase → Bool → Bool → Cause → Bool
halting p aside wanted c = not wanted && (is_down p && aside || active p && is_user c)

abbrev pub halting_at : Record → Bool
halting_at r = halting r.phase r.aside r.wanted r.cause

-- what a halting service is not: rules 1, 2, 4, 5 and 6 do not fit it
test_halting_runs_not : phases (λ p. bools (λ a. bools (λ w. causes (λ c. given (halting p a w c) (given (is_starting p || is_up p) (given (is_none c) (false))))))) ≡ true
unfolding phases bools causes given
test_halting_runs_not = refl

pub halting_runs_not : (p : Phase) (a : Bool) (w : Bool) (c : Cause) → halting p a w c ≡ true → (is_starting p || is_up p) ≡ true → is_none c ≡ true → false ≡ true
halting_runs_not = simp finite at test_halting_runs_not

test_halting_waits_not : phases (λ p. bools (λ a. bools (λ w. causes (λ c. given (halting p a w c) (given (is_waiting p) (false)))))) ≡ true
unfolding phases bools causes given
test_halting_waits_not = refl

pub halting_waits_not : (p : Phase) (a : Bool) (w : Bool) (c : Cause) → halting p a w c ≡ true → is_waiting p ≡ true → false ≡ true
halting_waits_not = simp finite at test_halting_waits_not

test_halting_wakes_not : phases (λ p. bools (λ a. bools (λ w. causes (λ c. given (halting p a w c) (given (is_down p) (given (not a) (false))))))) ≡ true
unfolding phases bools causes given
test_halting_wakes_not = refl

pub halting_wakes_not : (p : Phase) (a : Bool) (w : Bool) (c : Cause) → halting p a w c ≡ true → is_down p ≡ true → not a ≡ true → false ≡ true
halting_wakes_not = simp finite at test_halting_wakes_not

test_halting_released_not : phases (λ p. bools (λ a. bools (λ w. causes (λ c. given (halting p a w c) (given (is_waiting p || is_starting p || is_up p) (given (is_none c) (false))))))) ≡ true
unfolding phases bools causes given
test_halting_released_not = refl

pub halting_released_not : (p : Phase) (a : Bool) (w : Bool) (c : Cause) → halting p a w c ≡ true → (is_waiting p || is_starting p || is_up p) ≡ true → is_none c ≡ true → false ≡ true
halting_released_not = simp finite at test_halting_released_not

-- what it is
test_halting_user : phases (λ p. bools (λ a. bools (λ w. causes (λ c. given (halting p a w c) (given (active p) (is_user c)))))) ≡ true
unfolding phases bools causes given
test_halting_user = refl

pub halting_user : (p : Phase) (a : Bool) (w : Bool) (c : Cause) → halting p a w c ≡ true → active p ≡ true → is_user c ≡ true
halting_user = simp finite at test_halting_user

test_halting_active : phases (λ p. bools (λ a. bools (λ w. causes (λ c. given (halting p a w c) (given (not (is_down p)) (active p)))))) ≡ true
unfolding phases bools causes given
test_halting_active = refl

pub halting_active : (p : Phase) (a : Bool) (w : Bool) (c : Cause) → halting p a w c ≡ true → not (is_down p) ≡ true → active p ≡ true
halting_active = simp finite at test_halting_active

-- what rules 7 and 8 and the events leave is halting
test_end_halting : phases (λ p. bools (λ a. bools (λ w. causes (λ c. given (halting p a w c) (given (is_up p) (halting Ending a w c)))))) ≡ true
unfolding phases bools causes given
test_end_halting = refl

pub end_halting : (p : Phase) (a : Bool) (w : Bool) (c : Cause) → halting p a w c ≡ true → is_up p ≡ true → halting Ending a w c ≡ true
end_halting = simp finite at test_end_halting

test_expire_halting : phases (λ p. bools (λ a. bools (λ w. causes (λ c. given (halting p a w c) (given (active p) (halting Ending a w (pick (is_starting p) (pick (is_user c) User Failed) c))))))) ≡ true
unfolding phases bools causes given
test_expire_halting = refl

pub expire_halting : (p : Phase) (a : Bool) (w : Bool) (c : Cause) → halting p a w c ≡ true → active p ≡ true → halting Ending a w (pick (is_starting p) (pick (is_user c) User Failed) c) ≡ true
expire_halting = simp finite at test_expire_halting

test_started_halting : phases (λ p. bools (λ a. bools (λ w. causes (λ c. given (halting p a w c) (given (is_starting p) (halting Up a w c)))))) ≡ true
unfolding phases bools causes given
test_started_halting = refl

pub started_halting : (p : Phase) (a : Bool) (w : Bool) (c : Cause) → halting p a w c ≡ true → is_starting p ≡ true → halting Up a w c ≡ true
started_halting = simp finite at test_started_halting

test_fell_halting : phases (λ p. bools (λ a. bools (λ w. causes (λ c. given (halting p a w c) (given (is_up p) (halting p a w (pick (is_none c) Fell c))))))) ≡ true
unfolding phases bools causes given
test_fell_halting = refl

pub fell_halting : (p : Phase) (a : Bool) (w : Bool) (c : Cause) → halting p a w c ≡ true → is_up p ≡ true → halting p a w (pick (is_none c) Fell c) ≡ true
fell_halting = simp finite at test_fell_halting

test_stop_halting : phases (λ p. bools (λ a. causes (λ c. halting (stopped_phase p) (not (active p) || a) false (pick (active p) User c)))) ≡ true
unfolding phases bools causes
test_stop_halting = refl

pub stop_halting : (p : Phase) (a : Bool) (c : Cause) → (halting (stopped_phase p) (not (active p) || a) false (pick (active p) User c)) ≡ true
stop_halting = simp finite at test_stop_halting

-- how phases go on
test_stopped_down : phases (λ p. given (is_down p) (is_down (stopped_phase p))) ≡ true
unfolding phases given
test_stopped_down = refl

pub stopped_down : (p : Phase) → is_down p ≡ true → is_down (stopped_phase p) ≡ true
stopped_down = simp finite at test_stopped_down

test_stopped_starting : phases (λ p. given (is_starting (stopped_phase p)) (is_starting p)) ≡ true
unfolding phases given
test_stopped_starting = refl

pub stopped_starting : (p : Phase) → is_starting (stopped_phase p) ≡ true → is_starting p ≡ true
stopped_starting = simp finite at test_stopped_starting

test_stopped_ending : phases (λ p. given (is_ending p) (is_ending (stopped_phase p))) ≡ true
unfolding phases given
test_stopped_ending = refl

pub stopped_ending : (p : Phase) → is_ending p ≡ true → is_ending (stopped_phase p) ≡ true
stopped_ending = simp finite at test_stopped_ending

test_expire_not_down : phases (λ p. bools (λ b. given (is_starting p || is_ending p && b) (given (is_down p) (false)))) ≡ true
unfolding phases bools given
test_expire_not_down = refl

pub expire_not_down : (p : Phase) (b : Bool) → (is_starting p || is_ending p && b) ≡ true → is_down p ≡ true → false ≡ true
expire_not_down = simp finite at test_expire_not_down

-- how a record may go on
pub record Goes (r r' : Record) : Type 0 where
  pub down : is_down r.phase ≡ true → is_down r'.phase ≡ true
  pub starting : is_starting r'.phase ≡ true → (is_starting r.phase ≡ true) × (r'.deadline ≡ r.deadline)
  pub ending : is_ending r.phase ≡ true → (is_down r'.phase ≡ true) ⊎ ((is_ending r'.phase ≡ true) × (r'.deadline ≡ r.deadline))

pub goes_refl : (r : Record) → Goes r r
goes_refl r = record { down = λ d. d; starting = λ s. (s, refl); ending = λ e. inr (e, refl) }

pub goes_trans : (a b c : Record) → Goes a b → Goes b c → Goes a c
goes_trans a b c g h = record {
  down = λ d. h.down (g.down d);
  starting = λ s. let k = h.starting s in let m = g.starting k.0 in (m.0, k.1 ∙ m.1);
  ending =
      λ e. either (g.ending e) (λ d. inl (h.down d)) (λ k. either (h.ending k.0) (λ d. inl d) (λ m. inr (m.0, m.1 ∙ k.1)));
}

pub stop_goes : (r : Record) → Goes r (stopped r)
stop_goes r = record {
  down = stopped_down r.phase;
  starting = λ e. (stopped_starting r.phase e, refl);
  ending = λ e. inr (stopped_ending r.phase e, refl);
}

module _ (t : Table) (x : State) (s : ℕ) (d : halting_at (record_at x s) ≡ true) where
  user : active (record_at x s).phase ≡ true → (record_at x s).cause ≡ User
  user a = is_user_lem (record_at x s).cause (halting_user (record_at x s).phase (record_at x s).aside (record_at x s).wanted (record_at x s).cause d a)

  pub leaves_halting : (k : Rule) → fits k t x s ≡ true → (halting_at (leaves k t x s) ≡ true) × Goes (record_at x s) (leaves k t x s)
  unfolding leaves
  leaves_halting Lose f =
      let m = (lose_fits t x s).0 f in
      no_ft (halting_runs_not (record_at x s).phase (record_at x s).aside (record_at x s).wanted (record_at x s).cause d m.on m.nil)
  leaves_halting Abandon f =
      no_ft (halting_waits_not (record_at x s).phase (record_at x s).aside (record_at x s).wanted (record_at x s).cause d ((abandon_fits t x s).0 f).waits)
  leaves_halting Settle f =
      let m = (settle_fits t x s).0 f in
      (rw (user (up_active (record_at x s).phase m.up)), record { down = λ _. refl; starting = λ e. no_ft e; ending = λ _. inl refl })
  leaves_halting Wake f =
      let m = (wake_fits t x s).0 f in
      no_ft (halting_wakes_not (record_at x s).phase (record_at x s).aside (record_at x s).wanted (record_at x s).cause d m.down ((not_true _).1 m.aside))
  leaves_halting Release f =
      let m = (release_fits t x s).0 f in
      no_ft (halting_released_not (record_at x s).phase (record_at x s).aside (record_at x s).wanted (record_at x s).cause d m.on m.nil)
  leaves_halting Begin f =
      no_ft (halting_waits_not (record_at x s).phase (record_at x s).aside (record_at x s).wanted (record_at x s).cause d ((begin_fits t x s).0 f).waits)
  leaves_halting End f =
      let m = (end_fits t x s).0 f in
      let up : (record_at x s).phase ≡ Up = is_up_lem (record_at x s).phase m.up in (
        end_halting (record_at x s).phase (record_at x s).aside (record_at x s).wanted (record_at x s).cause d m.up,
        record { down = λ e. no_ft (rw up at e); starting = λ e. no_ft e; ending = λ e. no_ft (rw up at e) },
      )
  leaves_halting Expire f =
      let m = (expire_fits t x s).0 f in (
        expire_halting (record_at x s).phase (record_at x s).aside (record_at x s).wanted (record_at x s).cause d
            (expire_active (record_at x s).phase (not (record_at x s).killed) m.which),
        record {
          down = λ e. no_ft (expire_not_down (record_at x s).phase (not (record_at x s).killed) m.which e);
          starting = λ e. no_ft e;
          ending = λ e. inr (refl, rw (is_ending_lem (record_at x s).phase e));
        },
      )

  pub ended_halting : (good : Bool) (p : Phase) → (record_at x s).phase ≡ p
      → (halting_at (ended_as p (settings_at t s) x.clock good (record_at x s)) ≡ true) × Goes (record_at x s) (ended_as p (settings_at t s) x.clock good (record_at x s))
  unfolding ended_as
  ended_halting good Down e = (d, record { down = λ y. y; starting = λ y. (y, refl); ending = λ y. inr (y, refl) })
  ended_halting good Waiting e = (d, record { down = λ y. y; starting = λ y. (y, refl); ending = λ y. inr (y, refl) })
  ended_halting true Starting e = (
    started_halting (record_at x s).phase (record_at x s).aside (record_at x s).wanted (record_at x s).cause d (rw e),
    record { down = λ y. no_ft (rw e at y); starting = λ y. no_ft y; ending = λ y. no_ft (rw e at y) },
  )
  ended_halting false Starting e = (refl, record { down = λ _. refl; starting = λ y. no_ft y; ending = λ _. inl refl })
  ended_halting good Up e = (
    fell_halting (record_at x s).phase (record_at x s).aside (record_at x s).wanted (record_at x s).cause d (rw e),
    record { down = λ y. y; starting = λ y. (y, refl); ending = λ y. inr (y, refl) },
  )
  ended_halting good Ending e = (rw (user (rw e)), record { down = λ _. refl; starting = λ y. no_ft y; ending = λ _. inl refl })
