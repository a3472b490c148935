-- The invariant of the hard dependencies: what a service that is starting, up or ending hard-depends on is up.
-- A rule keeps it by its own guard: to come to be active a service needs its hard dependencies up, and to leave up it must not be blocked;
-- an event makes no service active, and takes none out of up.
use Prim.Native.Nat.{◌<◌, ℕ}
use mathlib.Core.Bool.{Bool, ◌&&◌, ◌||◌, false, not, true}
use mathlib.Core.Logic.{◌↔◌, ◌⊎◌, inl, inr}
use mathlib.Core.Path.{◌≡◌, refl}
use Rattle.base.proofs.Below.{some_false}
use Rattle.base.proofs.Tests.{and_false, no_ft, not_both, not_true}
use Rattle.std.proofs.lemmas.Bool.{false_from_ne_true}
use Rattle.service.specs.Records.{active, is_ending, is_starting, is_up, record_at}
use Rattle.service.specs.Settings.{settings_at}
use Rattle.service.specs.declared.Phase.{Phase}
use Rattle.service.specs.declared.Phase.TheVariants.{Down, Ending, Starting, Up, Waiting}
use Rattle.service.specs.declared.Record.{Record}
use Rattle.service.specs.declared.State.{State}
use Rattle.service.specs.declared.Table.{Table}
use Rattle.service.proofs.Named.{is_down_lem, is_waiting_lem}
use Rattle.rules.specs.Dependencies.{blocked, hard}
use Rattle.rules.specs.Events.{ended_as}
use Rattle.rules.specs.Rules.{fits, leaves}
use Rattle.rules.specs.declared.Rule.{Rule}
use Rattle.rules.specs.declared.Rule.TheVariants.{Abandon, Begin, End, Expire, Lose, Release, Settle, Wake}
use Rattle.rules.proofs.Along.{Along, Free}
use Rattle.rules.proofs.Fitting.{abandon_fits, begin_fits, end_fits, expire_fits, settle_fits, wake_fits}
use Rattle.rules.proofs.Links.{hard_strong}
use Rattle.rules.proofs.Shapes.{expire_active, expire_not_up, release_active, release_up, up_active}

abbrev active_at : Record → Bool
active_at r = active r.phase

abbrev up_at : Record → Bool
up_at r = is_up r.phase

abbrev pub Held : Table → State → Type 0
Held t x = Along active_at up_at t x

-- no service that hard-depends on s is starting, up or ending
abbrev pub Unblocked : Table → State → ℕ → Type 0
Unblocked t x s = Free active_at up_at t x s

pub unblocked : (t : Table) (x : State) (s : ℕ) → (blocked t x s ≡ false) ↔ Unblocked t x s
unfolding blocked
unblocked t x s = (
  λ b e l h a. not_both a ((and_false (hard t e s) _).0 ((some_false (λ i. hard t i s && active (record_at x i).phase) t.count).0 b e l) h),
  λ f. (some_false (λ i. hard t i s && active (record_at x i).phase) t.count).1 (λ e l. (and_false (hard t e s) _).1 (λ h. false_from_ne_true _ (f e l h))),
)

module _ (t : Table) (x : State) (s : ℕ) where
  -- a record r in place of that of s comes to be active only where the hard dependencies of s are up
  abbrev pub Comes : Record → Type 0
  Comes r =
      active r.phase ≡ true
      → (active (record_at x s).phase ≡ true) ⊎ ((d : ℕ) → d < t.count → hard t s d ≡ true → is_up (record_at x d).phase ≡ true)

  -- and leaves up only where s is not blocked
  abbrev pub Parts : Record → Type 0
  Parts r = is_up (record_at x s).phase ≡ true → (is_up r.phase ≡ true) ⊎ Unblocked t x s

  pub rule_comes : (k : Rule) → fits k t x s ≡ true → Comes (leaves k t x s)
  unfolding leaves
  rule_comes Lose f = λ a. inl a
  rule_comes Abandon f = λ a. no_ft a
  rule_comes Settle f = λ a. no_ft a
  rule_comes Wake f = λ a. no_ft a
  rule_comes Release f = λ a. inl (release_active (record_at x s).phase a)
  rule_comes Begin f = λ a. inr (λ d dl h. (((begin_fits t x s).0 f).strongs d dl (hard_strong t s d h)).0)
  rule_comes End f = λ a. inl (up_active (record_at x s).phase ((end_fits t x s).0 f).up)
  rule_comes Expire f = λ a. inl (expire_active (record_at x s).phase (not (record_at x s).killed) ((expire_fits t x s).0 f).which)

  pub rule_parts : (k : Rule) → fits k t x s ≡ true → Parts (leaves k t x s)
  unfolding leaves
  rule_parts Lose f = λ u. inl u
  rule_parts Abandon f = λ u. no_ft (rw (is_waiting_lem (record_at x s).phase ((abandon_fits t x s).0 f).waits) at u)
  rule_parts Settle f = λ u. inr ((unblocked t x s).0 ((settle_fits t x s).0 f).unblocked)
  rule_parts Wake f = λ u. no_ft (rw (is_down_lem (record_at x s).phase ((wake_fits t x s).0 f).down) at u)
  rule_parts Release f = λ u. inl (release_up (record_at x s).phase u)
  rule_parts Begin f = λ u. no_ft (rw (is_waiting_lem (record_at x s).phase ((begin_fits t x s).0 f).waits) at u)
  rule_parts End f = λ u. inr ((unblocked t x s).0 ((end_fits t x s).0 f).unblocked)
  rule_parts Expire f = λ u. absurd (not_both u (expires_down ((expire_fits t x s).0 f).which))
    where
      expires_down : (is_starting (record_at x s).phase || is_ending (record_at x s).phase && not (record_at x s).killed) ≡ true → is_up (record_at x s).phase ≡ false
      expires_down w = (not_true _).0 (expire_not_up (record_at x s).phase (not (record_at x s).killed) w)

  pub end_comes : (p : Phase) → (record_at x s).phase ≡ p → (b : Bool) → Comes (ended_as p (settings_at t s) x.clock b (record_at x s))
  unfolding ended_as
  end_comes Down e b = λ a. inl a
  end_comes Waiting e b = λ a. inl a
  end_comes Starting e true = λ a. inl (rw e)
  end_comes Starting e false = λ a. no_ft a
  end_comes Up e b = λ a. inl a
  end_comes Ending e b = λ a. no_ft a

  pub end_parts : (p : Phase) → (record_at x s).phase ≡ p → (b : Bool) → Parts (ended_as p (settings_at t s) x.clock b (record_at x s))
  unfolding ended_as
  end_parts Down e b = λ u. inl u
  end_parts Waiting e b = λ u. inl u
  end_parts Starting e true = λ u. inl refl
  end_parts Starting e false = λ u. no_ft (rw e at u)
  end_parts Up e b = λ u. inl u
  end_parts Ending e b = λ u. no_ft (rw e at u)
