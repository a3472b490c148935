-- A killed service is ending, and its process was sent a deadline's KILL by the rules' state before the action: so the flag
-- that the engine keeps says no more than the answers do.
use Prim.Native.Nat.{◌<◌, ℕ}
use mathlib.Core.Bool.{Bool, ◌&&◌, ◌||◌, false, not, true}
use mathlib.Core.Path.{◌≡◌, refl, sym}
use Rattle.base.specs.Folds.{pick}
use Rattle.base.proofs.Tests.{no_ft, not_both, not_true}
use Rattle.service.specs.Records.{is_ending, is_starting, record_at}
use Rattle.service.specs.Settings.{settings_at}
use Rattle.service.specs.declared.Action.TheVariants.{Launch, Moved, Quiet, Signal, StopCommand}
use Rattle.service.specs.declared.Phase.{Phase}
use Rattle.service.specs.declared.Phase.TheVariants.{Down, Ending, Starting, Up, Waiting}
use Rattle.service.specs.declared.Record.{Record}
use Rattle.service.specs.declared.State.{State}
use Rattle.service.specs.declared.Table.{Table}
use Rattle.service.proofs.Named.{is_down_lem, is_up_lem, is_waiting_lem}
use Rattle.rules.specs.Demand.{Mark, Set, began, ended, handed, kills_by, passed, sent_by}
use Rattle.rules.specs.Events.{ended_as}
use Rattle.rules.specs.Rules.{expired_action, fits, hands, leaves}
use Rattle.std.specs.Prelude.{Some}
use Rattle.rules.specs.declared.Rule.{Rule}
use Rattle.rules.specs.declared.Rule.TheVariants.{Abandon, Begin, End, Expire, Lose, Release, Settle, Wake}
use Rattle.rules.proofs.Fitting.{abandon_fits, begin_fits, end_fits, expire_fits, release_fits, wake_fits}
use Rattle.rules.proofs.Recorded.{Concerns, with_in, with_others, without_others}
use Rattle.rules.proofs.Shapes.{release_not_ending}

-- of a service's record r, where u is the set of those that were sent one
abbrev pub KilledAt : Set → ℕ → Record → Type 0
KilledAt u s r = r.killed ≡ true → (is_ending r.phase ≡ true) × (u s ≡ true)

-- of every service
abbrev pub KilledSent : Table → Set → State → Type 0
KilledSent t u x = (s : ℕ) → s < t.count → KilledAt u s (record_at x s)

-- a mark leaves those in the set whom it does not concern
pub sent_others : (k : Mark) (u : Set) (e : ℕ) → (Concerns k e → ⊥) → sent_by k u e ≡ u e
sent_others (handed Quiet b) u e n = refl
sent_others (handed (Moved s) b) u e n = refl
sent_others (handed (Launch s) b) u e n = without_others s e u (λ q. n (sym q))
sent_others (handed (StopCommand s) b) u e n = without_others s e u (λ q. n (sym q))
sent_others (handed (Signal s g) true) u e n = with_others s e u (λ q. n (sym q))
sent_others (handed (Signal s g) false) u e n = refl
sent_others (ended s) u e n = without_others s e u (λ q. n (sym q))
sent_others began u e n = refl
sent_others passed u e n = refl

module _ (t : Table) (x : State) (s : ℕ) (u : Set) (h : KilledAt u s (record_at x s)) where
  -- a service in another phase than ending is not killed
  unkilled : {A : Type 0} (p : Phase) → is_ending p ≡ false → (record_at x s).phase ≡ p → (record_at x s).killed ≡ true → A
  unkilled p e q d = absurd (not_both (rw q at (h d).0) e)

  pub rule_kills : (k : Rule) → fits k t x s ≡ true → KilledAt (sent_by (handed (hands k t x s) (kills_by (Some (k, s)) x)) u) s (leaves k t x s)
  unfolding hands leaves
  rule_kills Lose f = h
  rule_kills Abandon f = unkilled Waiting refl (is_waiting_lem _ ((abandon_fits t x s).0 f).waits)
  rule_kills Settle f = λ d. no_ft d
  rule_kills Wake f = unkilled Down refl (is_down_lem _ ((wake_fits t x s).0 f).down)
  rule_kills Release f =
      λ d. absurd (not_both (h d).0 ((not_true _).0 (release_not_ending (record_at x s).phase ((release_fits t x s).0 f).on)))
  rule_kills Begin f = unkilled Waiting refl (is_waiting_lem _ ((begin_fits t x s).0 f).waits)
  rule_kills End f = unkilled Up refl (is_up_lem _ ((end_fits t x s).0 f).up)
  rule_kills Expire f = go (record_at x s).phase refl ((expire_fits t x s).0 f).which
    where
      go : (p : Phase) → (record_at x s).phase ≡ p → (is_starting p || is_ending p && not (record_at x s).killed) ≡ true
          → pick (is_starting p) (record_at x s).killed true ≡ true → (true ≡ true) × (sent_by (handed (expired_action p s) (is_ending p)) u s ≡ true)
      go Down e w d = no_ft w
      go Waiting e w d = no_ft w
      go Starting e w d = unkilled Starting refl e d
      go Up e w d = no_ft w
      go Ending e w d = (refl, with_in s u)

  pub end_kills : (p : Phase) → (record_at x s).phase ≡ p → (b : Bool) → KilledAt (sent_by (ended s) u) s (ended_as p (settings_at t s) x.clock b (record_at x s))
  unfolding ended_as
  end_kills Down e b = unkilled Down refl e
  end_kills Waiting e b = unkilled Waiting refl e
  end_kills Starting e true = unkilled Starting refl e
  end_kills Starting e false = λ d. no_ft d
  end_kills Up e b = unkilled Up refl e
  end_kills Ending e b = λ d. no_ft d
