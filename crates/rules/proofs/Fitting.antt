-- What it means that a rule fits, part by part: a record for each rule, and its equivalence with the test.
use Prim.Native.Nat.{◌<◌, ℕ}
use lib.Dec.{leb}
use mathlib.Core.Bool.{◌&&◌, ◌||◌, false, not, true}
use mathlib.Core.Logic.{◌↔◌}
use mathlib.Core.Path.{◌≡◌}
use Rattle.base.specs.Folds.{some}
use Rattle.base.proofs.Below.{every_true, some_true}
use Rattle.base.proofs.Tests.{tests}
use Rattle.service.specs.Records.{is_down, is_ending, is_none, is_starting, is_up, is_waiting, record_at}
use Rattle.service.specs.Settings.{form_of, settings_at}
use Rattle.service.specs.declared.State.{State}
use Rattle.service.specs.declared.Table.{Table}
use Rattle.rules.specs.Dependencies.{barred, blocked, depends, hard, needed, serving, soft, strong}
use Rattle.rules.specs.Rules.{due, fits, nothing_to_end}
use Rattle.rules.specs.declared.Rule.TheVariants.{Abandon, Begin, End, Expire, Lose, Release, Settle, Wake}

module _ (t : Table) (x : State) (s : ℕ) where
  pub record Losing : Type 0 where
    pub on : (is_starting (record_at x s).phase || is_up (record_at x s).phase) ≡ true
    pub nil : is_none (record_at x s).cause ≡ true
    pub broken : (d : ℕ) × (d < t.count) × ((hard t s d ≡ true) × (is_up (record_at x d).phase ≡ true → is_none (record_at x d).cause ≡ false))

  pub record Abandoning : Type 0 where
    pub waits : is_waiting (record_at x s).phase ≡ true
    pub stuck : (d : ℕ) × (d < t.count) × ((strong t s d ≡ true) × ((is_down (record_at x d).phase ≡ true) × ((record_at x d).aside ≡ true)))

  pub record Settling : Type 0 where
    pub up : is_up (record_at x s).phase ≡ true
    pub caused : is_none (record_at x s).cause ≡ false
    pub unblocked : blocked t x s ≡ false
    pub nothing : nothing_to_end (form_of (settings_at t s)) (settings_at t s).has_stop (record_at x s).live ≡ true

  pub record Waking : Type 0 where
    pub down : is_down (record_at x s).phase ≡ true
    pub aside : (record_at x s).aside ≡ false
    pub called : ((record_at x s).wanted || some (λ e. depends t e s && is_waiting (record_at x e).phase) t.count) ≡ true

  pub record Releasing : Type 0 where
    pub on : (is_waiting (record_at x s).phase || is_starting (record_at x s).phase || is_up (record_at x s).phase) ≡ true
    pub nil : is_none (record_at x s).cause ≡ true
    pub unneeded : needed t x s ≡ false

  pub record Beginning : Type 0 where
    pub waits : is_waiting (record_at x s).phase ≡ true
    pub early : leb (record_at x s).not_before x.clock ≡ true
    pub strongs : (d : ℕ) → d < t.count → strong t s d ≡ true → (is_up (record_at x d).phase ≡ true) × (is_none (record_at x d).cause ≡ true)
    pub softs : (d : ℕ) → d < t.count → soft t s d ≡ true → (serving (record_at x d) || barred (record_at x d)) ≡ true

  pub record Finishing : Type 0 where
    pub up : is_up (record_at x s).phase ≡ true
    pub caused : is_none (record_at x s).cause ≡ false
    pub unblocked : blocked t x s ≡ false

  pub record Expiring : Type 0 where
    pub dues : due x.clock (record_at x s).deadline ≡ true
    pub which : (is_starting (record_at x s).phase || is_ending (record_at x s).phase && not (record_at x s).killed) ≡ true

  pub lose_fits : (fits Lose t x s ≡ true) ↔ Losing
  unfolding fits
  lose_fits = (
    λ f. let g = simp (tests, some_true) at f in record { on = g.0.0; nil = g.0.1; broken = g.1 },
    λ m. simp (tests, some_true) ((m.on, m.nil), m.broken),
  )

  pub abandon_fits : (fits Abandon t x s ≡ true) ↔ Abandoning
  unfolding fits
  abandon_fits = (λ f. let g = simp (tests, some_true) at f in record { waits = g.0; stuck = g.1 }, λ m. simp (tests, some_true) (m.waits, m.stuck))

  pub settle_fits : (fits Settle t x s ≡ true) ↔ Settling
  unfolding fits
  settle_fits = (
    λ f. let g = simp tests at f in record { up = g.0.0.0; caused = g.0.0.1; unblocked = g.0.1; nothing = g.1 },
    λ m. simp tests (((m.up, m.caused), m.unblocked), m.nothing),
  )

  pub wake_fits : (fits Wake t x s ≡ true) ↔ Waking
  unfolding fits
  wake_fits = (
    λ f. let g = simp tests at f in record { down = g.0.0; aside = g.0.1; called = g.1 },
    λ m. simp tests ((m.down, m.aside), m.called),
  )

  pub release_fits : (fits Release t x s ≡ true) ↔ Releasing
  unfolding fits
  release_fits = (
    λ f. let g = simp tests at f in record { on = g.0.0; nil = g.0.1; unneeded = g.1 },
    λ m. simp tests ((m.on, m.nil), m.unneeded),
  )

  pub begin_fits : (fits Begin t x s ≡ true) ↔ Beginning
  unfolding fits
  begin_fits = (
    λ f. let g = simp (tests, every_true) at f in record { waits = g.0.0.0; early = g.0.0.1; strongs = g.0.1; softs = g.1 },
    λ m. simp (tests, every_true) (((m.waits, m.early), m.strongs), m.softs),
  )

  pub end_fits : (fits End t x s ≡ true) ↔ Finishing
  unfolding fits
  end_fits = (
    λ f. let g = simp tests at f in record { up = g.0.0; caused = g.0.1; unblocked = g.1 },
    λ m. simp tests ((m.up, m.caused), m.unblocked),
  )

  pub expire_fits : (fits Expire t x s ≡ true) ↔ Expiring
  unfolding fits
  expire_fits = (λ f. let g = simp tests at f in record { dues = g.0; which = g.1 }, λ m. simp tests (m.dues, m.which))
