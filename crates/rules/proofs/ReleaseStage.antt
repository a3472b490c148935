-- The stage of the services that nobody needs: rules 1, 2 and 4 fit nowhere, and rule 3 only such a service.
use Prim.Native.Nat.{◌<◌, ℕ}
use mathlib.Core.Bool.{false, true}
use mathlib.Core.Logic.{◌≢◌, inr}
use mathlib.Core.Path.{◌≡◌}
use native.Mathlib.Nat.{le_trans}
use Rattle.base.proofs.Tests.{and_true, either, no_ft, not_both}
use Rattle.std.proofs.lemmas.Bool.{false_from_ne_true}
use Rattle.service.specs.Limits.{max_services}
use Rattle.service.specs.Records.{active, is_down, is_none, is_up, is_waiting, record_at, with_record}
use Rattle.service.specs.declared.Record.{Record}
use Rattle.service.specs.declared.State.{State}
use Rattle.service.specs.declared.Table.{Table}
use Rattle.service.proofs.Named.{is_down_lem}
use Rattle.service.proofs.States.{Sized, With, other, same, with_at, with_other, with_same}
use Rattle.rules.specs.Dependencies.{hard, serving}
use Rattle.rules.specs.Rules.{fits, running}
use Rattle.rules.specs.declared.Rule.TheVariants.{Abandon, Settle, Wake}
use Rattle.rules.proofs.Along.{along_with}
use Rattle.rules.proofs.Fitting.{Abandoning, Settling, Waking, abandon_fits, settle_fits, wake_fits}
use Rattle.rules.proofs.Formed.{AnyStage}
use Rattle.rules.proofs.Held.{Unblocked, unblocked}
use Rattle.rules.proofs.LastStage.{Idle, Tidy, abandon_back, called_by, wake_back}
use Rattle.rules.proofs.Links.{hard_depends, strong_depends}
use Rattle.rules.proofs.Next.{Nowhere}
use Rattle.rules.proofs.Shapes.{serving_running, up_active}

abbrev Propped : Table → State → ℕ → Type 0
Propped t x s = (d : ℕ) → d < t.count → hard t s d ≡ true → serving (record_at x d) ≡ true

pub record ReleaseStage (t : Table) (x : State) : Type 0 where
  pub any : AnyStage t x
  pub clean : Tidy t x
  pub no_abandon : Nowhere t x Abandon
  pub no_wake : Nowhere t x Wake
  pub settles : (s : ℕ) → s < t.count → fits Settle t x s ≡ true → Idle t x s × Propped t x s

module _ (t : Table) (x : State) (s : ℕ) (r : Record) (i : ReleaseStage t x) (sl : s < t.count) where
  -- what is known of the change: s, which is not down, is needed by nobody; it comes to be no more than it was
  pub record Fall : Type 0 where
    pub busy : is_waiting r.phase ≡ false
    pub unwanted : r.wanted ≡ false
    pub off : running r ≡ false
    pub shrinks : active r.phase ≡ true → active (record_at x s).phase ≡ true
    pub lone : Idle t x s
    pub woken : is_down (record_at x s).phase ≡ false
    pub props : active (record_at x s).phase ≡ true → Propped t x s

  module _ (f : Fall) where
    z : Sized x
    z = i.any.sized

    l : s < max_services
    l = le_trans sl i.any.few

    clean' : Tidy t (with_record x s r)
    clean' =
        along_with running serving t x s r z l i.clean (λ y. serving_running y.phase (is_none y.cause)) (λ a. absurd (not_both a f.off))
        (λ u. inr (λ e el h a. no_ft (rw (is_down_lem (record_at x e).phase (f.lone.alone e el (hard_depends t e s h))) at a)))

    no_abandon' : Nowhere t (with_record x s r) Abandon
    no_abandon' j jl = false_from_ne_true _ (λ y. go ((abandon_fits t (with_record x s r) j).0 y) (with_at x s r z l j))
      where
        go : Abandoning t (with_record x s r) j → With x s r j → ⊥
        go m (same q w) = not_both (rw w at m.waits) f.busy
        go m (other q w) =
            let waits : is_waiting (record_at x j).phase ≡ true = rw w at m.waits in
            not_both
            (abandon_back t x s r z l j w m
            (λ q'. no_ft (rw (is_down_lem (record_at x j).phase (f.lone.alone j jl (strong_depends t j s (rw q' at m.stuck.2.0)))) at waits)))
            (i.no_abandon j jl)

    no_wake' : Nowhere t (with_record x s r) Wake
    no_wake' j jl = false_from_ne_true _ (λ y. go ((wake_fits t (with_record x s r) j).0 y) (with_at x s r z l j))
      where
        go : Waking t (with_record x s r) j → With x s r j → ⊥
        go m (same q w) =
            either
            ((called_by t (with_record x s r) j).0 m.called)
            (λ y. not_both (rw w at y) f.unwanted)
            (λ k.
            let apart : (k.0 ≢ s) = λ q'. not_both (rw (q', with_same x s r z l) at k.2.1) f.busy in
            no_ft (rw (is_down_lem (record_at x k.0).phase (f.lone.alone k.0 k.1 (rw q at k.2.0))) at (rw (with_other x s r z l k.0 apart) at k.2.1)))
        go m (other q w) = not_both (wake_back t x s r z l j w m f.busy) (i.no_wake j jl)

    -- what was down is down, and what was firm is firm, since s is neither
    down_on : (e : ℕ) → is_down (record_at x e).phase ≡ true → is_down (record_at (with_record x s r) e).phase ≡ true
    down_on e d = rw (with_other x s r z l e (λ q. not_both (rw q at d) f.woken)) d

    -- a closing service that s does not block any more was not blocked by it
    free_old : (j : ℕ) → j < t.count → is_none (record_at x j).cause ≡ false → Unblocked t (with_record x s r) j → (e : ℕ) → e < t.count → hard t e j ≡ true → active (record_at x e).phase ≡ true → With x s r e → ⊥
    free_old j jl caused fr e el h a (same q w) =
        not_both ((and_true (is_up (record_at x j).phase) (is_none (record_at x j).cause)).0 (f.props (rw q at a) j jl (rw q at h))).1 caused
    free_old j jl caused fr e el h a (other q w) = fr e el h (rw w a)

    settles' : (j : ℕ) → j < t.count → fits Settle t (with_record x s r) j ≡ true → Idle t (with_record x s r) j × Propped t (with_record x s r) j
    settles' j jl y = go ((settle_fits t (with_record x s r) j).0 y) (with_at x s r z l j)
      where
        go : Settling t (with_record x s r) j → With x s r j → Idle t (with_record x s r) j × Propped t (with_record x s r) j
        go m (same q w) = (
          record { unwanted = rw w f.unwanted; alone = λ e el h. down_on e (f.lone.alone e el (rw q at h)) },
          λ d dl h.
              let hs : hard t s d ≡ true = rw q at h in
              let apart : (d ≢ s) = λ q'. not_both (f.lone.alone s sl (hard_depends t s s (rw q' at hs))) f.woken in
              rw (with_other x s r z l d apart) (f.props (f.shrinks (up_active r.phase (rw w at m.up))) d dl hs),
        )
        go m (other q w) =
            let up : is_up (record_at x j).phase ≡ true = rw w at m.up in
            let caused : is_none (record_at x j).cause ≡ false = rw w at m.caused in
            let unbound : Unblocked t x j =
            λ e el h a. free_old j jl caused ((unblocked t (with_record x s r) j).0 m.unblocked) e el h a (with_at x s r z l e) in
            let k = i.settles j jl ((settle_fits t x j).1 record { up = up; caused = caused; unblocked = (unblocked t x j).1 unbound; nothing = rw w at m.nothing }) in (
              record { unwanted = rw w k.0.unwanted; alone = λ e el h. down_on e (k.0.alone e el h) },
              λ d dl h.
                  let apart : (d ≢ s) = λ q'. no_ft (rw (is_down_lem (record_at x j).phase (f.lone.alone j jl (hard_depends t j s (rw q' at h)))) at up) in
                  rw (with_other x s r z l d apart) (k.1 d dl h),
            )

    pub fall : AnyStage t (with_record x s r) → ReleaseStage t (with_record x s r)
    fall any = record { any = any; clean = clean'; no_abandon = no_abandon'; no_wake = no_wake'; settles = settles' }
