-- The last stage: none of rules 1 to 5 fits. What rules 6, 7 and 8 change keeps it so.
use Prim.Native.Nat.{◌<◌, ℕ}
use lib.Dec.{lit<}
use mathlib.Core.Bool.{◌&&◌, ◌||◌, false, true}
use mathlib.Core.Logic.{◌↔◌, ◌≢◌, ◌⊎◌, inl, inr}
use mathlib.Core.Path.{◌≡◌}
use native.Mathlib.Omega.{arith}
use Rattle.base.specs.Folds.{some}
use Rattle.base.proofs.Below.{some_false, some_true}
use Rattle.base.proofs.Tests.{and_false, and_true, either, not_both, or_not, or_true, tests}
use Rattle.std.proofs.lemmas.Bool.{false_from_ne_true}
use Rattle.service.specs.Limits.{max_services}
use Rattle.service.specs.Records.{active, is_down, is_none, is_starting, is_up, is_waiting, record_at, with_record}
use Rattle.service.specs.declared.Record.{Record}
use Rattle.service.specs.declared.State.{State}
use Rattle.service.specs.declared.Table.{Table}
use Rattle.service.proofs.Named.{is_waiting_lem}
use Rattle.service.proofs.States.{Sized, With, other, same, with_at, with_other, with_same}
use Rattle.rules.specs.Dependencies.{depends, needed, serving}
use Rattle.rules.specs.Rules.{fits, running}
use Rattle.rules.specs.declared.Rule.TheVariants.{Abandon, Begin, End, Expire, Lose, Release, Settle, Wake}
use Rattle.rules.proofs.Along.{Along}
use Rattle.rules.proofs.Fitting.{Abandoning, Releasing, Settling, Waking, abandon_fits, lose_fits, release_fits, settle_fits, wake_fits}
use Rattle.rules.proofs.Held.{Unblocked, unblocked}
use Rattle.rules.proofs.Next.{Before, Nowhere}

-- a service that is starting or up with no cause has each of its hard dependencies up with no cause
abbrev pub Tidy : Table → State → Type 0
Tidy t x = Along running serving t x

pub tidy : (t : Table) (x : State) → Nowhere t x Lose → Tidy t x
tidy t x none e d el dl h a =
    let a' = (and_true (is_starting (record_at x e).phase || is_up (record_at x e).phase) (is_none (record_at x e).cause)).0 a in
    either
    (or_not (serving (record_at x d)))
    (λ f. f)
    (λ f.
    absurd
    (not_both ((lose_fits t x e).1 record { on = a'.0; nil = a'.1; broken = (d, dl, (h, (and_false (is_up (record_at x d).phase) _).0 f)) }) (none e el)))

pub untidy : (t : Table) (x : State) → Tidy t x → Nowhere t x Lose
untidy t x h s sl =
    false_from_ne_true
    (fits Lose t x s)
    (λ f.
    let m = (lose_fits t x s).0 f in
    let k = m.broken in
    let u = (and_true (is_up (record_at x k.0).phase) (is_none (record_at x k.0).cause)).0 (h s k.0 sl k.1 k.2.0 ((and_true _ _).1 (m.on, m.nil))) in
    not_both u.1 (k.2.1 u.0))

-- nobody needs s: it is not wanted, and each dependent is down
pub record Idle (t : Table) (x : State) (s : ℕ) : Type 0 where
  pub unwanted : (record_at x s).wanted ≡ false
  pub alone : (e : ℕ) → e < t.count → depends t e s ≡ true → is_down (record_at x e).phase ≡ true

pub unneeded : (t : Table) (x : State) (s : ℕ) → (needed t x s ≡ false) ↔ Idle t x s
unfolding needed
unneeded t x s = (
  λ f. let g = simp (tests, some_false) at f in record { unwanted = g.0; alone = g.1 },
  λ i. simp (tests, some_false) (i.unwanted, i.alone),
)

-- rule 4's last test
pub called_by : (t : Table) (x : State) (s : ℕ)
    → (((record_at x s).wanted || some (λ e. depends t e s && is_waiting (record_at x e).phase) t.count) ≡ true)
    ↔ (((record_at x s).wanted ≡ true) ⊎ ((e : ℕ) × (e < t.count) × ((depends t e s ≡ true) × (is_waiting (record_at x e).phase ≡ true))))
called_by t x s = (
  λ f. either ((or_true (record_at x s).wanted _).0 f) (λ a. inl a) (λ a. inr (simp (tests, some_true) at a)),
  λ k. (or_true _ _).1 (either k (λ a. inl a) (λ a. inr (simp (tests, some_true) a))),
)

module _ (t : Table) (x : State) (s : ℕ) (r : Record) (z : Sized x) (l : s < max_services) where
  still_active : (active (record_at x s).phase ≡ true → active r.phase ≡ true) → (e : ℕ) → active (record_at x e).phase ≡ true → active (record_at (with_record x s r) e).phase ≡ true
  still_active a e x' = go (with_at x s r z l e)
    where
      go : With x s r e → active (record_at (with_record x s r) e).phase ≡ true
      go (same q w) = rw w (a (rw q at x'))
      go (other q w) = rw w x'

  -- s goes on to block whom it blocks, and to need whom it needs
  unblocked_back : (active (record_at x s).phase ≡ true → active r.phase ≡ true) → (i : ℕ) → Unblocked t (with_record x s r) i → Unblocked t x i
  unblocked_back a i f e el h x' = f e el h (still_active a e x')

  idle_back : (is_down r.phase ≡ true → is_down (record_at x s).phase ≡ true) → (r.wanted ≡ (record_at x s).wanted) → (i : ℕ) → Idle t (with_record x s r) i → Idle t x i
  idle_back d w i k = record {
    unwanted = all_wants (with_at x s r z l i);
    alone = λ e el h. down_back e (k.alone e el h) (with_at x s r z l e);
  }
    where
      all_wants : With x s r i → (record_at x i).wanted ≡ false
      all_wants (same q x') = rw (q, ← w) (rw x' at k.unwanted)
      all_wants (other q x') = rw x' at k.unwanted

      down_back : (e : ℕ) → is_down (record_at (with_record x s r) e).phase ≡ true → With x s r e → is_down (record_at x e).phase ≡ true
      down_back e y (same q x') = rw q (d (rw x' at y))
      down_back e y (other q x') = rw x' at y

  -- what is known of the change in this stage
  pub record Change : Type 0 where
    pub woken : is_down r.phase ≡ false
    pub busy : is_waiting r.phase ≡ false
    pub acts : active (record_at x s).phase ≡ true → active r.phase ≡ true
    pub wants : r.wanted ≡ (record_at x s).wanted
    pub unclosed : is_up r.phase ≡ true → is_none r.cause ≡ true
    pub clean : Tidy t (with_record x s r)
    pub was : is_none r.cause ≡ true → (is_waiting (record_at x s).phase ≡ true) × (is_none (record_at x s).cause ≡ true)

  -- rules 2 and 4 fitted i before the change, where they fit it after: its record is as it was, and what it depends on, or who calls it, is not s
  module _ (i : ℕ) (w : record_at (with_record x s r) i ≡ record_at x i) where
    pub abandon_back : (m : Abandoning t (with_record x s r) i) → m.stuck.0 ≢ s → fits Abandon t x i ≡ true
    abandon_back m apart =
        let k = m.stuck in
        (abandon_fits t x i).1
        record { waits = rw w at m.waits; stuck = (k.0, k.1, (k.2.0, (rw (with_other x s r z l k.0 apart) at k.2.1.0, rw (with_other x s r z l k.0 apart) at k.2.1.1))) }

    pub wake_back : Waking t (with_record x s r) i → is_waiting r.phase ≡ false → fits Wake t x i ≡ true
    wake_back m busy =
        (wake_fits t x i).1
        record {
          down = rw w at m.down;
          aside = rw w at m.aside;
          called =
              (called_by t x i).1
              (either
              ((called_by t (with_record x s r) i).0 m.called)
              (λ x'. inl (rw w at x'))
              (λ k.
              let apart : (k.0 ≢ s) = λ q'. not_both (rw (q', with_same x s r z l) at k.2.1) busy in
              inr (k.0, k.1, (k.2.0, rw (with_other x s r z l k.0 apart) at k.2.1))));
        }

  module _ (c : Change) (b : Before t x 5) where
    no_abandon : Nowhere t (with_record x s r) Abandon
    no_abandon i il = false_from_ne_true _ (λ f. go ((abandon_fits t (with_record x s r) i).0 f) (with_at x s r z l i))
      where
        go : Abandoning t (with_record x s r) i → With x s r i → ⊥
        go m (same q w) = not_both (rw w at m.waits) c.busy
        go m (other q w) =
            not_both
            (abandon_back i w m (λ q'. not_both (rw (q', with_same x s r z l) at m.stuck.2.1.0) c.woken))
            (b Abandon (lit< tt) i il)

    no_settle : Nowhere t (with_record x s r) Settle
    no_settle i il = false_from_ne_true _ (λ f. go ((settle_fits t (with_record x s r) i).0 f) (with_at x s r z l i))
      where
        go : Settling t (with_record x s r) i → With x s r i → ⊥
        go m (same q w) = not_both (c.unclosed (rw w at m.up)) (rw w at m.caused)
        go m (other q w) =
            not_both
            ((settle_fits t x i).1
            record {
              up = rw w at m.up;
              caused = rw w at m.caused;
              unblocked = (unblocked t x i).1 (unblocked_back c.acts i ((unblocked t (with_record x s r) i).0 m.unblocked));
              nothing = rw w at m.nothing;
            })
            (b Settle (lit< tt) i il)

    no_wake : Nowhere t (with_record x s r) Wake
    no_wake i il = false_from_ne_true _ (λ f. go ((wake_fits t (with_record x s r) i).0 f) (with_at x s r z l i))
      where
        go : Waking t (with_record x s r) i → With x s r i → ⊥
        go m (same q w) = not_both (rw w at m.down) c.woken
        go m (other q w) = not_both (wake_back i w m c.busy) (b Wake (lit< tt) i il)

    no_release : Nowhere t (with_record x s r) Release
    no_release i il = false_from_ne_true _ (λ f. go ((release_fits t (with_record x s r) i).0 f) (with_at x s r z l i))
      where
        less : Idle t (with_record x s r) i → Idle t x i
        less = idle_back (λ d. absurd (not_both d c.woken)) c.wants i

        go : Releasing t (with_record x s r) i → With x s r i → ⊥
        go m (same q w) =
            let k = c.was (rw w at m.nil) in
            not_both
            ((release_fits t x i).1
            record {
              on = rw (q, is_waiting_lem (record_at x s).phase k.0);
              nil = rw q k.1;
              unneeded = (unneeded t x i).1 (less ((unneeded t (with_record x s r) i).0 m.unneeded));
            })
            (b Release (lit< tt) i il)
        go m (other q w) =
            not_both
            ((release_fits t x i).1
            record { on = rw w at m.on; nil = rw w at m.nil; unneeded = (unneeded t x i).1 (less ((unneeded t (with_record x s r) i).0 m.unneeded)) })
            (b Release (lit< tt) i il)

    pub before_with : Before t (with_record x s r) 5
    before_with Lose _ = untidy t (with_record x s r) c.clean
    before_with Abandon _ = no_abandon
    before_with Settle _ = no_settle
    before_with Wake _ = no_wake
    before_with Release _ = no_release
    before_with Begin k = absurd (omega arith)
    before_with End k = absurd (omega arith)
    before_with Expire k = absurd (omega arith)
