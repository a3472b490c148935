-- The three stages before the last, and the bound: at most four actions for each service before quiet, from any state that
-- passes list 24.
use Prim.Native.Nat.{◌*◌, ◌<◌, ◌≤◌, ℕ}
use borrow.Author.Tests.{leb-true, ltb-true}
use lib.Dec.{lit<}
use mathlib.Core.Bool.{Bool, ◌&&◌, false, not, true}
use mathlib.Core.Path.{◌≡◌, refl}
use native.Mathlib.Nat.{le_refl, le_trans}
use native.Mathlib.Omega.{arith}
use Rattle.base.proofs.Tests.{either, no_ft, not_both, not_true}
use Rattle.service.specs.Records.{is_none, record_at, with_record}
use Rattle.service.specs.Settings.{settings_at}
use Rattle.service.specs.declared.Cause.{Cause}
use Rattle.service.specs.declared.Cause.TheVariants.{Failed, Fell, None as NoCause, Released, User}
use Rattle.service.specs.declared.Record.{Record}
use Rattle.service.specs.declared.Settings.{Settings}
use Rattle.service.specs.declared.State.{State}
use Rattle.service.specs.declared.Table.{Table}
use Rattle.service.proofs.Named.{is_down_lem, is_up_lem, is_waiting_lem}
use Rattle.rules.specs.Dependencies.{serving}
use Rattle.rules.specs.Rules.{due, fits, leaves, lost_to_user, running}
use Rattle.rules.specs.Settling.{limit_reached, settled_aside, settled_wanted}
use Rattle.rules.specs.declared.Rule.{Rule}
use Rattle.rules.specs.declared.Rule.TheVariants.{Abandon, Begin, End, Expire, Lose, Release, Settle, Wake}
use Rattle.rules.proofs.Along.{along_with}
use Rattle.rules.proofs.Fitting.{abandon_fits, lose_fits, release_fits, settle_fits, wake_fits}
use Rattle.rules.proofs.Formed.{AnyStage, any_rule}
use Rattle.rules.proofs.LastRests.{last_rests, weigh_last}
use Rattle.rules.proofs.LastStage.{Tidy, tidy, unneeded, untidy}
use Rattle.rules.proofs.Next.{Before, Fires, Nowhere, next_either}
use Rattle.rules.proofs.ReleaseStage.{Fall, ReleaseStage, fall}
use Rattle.rules.proofs.Rest.{Ends, Turn, ends_more, fired_lighter, later, stage, stays_still}
use Rattle.rules.proofs.Shapes.{release_active, serving_running}
use Rattle.rules.proofs.StageWeights.{abandon_lighter, any_four, last_release, lose_lighter, release_lighter, release_tidy, released_busy, released_off, released_running, released_woken, settle_lighter, tidy_any, unneeded_lighter, wake_lighter, weigh_any, weigh_release, weigh_tidy}
use Rattle.rules.proofs.Weights.{total, total_bound, total_le, total_with}

both_false : (x w y : Bool) → w ≡ false → (x && w && y) ≡ false
both_false true w y e = rw e
both_false false w y e = refl

-- settling makes no service wanted
unwanted_settled : (c : Cause) (v : Settings) (now : ℕ) (r : Record) → r.wanted ≡ false → settled_wanted c v now r ≡ false
unwanted_settled NoCause v now r e = e
unwanted_settled User v now r e = refl
unwanted_settled Released v now r e = e
unwanted_settled Fell v now r e = both_false (not (limit_reached v now r)) r.wanted v.restart e
unwanted_settled Failed v now r e = refl

-- ---- only services that nobody needs settle: rules 3 and 5

module _ (t : Table) (x : State) (i : ReleaseStage t x) where
  settle_falls : (s : ℕ) (sl : s < t.count) → fits Settle t x s ≡ true → Fall t x s (leaves Settle t x s) i sl
  unfolding leaves
  settle_falls s sl p =
      let m = (settle_fits t x s).0 p in
      let k = i.settles s sl p in
      record {
        busy = refl;
        unwanted = unwanted_settled (record_at x s).cause (settings_at t s) x.clock (record_at x s) k.0.unwanted;
        off = refl;
        shrinks = λ a. no_ft a;
        lone = k.0;
        woken = rw (is_up_lem (record_at x s).phase m.up);
        props = λ _. k.1;
      }

  release_falls : (s : ℕ) (sl : s < t.count) → fits Release t x s ≡ true → Fall t x s (leaves Release t x s) i sl
  unfolding leaves
  release_falls s sl p =
      let m = (release_fits t x s).0 p in
      let k = (unneeded t x s).0 m.unneeded in
      record {
        busy = (not_true _).0 (released_busy (record_at x s).phase);
        unwanted = k.unwanted;
        off = (not_true _).0 (released_off (record_at x s).phase (record_at x s).cause m.on);
        shrinks = release_active (record_at x s).phase;
        lone = k;
        woken = (not_true _).0 (released_woken (record_at x s).phase m.on);
        props = λ a d dl h. i.clean s d sl dl h (released_running (record_at x s).phase (record_at x s).cause m.on m.nil a);
      }

  settle_less : (s : ℕ) → fits Settle t x s ≡ true → weigh_release (settings_at t s) x.clock (leaves Settle t x s) < weigh_release (settings_at t s) x.clock (record_at x s)
  unfolding leaves weigh_release
  settle_less s p = ltb-true _ _ (unneeded_lighter (record_at x s).phase (is_none (record_at x s).cause) ((settle_fits t x s).0 p).up)

  release_less : (s : ℕ) → fits Release t x s ≡ true → weigh_release (settings_at t s) x.clock (leaves Release t x s) < weigh_release (settings_at t s) x.clock (record_at x s)
  unfolding leaves weigh_release
  release_less s p = let m = (release_fits t x s).0 p in ltb-true _ _ (release_lighter (record_at x s).phase (record_at x s).cause m.on m.nil)

  last_le : total weigh_last t x ≤ total weigh_release t x
  unfolding weigh_last weigh_release
  last_le =
      total_le weigh_last weigh_release t x
      (λ v r. leb-true _ _ (last_release r.phase (is_none r.cause) (due x.clock r.deadline) r.killed))

  to_last : Before t x 5 → Turn t (ReleaseStage t) (total weigh_release t) x
  to_last b = later (ends_more t (last_rests t x record { any = i.any; before = b }) _ last_le)

  release_turn : Turn t (ReleaseStage t) (total weigh_release t) x
  release_turn = either (next_either t x) (stays_still t (ReleaseStage t) (total weigh_release t) x) (λ k. go k.0 k.1 k.2)
    where
      out : (k : Rule) (s : ℕ) → Fires t x k s → Nowhere t x k → Turn t (ReleaseStage t) (total weigh_release t) x
      out k s f n = absurd (not_both f.lowest.passes (n s f.lowest.bound))

      falls : (k : Rule) (s : ℕ) (f : Fires t x k s) → Fall t x s (leaves k t x s) i f.lowest.bound → weigh_release (settings_at t s) x.clock (leaves k t x s) < weigh_release (settings_at t s) x.clock (record_at x s)
          → Turn t (ReleaseStage t) (total weigh_release t) x
      falls k s f c l =
          let sl = f.lowest.bound in
          fired_lighter t (ReleaseStage t) (total weigh_release t) x k s f
          (fall t x s (leaves k t x s) i sl c (any_rule t x k s i.any sl f.lowest.passes))
          (total_with weigh_release t x s (leaves k t x s) i.any.sized i.any.few sl l)

      go : (k : Rule) (s : ℕ) → Fires t x k s → Turn t (ReleaseStage t) (total weigh_release t) x
      go Lose s f = out Lose s f (untidy t x i.clean)
      go Abandon s f = out Abandon s f i.no_abandon
      go Settle s f = falls Settle s f (settle_falls s f.lowest.bound f.lowest.passes) (settle_less s f.lowest.passes)
      go Wake s f = out Wake s f i.no_wake
      go Release s f = falls Release s f (release_falls s f.lowest.bound f.lowest.passes) (release_less s f.lowest.passes)
      go Begin s f = to_last f.before
      go End s f = to_last (λ j l. f.before j (omega arith))
      go Expire s f = to_last (λ j l. f.before j (omega arith))

release_rests : (t : Table) (x : State) → ReleaseStage t x → Ends t (total weigh_release t x) x
release_rests t x i = stage t (ReleaseStage t) (total weigh_release t) (release_turn t) (total weigh_release t x) x i (le_refl _)

-- ---- rule 1 fits nowhere: rules 2, 3 and 4

record TidyStage (t : Table) (x : State) : Type 0 where
  any : AnyStage t x
  clean : Tidy t x

module _ (t : Table) (x : State) (i : TidyStage t x) where
  clean_with : (s : ℕ) → s < t.count → (r : Record) → running r ≡ false → serving (record_at x s) ≡ false → Tidy t (with_record x s r)
  clean_with s sl r o f =
      along_with running serving t x s r i.any.sized (le_trans sl i.any.few) i.clean (λ y. serving_running y.phase (is_none y.cause))
      (λ a. absurd (not_both a o)) (λ u. absurd (not_both u f))

  release_le : total weigh_release t x ≤ total weigh_tidy t x
  unfolding weigh_release weigh_tidy
  release_le = total_le weigh_release weigh_tidy t x (λ v r. leb-true _ _ (release_tidy r.phase (is_none r.cause) r.aside))

  to_release : Before t x 4 → Turn t (TidyStage t) (total weigh_tidy t) x
  to_release b =
      later
      (ends_more t
      (release_rests t x
      record {
        any = i.any;
        clean = i.clean;
        no_abandon = b Abandon (lit< tt);
        no_wake = b Wake (lit< tt);
        settles = λ s sl p. absurd (not_both p (b Settle (lit< tt) s sl));
      })
      _
      release_le)

  tidy_turn : Turn t (TidyStage t) (total weigh_tidy t) x
  unfolding leaves weigh_tidy
  tidy_turn = either (next_either t x) (stays_still t (TidyStage t) (total weigh_tidy t) x) (λ k. go k.0 k.1 k.2)
    where
      falls : (k : Rule) (s : ℕ) → Fires t x k s → running (leaves k t x s) ≡ false → serving (record_at x s) ≡ false → weigh_tidy (settings_at t s) x.clock (leaves k t x s) < weigh_tidy (settings_at t s) x.clock (record_at x s)
          → Turn t (TidyStage t) (total weigh_tidy t) x
      falls k s f o d l =
          let sl = f.lowest.bound in
          fired_lighter t (TidyStage t) (total weigh_tidy t) x k s f
          record { any = any_rule t x k s i.any sl f.lowest.passes; clean = clean_with s sl (leaves k t x s) o d }
          (total_with weigh_tidy t x s (leaves k t x s) i.any.sized i.any.few sl l)

      go : (k : Rule) (s : ℕ) → Fires t x k s → Turn t (TidyStage t) (total weigh_tidy t) x
      go Lose s f = absurd (not_both f.lowest.passes (untidy t x i.clean s f.lowest.bound))
      go Abandon s f =
          let m = (abandon_fits t x s).0 f.lowest.passes in
          falls Abandon s f refl (rw (is_waiting_lem (record_at x s).phase m.waits))
          (ltb-true _ _ (abandon_lighter (record_at x s).phase (is_none (record_at x s).cause) (record_at x s).aside m.waits))
      go Settle s f =
          let m = (settle_fits t x s).0 f.lowest.passes in
          falls Settle s f refl (rw (is_up_lem (record_at x s).phase m.up, m.caused))
          (ltb-true _ _
          (settle_lighter (record_at x s).phase (is_none (record_at x s).cause) (record_at x s).aside (settled_aside (record_at x s).cause (settings_at t s) x.clock (record_at x s)) m.up ((not_true _).1 m.caused)))
      go Wake s f =
          let m = (wake_fits t x s).0 f.lowest.passes in
          falls Wake s f refl (rw (is_down_lem (record_at x s).phase m.down))
          (ltb-true _ _ (wake_lighter (record_at x s).phase (is_none (record_at x s).cause) (record_at x s).aside m.down ((not_true _).1 m.aside)))
      go Release s f = to_release f.before
      go Begin s f = to_release (λ j l. f.before j (omega arith))
      go End s f = to_release (λ j l. f.before j (omega arith))
      go Expire s f = to_release (λ j l. f.before j (omega arith))

tidy_rests : (t : Table) (x : State) → TidyStage t x → Ends t (total weigh_tidy t x) x
tidy_rests t x i = stage t (TidyStage t) (total weigh_tidy t) (tidy_turn t) (total weigh_tidy t x) x i (le_refl _)

-- ---- any state that list 24 lets pass: rule 1

module _ (t : Table) (x : State) (i : AnyStage t x) where
  tidy_le : total weigh_tidy t x ≤ total weigh_any t x
  unfolding weigh_tidy weigh_any
  tidy_le = total_le weigh_tidy weigh_any t x (λ v r. leb-true _ _ (tidy_any r.phase (is_none r.cause) r.aside))

  any_le : total weigh_any t x ≤ 4 * t.count
  unfolding weigh_any
  any_le = total_bound weigh_any 4 t x (λ v r. leb-true _ _ (any_four r.phase (is_none r.cause) r.aside))

  to_tidy : Nowhere t x Lose → Turn t (AnyStage t) (total weigh_any t) x
  to_tidy n = later (ends_more t (tidy_rests t x record { any = i; clean = tidy t x n }) _ tidy_le)

  any_turn : Turn t (AnyStage t) (total weigh_any t) x
  unfolding leaves weigh_any
  any_turn = either (next_either t x) (stays_still t (AnyStage t) (total weigh_any t) x) (λ k. go k.0 k.1 k.2)
    where
      go : (k : Rule) (s : ℕ) → Fires t x k s → Turn t (AnyStage t) (total weigh_any t) x
      go Lose s f =
          let sl = f.lowest.bound in
          let m = (lose_fits t x s).0 f.lowest.passes in
          fired_lighter t (AnyStage t) (total weigh_any t) x Lose s f
          (any_rule t x Lose s i sl f.lowest.passes)
          (total_with weigh_any t x s (leaves Lose t x s) i.sized i.few sl
          (ltb-true _ _ (lose_lighter (record_at x s).phase (record_at x s).cause (lost_to_user t x s) (record_at x s).aside m.on m.nil)))
      go Abandon s f = to_tidy (f.before Lose (lit< tt))
      go Settle s f = to_tidy (f.before Lose (lit< tt))
      go Wake s f = to_tidy (f.before Lose (lit< tt))
      go Release s f = to_tidy (f.before Lose (lit< tt))
      go Begin s f = to_tidy (f.before Lose (lit< tt))
      go End s f = to_tidy (f.before Lose (lit< tt))
      go Expire s f = to_tidy (f.before Lose (lit< tt))

-- the bound
pub ends_within : (t : Table) (x : State) → AnyStage t x → Ends t (4 * t.count) x
ends_within t x i = stage t (AnyStage t) (total weigh_any t) (any_turn t) (4 * t.count) x i (any_le t x i)
