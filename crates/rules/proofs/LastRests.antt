-- The last stage comes to rest: at most one action for each service.
use Prim.Native.Nat.{◌+◌, ◌<◌, ℕ}
use borrow.Author.Tests.{eqb-false, lt-leb}
use lib.Dec.{eqb, lit<}
use mathlib.Core.Bool.{Bool, ◌&&◌, ◌||◌, false, not, true}
use mathlib.Core.Logic.{inr}
use mathlib.Core.Path.{◌∙◌, ◌≡◌, ap, refl}
use native.Mathlib.Nat.{le_refl, le_trans}
use native.Mathlib.Omega.{arith}
use Rattle.base.specs.Folds.{implies, pick}
use Rattle.base.proofs.Tests.{and_true, either, imp_true, no_ft, not_both, not_true}
use Rattle.service.specs.Limits.{max_services}
use Rattle.service.specs.Records.{active, is_down, is_ending, is_none, is_starting, is_up, is_waiting, record_at, with_record}
use Rattle.service.specs.Settings.{form_of, settings_at, starts_first}
use Rattle.std.specs.Prelude.{Option, Some, None}
use Rattle.service.specs.declared.Form.{Form}
use Rattle.service.specs.declared.Form.TheVariants.{Bare, Passing, Direct, Delayed}
use Rattle.service.specs.declared.Phase.{Phase}
use Rattle.service.specs.declared.Phase.TheVariants.{Ending}
use Rattle.service.specs.declared.Record.{Record}
use Rattle.service.specs.declared.Settings.{Settings}
use Rattle.service.specs.declared.State.{State}
use Rattle.service.specs.declared.Table.{Table}
use Rattle.service.proofs.Finite.{bools, finite, given, forms, phases}
use Rattle.service.proofs.Named.{is_up_lem, is_waiting_lem}
use Rattle.rules.specs.Dependencies.{serving}
use Rattle.rules.specs.Rules.{begun_deadline, begun_phase, deadline_in, due, expired, fits, leaves, running}
use Rattle.rules.specs.WellFormed.{shaped_at}
use Rattle.rules.specs.declared.Rule.{Rule}
use Rattle.rules.specs.declared.Rule.TheVariants.{Abandon, Begin, End, Expire, Lose, Release, Settle, Wake}
use Rattle.rules.proofs.Along.{along_with}
use Rattle.rules.proofs.Fitting.{begin_fits, end_fits, expire_fits}
use Rattle.rules.proofs.Formed.{AnyStage, any_rule, leaves_shaped}
use Rattle.rules.proofs.LastStage.{Change, before_with, tidy}
use Rattle.rules.proofs.Links.{hard_strong}
use Rattle.rules.proofs.Next.{Before, Fires, next_either, place}
use Rattle.rules.proofs.Rest.{Ends, Turn, fired_lighter, stage, stays_still}
use Rattle.rules.proofs.Shapes.{begin_active, begin_not_down, begin_not_waiting, ending_caused, expire_not_up, serving_running, waiting_uncaused}
use Rattle.rules.proofs.Weights.{Weight, total, total_with}

-- what has an action before it in the last stage, by phase, cause (none or not), due and killed
abbrev pub heavy : Phase → Bool → Bool → Bool → Bool
heavy p nil d killed = is_waiting p || is_up p && not nil || d && (is_starting p || is_ending p && not killed)

abbrev pub heavy_at : ℕ → Record → Bool
heavy_at now r = heavy r.phase (is_none r.cause) (due now r.deadline) r.killed

unfoldable pub weigh_last : Weight
weigh_last v now r = pick (heavy_at now r) 1 0

drops : (v : Settings) (now : ℕ) (r' r : Record) → heavy_at now r' ≡ false → heavy_at now r ≡ true → weigh_last v now r' < weigh_last v now r
unfolding weigh_last
drops v now r' r e f = rw (e, f) (lit< tt)

pub starting_deadline : (k : Form) (a b : Option ℕ) → starts_first k ≡ true → begun_deadline k a b ≡ a
starting_deadline Bare a b e = no_ft e
starting_deadline Passing a b e = refl
starting_deadline Direct a b e = no_ft e
starting_deadline Delayed a b e = refl

test_launched : forms (λ k. bools (λ n. bools (λ d. bools (λ z. given n (given (implies (starts_first k) (not d)) (not (heavy (begun_phase k) n d z))))))) ≡ true
unfolding forms bools given
test_launched = refl

launched_light : (k : Form) (n d z : Bool) → n ≡ true → implies (starts_first k) (not d) ≡ true → not (heavy (begun_phase k) n d z) ≡ true
launched_light = simp finite at test_launched

test_killed : bools (λ n. bools (λ d. not (heavy Ending n d true))) ≡ true
unfolding bools
test_killed = refl

killed_light : (n d : Bool) → not (heavy Ending n d true) ≡ true
killed_light = simp finite at test_killed

test_late : phases (λ p. bools (λ n. bools (λ z. given (is_starting p || is_ending p && not z) (heavy p n true z)))) ≡ true
unfolding phases bools given
test_late = refl

late_heavy : (p : Phase) (n z : Bool) → (is_starting p || is_ending p && not z) ≡ true → heavy p n true z ≡ true
late_heavy = simp finite at test_late

-- a deadline that is set now is not due
not_due : (now wait : ℕ) → due now (deadline_in now wait) ≡ false
unfolding due
not_due now wait = go (eqb wait 0) refl
  where
    go : (b : Bool) → eqb wait 0 ≡ b → due now (pick b None (Some (now + wait))) ≡ false
    go true q = refl
    go false q = lt-leb (now + wait) now (let ne : (wait ≡ 0 → ⊥) = eqb-false wait 0 q in omega arith)

pub record LastStage (t : Table) (x : State) : Type 0 where
  pub any : AnyStage t x
  pub before : Before t x 5

module _ (t : Table) (x : State) (s : ℕ) (i : LastStage t x) (sl : s < t.count) where
  room : s < max_services
  room = le_trans sl i.any.few

  -- rules 6, 7 and 8 change no more than this stage allows
  begin_change : fits Begin t x s ≡ true → Change t x s (leaves Begin t x s) i.any.sized room
  unfolding leaves shaped_at
  begin_change f =
      let m = (begin_fits t x s).0 f in
      let nil : is_none (record_at x s).cause ≡ true = waiting_uncaused (form_of (settings_at t s)) (record_at x s).phase (record_at x s).live (record_at x s).cause (i.any.shapes s sl) m.waits in
      record {
        woken = (not_true _).0 (begin_not_down (form_of (settings_at t s)));
        busy = (not_true _).0 (begin_not_waiting (form_of (settings_at t s)));
        acts = λ _. begin_active (form_of (settings_at t s));
        wants = refl;
        unclosed = λ _. nil;
        clean =
            along_with running serving t x s _ i.any.sized room (tidy t x (i.before Lose (lit< tt)))
            (λ r. serving_running r.phase (is_none r.cause))
            (λ _. inr (λ d dl h. (and_true _ _).1 (m.strongs d dl (hard_strong t s d h))))
            (λ u. no_ft (rw (is_waiting_lem (record_at x s).phase m.waits) at u));
        was = λ _. (m.waits, nil);
      }

  -- a service that comes to be ending, with a cause, and that was not up with none
  ending_change : (r : Record) → r.phase ≡ Ending → is_none r.cause ≡ false → r.wanted ≡ (record_at x s).wanted → serving (record_at x s) ≡ false
      → Change t x s r i.any.sized room
  ending_change r p c w u = record {
    woken = ap is_down p;
    busy = ap is_waiting p;
    acts = λ _. ap active p;
    wants = w;
    unclosed = λ e. no_ft (rw p at e);
    clean =
        along_with running serving t x s r i.any.sized room (tidy t x (i.before Lose (lit< tt)))
        (λ q. serving_running q.phase (is_none q.cause))
        (λ a. no_ft (rw p at a))
        (λ e. absurd (not_both e u));
    was = λ n. absurd (not_both n c);
  }

  end_change : fits End t x s ≡ true → Change t x s (leaves End t x s) i.any.sized room
  unfolding leaves
  end_change f =
      let m = (end_fits t x s).0 f in
      ending_change _ refl m.caused refl (rw (is_up_lem (record_at x s).phase m.up, m.caused))

  expire_change : fits Expire t x s ≡ true → Change t x s (leaves Expire t x s) i.any.sized room
  unfolding leaves
  expire_change f =
      let m = (expire_fits t x s).0 f in
      ending_change _ refl
      ((not_true _).0 (ending_caused (form_of (settings_at t s)) Ending (leaves Expire t x s).live (leaves Expire t x s).cause (leaves_shaped t x s Expire (i.any.shapes s sl) f) refl))
      refl
      (rw ((not_true (is_up (record_at x s).phase)).0 (expire_not_up (record_at x s).phase (not (record_at x s).killed) m.which)))

  -- the state after is in the stage again
  kept : (k : Rule) → fits k t x s ≡ true → Change t x s (leaves k t x s) i.any.sized room → LastStage t (with_record x s (leaves k t x s))
  kept k f c = record { any = any_rule t x k s i.any sl f; before = before_with t x s (leaves k t x s) i.any.sized room c i.before }

  -- and the record is lighter
  begin_falls : fits Begin t x s ≡ true → weigh_last (settings_at t s) x.clock (leaves Begin t x s) < weigh_last (settings_at t s) x.clock (record_at x s)
  unfolding leaves shaped_at
  begin_falls f =
      let m = (begin_fits t x s).0 f in
      drops
      (settings_at t s)
      x.clock
      (leaves Begin t x s)
      (record_at x s)
      ((not_true _).0
      (launched_light
      (form_of (settings_at t s))
      (is_none (record_at x s).cause)
      (due x.clock (leaves Begin t x s).deadline)
      (record_at x s).killed
      (waiting_uncaused (form_of (settings_at t s)) (record_at x s).phase (record_at x s).live (record_at x s).cause (i.any.shapes s sl) m.waits)
      ((imp_true _ _).1
      (λ k.
      (not_true _).1
      (ap (due x.clock) (starting_deadline (form_of (settings_at t s)) (deadline_in x.clock (settings_at t s).start_timeout) (record_at x s).deadline k)
      ∙ not_due x.clock (settings_at t s).start_timeout)))))
      (rw (is_waiting_lem (record_at x s).phase m.waits))

  end_falls : fits End t x s ≡ true → weigh_last (settings_at t s) x.clock (leaves End t x s) < weigh_last (settings_at t s) x.clock (record_at x s)
  unfolding leaves
  end_falls f =
      let m = (end_fits t x s).0 f in
      drops
      (settings_at t s)
      x.clock
      (leaves End t x s)
      (record_at x s)
      (rw (not_due x.clock (settings_at t s).stop_timeout))
      (rw (is_up_lem (record_at x s).phase m.up, m.caused))

  expire_falls : fits Expire t x s ≡ true → weigh_last (settings_at t s) x.clock (leaves Expire t x s) < weigh_last (settings_at t s) x.clock (record_at x s)
  unfolding leaves
  expire_falls f =
      let m = (expire_fits t x s).0 f in
      drops
      (settings_at t s)
      x.clock
      (leaves Expire t x s)
      (record_at x s)
      (light (is_starting (record_at x s).phase))
      (rw m.dues (late_heavy (record_at x s).phase (is_none (record_at x s).cause) (record_at x s).killed m.which))
    where
      light : (b : Bool) → heavy_at x.clock (expired b (settings_at t s) x.clock (record_at x s)) ≡ false
      light true = rw (not_due x.clock (settings_at t s).stop_timeout)
      light false = (not_true _).0 (killed_light (is_none (record_at x s).cause) (due x.clock (record_at x s).deadline))

last_turn : (t : Table) (x : State) → LastStage t x → Turn t (LastStage t) (total weigh_last t) x
last_turn t x i = either (next_either t x) (stays_still t (LastStage t) (total weigh_last t) x) (λ k. go k.0 k.1 k.2)
  where
    early : (k : Rule) (s : ℕ) → Fires t x k s → place k < 5 → Turn t (LastStage t) (total weigh_last t) x
    early k s f l = absurd (not_both f.lowest.passes (i.before k l s f.lowest.bound))

    late : (k : Rule) (s : ℕ) → Fires t x k s → LastStage t (with_record x s (leaves k t x s)) → weigh_last (settings_at t s) x.clock (leaves k t x s) < weigh_last (settings_at t s) x.clock (record_at x s)
        → Turn t (LastStage t) (total weigh_last t) x
    late k s f j l =
        fired_lighter t (LastStage t) (total weigh_last t) x k s f j (total_with weigh_last t x s (leaves k t x s) i.any.sized i.any.few f.lowest.bound l)

    go : (k : Rule) (s : ℕ) → Fires t x k s → Turn t (LastStage t) (total weigh_last t) x
    go Lose s f = early Lose s f (lit< tt)
    go Abandon s f = early Abandon s f (lit< tt)
    go Settle s f = early Settle s f (lit< tt)
    go Wake s f = early Wake s f (lit< tt)
    go Release s f = early Release s f (lit< tt)
    go Begin s f = let l = f.lowest.bound in let p = f.lowest.passes in late Begin s f (kept t x s i l Begin p (begin_change t x s i l p)) (begin_falls t x s i l p)
    go End s f = let l = f.lowest.bound in let p = f.lowest.passes in late End s f (kept t x s i l End p (end_change t x s i l p)) (end_falls t x s i l p)
    go Expire s f = let l = f.lowest.bound in let p = f.lowest.passes in late Expire s f (kept t x s i l Expire p (expire_change t x s i l p)) (expire_falls t x s i l p)

pub last_rests : (t : Table) (x : State) → LastStage t x → Ends t (total weigh_last t x) x
last_rests t x i = stage t (LastStage t) (total weigh_last t) (last_turn t) (total weigh_last t x) x i (le_refl _)
