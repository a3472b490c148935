-- Every step keeps list 24: a well-formed state stays well formed under every rule, event and call.
use Prim.Native.Nat.{◌+◌, ◌<◌, ◌≤◌, suc, ℕ}
use borrow.Author.Tests.{le-leb, leb-false, leb-true}
use lib.Dec.{eqb, leb}
use lib.ListN.{length}
use mathlib.Core.Bool.{Bool, ◌&&◌, ◌||◌, false, not, true}
use mathlib.Core.List.{List}
use mathlib.Core.Logic.{◌↔◌}
use mathlib.Core.Path.{◌∙◌, ◌≡◌, refl, sym}
use native.Mathlib.Nat.{le_refl, le_trans}
use native.Mathlib.Omega.{arith}
use Rattle.base.specs.Folds.{pick}
use Rattle.base.proofs.Below.{every_true}
use Rattle.base.proofs.Tests.{and_false, and_true, not_true, or_false, tests}
use Rattle.service.specs.Limits.{last_clock, last_time, longest_time, max_count, max_services}
use Rattle.service.specs.Records.{fresh_state, is_starting, record_at, with_record}
use Rattle.service.specs.Settings.{form_of, is_passing, settings_at}
use Rattle.service.specs.declared.Cause.{Cause}
use Rattle.service.specs.declared.Cause.TheVariants.{Failed, Fell, None as NoCause, Released, User}
use Rattle.std.specs.Prelude.{Some, None}
use Rattle.service.specs.declared.Form.{Form}
use Rattle.service.specs.declared.Form.TheVariants.{Bare, Passing, Direct, Delayed}
use Rattle.service.specs.declared.Phase.{Phase}
use Rattle.service.specs.declared.Phase.TheVariants.{Down, Ending, Starting, Up, Waiting}
use Rattle.service.specs.declared.Record.{Record}
use Rattle.service.specs.declared.Settings.{Settings}
use Rattle.service.specs.declared.State.{State}
use Rattle.service.specs.declared.Table.{Table}
use Rattle.service.proofs.States.{Sized, fresh_clock, fresh_record_lem, fresh_sized, sized_with, with_all}
use Rattle.rules.specs.Calls.{Call, after_calls}
use Rattle.rules.specs.Demand.{AlwaysFormed, Moment}
use Rattle.rules.specs.Events.{after_clock, after_end, after_start, after_stop, after_stop_all, brings, dead, each, ended_as, revived_cause, start_reaches, started_as, stopped}
use Rattle.rules.specs.Rules.{begun_deadline, deadline_in, fits, leaves, lost_to_user, next_action}
use Rattle.rules.specs.Settling.{count_now, limit_reached, settled_as, settled_count, settled_not_before, settled_window, window_now, window_over}
use Rattle.rules.specs.WellFormed.{deadline_in_range, formed, settings_in_range, shaped, shaped_at, state_formed, table_formed, times_in_range}
use Rattle.rules.specs.declared.Rule.{Rule}
use Rattle.rules.specs.declared.Rule.TheVariants.{Abandon, Begin, End, Expire, Lose, Release, Settle, Wake}
use Rattle.rules.proofs.Each.{each_below, each_clock, each_sized}
use Rattle.rules.proofs.Fitting.{abandon_fits, begin_fits, end_fits, expire_fits, lose_fits, release_fits, settle_fits, wake_fits}
use Rattle.rules.proofs.Links.{TableSound, table_sound}
use Rattle.rules.proofs.Next.{Fires, next_keeps}
use Rattle.rules.proofs.Shapes.{abandon_shaped, begin_shaped, dead_shaped, expire_shaped, fell_shaped, lose_shaped, release_shaped, settle_shaped, start_shaped, started_shaped, stop_shaped, wake_shaped}
use Rattle.rules.proofs.Steps.{Taken, acts, clocks, ends, starts, stops, stops_all, story_walk, walk_keeps}

-- what the list says of a record's numbers
pub record Timely (now : ℕ) (r : Record) : Type 0 where
  pub launched : r.last_launch ≤ now
  pub window : r.window_start ≤ now
  pub deadline : deadline_in_range r.deadline ≡ true
  pub pending : r.not_before ≤ last_time
  pub count : r.restarts ≤ max_count

pub timely : (now : ℕ) (r : Record) → (times_in_range now r ≡ true) ↔ Timely now r
timely now r = (
  λ f.
      let g = parts f in
      record {
        launched = leb-true _ _ g.0.0.0.0;
        window = leb-true _ _ g.0.0.0.1;
        deadline = g.0.0.1;
        pending = leb-true _ _ g.0.1;
        count = leb-true _ _ g.1;
      },
  λ h. simp tests ((((le-leb _ _ h.launched, le-leb _ _ h.window), h.deadline), le-leb _ _ h.pending), le-leb _ _ h.count),
)
  where
    parts : times_in_range now r ≡ true
        → ((((leb r.last_launch now ≡ true) × (leb r.window_start now ≡ true)) × (deadline_in_range r.deadline ≡ true)) × (leb r.not_before last_time ≡ true)) × (leb r.restarts max_count ≡ true)
    parts f = simp tests at f

-- what the list says of a service's settings
pub record Ranged (v : Settings) : Type 0 where
  pub delay : v.delay ≤ longest_time
  pub interval : v.interval ≤ longest_time
  pub starting : v.start_timeout ≤ longest_time
  pub stopping : v.stop_timeout ≤ longest_time
  pub limit : v.limit ≤ max_count

pub ranged : (v : Settings) → settings_in_range v ≡ true → Ranged v
ranged v f =
    let g = simp tests at f in
    record {
      delay = leb-true _ _ g.0.0.0.0;
      interval = leb-true _ _ g.0.0.0.1;
      starting = leb-true _ _ g.0.0.1;
      stopping = leb-true _ _ g.0.1;
      limit = leb-true _ _ g.1;
    }

-- a state that passes, over a table that passes
pub record Sound (t : Table) (x : State) : Type 0 where
  pub sized : Sized x
  pub clock : x.clock ≤ last_clock
  pub times : (s : ℕ) → s < t.count → Timely x.clock (record_at x s)
  pub shapes : (s : ℕ) → s < t.count → shaped_at t x s ≡ true

-- list 24's part on states, at each service
pub state_parts : (t : Table) (x : State) → state_formed t x ≡ true
    → (x.clock ≤ last_clock) × ((s : ℕ) → s < t.count → (times_in_range x.clock (record_at x s) ≡ true) × (shaped_at t x s ≡ true))
unfolding state_formed
state_parts t x f =
    let h = (and_true (leb x.clock last_clock) _).0 f in (
      leb-true _ _ h.0,
      λ s l. (and_true (times_in_range x.clock (record_at x s)) _).0 ((every_true (λ i. times_in_range x.clock (record_at x i) && shaped_at t x i) t.count).0 h.1 s l),
    )

pub state_sound : (t : Table) (x : State) → Sized x → state_formed t x ≡ true → Sound t x
state_sound t x z f =
    let h = state_parts t x f in
    record { sized = z; clock = h.0; times = λ s l. (timely x.clock (record_at x s)).0 (h.1 s l).0; shapes = λ s l. (h.1 s l).1 }

pub sound_state : (t : Table) (x : State) → Sound t x → state_formed t x ≡ true
unfolding state_formed
sound_state t x h =
    (and_true (leb x.clock last_clock) _).1 (
      le-leb _ _ h.clock,
      (every_true (λ s. times_in_range x.clock (record_at x s) && shaped_at t x s) t.count).1
          (λ s l. (and_true (times_in_range x.clock (record_at x s)) _).1 ((timely x.clock (record_at x s)).1 (h.times s l), h.shapes s l)),
    )

-- ---- numbers

module _ (now : ℕ) (past : now ≤ last_clock) (v : Settings) (g : Ranged v) (r : Record) (b : Timely now r) where
  set_deadline_lem : (wait : ℕ) → wait ≤ longest_time → deadline_in_range (deadline_in now wait) ≡ true
  set_deadline_lem wait l = go (eqb wait 0)
    where
      go : (a : Bool) → deadline_in_range (pick a None (Some (now + wait))) ≡ true
      go true = refl
      go false = le-leb (now + wait) last_time (omega arith)

  begun_deadline_lem : (k : Form) → deadline_in_range (begun_deadline k (deadline_in now v.start_timeout) r.deadline) ≡ true
  begun_deadline_lem Bare = b.deadline
  begun_deadline_lem Passing = set_deadline_lem v.start_timeout g.starting
  begun_deadline_lem Direct = b.deadline
  begun_deadline_lem Delayed = set_deadline_lem v.start_timeout g.starting

  expired_deadline : (starting : Bool) → deadline_in_range (pick starting (deadline_in now v.stop_timeout) r.deadline) ≡ true
  expired_deadline true = set_deadline_lem v.stop_timeout g.stopping
  expired_deadline false = b.deadline

  window_now_lem : window_now v now r ≤ now
  window_now_lem = go (window_over v now r)
    where
      go : (a : Bool) → pick a now r.window_start ≤ now
      go true = le_refl now
      go false = b.window

  count_now_lem : count_now v now r ≤ max_count
  count_now_lem = go (window_over v now r)
    where
      go : (a : Bool) → pick a 0 r.restarts ≤ max_count
      go true = omega arith
      go false = b.count

  settled_window_lem : (c : Cause) → settled_window c v now r ≤ now
  settled_window_lem NoCause = b.window
  settled_window_lem User = b.window
  settled_window_lem Released = b.window
  settled_window_lem Fell = window_now_lem
  settled_window_lem Failed = b.window

  settled_pending : (c : Cause) → settled_not_before c v now r ≤ last_time
  settled_pending NoCause = b.pending
  settled_pending User = b.pending
  settled_pending Released = b.pending
  settled_pending Fell = go (limit_reached v now r)
    where
      go : (a : Bool) → pick a r.not_before (r.last_launch + v.delay) ≤ last_time
      go true = b.pending
      go false = omega (arith, b.launched, g.delay)
  settled_pending Failed = b.pending

  settled_count_lem : (c : Cause) → settled_count c v now r ≤ max_count
  settled_count_lem NoCause = b.count
  settled_count_lem User = b.count
  settled_count_lem Released = b.count
  settled_count_lem Fell = go (limit_reached v now r || eqb v.limit 0) refl
    where
      go : (a : Bool) → (limit_reached v now r || eqb v.limit 0) ≡ a → pick a (count_now v now r) (suc (count_now v now r)) ≤ max_count
      go true e = count_now_lem
      go false e =
          let k = (or_false (limit_reached v now r) (eqb v.limit 0)).0 e in
          let m = (and_false (not (eqb v.limit 0)) (leb v.limit (count_now v now r))).0 k.0 ((not_true _).1 k.1) in
          omega (arith, leb-false v.limit (count_now v now r) m, g.limit)
  settled_count_lem Failed = b.count

  pub settled_timely : (c : Cause) → Timely now (settled_as c v now r)
  settled_timely c = record {
    launched = b.launched;
    window = settled_window_lem c;
    deadline = refl;
    pending = settled_pending c;
    count = settled_count_lem c;
  }

  -- a record whose times are those of r but for its deadline
  pub timely_as : (q : Record) → q.last_launch ≡ r.last_launch → q.window_start ≡ r.window_start → deadline_in_range q.deadline ≡ true
      → q.not_before ≡ r.not_before → q.restarts ≡ r.restarts → Timely now q
  timely_as q a c d e f = record { launched = rw a b.launched; window = rw c b.window; deadline = d; pending = rw e b.pending; count = rw f b.count }

later : (a b : ℕ) (r : Record) → a ≤ b → Timely a r → Timely b r
later a b r l h = record {
  launched = le_trans h.launched l;
  window = le_trans h.window l;
  deadline = h.deadline;
  pending = h.pending;
  count = h.count;
}

-- ---- each rule

module _ (t : Table) (x : State) (s : ℕ) where
  pub leaves_timely : (k : Rule) → x.clock ≤ last_clock → Ranged (settings_at t s) → Timely x.clock (record_at x s) → Timely x.clock (leaves k t x s)
  unfolding leaves
  leaves_timely Lose n g b = timely_as x.clock n (settings_at t s) g (record_at x s) b _ refl refl b.deadline refl refl
  leaves_timely Abandon n g b = timely_as x.clock n (settings_at t s) g (record_at x s) b _ refl refl b.deadline refl refl
  leaves_timely Settle n g b = settled_timely x.clock n (settings_at t s) g (record_at x s) b (record_at x s).cause
  leaves_timely Wake n g b = timely_as x.clock n (settings_at t s) g (record_at x s) b _ refl refl b.deadline refl refl
  leaves_timely Release n g b = timely_as x.clock n (settings_at t s) g (record_at x s) b _ refl refl b.deadline refl refl
  leaves_timely Begin n g b = record {
    launched = le_refl x.clock;
    window = b.window;
    deadline = begun_deadline_lem x.clock n (settings_at t s) g (record_at x s) b (form_of (settings_at t s));
    pending = b.pending;
    count = b.count;
  }
  leaves_timely End n g b =
      timely_as x.clock n (settings_at t s) g (record_at x s) b _ refl refl
      (set_deadline_lem x.clock n (settings_at t s) g (record_at x s) b (settings_at t s).stop_timeout g.stopping) refl refl
  leaves_timely Expire n g b =
      timely_as x.clock n (settings_at t s) g (record_at x s) b _ refl refl
      (expired_deadline x.clock n (settings_at t s) g (record_at x s) b (is_starting (record_at x s).phase)) refl refl

  pub leaves_shaped : (k : Rule) → shaped_at t x s ≡ true → fits k t x s ≡ true
      → shaped (form_of (settings_at t s)) (leaves k t x s).phase (leaves k t x s).live (leaves k t x s).cause ≡ true
  unfolding leaves shaped_at
  leaves_shaped Lose o f =
      let m = (lose_fits t x s).0 f in
      lose_shaped (form_of (settings_at t s)) (record_at x s).phase (record_at x s).live (record_at x s).cause (lost_to_user t x s) o ((and_true _ _).1 (m.on, m.nil))
  leaves_shaped Abandon o f =
      abandon_shaped (form_of (settings_at t s)) (record_at x s).phase (record_at x s).live (record_at x s).cause o ((abandon_fits t x s).0 f).waits
  leaves_shaped Settle o f =
      let m = (settle_fits t x s).0 f in
      settle_shaped (form_of (settings_at t s)) (record_at x s).phase (record_at x s).live (record_at x s).cause (settings_at t s).has_stop o m.up m.nothing
  leaves_shaped Wake o f =
      wake_shaped (form_of (settings_at t s)) (record_at x s).phase (record_at x s).live (record_at x s).cause o ((wake_fits t x s).0 f).down
  leaves_shaped Release o f =
      let m = (release_fits t x s).0 f in
      release_shaped (form_of (settings_at t s)) (record_at x s).phase (record_at x s).live (record_at x s).cause o m.on m.nil
  leaves_shaped Begin o f =
      begin_shaped (form_of (settings_at t s)) (record_at x s).phase (record_at x s).live (record_at x s).cause o ((begin_fits t x s).0 f).waits
  leaves_shaped End o f = (not_true _).1 ((end_fits t x s).0 f).caused
  leaves_shaped Expire o f =
      expire_shaped (form_of (settings_at t s)) (record_at x s).phase (record_at x s).live (record_at x s).cause (not (record_at x s).killed) o ((expire_fits t x s).0 f).which

-- what every stage of the bound needs: no more services than places, and records of list 24's shapes
pub record AnyStage (t : Table) (x : State) : Type 0 where
  pub few : t.count ≤ max_services
  pub sized : Sized x
  pub shapes : (s : ℕ) → s < t.count → shaped_at t x s ≡ true

-- a rule keeps it
pub any_rule : (t : Table) (x : State) (k : Rule) (s : ℕ) → AnyStage t x → s < t.count → fits k t x s ≡ true → AnyStage t (with_record x s (leaves k t x s))
any_rule t x k s i l f = record {
  few = i.few;
  sized = sized_with x s _ i.sized;
  shapes =
      unfold shaped_at in
      with_all x s (leaves k t x s) i.sized (le_trans l i.few) t.count
      (λ j q. shaped (form_of (settings_at t j)) q.phase q.live q.cause ≡ true) (λ j jl _. unfold shaped_at in i.shapes j jl)
      (leaves_shaped t x s k (i.shapes s l) f);
}

-- ---- each change of the state

module _ (t : Table) (ts : TableSound t) where
  settings_ranged : (s : ℕ) → s < t.count → Ranged (settings_at t s)
  settings_ranged s l = ranged (settings_at t s) (ts.ranged s l)

  sound_with : (x : State) (s : ℕ) (r : Record) → Sound t x → s < t.count → Timely x.clock r
      → shaped (form_of (settings_at t s)) r.phase r.live r.cause ≡ true → Sound t (with_record x s r)
  unfolding shaped_at
  sound_with x s r h l b o = record {
    sized = sized_with x s r h.sized;
    clock = unfold with_record in h.clock;
    times = unfold with_record in with_all x s r h.sized (le_trans l ts.few) t.count (λ i q. Timely x.clock q) (λ i il _. h.times i il) b;
    shapes =
        with_all x s r h.sized (le_trans l ts.few) t.count
        (λ i q. shaped (form_of (settings_at t i)) q.phase q.live q.cause ≡ true) (λ i il _. h.shapes i il) o;
  }

  pub sound_rule : (x : State) (k : Rule) (s : ℕ) → Sound t x → Fires t x k s → Sound t (with_record x s (leaves k t x s))
  sound_rule x k s h f =
      let l = f.lowest.bound in
      sound_with x s (leaves k t x s) h l
      (leaves_timely t x s k h.clock (settings_ranged s l) (h.times s l))
      (leaves_shaped t x s k (h.shapes s l) f.lowest.passes)

  pub sound_next : (x : State) → Sound t x → Sound t (next_action t x).state
  sound_next x h = next_keeps t x (Sound t) h (λ k s f. sound_rule x k s h f)

  sound_each : (x : State) (f : ℕ → Record → Record) → ((e : ℕ) (r : Record) → Timely x.clock r → Timely x.clock (f e r))
      → ((e : ℕ) (r : Record) → shaped (form_of (settings_at t e)) r.phase r.live r.cause ≡ true → shaped (form_of (settings_at t e)) (f e r).phase (f e r).live (f e r).cause ≡ true)
      → Sound t x → Sound t (each f x t.count)
  unfolding shaped_at
  sound_each x f k o h = record {
    sized = each_sized f x t.count h.sized;
    clock = rw (each_clock f x t.count) h.clock;
    times = λ e el. rw (each_below f x t.count h.sized ts.few e el, each_clock f x t.count) (k e (record_at x e) (h.times e el));
    shapes = λ e el. rw (each_below f x t.count h.sized ts.few e el) (o e (record_at x e) (h.shapes e el));
  }

  pub sound_start : (x : State) (s : ℕ) → Sound t x → Sound t (after_start t x s)
  unfolding after_start
  sound_start x s h =
      sound_each x (λ d r. started_as (eqb d s) (start_reaches t s d) r)
      (λ e r b.
      record { launched = b.launched; window = b.window; deadline = b.deadline; pending = pends (start_reaches t s e) r.not_before b.pending; count = b.count })
      (λ e r o. revives (start_reaches t s e) e r o)
      h
    where
      pends : (a : Bool) (n : ℕ) → n ≤ last_time → pick a 0 n ≤ last_time
      pends true n l = omega arith
      pends false n l = l

      revives : (a : Bool) (e : ℕ) (r : Record) → shaped (form_of (settings_at t e)) r.phase r.live r.cause ≡ true
          → shaped (form_of (settings_at t e)) r.phase r.live (pick a (revived_cause r.cause) r.cause) ≡ true
      revives true e r o = start_shaped (form_of (settings_at t e)) r.phase r.live r.cause o
      revives false e r o = o

  pub sound_stop : (x : State) (s : ℕ) → s < t.count → Sound t x → Sound t (after_stop x s)
  unfolding after_stop
  sound_stop x s l h =
      let b = h.times s l in
      sound_with x s _ h l
      record { launched = b.launched; window = b.window; deadline = b.deadline; pending = b.pending; count = b.count }
      (stop_shaped (form_of (settings_at t s)) (record_at x s).phase (record_at x s).live (record_at x s).cause (unfold shaped_at in h.shapes s l))

  pub sound_stop_all : (x : State) → Sound t x → Sound t (after_stop_all t x)
  unfolding after_stop_all
  sound_stop_all x h =
      sound_each x (λ d r. stopped r)
      (λ e r b. record { launched = b.launched; window = b.window; deadline = b.deadline; pending = b.pending; count = b.count })
      (λ e r o. stop_shaped (form_of (settings_at t e)) r.phase r.live r.cause o)
      h

  pub sound_end : (x : State) (s : ℕ) (good : Bool) → s < t.count → Sound t x → Sound t (after_end t x s good)
  unfolding after_end ended_as shaped_at
  sound_end x s good l h = go (record_at x s).phase refl (brings (settings_at t s) good) (λ e. ((and_true good (is_passing (form_of (settings_at t s)))).0 e).1)
    where
      b : Timely x.clock (record_at x s)
      b = h.times s l

      gone : Timely x.clock (dead (record_at x s))
      gone = record { launched = b.launched; window = b.window; deadline = b.deadline; pending = b.pending; count = b.count }

      as' : (q : Record) → q.last_launch ≡ (record_at x s).last_launch → q.window_start ≡ (record_at x s).window_start → deadline_in_range q.deadline ≡ true
          → q.not_before ≡ (record_at x s).not_before → q.restarts ≡ (record_at x s).restarts
          → shaped (form_of (settings_at t s)) q.phase q.live q.cause ≡ true → Sound t (with_record x s q)
      as' q a c d e f o =
          sound_with x s q h l (timely_as x.clock h.clock (settings_at t s) (settings_ranged s l) (record_at x s) b q a c d e f) o

      go : (p : Phase) → (record_at x s).phase ≡ p → (g : Bool) → (g ≡ true → is_passing (form_of (settings_at t s)) ≡ true) → Sound t (with_record x s (ended_as p (settings_at t s) x.clock g (record_at x s)))
      go Down e g i = as' _ refl refl b.deadline refl refl (dead_shaped (form_of (settings_at t s)) (record_at x s).phase (record_at x s).live (record_at x s).cause (h.shapes s l) (rw e))
      go Waiting e g i = as' _ refl refl b.deadline refl refl (dead_shaped (form_of (settings_at t s)) (record_at x s).phase (record_at x s).live (record_at x s).cause (h.shapes s l) (rw e))
      go Starting e true i = as' _ refl refl refl refl refl (started_shaped (form_of (settings_at t s)) (record_at x s).phase (record_at x s).live (record_at x s).cause (h.shapes s l) (rw e) (i refl))
      go Starting e false i =
          sound_with x s _ h l (settled_timely x.clock h.clock (settings_at t s) (settings_ranged s l) (dead (record_at x s)) gone User) refl
      go Up e g i = as' _ refl refl b.deadline refl refl (fell_shaped (form_of (settings_at t s)) (record_at x s).phase (record_at x s).live (record_at x s).cause (h.shapes s l) (rw e))
      go Ending e g i =
          sound_with x s _ h l (settled_timely x.clock h.clock (settings_at t s) (settings_ranged s l) (dead (record_at x s)) gone (record_at x s).cause) refl

  pub sound_clock : (x : State) (n : ℕ) → x.clock ≤ n → n ≤ last_clock → Sound t x → Sound t (after_clock x n)
  unfolding after_clock record_at shaped_at
  sound_clock x n l m h = record {
    sized = h.sized;
    clock = m;
    times = λ s sl. later x.clock n (record_at x s) l (h.times s sl);
    shapes = h.shapes;
  }

  -- every step keeps it
  pub sound_step : (b : Bool) (m : Moment) → Taken t b m → Sound t m.before → Sound t m.after
  sound_step b m (acts {x}) h = sound_next x h
  sound_step b m (starts {x} s e l) h = sound_start x s h
  sound_step b m (stops {x} s l) h = sound_stop x s l h
  sound_step b m (stops_all {x}) h = sound_stop_all x h
  sound_step b m (ends {x} s good l lives) h = sound_end x s good l h
  sound_step b m (clocks {x} n l k) h = sound_clock x n l k h

  pub fresh_sound : Sound t fresh_state
  unfolding shaped_at
  fresh_sound = record {
    sized = fresh_sized;
    clock = rw fresh_clock (omega arith);
    times = λ s _. rw (fresh_record_lem s) record { launched = omega arith; window = omega arith; deadline = refl; pending = omega arith; count = omega arith };
    shapes = λ s _. rw (fresh_record_lem s);
  }

  pub sound_calls : (cs : List Call) → Sound t (after_calls t fresh_state cs)
  sound_calls cs = walk_keeps (Taken t true) (Sound t) (sound_step true) (story_walk t cs fresh_state) fresh_sound

-- ---- in the words of the list

pub formed_parts : (t : Table) (x : State) → formed t x ≡ true → (table_formed t ≡ true) × (state_formed t x ≡ true)
unfolding formed
formed_parts t x f = (and_true (table_formed t) _).0 f

-- q is what the code found of the list
pub formed_few : (t : Table) (x : State) (q : Bool) → q ≡ formed t x → q ≡ true → t.count ≤ max_services
formed_few t x q e h = ((table_sound t).0 (formed_parts t x (sym e ∙ h)).0).few

pub formed_sound : (t : Table) (x : State) → Sized x → formed t x ≡ true → TableSound t × Sound t x
formed_sound t x z f = let h = formed_parts t x f in ((table_sound t).0 h.0, state_sound t x z h.1)

pub sound_formed : (t : Table) (x : State) → table_formed t ≡ true → Sound t x → formed t x ≡ true
unfolding formed
sound_formed t x f h = (and_true (table_formed t) _).1 (f, sound_state t x h)

-- the next action keeps the list
pub formed_next : (t : Table) (x : State) → length x.records ≡ max_services → formed t x ≡ true → formed t (next_action t x).state ≡ true
formed_next t x z f =
    let h = formed_sound t x z f in
    sound_formed t (next_action t x).state (formed_parts t x f).0 (sound_next t h.0 x h.1)

-- every state that a list of calls reaches passes
pub always_formed : AlwaysFormed
always_formed t f cs = sound_formed t (after_calls t fresh_state cs) f (sound_calls t ((table_sound t).0 f) cs)
