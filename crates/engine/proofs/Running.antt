-- A run: what its loop keeps from action to action, and that it has come to quiet when it ends.
use Prim.Native.Nat.{ℕ, zero, suc, ◌+◌, ◌*◌, ◌≤◌, ◌<◌}
use native.Mathlib.Nat.{le_trans}
use native.Mathlib.Numerals.{add-one}
use native.Mathlib.Omega.{arith}
use mathlib.Core.Path.{◌≡◌, refl, sym, ap, ◌∙◌}
use mathlib.Core.Bool.{Bool, true, false}
use mathlib.Core.List.{List}
use lib.Dec.{leb}
use lib.ListN.{set, length, length-set}
use borrow.Author.Tests.{le-leb}
use Rattle.base.specs.Folds.{pick}
use Rattle.base.specs.Sets.{overlap}
use Rattle.base.proofs.Tests.{and_true}
use Rattle.base.proofs.Loops.{Passed, passed_none, passed_more, passed_hit, passed_all}
use Rattle.service.specs.Limits.{max_services}
use Rattle.service.specs.Settings.{settings_at}
use Rattle.service.specs.Records.{record_at, with_record}
use Rattle.service.specs.Numbers.{is_quiet, action_service, action_number}
use Rattle.service.specs.declared.Action.{Action}
use Rattle.service.specs.declared.Action.TheVariants.{Quiet}
use Rattle.std.specs.Prelude.{Ok, Some, None}
use Rattle.service.specs.declared.Answered.{Answered}
use Rattle.service.specs.declared.Record.{Record}
use Rattle.service.specs.declared.Table.{Table}
use Rattle.service.specs.declared.Settings.{Settings}
use Rattle.service.specs.declared.State.{State}
use Rattle.rules.specs.declared.Rule.{Rule}
use Rattle.rules.specs.Choice.{Choice}
use Rattle.rules.specs.WellFormed.{formed}
use Rattle.rules.specs.Rules.{Step, handed_by, left_by, next_action}
use Rattle.rules.specs.Runs.{state_after, action_after, steps_to_quiet, written, written_services, written_actions}
use Rattle.rules.specs.Calls.{acted, check, gives, next, outcome, ran_outcome, run, stepped_outcome}
use Rattle.rules.proofs.Formed.{formed_next, formed_sound, sound_next}
use Rattle.rules.proofs.Runs.{steps_within}
use Rattle.rules.proofs.Resting.{rests_everywhere, steps_quiet}
use Rattle.engine_records.specs.Sound.{sound}
use Rattle.engine_choice.specs.declared.standing.Standing.{Standing}
use Rattle.engine_choice.specs.declared.PerRule.{PerRule}
use Rattle.engine_choice.specs.Fits.{choice_from}
use Rattle.engine_choice.proofs.Passes.{Fitting, choice_made, user_gathered}
use Rattle.engine.specs.declared.Progress.{Progress}
use Rattle.engine.specs.Quiet.{Advanced, Room, rested_within}
use Rattle.engine.proofs.Steps.{chosen_below, step_quiet, step_fits}

-- the action before number k, or quiet where there is none
unfoldable pub last_after : Table → State → ℕ → Action
last_after t x zero = Quiet
last_after t x (suc k) = action_after t x k

-- the loop has handed out k actions of at most m, last is the last of them, and y the state then
pub record Running (t : Table) (x : State) (s a : List ℕ) (m : ℕ) (s' a' : List ℕ) (y : State) (last : Action) (k : ℕ) : Type 0 where
  pub passed_list : formed t y ≡ true
  pub sized : length y.records ≡ max_services
  pub state : y ≡ state_after t x k
  pub newest : last ≡ last_after t x k
  pub passed : Passed (λ j. is_quiet (action_after t x j)) m k
  pub services : s' ≡ written (λ j. action_service (action_after t x j)) s k
  pub actions : a' ≡ written (λ j. action_number (action_after t x j)) a k
  pub long_services : length s' ≡ length s
  pub long_actions : length a' ≡ length a

module _ {t : Table} {x : State} {s a : List ℕ} {m : ℕ} where
  pub running_none : formed t x ≡ true → length x.records ≡ max_services → Running t x s a m s a x Quiet 0
  unfolding state_after last_after written
  running_none h z = record {
    passed_list = h;
    sized = z;
    state = refl;
    newest = refl;
    passed = passed_none;
    services = refl;
    actions = refl;
    long_services = refl;
    long_actions = refl;
  }

  module _ {s' a' : List ℕ} {y : State} {last : Action} {k : ℕ} (h : Running t x s a m s' a' y last k) where
    -- b and w are the action and the state that the code has after the step, s'' and a'' what it has written
    pub running_more : {s'' a'' : List ℕ} {b : Action} {w : State} → k < m
        → (◌≡◌ {A = Step} (record { action = b; state = w }) (next_action t y)) × (is_quiet b ≡ false)
        → s'' ≡ set s' k (action_service b) → a'' ≡ set a' k (action_number b)
        → Running t x s a m s'' a'' w b (k + 1)
    unfolding state_after action_after last_after written
    running_more {b = b} {w = w} l g p r =
        let e = g.0 in
        let ez = e ∙ ap (next_action t) h.state in
        let eb : b ≡ action_after t x k = ap (λ (z : Step). z.action) ez in
        let es : w ≡ (next_action t y).state = ap (λ (z : Step). z.state) e in
        let f = formed_sound t y h.sized h.passed_list in
        record {
          passed_list = rw es (formed_next t y h.sized h.passed_list);
          sized = rw es (sound_next t f.0 y f.1).sized;
          state = rw add-one (ap (λ (z : Step). z.state) ez);
          newest = rw add-one eb;
          passed = passed_more h.passed l (ap is_quiet eb) g.1;
          services = rw (add-one, p, h.services, eb);
          actions = rw (add-one, r, h.actions, eb);
          long_services = ap length p ∙ length-set s' k (action_service b) ∙ h.long_services;
          long_actions = ap length r ∙ length-set a' k (action_number b) ∙ h.long_actions;
        }

    -- the place k is inside both slices
    pub running_room : Room m s a → k < m → Room (suc k) s' a'
    running_room r l = record {
      services = rw h.long_services (le_trans l r.services);
      actions = rw h.long_actions (le_trans l r.actions);
      few = le_trans l r.few;
    }

    -- the step is quiet
    pub running_quiet : k < m → ◌≡◌ {A = Step} (record { action = Quiet; state = y }) (next_action t y)
        → Advanced t x m s a (record { last = Quiet; count = k; state = y }) s' a'
    unfolding state_after action_after
    running_quiet l e =
        let eb : Quiet ≡ action_after t x k = ap (λ (z : Step). z.action) (e ∙ ap (next_action t) h.state) in
        record {
          count = passed_hit h.passed l (ap is_quiet eb) refl;
          state = h.state;
          services = h.services;
          actions = h.actions;
          single = λ one.
              let none : k ≡ 0 = omega arith in
              let same : y ≡ x = h.state ∙ ap (state_after t x) none in
              e ∙ ap (next_action t) same;
        }

    pub running_all : m ≤ k → Advanced t x m s a (record { last = last; count = m; state = y }) s' a'
    unfolding state_after action_after last_after
    running_all l =
        let w = h.passed.within in
        let e : m ≡ k = omega arith in
        record {
          count = e ∙ passed_all h.passed l;
          state = rw e h.state;
          services = rw e h.services;
          actions = rw e h.actions;
          single = λ one.
              let all : k ≡ 1 = omega arith in
              rw (h.newest, h.state, all);
        }

-- one turn of the loop: the passes have gathered st and f over the services of y, and c is what the code chose from them
module _
    {t : Table} {x : State} {s a : List ℕ} {m : ℕ} {s' a' : List ℕ} {y : State} {last : Action} {k : ℕ} {st : Standing} {f : PerRule ℕ} {j : ℕ} {c : Choice}
    (h : Running t x s a m s' a' y last k) (few : t.count ≤ max_services) (g : Fitting t y st f j) (z : t.count ≤ j)
    (e : c ≡ choice_from f t.count) where
  pub turn_inside : {i : Rule} {d : ℕ} → c ≡ Some (i, d) → d < max_services
  turn_inside {i} {d} p = le_trans (chosen_below t y c h.passed_list (choice_made few g z e) i d p) few

  pub turn_quiet : k < m → c ≡ None → Advanced t x m s a (record { last = Quiet; count = k; state = y }) s' a'
  turn_quiet l p = running_quiet h l (step_quiet t y c h.passed_list (choice_made few g z e) p)

  -- v is what the code has read for the service d, and u, r and b are what it has found for the rule i and that service
  pub turn_on : {s'' a'' : List ℕ} {i : Rule} {d : ℕ} {v : Settings} {u : Bool} {r : Record} {b : Action} → k < m → c ≡ Some (i, d) → v ≡ settings_at t d
      → u ≡ overlap v.hard st.user
      → r ≡ pick (sound v y.clock (record_at y d)) (left_by i u v y.clock (record_at y d)) (record_at y d)
      → b ≡ handed_by i v (record_at y d) d
      → s'' ≡ set s' k (action_service b) → a'' ≡ set a' k (action_number b)
      → Running t x s a m s'' a'' (with_record y d r) b (k + 1)
  turn_on {i = i} {d = d} {v = v} {u = u} {r = r} {b = b} l p at v-u v-r v-b o w =
      let is_user_lem = v-u ∙ ap (λ (n : Settings). overlap n.hard st.user) at in
      let is-left = v-r ∙ ap (λ n. pick (sound n y.clock (record_at y d)) (left_by i u n y.clock (record_at y d)) (record_at y d)) at in
      let is-handed = v-b ∙ ap (λ n. handed_by i n (record_at y d) d) at in
      running_more h l
      (step_fits t y c h.passed_list (choice_made few g z e) i d st.user u r b (user_gathered few g z) p is_user_lem is-left is-handed)
      o w

-- an accepted call: q is what the code found of list 24, r what it did, and z what it gives back
module _ (t : Table) (x : State) (q : Bool) (s a s' a' : List ℕ) (r : Progress) (e : q ≡ formed t x) (h : q ≡ true) where
  accepted : formed t x ≡ true
  accepted = sym e ∙ h

  pub next_done : (z : Answered Action) → Advanced t x 1 s a r s' a' → z ≡ record { answer = Ok r.last; state = r.state }
      → stepped_outcome z ≡ outcome t x next
  unfolding outcome check
  next_done z w g =
      rw (g, accepted)
      (ap (λ (y : Step). gives next (acted y.action) y.state) (w.single refl))

  module _ (z : Answered ℕ) (w : Advanced t x (4 * t.count) s a r s' a') (g : z ≡ record { answer = Ok r.count; state = r.state }) where
    steps : r.count ≡ steps_to_quiet t x
    unfolding steps_to_quiet
    steps = w.count

    pub run_done : 4 * t.count ≤ length s → 4 * t.count ≤ length a → ran_outcome z s' a' ≡ outcome t x (run s a)
    unfolding outcome check written_services written_actions
    run_done l k =
        rw (g, w.state, w.services, w.actions, steps, accepted, le-leb (4 * t.count) (length s) l, le-leb (4 * t.count) (length a) k)

    pub run_rested : length x.records ≡ max_services → rested_within t z ≡ true
    unfolding action_after
    run_rested n =
        rw (g, w.state, steps)
        ((and_true (leb (steps_to_quiet t x) (4 * t.count)) (is_quiet (next_action t (state_after t x (steps_to_quiet t x))).action)).1
        (le-leb (steps_to_quiet t x) (4 * t.count) (steps_within t x), steps_quiet t x (rests_everywhere t x n accepted)))
