-- A list of calls as single steps: what a step is, that the moments of every list are steps in a row, and what steps in a row keep. Refusals,
-- queries and runs are dealt with here, once.
use Prim.Native.Nat.{◌<◌, ◌≤◌, suc, zero, ℕ}
use mathlib.Core.Bool.{Bool, ◌&&◌, false, not, true}
use mathlib.Core.List.{List, [], ◌++◌, ◌∷◌}
use mathlib.Core.Path.{◌≡◌, refl}
use Rattle.base.specs.Folds.{listed}
use Rattle.base.proofs.Lists.{listed_as}
use Rattle.base.proofs.Tests.{no_ft, not_both}
use Rattle.service.specs.Limits.{last_clock}
use Rattle.service.specs.Records.{record_at}
use Rattle.service.specs.declared.State.{State}
use Rattle.service.specs.declared.Table.{Table}
use Rattle.rules.specs.Calls.{Call, Outcome, after_calls, outcome}
use Rattle.rules.specs.Demand.{Each, Mark, Moment, accepted, began, deadline_kill, ended, fed, handed, is_refused, is_start, moment, moments, moments_by, passed, story}
use Rattle.rules.specs.Events.{after_clock, after_end, after_start, after_stop, after_stop_all}
use Rattle.rules.specs.Rules.{next_action}
use Rattle.rules.specs.Runs.{action_after, state_after, steps_to_quiet}
use Rattle.rules.proofs.Came.{Came, acts as came-acts, came, clocks as came-clocks, ends as came-ends, refuses, runs, starts as came-starts, stops as came-stops, stops_all as came-stops-all, tells}
use Rattle.rules.proofs.Runs.{action_first, action_none, after_first, after_none, read_back_lem}

-- a step: one action, or an accepted event; a start only where starts are let in
pub data Taken (t : Table) (starting : Bool) : Moment → Type 0 where
  acts : {x : State} → Taken t starting (moment (handed (next_action t x).action (deadline_kill t x)) x (next_action t x).state)
  starts : {x : State} (s : ℕ) → starting ≡ true → s < t.count → Taken t starting (moment began x (after_start t x s))
  stops : {x : State} (s : ℕ) → s < t.count → Taken t starting (moment passed x (after_stop x s))
  stops_all : {x : State} → Taken t starting (moment passed x (after_stop_all t x))
  ends : {x : State} (s : ℕ) (good : Bool) → s < t.count → (record_at x s).live ≡ true → Taken t starting (moment (ended s) x (after_end t x s good))
  clocks : {x : State} (n : ℕ) → x.clock ≤ n → n ≤ last_clock → Taken t starting (moment passed x (after_clock x n))

abbrev pub is_started : Mark → Bool
is_started (handed a k) = false
is_started (ended s) = false
is_started began = true
is_started passed = false

-- where starts are not let in there is none
pub no_start : {t : Table} (m : Moment) → Taken t false m → is_started m.mark ≡ false
no_start m acts = refl
no_start m (starts s e l) = no_ft e
no_start m (stops s l) = refl
no_start m stops_all = refl
no_start m (ends s good l lives) = refl
no_start m (clocks n l k) = refl

-- moments in a row, from a state to a state, at each of which S holds
pub data Walk (S : Moment → Type 0) : State → List Moment → State → Type 0 where
  there : {x : State} → Walk S x [] x
  step : {m : Moment} {ms : List Moment} {y : State} → S m → Walk S m.after ms y → Walk S m.before (m ∷ ms) y

pub walk_on : (S : Moment → Type 0) {x y z : State} {ms ns : List Moment} → Walk S x ms y → Walk S y ns z → Walk S x (ms ++ ns) z
walk_on S there w = w
walk_on S (step h v) w = step h (walk_on S v w)

-- ---- what the steps of a walk keep

pub walk_keeps : (S : Moment → Type 0) (P : State → Type 0) → ((m : Moment) → S m → P m.before → P m.after)
    → {x y : State} {ms : List Moment} → Walk S x ms y → P x → P y
walk_keeps S P h there p = p
walk_keeps S P h (step {m} a w) p = walk_keeps S P h w (h m a p)

-- a walk at whose steps more holds, where the states keep P
pub walk_with : (S T : Moment → Type 0) (P : State → Type 0) → ((m : Moment) → S m → P m.before → T m × P m.after)
    → {x y : State} {ms : List Moment} → Walk S x ms y → P x → Walk T x ms y
walk_with S T P h there p = there
walk_with S T P h (step {m} a w) p = let k = h m a p in step k.0 (walk_with S T P h w k.1)

module _ {A : Type 0} (S : Moment → Type 0) (C : A → Moment → Type 0) (F : Moment → A → A) (I : A → State → Type 0) where
  -- moments at each of which C holds, from v, and where they lead
  pub record Leads (v : A) (ms : List Moment) (y : State) : Type 0 where
    pub each : Each C F v ms
    pub keeps : I (fed F ms v) y

  -- a value that is fed the moments of a walk
  pub walk_leads : ((v : A) (m : Moment) → S m → I v m.before → C v m × I (F m v) m.after)
      → {x y : State} {ms : List Moment} → Walk S x ms y → (v : A) → I v x → Leads v ms y
  unfolding Each fed
  walk_leads h there v i = record { each = tt; keeps = i }
  walk_leads h (step {m} a w) v i =
      let k = h v m a i in
      let l = walk_leads h w (F m v) k.1 in
      record { each = (k.0, l.each); keeps = l.keeps }

-- ---- every list of calls is a walk

-- the moment of the action after i others
abbrev moment_after : Table → State → ℕ → Moment
moment_after t x i = moment (handed (action_after t x i) (deadline_kill t (state_after t x i))) (state_after t x i) (state_after t x (suc i))

moment_first : (t : Table) (x : State) (i : ℕ) → moment_after t x (suc i) ≡ moment_after t (next_action t x).state i
moment_first t x i = rw (action_first t x i, after_first t x i, after_first t x (suc i))

moment_none : (t : Table) (x : State) → moment_after t x 0 ≡ moment (handed (next_action t x).action (deadline_kill t x)) x (next_action t x).state
moment_none t x = rw (action_none t x, after_first t x 0, after_none t x, after_none t (next_action t x).state)

module _ (t : Table) (starting : Bool) where
  one : {m : Moment} → Taken t starting m → Walk (Taken t starting) m.before (m ∷ []) m.after
  one h = step h there

  -- n actions in a row
  in_a_row : (n : ℕ) (x : State) → Walk (Taken t starting) x (listed (moment_after t x) n) (state_after t x n)
  unfolding listed
  in_a_row zero x = rw (after_none t x) there
  in_a_row (suc n) x =
      rw (
        moment_none t x,
        listed_as (λ i. moment_after t x (suc i)) (moment_after t (next_action t x).state) n (λ i _. moment_first t x i),
        after_first t x n,
      )
      (step acts (in_a_row n (next_action t x).state))

  by_came : (x : State) {c : Call} {o : Outcome} → Came t x c o → ((is_start c && not (is_refused o.answer)) ≡ true → starting ≡ true)
      → Walk (Taken t starting) x (moments_by o.answer t x c o) o.state
  unfolding moments_by
  by_came x (refuses k) h = there
  by_came x (came-starts {s} l) h = one (starts s (h refl) l)
  by_came x (came-stops {s} l) h = one (stops s l)
  by_came x came-stops-all h = one stops_all
  by_came x (came-ends {s} {good} l lives) h = one (ends s good l lives)
  by_came x (came-clocks {n} l m) h = one (clocks n l m)
  by_came x came-acts h = one acts
  by_came x tells h = there
  by_came x (runs {ss} {as'} a b) h = rw (read_back_lem t x ss as' a b) (in_a_row (steps_to_quiet t x) x)

module _ (t : Table) where
  pub call_walk : (x : State) (c : Call) → Walk (Taken t true) x (moments t x c) (outcome t x c).state
  unfolding moments
  call_walk x c = by_came t true x (came t x c) (λ _. refl)

  -- a call that is no accepted start
  pub startless_walk : (x : State) (c : Call) → (is_start c && accepted t x c) ≡ false → Walk (Taken t false) x (moments t x c) (outcome t x c).state
  unfolding moments accepted
  startless_walk x c b = by_came t false x (came t x c) (λ a. absurd (not_both a b))

  pub story_walk : (cs : List Call) (x : State) → Walk (Taken t true) x (story t x cs) (after_calls t x cs)
  unfolding story after_calls
  story_walk [] x = there
  story_walk (c ∷ cs) x = walk_on (Taken t true) (call_walk x c) (story_walk cs (outcome t x c).state)
