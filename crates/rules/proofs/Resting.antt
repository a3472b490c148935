-- The second half of demand 3, the bound: along any calls with no accepted event among them at most 4n actions come, and
-- quiet comes.
use Prim.Native.Nat.{◌*◌, ◌+◌, ◌<◌, ◌≤◌, suc, zero, ℕ}
use lib.Dec.{lit≤}
use lib.ListN.{length}
use mathlib.Core.Bool.{Bool, ◌&&◌, false, not, true}
use mathlib.Core.List.{List, [], ◌++◌, ◌∷◌}
use mathlib.Core.Path.{◌∙◌, ◌≡◌, ap, refl, sym}
use native.Mathlib.Nat.{eq-or-lt_of_le, le_refl}
use native.Mathlib.Omega.{arith}
use Rattle.base.specs.Folds.{listed, pick}
use Rattle.base.proofs.Below.{Sought, found, nowhere, sought}
use Rattle.base.proofs.Tests.{and_true, either, no_tf, not_both, not_true}
use Rattle.service.specs.Numbers.{is_quiet}
use Rattle.service.specs.Records.{fresh_state, is_starting, record_at}
use Rattle.service.specs.Settings.{form_of, settings_at}
use Rattle.service.specs.declared.Action.{Action}
use Rattle.service.specs.declared.Action.TheVariants.{Launch, Moved, Quiet, Signal, StopCommand}
use Rattle.service.specs.declared.Form.{Form}
use Rattle.service.specs.declared.Form.TheVariants.{Bare, Passing, Direct, Delayed}
use Rattle.service.specs.declared.Signal.{Signal as SignalName}
use Rattle.service.specs.declared.Signal.TheVariants.{Hup, Int, Kill, None as NoSignal, Quit, Term, Usr1, Usr2}
use Rattle.service.specs.declared.State.{State}
use Rattle.service.specs.declared.Table.{Table}
use Rattle.rules.specs.Calls.{Call, Outcome, after_calls, outcome}
use Rattle.rules.specs.Demand.{Moment, Rests, RestsEverywhere, accepted, actions_in, deadline_kill, eventless, handed, is_action, is_event, is_refused, moment, moments, moments_by, read_back, story}
use Rattle.rules.specs.Rules.{act, begun_action, end_action, hands, next_action, term_action}
use Rattle.rules.specs.Runs.{action_after, state_after, steps_to_quiet, written_actions, written_services}
use Rattle.rules.specs.WellFormed.{table_formed}
use Rattle.rules.specs.declared.Rule.{Rule}
use Rattle.rules.specs.declared.Rule.TheVariants.{Abandon, Begin, End, Expire, Lose, Release, Settle, Wake}
use Rattle.rules.proofs.Came.{Came, acts as came-acts, came, clocks, ends, refuses, runs, starts, stops, stops_all, tells}
use Rattle.rules.proofs.Formed.{always_formed, formed_sound, sound_calls}
use Rattle.rules.proofs.Links.{table_sound}
use Rattle.rules.proofs.Next.{Stays, next_either}
use Rattle.rules.proofs.Rest.{Ends, acts, quiet}
use Rattle.rules.proofs.Runs.{action_first, action_none, after_first, after_none, read_back_lem, steps_loud}
use Rattle.rules.proofs.Stages.{ends_within}

-- ---- a quiet answer

begun_loud : (k : Form) (s : ℕ) → is_quiet (begun_action k s) ≡ false
begun_loud Bare s = refl
begun_loud Passing s = refl
begun_loud Direct s = refl
begun_loud Delayed s = refl

term_loud : (g : SignalName) (s : ℕ) → is_quiet (term_action g s) ≡ false
term_loud NoSignal s = refl
term_loud Hup s = refl
term_loud Int s = refl
term_loud Term s = refl
term_loud Quit s = refl
term_loud Usr1 s = refl
term_loud Usr2 s = refl
term_loud Kill s = refl

end_loud : (k : Form) (g : SignalName) (s : ℕ) → is_quiet (end_action k g s) ≡ false
end_loud Bare g s = refl
end_loud Passing g s = refl
end_loud Direct g s = term_loud g s
end_loud Delayed g s = term_loud g s

expired_loud : (b : Bool) (s : ℕ) → is_quiet (pick b (Signal s Int) (Signal s Kill)) ≡ false
expired_loud true s = refl
expired_loud false s = refl

-- no rule hands out quiet
pub loud : (k : Rule) (t : Table) (x : State) (s : ℕ) → is_quiet (hands k t x s) ≡ false
unfolding hands
loud Lose t x s = refl
loud Abandon t x s = refl
loud Settle t x s = refl
loud Wake t x s = refl
loud Release t x s = refl
loud Begin t x s = begun_loud (form_of (settings_at t s)) s
loud End t x s = end_loud (form_of (settings_at t s)) (settings_at t s).signal s
loud Expire t x s = expired_loud (is_starting (record_at x s).phase) s

-- so where the next action is quiet no rule fits, and the state stays
pub quiet_stays : (t : Table) (x : State) → is_quiet (next_action t x).action ≡ true → Stays t x
unfolding act
quiet_stays t x e =
    either
    (next_either t x)
    (λ q. q)
    (λ q. absurd (not_both (rw q.2.does at e) (loud q.0 t x q.1)))

-- after the steps to quiet comes quiet
pub steps_quiet : (t : Table) (x : State) → Rests t x → is_quiet (action_after t x (steps_to_quiet t x)) ≡ true
unfolding steps_to_quiet
steps_quiet t x h = go (sought (λ k. is_quiet (action_after t x k)) (4 * t.count))
  where
    go : {i : ℕ} → Sought (λ k. is_quiet (action_after t x k)) (4 * t.count) i → is_quiet (action_after t x i) ≡ true
    go (found l) = l.passes
    go (nowhere n) =
        let q = h.quiet in
        either
        (eq-or-lt_of_le q.1)
        (λ e. rw (← e) (ap is_quiet q.2))
        (λ m. absurd (not_both (ap is_quiet q.2) (n q.0 m)))

-- ---- the actions among the moments

actions_append : (ms ns : List Moment) → actions_in (ms ++ ns) ≡ actions_in ms + actions_in ns
unfolding actions_in
actions_append [] ns = omega arith
actions_append (m ∷ ms) ns = let e = actions_append ms ns in omega arith

at_most_one : (a : Action) (b : Bool) → is_action (handed a b) ≤ 1
at_most_one Quiet b = lit≤ tt
at_most_one (Moved s) b = lit≤ tt
at_most_one (Launch s) b = lit≤ tt
at_most_one (StopCommand s) b = lit≤ tt
at_most_one (Signal s g) b = lit≤ tt

actions_listed : (f : ℕ → Moment) → ((i : ℕ) → is_action (f i).mark ≤ 1) → (n : ℕ) → actions_in (listed f n) ≤ n
unfolding actions_in listed
actions_listed f b zero = le_refl 0
actions_listed f b (suc n) =
    let h = actions_listed (λ i. f (suc i)) (λ i. b (suc i)) n in
    let o = b 0 in
    omega arith

-- ---- from a bound on single actions to one on calls

module _ (t : Table) where
  ends_quiet : {f : ℕ} {x : State} → Ends t f x → (k : ℕ) × (k ≤ f) × (action_after t x k ≡ Quiet)
  ends_quiet {f} {x} (quiet e) = (0, omega arith, action_none t x ∙ e)
  ends_quiet {x = x} (acts e) = let h = ends_quiet e in let l = h.1 in (suc h.0, omega arith, action_first t x h.0 ∙ h.2)

  -- k actions, none of them quiet, leave k fewer
  runs_end : (k f : ℕ) (x : State) → Ends t f x → ((i : ℕ) → i < k → is_quiet (action_after t x i) ≡ false) → (g : ℕ) × Ends t g (state_after t x k) × (k + g ≤ f)
  runs_end zero f x e h = (f, rw (after_none t x) e, omega arith)
  runs_end (suc k) f x (quiet q) h = absurd (not_both (ap is_quiet (action_none t x ∙ q)) (h 0 (omega arith)))
  runs_end (suc k) (suc f) x (acts e) h =
      let r = runs_end k f (next_action t x).state e (λ i l. ap is_quiet (sym (action_first t x i)) ∙ h (suc i) (omega arith)) in
      let l = r.2 in
      (r.0, rw (after_first t x k) r.1, omega arith)

  -- what a call that is no accepted event leaves of the bound
  abbrev Leaves : ℕ → List Moment → State → Type 0
  Leaves f ms y = (g : ℕ) × Ends t g y × (actions_in ms + g ≤ f)

  nothing : (f : ℕ) (y : State) → Ends t f y → Leaves f [] y
  unfolding actions_in
  nothing f y e = (f, e, omega arith)

  next_leaves : (f : ℕ) (x : State) → Ends t f x → (b : Bool) → Leaves f (moment (handed (next_action t x).action b) x (next_action t x).state ∷ []) (next_action t x).state
  unfolding actions_in
  next_leaves f x (quiet q) b =
      let st = quiet_stays t x (ap is_quiet q) in
      rw st.does (f, quiet q, omega arith)
  next_leaves (suc f) x (acts e) b = (f, e, let o = at_most_one (next_action t x).action b in omega arith)

  module _ (f : ℕ) (x : State) (e : Ends t f x) where
    abbrev LeavesBy : Call → Outcome → Type 0
    LeavesBy c o = Leaves f (moments_by o.answer t x c o) o.state

    run_leaves : (ss as' : List ℕ) → 4 * t.count ≤ length ss → 4 * t.count ≤ length as'
        → Leaves f (read_back t x (written_services t x ss) (written_actions t x as') (steps_to_quiet t x)) (state_after t x (steps_to_quiet t x))
    run_leaves ss as' a b =
        let r = runs_end (steps_to_quiet t x) f x e (steps_loud t x) in
        let l = r.2 in
        let m =
        actions_listed
        (λ i. moment (handed (action_after t x i) (deadline_kill t (state_after t x i))) (state_after t x i) (state_after t x (suc i)))
        (λ i. at_most_one (action_after t x i) (deadline_kill t (state_after t x i))) (steps_to_quiet t x) in
        rw (read_back_lem t x ss as' a b) (r.0, r.1, omega arith)

    by_came : {c : Call} {o : Outcome} → Came t x c o → (is_event c && not (is_refused o.answer)) ≡ false → LeavesBy c o
    unfolding moments_by
    by_came (refuses k) a = nothing f x e
    by_came (starts l) a = no_tf a
    by_came (stops l) a = no_tf a
    by_came stops_all a = no_tf a
    by_came (ends l lives) a = no_tf a
    by_came (clocks l m) a = no_tf a
    by_came came-acts a = next_leaves f x e (deadline_kill t x)
    by_came tells a = nothing f x e
    by_came (runs {ss} {as'} l m) a = run_leaves ss as' l m

    call_leaves : (c : Call) → (is_event c && accepted t x c) ≡ false → Leaves f (moments t x c) (outcome t x c).state
    unfolding moments accepted
    call_leaves c a = by_came (came t x c) a

  few_actions : (cs : List Call) (f : ℕ) (x : State) → Ends t f x → eventless t x cs ≡ true → actions_in (story t x cs) ≤ f
  unfolding story eventless
  few_actions [] f x e h = unfold actions_in in omega arith
  few_actions (c ∷ cs) f x e h =
      let q = (and_true (not (is_event c && accepted t x c)) _).0 h in
      let r = call_leaves f x e c ((not_true _).0 q.0) in
      let m = few_actions cs r.0 (outcome t x c).state r.1 q.1 in
      let a = actions_append (moments t x c) (story t (outcome t x c).state cs) in
      let l = r.2 in
      omega arith

  pub ends_rests : (x : State) → Ends t (4 * t.count) x → Rests t x
  ends_rests x e = record { few = λ cs h. few_actions cs (4 * t.count) x e h; quiet = ends_quiet e }

-- the bound, for every state that passes 24
pub rests_everywhere : RestsEverywhere
rests_everywhere t x z f =
    let h = formed_sound t x z f in
    ends_rests t x (ends_within t x record { few = h.0.few; sized = z; shapes = h.1.shapes })

-- and for every state that a list of calls reaches
pub always_rests : (t : Table) → table_formed t ≡ true → (cs : List Call) → Rests t (after_calls t fresh_state cs)
always_rests t f cs =
    rests_everywhere t (after_calls t fresh_state cs) (sound_calls t ((table_sound t).0 f) cs).sized (always_formed t f cs)
