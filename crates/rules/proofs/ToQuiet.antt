-- Calls that take the actions to quiet, in the paper's words: an accepted run, and single actions with no event between, the last of them
-- answered quiet.
use Prim.Native.Nat.{ℕ}
use mathlib.Core.Bool.{Bool, ◌&&◌, false, not, true}
use mathlib.Core.List.{List, [], ◌++◌, ◌∷◌}
use mathlib.Core.Path.{◌≡◌, ap, refl}
use Rattle.base.proofs.Tests.{and_true, either, no_ft, or_not}
use Rattle.service.specs.Numbers.{is_quiet}
use Rattle.service.specs.declared.Action.TheVariants.{Quiet}
use Rattle.service.specs.declared.State.{State}
use Rattle.service.specs.declared.Table.{Table}
use Rattle.service.proofs.States.{Sized}
use Rattle.rules.specs.Calls.{Answer, Call, Outcome, acted, check, done, next, outcome, ran, refused, run, told}
use Rattle.rules.specs.Demand.{Now, Rests, Stretch, ToQuiet, accepted, call, empty, eventless, is_event, is_refused, is_start, now_after}
use Rattle.rules.specs.Rules.{Step}
use Rattle.rules.specs.Runs.{action_after, state_after, steps_to_quiet}
use Rattle.rules.specs.WellFormed.{formed}
use Rattle.rules.proofs.Came.{Came, acts, came, refuses, runs}
use Rattle.rules.proofs.Formed.{Sound, formed_parts, formed_sound, sound_formed, sound_step}
use Rattle.rules.proofs.Next.{Stays}
use Rattle.rules.proofs.Resting.{quiet_stays, rests_everywhere, steps_quiet}
use Rattle.rules.proofs.Steps.{Taken, call_walk, walk_keeps}

abbrev quietly : Answer → Bool
quietly (refused k) = false
quietly done = false
quietly (acted a) = is_quiet a
quietly (ran n) = false
quietly (told d) = false

-- a quiet answer leaves the state, in which no rule fits
pub next_quiet : (t : Table) (x : State) → (outcome t x next).answer ≡ acted Quiet → ((outcome t x next).state ≡ x) × Stays t x
next_quiet t x a = go (came t x next) (ap quietly a)
  where
    go : {o : Outcome} → Came t x next o → quietly o.answer ≡ true → (o.state ≡ x) × Stays t x
    go (refuses k) e = no_ft e
    go acts e = let q = quiet_stays t x e in (ap (λ (o : Step). o.state) q.does, q)

-- where no rule fits the answer is quiet
stays_quiet : (t : Table) (x : State) → formed t x ≡ true → Stays t x → (outcome t x next).answer ≡ acted Quiet
unfolding outcome check
stays_quiet t x f q = rw (f, q.does)

-- ---- an accepted run

run_formed : (t : Table) (x : State) (ss as' : List ℕ) → accepted t x (run ss as') ≡ true → formed t x ≡ true
unfolding accepted outcome check
run_formed t x ss as' a = either (or_not (formed t x)) (λ y. y) (λ n. no_ft (rw n at a))

run_state : (t : Table) (x : State) (ss as' : List ℕ) → accepted t x (run ss as') ≡ true → (outcome t x (run ss as')).state ≡ state_after t x (steps_to_quiet t x)
unfolding accepted
run_state t x ss as' a = go (came t x (run ss as')) a
  where
    go : {o : Outcome} → Came t x (run ss as') o → not (is_refused o.answer) ≡ true → o.state ≡ state_after t x (steps_to_quiet t x)
    go (refuses k) e = no_ft e
    go (runs l m) e = refl

run_quiet : (t : Table) (x : State) → Rests t x → Stays t (state_after t x (steps_to_quiet t x))
unfolding action_after
run_quiet t x h = quiet_stays t _ (steps_quiet t x h)

-- "by an accepted run"
pub by_run : (t : Table) (n : Now) → Sized n.state → (ss as' : List ℕ) → accepted t n.state (run ss as') ≡ true
    → ToQuiet t n (run ss as' ∷ []) (now_after t n (run ss as'))
unfolding eventless now_after
by_run t n z ss as' a = record { calls = call (run ss as') refl empty; between = refl; quiet = stays_quiet t y (sound_formed t y (formed_parts t x f).0 sound) still }
  where
    x : State
    x = n.state

    y : State
    y = (outcome t n.state (run ss as')).state

    f : formed t n.state ≡ true
    f = run_formed t n.state ss as' a

    sound : Sound t (outcome t n.state (run ss as')).state
    sound =
        let h = formed_sound t n.state z f in
        walk_keeps (Taken t true) (Sound t) (sound_step t h.0 true) (call_walk t n.state (run ss as')) h.1

    still : Stays t (outcome t n.state (run ss as')).state
    still = rw (run_state t n.state ss as' a) (run_quiet t n.state (rests_everywhere t n.state z f))

-- ---- single actions

stretch_end : {t : Table} {n n' : Now} {cs : List Call} → Stretch t n cs n' → (c : Call) → (is_start c && accepted t n'.state c) ≡ false
    → Stretch t n (cs ++ (c ∷ [])) (now_after t n' c)
stretch_end empty c b = call c b empty
stretch_end (call d e r) c b = call d e (stretch_end r c b)

eventless_end : (t : Table) (cs : List Call) (x : State) → eventless t x cs ≡ true → eventless t x (cs ++ (next ∷ [])) ≡ true
unfolding eventless
eventless_end t [] x e = refl
eventless_end t (c ∷ cs) x e =
    let q = (and_true (not (is_event c && accepted t x c)) _).0 e in
    (and_true (not (is_event c && accepted t x c)) _).1 (q.0, eventless_end t cs (outcome t x c).state q.1)

-- "or singly with no event between": the last answer is quiet
pub singly : (t : Table) {n n' : Now} {cs : List Call} → Stretch t n cs n' → eventless t n.state cs ≡ true → (outcome t n'.state next).answer ≡ acted Quiet
    → ToQuiet t n (cs ++ (next ∷ [])) (now_after t n' next)
unfolding now_after
singly t {n} {n'} {cs} r e a = record {
  calls = stretch_end r next refl;
  between = eventless_end t cs n.state e;
  quiet = rw (next_quiet t n'.state a).0 a;
}
