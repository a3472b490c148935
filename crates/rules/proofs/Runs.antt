-- A run's filled places, read back one by one, are its actions; and a run is made of single actions.
use Prim.Native.Nat.{◌*◌, ◌+◌, ◌<◌, ◌≤◌, suc, zero, ℕ}
use lib.ListN.{get_or, length, length-set}
use lib.Seq.{get_or-set_other, get_or-set_same}
use mathlib.Core.Bool.{false}
use mathlib.Core.List.{List}
use mathlib.Core.Path.{◌∙◌, ◌≡◌, ap, refl}
use native.Mathlib.Nat.{eq-or-lt_of_le, le_of_suc-le-suc, le_refl, le_trans, lt_irrefl, not-suc-le-zero}
use native.Mathlib.Omega.{arith}
use Rattle.base.specs.Folds.{listed}
use Rattle.base.proofs.Below.{Sought, found, nowhere, sought}
use Rattle.base.proofs.Lists.{listed_as}
use Rattle.base.proofs.Tests.{either, no_tf}
use Rattle.service.specs.Numbers.{action_number, action_of, action_service, is_quiet, signal_at, signal_number}
use Rattle.service.specs.declared.Action.{Action}
use Rattle.service.specs.declared.Action.TheVariants.{Launch, Moved, Quiet, Signal, StopCommand}
use Rattle.service.specs.declared.Signal.{Signal as SignalName}
use Rattle.service.specs.declared.State.{State}
use Rattle.service.specs.declared.Table.{Table}
use Rattle.service.proofs.Numbering.{signal_back}
use Rattle.rules.specs.Demand.{deadline_kill, handed, moment, read_back}
use Rattle.rules.specs.Rules.{next_action}
use Rattle.rules.specs.Runs.{action_after, state_after, steps_to_quiet, written, written_actions, written_services}

pub after_none : (t : Table) (x : State) → state_after t x 0 ≡ x
unfolding state_after
after_none t x = refl

pub action_none : (t : Table) (x : State) → action_after t x 0 ≡ (next_action t x).action
unfolding action_after
action_none t x = ap (λ (y : State). (next_action t y).action) (after_none t x)

-- the first action, and then those from the state that it leaves
pub after_first : (t : Table) (x : State) (k : ℕ) → state_after t x (suc k) ≡ state_after t (next_action t x).state k
unfolding state_after
after_first t x zero = refl
after_first t x (suc k) = ap (λ (y : State). (next_action t y).state) (after_first t x k)

pub action_first : (t : Table) (x : State) (k : ℕ) → action_after t x (suc k) ≡ action_after t (next_action t x).state k
unfolding action_after
action_first t x k = ap (λ (y : State). (next_action t y).action) (after_first t x k)

pub steps_within : (t : Table) (x : State) → steps_to_quiet t x ≤ 4 * t.count
unfolding steps_to_quiet
steps_within t x = go (sought (λ k. is_quiet (action_after t x k)) (4 * t.count))
  where
    go : {i : ℕ} → Sought (λ k. is_quiet (action_after t x k)) (4 * t.count) i → i ≤ 4 * t.count
    go (found {i} h) = let b = h.bound in omega arith
    go (nowhere h) = le_refl (4 * t.count)

-- no action of a run is quiet
pub steps_loud : (t : Table) (x : State) (i : ℕ) → i < steps_to_quiet t x → is_quiet (action_after t x i) ≡ false
unfolding steps_to_quiet
steps_loud t x i l = go (sought (λ k. is_quiet (action_after t x k)) (4 * t.count)) l
  where
    go : {j : ℕ} → Sought (λ k. is_quiet (action_after t x k)) (4 * t.count) j → i < j → is_quiet (action_after t x i) ≡ false
    go (found h) m = h.first i m
    go (nowhere h) m = h i m

-- three and a place, as the numbers are read back
three_more : (s n : ℕ) → action_of s (3 + n) ≡ Signal s (signal_at n)
three_more s n = ap (action_of s) (let e : 3 + n ≡ suc (suc (suc n)) = omega arith in e)

action_back : (a : Action) → is_quiet a ≡ false → action_of (action_service a) (action_number a) ≡ a
action_back Quiet e = no_tf e
action_back (Moved s) e = refl
action_back (Launch s) e = refl
action_back (StopCommand s) e = refl
action_back (Signal s g) e = three_more s (signal_number g) ∙ ap (λ (h : SignalName). Signal s h) (signal_back g).0

written_length : (f : ℕ → ℕ) (l : List ℕ) (n : ℕ) → length (written f l n) ≡ length l
unfolding written
written_length f l zero = refl
written_length f l (suc n) = length-set (written f l n) n (f n) ∙ written_length f l n

pub written_at : (f : ℕ → ℕ) (l : List ℕ) (n : ℕ) → n ≤ length l → (i : ℕ) → i < n → get_or (written f l n) i 0 ≡ f i
unfolding written
written_at f l zero r i h = absurd (not-suc-le-zero h)
written_at f l (suc n) r i h =
    either
    (eq-or-lt_of_le (le_of_suc-le-suc h))
    (λ (e : i ≡ n). rw e (get_or-set_same (written f l n) n (f n) 0 (rw (written_length f l n) r)))
    (λ (m : i < n).
    get_or-set_other (written f l n) n i (f n) 0 (λ e. lt_irrefl i (rw (← e) at m)) ∙ written_at f l n (omega arith) i m)

-- the moments of a run that has room are its actions by the rules
pub read_back_lem : (t : Table) (x : State) (ss as' : List ℕ) → 4 * t.count ≤ length ss → 4 * t.count ≤ length as'
    → read_back t x (written_services t x ss) (written_actions t x as') (steps_to_quiet t x)
    ≡ listed (λ i. moment (handed (action_after t x i) (deadline_kill t (state_after t x i))) (state_after t x i) (state_after t x (suc i))) (steps_to_quiet t x)
unfolding read_back written_services written_actions
read_back_lem t x ss as' r q =
    listed_as _ _ (steps_to_quiet t x)
    (λ i l.
    let n : steps_to_quiet t x ≤ 4 * t.count = steps_within t x in
    rw (
      written_at (λ k. action_service (action_after t x k)) ss (steps_to_quiet t x) (le_trans n r) i l,
      written_at (λ k. action_number (action_after t x k)) as' (steps_to_quiet t x) (le_trans n q) i l,
      action_back (action_after t x i) (steps_loud t x i l),
    ))
