-- From what a call gave with the table and the state that were read, to what the numbers are then.
use Prim.Native.Nat.{ℕ}
use mathlib.Core.Bool.{Bool, false, true}
use mathlib.Core.List.{List}
use mathlib.Core.Path.{◌≡◌, refl, ap, ◌∙◌}
use Rattle.std.specs.Prelude.{Option, Result, Ok, Err}
use Rattle.std.specs.Result.{IsErrAnd, IsOkAnd, MatchResult, result_map_both}
use Rattle.base.specs.Folds.{pick}
use Rattle.service.specs.declared.Action.{Action}
use Rattle.service.specs.declared.Answered.{Answered}
use Rattle.service.specs.declared.Refusal.{Refusal}
use Rattle.service.specs.declared.State.{State}
use Rattle.service.specs.declared.Table.{Table}
use Rattle.rules.specs.Calls.{Answer, Call, Outcome, check, gives, lent_actions, lent_services, next, outcome, query, refused, run}
use Rattle.rules.specs.Calls.{action_answer, changed_outcome, event_answer, query_answer, query_outcome, ran_outcome, run_answer, stepped_outcome}
use Rattle.rules.specs.Demand.{is_refused}
use Rattle.plain_encoding.specs.Numbers.{state_numbers, state_of, table_of}
use Rattle.plain.specs.Calls.{Called, Written, asked_of, event_of, handed_of, meant, next_of, numbers_after, on, run_of}
use Rattle.plain.specs.Told.{checked, numbered, state_kept}
use Rattle.plain.specs.declared.forms.Handed.{Handed}

-- what the check of the numbers found
pub found_good : (b : Bool) → ◌≡◌ {A = Result (Unit {0}) ℕ} (Ok tt) (checked b) → b ≡ true
found_good true e = refl
found_good false e = cc

pub found_bad : (b : Bool) {k : ℕ} → ◌≡◌ {A = Result (Unit {0}) ℕ} (Err k) (checked b) → (b ≡ false) × (k ≡ 24)
found_bad true e = cc
found_bad false e = (refl, cc)

-- ---- a call with numbers that stand for nothing

module _ (t l : List ℕ) (c : Call) {k : ℕ} (h : (meant t l ≡ false) × (k ≡ 24)) where
  is_nothing : gives c (refused k) (state_of l) ≡ on t l c
  unfolding check
  is_nothing = rw (h.0, h.1)

  pub nothing_called : {A : Type 0} (tell : Answer → A) {r : A} → r ≡ tell (refused k) → Called tell (on t l c) l r l
  nothing_called tell q = record {
    answer = q ∙ ap (λ (z : Outcome). tell z.answer) is_nothing;
    state = ap (λ (z : Outcome). numbers_after l z) is_nothing;
  }

  pub nothing_written : Written (on t l c) (lent_services c) (lent_actions c)
  nothing_written =
      record { services = ap (λ (z : Outcome). z.services) is_nothing; actions = ap (λ (z : Outcome). z.actions) is_nothing }

  pub nothing_asked : {r : Result (Option ℕ) ℕ} → r ≡ Err k → r ≡ asked_of (on t l c).answer
  nothing_asked q = q ∙ ap (λ (z : Outcome). asked_of z.answer) is_nothing

-- ---- a call that gave the outcome o with the table and the state that were read

module _ (t l : List ℕ) {T : Table} {X : State} (m : meant t l ≡ true) (p : T ≡ table_of t) (q : X ≡ state_of l) where
  is_on : (c : Call) {o : Outcome} → o ≡ outcome T X c → o ≡ on t l c
  unfolding check
  is_on c h =
      h ∙ ap (λ (v : Table). outcome v X c) p ∙ ap (λ (x : State). outcome (table_of t) x c) q ∙ rw m

  called : {A : Type 0} (tell : Answer → A) (c : Call) {o : Outcome} → o ≡ outcome T X c → {r : A} {n : List ℕ}
      → r ≡ tell o.answer → n ≡ numbers_after l o → Called tell (on t l c) l r n
  called tell c h e f = record {
    answer = e ∙ ap (λ (z : Outcome). tell z.answer) (is_on c h);
    state = f ∙ ap (λ (z : Outcome). numbers_after l z) (is_on c h);
  }

-- ---- what the engine answered, and what is told of it

event_told : (a : Result (Unit {0}) Refusal) → numbered a ≡ event_of (event_answer a)
event_told (Ok u) = refl
event_told (Err k) = refl

event_left : (l : List ℕ) (a : Result (Unit {0}) Refusal) (x : State) → state_kept l a x ≡ pick (is_refused (event_answer a)) l (state_numbers l x)
event_left l (Ok u) x = refl
event_left l (Err k) x = refl

next_told : (a : Result Action Refusal) → result_map_both handed_of (λ k. k) (numbered a) ≡ next_of (action_answer a)
next_told (Ok a) = refl
next_told (Err k) = refl

next_left : (l : List ℕ) (a : Result Action Refusal) (x : State) → state_kept l a x ≡ pick (is_refused (action_answer a)) l (state_numbers l x)
next_left l (Ok a) x = refl
next_left l (Err k) x = refl

run_told : (a : Result ℕ Refusal) → result_map_both (λ n. n) (λ k. k) (numbered a) ≡ run_of (run_answer a)
run_told (Ok n) = refl
run_told (Err k) = refl

run_left : (l : List ℕ) (a : Result ℕ Refusal) (x : State) → state_kept l a x ≡ pick (is_refused (run_answer a)) l (state_numbers l x)
run_left l (Ok n) x = refl
run_left l (Err k) x = refl

query_told : (a : Result (Option ℕ) Refusal) → numbered a ≡ asked_of (query_answer a)
query_told (Ok d) = refl
query_told (Err k) = refl

-- what `map` and `map_err` give, where the closure gives f of its argument
pub mapped : {A B E : Type 0} (f : A → B) {P : A → B → Type 0} (s : Result A E) (r : Result B E) → ((a : A) (b : B) → P a b → b ≡ f a)
    → MatchResult s (λ a. IsOkAnd r (P a)) (λ e. r ≡ Err e) → r ≡ result_map_both f (λ k. k) s
mapped f (Ok a) (Ok b) g h = ap Ok (g a b h)
mapped f (Ok a) (Err e) g h = absurd h
mapped f (Err e) r g h = h

pub mapped_err : {A E D : Type 0} (f : E → D) {P : E → D → Type 0} (s : Result A E) (r : Result A D) → ((e : E) (d : D) → P e d → d ≡ f e)
    → MatchResult s (λ a. r ≡ Ok a) (λ e. IsErrAnd r (P e)) → r ≡ result_map_both (λ a. a) f s
mapped_err f (Ok a) r g h = h
mapped_err f (Err e) (Err d) g h = ap Err (g e d h)
mapped_err f (Err e) (Ok a) g h = absurd h

-- ---- the calls

module _ (t l : List ℕ) {T : Table} {X : State} (m : meant t l ≡ true) (p : T ≡ table_of t) (q : X ≡ state_of l) where
  pub event_called : (c : Call) (y : Answered (Unit {0})) → changed_outcome y ≡ outcome T X c → {r : Result (Unit {0}) ℕ} {n : List ℕ}
      → r ≡ numbered y.answer → n ≡ state_kept l y.answer y.state → Called event_of (on t l c) l r n
  event_called c y h e f =
      called t l m p q event_of c h (e ∙ event_told y.answer) (f ∙ event_left l y.answer y.state)

  pub next_called : (y : Answered Action) → stepped_outcome y ≡ outcome T X next → {r : Result (Option Handed) ℕ} {n : List ℕ}
      → r ≡ result_map_both handed_of (λ k. k) (numbered y.answer) → n ≡ state_kept l y.answer y.state → Called next_of (on t l next) l r n
  next_called y h e f =
      called t l m p q next_of next h (e ∙ next_told y.answer) (f ∙ next_left l y.answer y.state)

  module _ (ss as' : List ℕ) (y : Answered ℕ) {ss₁ as₁ : List ℕ} (h : ran_outcome y ss₁ as₁ ≡ outcome T X (run ss as')) where
    pub run_called : {r : Result ℕ ℕ} {n : List ℕ} → r ≡ result_map_both (λ n. n) (λ k. k) (numbered y.answer) → n ≡ state_kept l y.answer y.state
        → Called run_of (on t l (run ss as')) l r n
    run_called e f = called t l m p q run_of (run ss as') h (e ∙ run_told y.answer) (f ∙ run_left l y.answer y.state)

    pub run_written : Written (on t l (run ss as')) ss₁ as₁
    run_written =
        let w = is_on t l m p q (run ss as') h in
        record { services = ap (λ (z : Outcome). z.services) w; actions = ap (λ (z : Outcome). z.actions) w }

  pub query_asked : (a : Result (Option ℕ) Refusal) → query_outcome a X ≡ outcome T X query → {r : Result (Option ℕ) ℕ}
      → r ≡ numbered a → r ≡ asked_of (on t l query).answer
  query_asked a h e = e ∙ query_told a ∙ ap (λ (z : Outcome). asked_of z.answer) (is_on t l m p q query h)
