-- The last clause of demand 1: a refused call gives back the state it got and leaves what was lent, whatever the call.
use Prim.Native.Nat.{ℕ}
use mathlib.Core.Bool.{true}
use mathlib.Core.List.{[]}
use mathlib.Core.Path.{◌≡◌, ap, refl}
use Rattle.base.proofs.Tests.{no_ft}
use Rattle.service.specs.declared.State.{State}
use Rattle.service.specs.declared.Table.{Table}
use Rattle.rules.specs.Calls.{Call, Outcome, gives, outcome, refused}
use Rattle.rules.specs.Demand.{is_refused, moments, moments_by}
use Rattle.rules.proofs.Came.{Came, acts, came, clocks, ends, refuses, runs, starts, stops, stops_all, tells}

module _ (t : Table) (x : State) where
  pub refusal_leaves_all : (c : Call) → is_refused (outcome t x c).answer ≡ true → (k : ℕ) × (outcome t x c ≡ gives c (refused k) x)
  refusal_leaves_all c = go (came t x c)
    where
      go : {d : Call} {o : Outcome} → Came t x d o → is_refused o.answer ≡ true → (k : ℕ) × (o ≡ gives d (refused k) x)
      go (refuses k) e = (k, refl)
      go (starts l) e = no_ft e
      go (stops l) e = no_ft e
      go stops_all e = no_ft e
      go (ends l lives) e = no_ft e
      go (clocks l m) e = no_ft e
      go acts e = no_ft e
      go tells e = no_ft e
      go (runs a b) e = no_ft e

  -- so it is no moment
  pub refused_same : (c : Call) → is_refused (outcome t x c).answer ≡ true → ((outcome t x c).state ≡ x) × (moments t x c ≡ [])
  unfolding moments moments_by
  refused_same c e = let h = refusal_leaves_all c e in (ap (λ (o : Outcome). o.state) h.1, rw h.1)
