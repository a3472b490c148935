-- The loop of the query: list 24 has passed, and d is the earliest time of the services below i.
use Prim.Native.Nat.{ℕ, ◌+◌, ◌≤◌, ◌<◌}
use mathlib.Core.Path.{◌≡◌, sym, ◌∙◌}
use mathlib.Core.Bool.{Bool, true}
use Rattle.base.proofs.Loops.{Folded, folded_none, folded_more, folded_all}
use Rattle.service.specs.Limits.{max_services}
use Rattle.std.specs.Prelude.{Option, None, Ok}
use Rattle.service.specs.Records.{record_at}
use Rattle.service.specs.declared.Table.{Table}
use Rattle.service.specs.declared.State.{State}
use Rattle.rules.specs.WellFormed.{formed}
use Rattle.rules.specs.Runs.{earliest, sooner_of}
use Rattle.rules.specs.Calls.{query, check, outcome, query_outcome}
use Rattle.rules.proofs.Formed.{formed_few}

pub record Asking (t : Table) (x : State) (d : Option ℕ) (i : ℕ) : Type 0 where
  pub passed : formed t x ≡ true
  pub few : t.count ≤ max_services
  pub folded : Folded (λ e s. sooner_of x.clock e (record_at x s)) None t.count d i

module _ {t : Table} {x : State} where
  -- q is what the code found of list 24
  pub asking_none : {q : Bool} → q ≡ formed t x → q ≡ true → Asking t x None 0
  asking_none {q} e h = record { passed = sym e ∙ h; few = formed_few t x q e h; folded = folded_none }

  pub asking_more : {d e : Option ℕ} {i : ℕ} → Asking t x d i → i < t.count → e ≡ sooner_of x.clock d (record_at x i) → Asking t x e (i + 1)
  asking_more h l e = record { passed = h.passed; few = h.few; folded = folded_more h.folded l e }

  pub asking_all : {d : Option ℕ} {i : ℕ} → Asking t x d i → t.count ≤ i → query_outcome (Ok d) x ≡ outcome t x query
  unfolding outcome check earliest
  asking_all h l = rw (folded_all h.folded l, h.passed)
