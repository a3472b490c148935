-- What the code finds, service by service and of the rows, is list 24.
use Prim.Native.Nat.{ℕ, zero, suc, ◌≤◌, ◌<◌}
use native.Mathlib.Omega.{arith}
use mathlib.Core.Path.{◌≡◌, refl, ap, ◌∙◌}
use mathlib.Core.Bool.{Bool, true, false, not, ◌&&◌}
use mathlib.Core.List.{List}
use lib.Dec.{leb, ltb}
use borrow.Author.Tests.{le-leb, lt-leb, ltb-true}
use Rattle.base.specs.Folds.{pick, every}
use Rattle.base.specs.Links.{reach, cyclic}
use Rattle.base.proofs.Filled.{Filled}
use Rattle.links.specs.Rows.{rows_as, most_rows}
use Rattle.links.proofs.Rounds.{reach_as, cyclic_as}
use Rattle.service.specs.Limits.{max_services, last_clock}
use Rattle.service.specs.Settings.{settings_at}
use Rattle.service.specs.Records.{record_at}
use Rattle.service.specs.declared.Table.{Table}
use Rattle.service.specs.declared.State.{State}
use Rattle.rules.specs.Dependencies.{all_links}
use Rattle.rules.specs.WellFormed.{links_inside, settings_in_range, times_in_range, shaped_at, table_formed, state_formed, formed}
use Rattle.engine_wellformed.specs.Place.{place_formed}

-- two tests at every number below n, at once or one after the other
shuffle : (a b c d : Bool) → ((a && b) && (c && d)) ≡ ((a && c) && (b && d))
shuffle true true c d = refl
shuffle true false true d = refl
shuffle true false false d = refl
shuffle false b c d = refl

every_both : (p q : ℕ → Bool) (n : ℕ) → every (λ i. p i && q i) n ≡ (every p n && every q n)
unfolding every
every_both p q zero = refl
every_both p q (suc n) =
    ap (λ b. b && (p n && q n)) (every_both p q n) ∙ shuffle (every p n) (every q n) (p n) (q n)

order : (a b c d : Bool) → (a && (b && c) && not d) ≡ ((b && not d) && (a && c))
order true true true true = refl
order true true true false = refl
order true true false true = refl
order true true false false = refl
order true false c d = refl
order false true c true = refl
order false true c false = refl
order false false c d = refl

-- e is what the code found of each service, q of the rows
pub formed_found : (t : Table) (x : State) (rows : List ℕ) (e q : Bool) → t.count ≤ max_services → Filled 0 (all_links t) max_services rows t.count
    → e ≡ every (λ s. place_formed t.count x.clock (settings_at t s) (record_at x s)) t.count
    → q ≡ (leb t.count most_rows && cyclic (rows_as rows) t.count)
    → (leb x.clock last_clock && e && not q) ≡ formed t x
unfolding formed table_formed state_formed shaped_at place_formed
formed_found t x rows e q l f h g =
    rw (
      h,
      g,
      le-leb t.count max_services l,
      cyclic_as (rows_as rows) (all_links t) t.count f.at,
      every_both
          (λ s. links_inside t.count (settings_at t s) && settings_in_range (settings_at t s))
          (λ s. times_in_range x.clock (record_at x s) && shaped_at t x s)
          t.count,
    )
    (order
    (leb x.clock last_clock)
    (every (λ s. links_inside t.count (settings_at t s) && settings_in_range (settings_at t s)) t.count)
    (every (λ s. times_in_range x.clock (record_at x s) && shaped_at t x s) t.count)
    (cyclic (all_links t) t.count))

pub not_formed : (t : Table) (x : State) → max_services < t.count → false ≡ formed t x
unfolding formed table_formed
not_formed t x l = rw (lt-leb t.count max_services l)

-- m is what the code found of the rows
pub reach_found : (t : Table) (rows : List ℕ) (s m : ℕ) → t.count ≤ max_services → Filled 0 (all_links t) max_services rows t.count
    → m ≡ pick (leb t.count most_rows && ltb s t.count) (reach (rows_as rows) t.count s) 0
    → m ≡ pick (leb t.count max_services && ltb s t.count) (reach (all_links t) t.count s) 0
reach_found t rows s m l f e = e ∙ rw (le-leb t.count max_services l) (go (ltb s t.count) refl)
  where
    go : (b : Bool) → ltb s t.count ≡ b → pick b (reach (rows_as rows) t.count s) 0 ≡ pick b (reach (all_links t) t.count s) 0
    go true k = reach_as (rows_as rows) (all_links t) t.count f.at t.count s (omega arith) (ltb-true s t.count k)
    go false k = refl

pub reach_none : (t : Table) (s : ℕ) → max_services < t.count
    → 0 ≡ pick (leb t.count max_services && ltb s t.count) (reach (all_links t) t.count s) 0
reach_none t s l = rw (lt-leb t.count max_services l)
