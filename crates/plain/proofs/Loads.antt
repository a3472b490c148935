-- What a load leaves in the numbers: where it is refused, where it is accepted, and after the loader's outcome.
use Prim.Native.Nat.{ℕ}
use mathlib.Core.List.{List}
use mathlib.Core.Path.{◌≡◌, ap, ◌∙◌, subst}
use Rattle.std.specs.Prelude.{Result, Ok, Err}
use Rattle.service.specs.Records.{fresh_state}
use Rattle.service.specs.declared.State.{State}
use Rattle.load_lent.specs.declared.Refused.{Refused}
use Rattle.loader.specs.Load.{Outcome}
use Rattle.loader.specs.declared.Loaded.{Loaded}
use Rattle.plain_encoding.specs.Numbers.{state_numbers, table_numbers}
use Rattle.plain.specs.declared.forms.LoadRefused.{LoadRefused}
use Rattle.plain.specs.Loads.{Kept, counts_of, numbers_of}

module _ (o : Loaded) (t x n : List ℕ) where
  pub load_refused : {k : Refused} {r : Result ℕ LoadRefused} → o.answer ≡ Err k → r ≡ Err (numbers_of k) → Kept o t x n r t x n
  load_refused e q = record { answer = rw e q; table = rw e; state = rw e; counts = rw e }

  pub load_written : {u : Unit {0}} → o.answer ≡ Ok u → {t₁ x₁ n₁ : List ℕ} {y : State} → t₁ ≡ table_numbers t o.table
      → y ≡ fresh_state → x₁ ≡ state_numbers x y → n₁ ≡ counts_of n o.commands → Kept o t x n (Ok o.table.count) t₁ x₁ n₁
  load_written e p f g w = record {
    answer = rw e;
    table = rw e p;
    state = rw e (g ∙ ap (λ (y : State). state_numbers x y) f);
    counts = rw e w;
  }

-- from what the loader gave to its definition
pub load_kept : {t x n : List ℕ} {o : Loaded} {z : Outcome} {b t₁ x₁ n₁ : List ℕ} {r : Result ℕ LoadRefused}
    → record { loaded = o; buffer = b } ≡ z → Kept o t x n r t₁ x₁ n₁ → Kept z.loaded t x n r t₁ x₁ n₁
load_kept {t} {x} {n} {t₁ = t₁} {x₁ = x₁} {n₁ = n₁} {r = r} e h = subst (λ (z : Outcome). Kept z.loaded t x n r t₁ x₁ n₁) e h
