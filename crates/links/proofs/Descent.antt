-- The descent: what is safe is on no cycle, and each number that joins the set is safe.
use Prim.Native.Nat.{ℕ, ◌<◌, ◌≤◌}
use native.Mathlib.Nat.{lt_of_lt_of_le}
use mathlib.Core.Path.{◌≡◌, sym, ap, ◌∙◌}
use mathlib.Core.Bool.{Bool, true, false, not, ◌&&◌, false≢true, and-false}
use mathlib.Core.List.{List}
use lib.Dec.{leb}
use lib.ListN.{length, take}
use borrow.Author.Tests.{eqb-true, leb-true}
use Rattle.base.specs.Folds.{first}
use Rattle.base.specs.Sets.{has_bit, single}
use Rattle.base.specs.Links.{Path, link, on, reach, cyclic}
use Rattle.base.proofs.Tests.{and_true, or_true, either}
use Rattle.base.proofs.Below.{some_false}
use Rattle.base.proofs.Bits.{has_bit_or, has_bit_and, has_bit_none}
use Rattle.base.proofs.Sets.{single_only}
use Rattle.base.proofs.Zeros.{below_outside}
use Rattle.base.proofs.Links.{join, reach_path}
use Rattle.links.specs.Rows.{rows_as, most_rows}
use Rattle.links.proofs.Rounds.{front_cyclic}
use Rattle.links.specs.Descent.{Safe, safe, subset, grown, AllSafe}
use Rattle.std.proofs.lemmas.Bool.{false_from_ne_true}

-- what is safe is on no cycle
safe_none : {d : ℕ → ℕ} {i : ℕ} → Safe d i → Path d i i → ⊥
safe_none {d} {i} (safe f) (link e) = safe_none (f i e) (link e)
safe_none {d} {i} (safe f) (on {k = k} e p) = safe_none (f k e) (join d p (link e))

safe_acyclic : (d : ℕ → ℕ) (n : ℕ) → ((s : ℕ) → s < n → Safe d s) → cyclic d n ≡ false
unfolding cyclic
safe_acyclic d n f =
    (some_false (λ i. has_bit (reach d n i) i) n).1
    (λ i l. false_from_ne_true (has_bit (reach d n i) i) (λ e. safe_none (f i l) (reach_path d n i i e)))

subset_bit : (m c j : ℕ) → subset m c ≡ true → has_bit m j ≡ true → has_bit c j ≡ true
subset_bit m c j e h =
    ((and_true (has_bit m j) (has_bit c j)).0 (sym (has_bit_and m c j) ∙ ap (λ a. has_bit a j) (eqb-true _ _ e) ∙ h)).1

-- each number of the set is safe
pub record Grounded (d : ℕ → ℕ) (m : ℕ) : Type 0 where
  pub safes : (s : ℕ) → has_bit m s ≡ true → Safe d s

module _ {d : ℕ → ℕ} where
  pub grounded_none : Grounded d 0
  grounded_none = record { safes = λ s e. absurd (false≢true (sym (has_bit_none s) ∙ e)) }

  -- m is what s is linked to, and next the set after the step at s
  pub grounded_more : (s : ℕ) {done m next : ℕ} → Grounded d done → m ≡ d s → next ≡ grown done m s → Grounded d next
  grounded_more s {done} {m} {next} g e f =
      let new = single s (subset m done) in
      record {
        safes = λ j h. either
            ((or_true (has_bit done j) (has_bit new j)).0 (sym (has_bit_or done new j) ∙ ap (λ a. has_bit a j) (sym f) ∙ h))
            (g.safes j)
            (λ q.
            let p = single_only s j (subset m done) q in
            rw p.0 (safe (λ i l. g.safes i (subset_bit m done i p.1 (ap (λ a. has_bit a i) e ∙ l)))));
      }

module _ {rows : List ℕ} {n : ℕ} where
  -- s is the lowest number that has not joined
  pub all_joined : {done s : ℕ} → Grounded (rows_as rows) done → s ≡ first (λ i. not (has_bit done i)) 64 → AllSafe rows n (leb n s)
  all_joined {done} {s} g e = record { safes = λ t j l. g.safes j (below_outside done s j e (lt_of_lt_of_le l (leb-true n s t))) }

-- b is what the descent said of the first n rows
pub joined_acyclic : (rows : List ℕ) (n : ℕ) {b : Bool} → n ≤ length rows → AllSafe (take n rows) (length (take n rows)) b → b ≡ true
    → false ≡ (leb n most_rows && cyclic (rows_as rows) n)
joined_acyclic rows n l h e =
    let c = sym (front_cyclic rows n l) ∙ safe_acyclic (rows_as (take n rows)) (length (take n rows)) (h.safes e) in
    rw c (sym (and-false (leb n most_rows)))
