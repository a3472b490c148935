-- A search over a range gives the lowest number below its end at which the test holds, or none.
use Prim.Native.Nat.{◌<◌, ◌≤◌, zero-le, ℕ}
use borrow.Author.Tests.{le-ltb, lt-ltb, ltb-false, ltb-true}
use mathlib.Core.Bool.{Bool, false, true}
use mathlib.Core.Path.{◌∙◌, ◌≡◌, ap, refl, sym}
use native.Mathlib.Nat.{le_refl}
use native.Mathlib.Omega.{arith}
use Rattle.std.specs.Prelude.{MatchOption, None, Option, Some, is_some, ltb}
use Rattle.base.proofs.Below.{Sought, found as foundAt, nowhere, sought}
use Rattle.base.proofs.Tests.{no_ft}
use Rattle.base.specs.Folds.{first, pick}
use Rattle.load_lent.specs.Checks.{found}

-- what the search gives: no number, and the test fails at each; or the lowest at which it holds
abbrev pub Gives : (ℕ → Bool) → ℕ → Option ℕ → Type 0
Gives p n r =
    MatchOption r ((k : ℕ) → 0 ≤ k → k < n → p k ≡ false)
    (λ i. (0 ≤ i) × (i < n) × (p i ≡ true) × ((k : ℕ) → 0 ≤ k → k < i → p k ≡ false))

pub found_first : (p : ℕ → Bool) (n : ℕ) (r : Option ℕ) → Gives p n r → r ≡ found n (first p n)
found_first p n r h = go r h (sought p n)
  where
    go : {s : ℕ} (o : Option ℕ) → Gives p n o → Sought p n s → o ≡ found n s
    go {s} None h (foundAt w) = absurd (no_ft (sym (h s zero-le w.bound) ∙ w.passes))
    go None h (nowhere e) = rw (le-ltb n n (le_refl n))
    go {s} (Some i) h (foundAt w) =
        let a : ¬ (i < s) = λ l. no_ft (sym (w.first i l) ∙ h.2) in
        let b : ¬ (s < i) = λ l. no_ft (sym (h.3 s zero-le l) ∙ w.passes) in
        let e : s ≡ i = omega arith in
        rw (e, lt-ltb i n h.1)
    go (Some i) h (nowhere e) = absurd (no_ft (sym (e i h.1) ∙ h.2))

pub found_some : (n i : ℕ) {o : Option ℕ} → o ≡ found n i → is_some o ≡ ltb i n
found_some n i e = ap is_some e ∙ by (ltb i n)
  where
    by : (b : Bool) → is_some (pick b (Some i) None) ≡ b
    by true = refl
    by false = refl

-- what a search that came to a number says of it, and one that came to none
pub found_at : (n j : ℕ) {i : ℕ} → Some i ≡ found n j → (i ≡ j) × (i < n)
found_at n j {i} e = by (ltb j n) refl e
  where
    by : (b : Bool) → ltb j n ≡ b → Some i ≡ pick b (Some j) None → (i ≡ j) × (i < n)
    by true l q =
        let s : i ≡ j = cc in
        (s, rw s (ltb-true j n l))
    by false l q = cc

pub found_none : (n j : ℕ) → None ≡ found n j → n ≤ j
found_none n j e = by (ltb j n) refl e
  where
    by : (b : Bool) → ltb j n ≡ b → None ≡ pick {A = Option ℕ} b (Some j) None → n ≤ j
    by true l q = cc
    by false l q = ltb-false j n l
