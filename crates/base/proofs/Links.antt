-- What the rounds reach is what a path reaches, in both directions; so the test for a cycle is the test for a path from
-- a number to itself.
use Prim.Native.Nat.{ℕ, zero, suc, ◌<◌}
use native.Mathlib.Nat.{not-suc-le-zero, le_of_suc-le-suc, eq-or-lt_of_le}
use mathlib.Core.Path.{◌≡◌, sym, ◌∙◌}
use mathlib.Core.Bool.{Bool, true, false, ◌||◌, ◌&&◌, or-false}
use mathlib.Core.Logic.{◌↔◌, ◌⊎◌, inl, inr}
use lib.Bits.{bit_or}
use Rattle.base.specs.Folds.{pick}
use Rattle.base.specs.Sets.{has_bit}
use Rattle.base.specs.Links.{Path, link, on, reach, through, cyclic}
use Rattle.base.proofs.Tests.{and_true, or_true, either, not_both}
use Rattle.base.proofs.Below.{some_true}
use Rattle.base.proofs.Bits.{has_bit_or}

-- what is in a set that was joined with another where it has k
through_bit : (q : Bool) (a b j : ℕ) → has_bit (pick q (bit_or a b) a) j ≡ (has_bit a j || (q && has_bit b j))
through_bit true a b j = has_bit_or a b j
through_bit false a b j = sym (or-false (has_bit a j))

module _ (k a b j : ℕ) where
  pub through_kept : has_bit a j ≡ true → has_bit (through k a b) j ≡ true
  through_kept e = through_bit (has_bit a k) a b j ∙ (or_true (has_bit a j) (has_bit a k && has_bit b j)).1 (inl e)

  pub through_joined : has_bit a k ≡ true → has_bit b j ≡ true → has_bit (through k a b) j ≡ true
  through_joined e f =
      through_bit (has_bit a k) a b j
      ∙ (or_true (has_bit a j) (has_bit a k && has_bit b j)).1 (inr ((and_true (has_bit a k) (has_bit b j)).1 (e, f)))

  pub through_only : has_bit (through k a b) j ≡ true → (has_bit a j ≡ true) ⊎ ((has_bit a k ≡ true) × (has_bit b j ≡ true))
  through_only e =
      either
      ((or_true (has_bit a j) (has_bit a k && has_bit b j)).0 (sym (through_bit (has_bit a k) a b j) ∙ e))
      (λ f. inl f)
      (λ f. inr ((and_true (has_bit a k) (has_bit b j)).0 f))

module _ (d : ℕ → ℕ) where
  -- i reaches j through numbers below k
  abbrev R : ℕ → ℕ → ℕ → Bool
  R k i j = has_bit (reach d k i) j

  step : (k i j : ℕ) → (R (suc k) i j ≡ true) ↔ ((R k i j ≡ true) ⊎ ((R k i k ≡ true) × (R k k j ≡ true)))
  unfolding reach
  step k i j = (
    through_only k (reach d k i) (reach d k k) j,
    λ w. either w (through_kept k (reach d k i) (reach d k k) j) (λ h. through_joined k (reach d k i) (reach d k k) j h.0 h.1),
  )

  -- a link is reached
  pub reach_link : (k i j : ℕ) → has_bit (d i) j ≡ true → R k i j ≡ true
  unfolding reach
  reach_link zero i j e = e
  reach_link (suc k) i j e = (step k i j).1 (inl (reach_link k i j e))

  -- what is reached goes on through a number below k
  abbrev On : ℕ → Type 0
  On k = (i a j : ℕ) → a < k → R k i a ≡ true → R k a j ≡ true → R k i j ≡ true

  on_more : (k : ℕ) → On k → On (suc k)
  on_more k on' i a j l e f = either (eq-or-lt_of_le (le_of_suc-le-suc l)) at_k below_k
    where
      -- round k leaves who reaches k, and what k reaches
      to_k : (x : ℕ) → R (suc k) x k ≡ true → R k x k ≡ true
      to_k x g = either ((step k x k).0 g) (λ h. h) (λ h. h.0)

      of_k : (y : ℕ) → R (suc k) k y ≡ true → R k k y ≡ true
      of_k y g = either ((step k k y).0 g) (λ h. h) (λ h. h.1)

      at_k : a ≡ k → R (suc k) i j ≡ true
      at_k p = (step k i j).1 (inr (to_k i (rw p at e), of_k j (rw p at f)))

      below_k : a < k → R (suc k) i j ≡ true
      below_k m =
          either
          ((step k i a).0 e)
          (λ e₁.
          either
          ((step k a j).0 f)
          (λ f₁. (step k i j).1 (inl (on' i a j m e₁ f₁)))
          (λ f₂. (step k i j).1 (inr (on' i a k m e₁ f₂.0, f₂.1))))
          (λ e₂.
          (step k i j).1
          (inr (e₂.0, either ((step k a j).0 f) (λ f₁. on' k a j m e₂.1 f₁) (λ f₂. f₂.1))))

  -- and so through any number below k
  pub reach_on : (k : ℕ) → On k
  reach_on zero i a j l e f = absurd (not-suc-le-zero l)
  reach_on (suc k) i a j l e f = on_more k (reach_on k) i a j l e f

  pub join : {i j k : ℕ} → Path d i k → Path d k j → Path d i j
  join (link e) q = on e q
  join (on e p) q = on e (join p q)

  -- what the rounds reach, a path reaches
  pub reach_path : (k i j : ℕ) → R k i j ≡ true → Path d i j
  unfolding reach
  reach_path zero i j e = link e
  reach_path (suc k) i j e =
      either ((step k i j).0 e) (reach_path k i j) (λ h. join (reach_path k i k h.0) (reach_path k k j h.1))

  -- no link leads from a number below n to one from n on
  abbrev pub Inside : ℕ → Type 0
  Inside n = (i j : ℕ) → i < n → has_bit (d i) j ≡ true → j < n

  -- what a path reaches, n rounds do
  pub path_reach : (n : ℕ) → Inside n → {i j : ℕ} → i < n → Path d i j → R n i j ≡ true
  path_reach n b {i} {j} l (link e) = reach_link n i j e
  path_reach n b {i} {j} l (on {k = k} e p) =
      reach_on n i k j (b i k l e) (reach_link n i k e) (path_reach n b (b i k l e) p)

  -- THE LAW, in both directions: the computed test holds where there is a path
  pub reaches : (n : ℕ) → Inside n → (i j : ℕ) → i < n → (R n i j ≡ true) ↔ Path d i j
  reaches n b i j l = (reach_path n i j, path_reach n b l)

  -- the test for a cycle holds where some number below n has a path to itself
  pub cycles : (n : ℕ) → Inside n → (cyclic d n ≡ true) ↔ ((i : ℕ) × (i < n) × Path d i i)
  unfolding cyclic
  cycles n b = (
    λ e. let h = (some_true (λ i. R n i i) n).0 e in (h.0, h.1, reach_path n h.0 h.0 h.2),
    λ w. (some_true (λ i. R n i i) n).1 (w.0, w.1, path_reach n b w.1 w.2),
  )

  -- and where the test does not hold, no number below n has one
  pub no_cycle : (n : ℕ) → Inside n → cyclic d n ≡ false → (i : ℕ) → i < n → Path d i i → ⊥
  no_cycle n b e i l p = not_both ((cycles n b).1 (i, l, p)) e
