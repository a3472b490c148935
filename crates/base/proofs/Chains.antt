-- What `any`, `all` and `fold` give over the range from 0 to n: the tests and the folds over the numbers below n. Each takes the call's clause
-- `ran`, and what each call of the closure gives: `λ x b q k. search (rules, tests)`. And what stands in an array that `from_fn` made.
use Prim.Native.Nat.{ℕ, zero, suc, ◌+◌, ◌<◌}
use native.Mathlib.Omega.{arith}
use mathlib.Core.Path.{◌≡◌, refl, ap, subst, ◌∙◌}
use mathlib.Core.Bool.{Bool, true, false, ◌&&◌, ◌||◌, and-true, or-false}
use mathlib.Core.List.{List, [], ◌∷◌, ◌++◌}
use denote.Param.Members.{Mut}
use lib.ListN.{get_or}
use Rattle.std.specs.Prelude.{Option}
use Rattle.std.specs.declared.ops.Range.{Range}
use Rattle.std.specs.Array.{IsFromFnResult, IsFromFnResultFrom}
use Rattle.std.specs.Fn.{Called}
use Rattle.std.specs.Iterator.{Drains, YieldsThen}
use Rattle.std.specs.List.{FoldsTo, fold as list_fold, list_any, list_all, range_with_len}
use Rattle.std.specs.Option.{MatchOption}
use Rattle.std.proofs.iter.Yields.{nat_range_steps}
use Rattle.std.proofs.lemmas.Iterator.{YieldsList, YieldsList-from_range}
use Rattle.std.proofs.lemmas.Iterator.Consumers.{fold_from_yields_List}
use Rattle.std.proofs.lemmas.Iterator.Search.{all_from_yields_List, any_from_yields_List}
use Rattle.std.proofs.lemmas.List.Folds.{list_any-append, list_all-append}
use Rattle.std.proofs.lemmas.List.Sums.{fold-append}
use Rattle.base.specs.Folds.{fold, some, every}
use Rattle.base.proofs.Filled.{Filled}

-- the numbers below n + 1 are those below n, and n
range_more : (a n : ℕ) → range_with_len a (suc n) ≡ range_with_len a n ++ (a + n) ∷ []
range_more a zero = let e : a ≡ a + 0 = omega arith in ap (λ x. x ∷ []) e
range_more a (suc n) =
    let e : a + 1 + n ≡ a + suc n = omega arith in
    ap (λ l. a ∷ l) (range_more (a + 1) n ∙ ap (λ x. range_with_len (a + 1) n ++ x ∷ []) e)

below_more : (n : ℕ) → range_with_len 0 (suc n) ≡ range_with_len 0 n ++ n ∷ []
below_more n = let e : 0 + n ≡ n = omega arith in range_more 0 n ∙ ap (λ x. range_with_len 0 n ++ x ∷ []) e

fold_below : {A : Type 0} (f : A → ℕ → A) (a : A) (n : ℕ) → list_fold f a (range_with_len 0 n) ≡ fold f a n
fold_below f a zero = refl
fold_below f a (suc n) =
    ap (list_fold f a) (below_more n) ∙ fold-append f a (range_with_len 0 n) (n ∷ []) ∙ ap (λ x. f x n) (fold_below f a n)

some_below : (p : ℕ → Bool) (n : ℕ) → list_any p (range_with_len 0 n) ≡ some p n
unfolding some
some_below p zero = refl
some_below p (suc n) =
    ap (list_any p) (below_more n) ∙ list_any-append p (range_with_len 0 n) (n ∷ [])
    ∙ rw (or-false (p n)) (ap (λ b. b || p n) (some_below p n))

every_below : (p : ℕ → Bool) (n : ℕ) → list_all p (range_with_len 0 n) ≡ every p n
unfolding every
every_below p zero = refl
every_below p (suc n) =
    ap (list_all p) (below_more n) ∙ list_all-append p (range_with_len 0 n) (n ∷ [])
    ∙ rw (and-true (p n)) (ap (λ b. b && p n) (every_below p n))

abbrev below : ℕ → Range ℕ
below n = record { start = 0; end = n }

yielded : (n : ℕ) → YieldsList nat_range_steps (λ x. x) (below n) (range_with_len 0 n)
yielded n = YieldsList-from_range 0 n n refl (omega arith)

module _ {F : Type 0} {g : Mut F (ℕ × Unit {0}) Bool} {p : ℕ → Bool} {n : ℕ} {u : Range ℕ} {f : F} {r : Bool} where
  pub some_from_any : (xs : List ℕ) × (o : Option ℕ) × (j : F) × YieldsThen nat_range_steps (below n) xs o u
      × FoldsTo (λ p x q. Called g p (x, tt) false q) f xs j × MatchOption o (r ≡ false) (λ x. (r ≡ true) × ((h : F) × Called g j (x, tt) true h))
      → ((x : ℕ) (b : Bool) (q : F) → Called g f (x, tt) b q → (q ≡ f) × (b ≡ p x)) → r ≡ some p n
  some_from_any ran each = any_from_yields_List p u f r ran (yielded n) each ∙ some_below p n

  pub every_from_all : (xs : List ℕ) × (o : Option ℕ) × (j : F) × YieldsThen nat_range_steps (below n) xs o u
      × FoldsTo (λ p x q. Called g p (x, tt) true q) f xs j × MatchOption o (r ≡ true) (λ x. (r ≡ false) × ((h : F) × Called g j (x, tt) false h))
      → ((x : ℕ) (b : Bool) (q : F) → Called g f (x, tt) b q → (q ≡ f) × (b ≡ p x)) → r ≡ every p n
  every_from_all ran each = all_from_yields_List p u f r ran (yielded n) each ∙ every_below p n

-- the step is written out
pub fold_from_fold : {A F : Type 0} {g : Mut F (A × (ℕ × Unit {0})) A} (step : A → ℕ → A) {n : ℕ} {f : F} {a r : A}
    → ((xs : List ℕ) × (q : F) × Drains nat_range_steps (below n) xs
    × FoldsTo {P = F × A} (λ a x b. Called g a.0 (a.1, (x, tt)) b.1 b.0) (f, a) xs (q, r))
    → ((b : A) (x : ℕ) (c : A) (q : F) → Called g f (b, (x, tt)) c q → (q ≡ f) × (c ≡ step b x)) → r ≡ fold step a n
fold_from_fold {g = g} step {n} {a = a} {r = r} ran each = fold_from_yields_List g step a r ran (yielded n) each ∙ fold_below step a n

-- what `array::from_fn` made, from its clause `items`: the closure gives F i at each i
module _ {A F : Type 0} (g : Mut F (ℕ × Unit {0}) A) (f : F) (V : ℕ → A) (step : (i : ℕ) (y : A) (q : F) → Called g f (i, tt) y q → (q ≡ f) × (y ≡ V i))
    (l : List A) where
  made_from : (i n : ℕ) → IsFromFnResultFrom g f l i n → (d : A) (k : ℕ) → k < n → get_or l (i + k) d ≡ V (i + k)
  made_from i zero h d k m = absurd (omega (arith, m))
  made_from i (suc n) h d zero m =
      let e : i + 0 ≡ i = omega arith in
      rw e (h.2.1 d ∙ (step i h.1 h.0 h.3).1)
  made_from i (suc n) h d (suc k) m =
      let e : i + suc k ≡ i + 1 + k = omega arith in
      rw e (made_from (i + 1) n (subst (λ q. IsFromFnResultFrom g q l (i + 1) n) (step i h.1 h.0 h.3).0 h.4) d k (omega arith))

  pub made_by : (n : ℕ) → IsFromFnResult g f l n → (d : A) → Filled d V n l n
  made_by n h d =
      record { long = h.long; at = λ k m. let e : 0 + k ≡ k = omega arith in subst (λ j. get_or l j d ≡ V j) e (made_from 0 n h.each d k m) }
