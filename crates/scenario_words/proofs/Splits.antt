-- The pieces of a text are what the library's `split` gives, one after the other; and what is found among them.
use Rattle.std.specs.Slice.Iter as slice
use Rattle.std.proofs.Common.{ℕ, suc, ◌+◌, ◌≡◌, refl, sym, ap, ◌∙◌, Bool, true, false, cond, Bor, List, [], ◌∷◌, eqb, ltb, length, get_or, arith, Option, Some, None, add-zero}
use Rattle.std.specs.Fn.{CalledAt}
use Rattle.std.specs.List.{slice_split, slice_get, onto_first, position_or_len}
use Rattle.std.specs.Option.{option_map, unwrap_or}
use Rattle.std.proofs.lemmas.Option.{unwrap_or-slice_get}
use Rattle.std.proofs.lemmas.Iterator.{YieldsList}
use Rattle.std.proofs.lemmas.Iterator.Splits.{YieldsList-from_slice_split}
use Rattle.std.proofs.lemmas.List.Splits.{slice_split-cons_yes, slice_split-cons_no}
use denote.Param.Members.{Mut}
use Rattle.base.specs.Folds.{first_from, first}
use Rattle.load_text.specs.Lines.{grow}
use Rattle.scenario_words.specs.Numbers.{read_if}
use Rattle.scenario_words.specs.Pieces.{opened, pieces_of}

grow_onto : (b : ℕ) (ls : List (List ℕ)) → grow b ls ≡ onto_first b ls
grow_onto b [] = refl
grow_onto b (l ∷ ls) = refl

pieces_split : (p : ℕ) (s : List ℕ) → slice_split (λ b. eqb b p) s ≡ pieces_of p s
unfolding pieces_of
pieces_split p [] = refl
pieces_split p (b ∷ bs) = by (eqb b p) refl (pieces_split p bs)
  where
    by : (t : Bool) → eqb b p ≡ t → slice_split (λ x. eqb x p) bs ≡ pieces_of p bs
        → slice_split (λ x. eqb x p) (b ∷ bs) ≡ opened t b (pieces_of p bs)
    by true e h = rw (slice_split-cons_yes (λ x. eqb x p) b bs e, h)
    by false e h = rw (slice_split-cons_no (λ x. eqb x p) b bs e, h) (sym (grow_onto b (pieces_of p bs)))

-- what `split` gives, from its clauses and what each call of the closure gives: `λ x b q k. search (rules, tests)`
pub parted : {F : Type 0} (g : Mut F (Bor ℕ × Unit {0}) Bool) (p : ℕ) (s : List ℕ) {f : F} {it : _} → slice.split_rest it ≡ s
    → slice.split_done it ≡ false → slice.split_callee it ≡ f → ((x : ℕ) (b : Bool) (q : F) → CalledAt g f x b q → (q ≡ f) × (b ≡ eqb x p))
    → YieldsList (slice.split_steps g) (λ x. x.now) it (pieces_of p s)
parted g p s {it = it} rest done callee each = rw (pieces_split p s) at (YieldsList-from_slice_split {s = it} g (λ b. eqb b p) s rest done callee each)

-- the numbers from i on, at which q says what the test does of the elements of a list from its first on
located : {X : Type 0} (test : X → Bool) (q : ℕ → Bool) (d : X) (xs : List X) (i : ℕ)
    → ((j : ℕ) → q (i + j) ≡ test (get_or xs j d)) → i + position_or_len test xs ≡ first_from q (length xs) i
located test q d [] i h = omega arith
located test q d (x ∷ xs) i h = by (test x) refl (ap q (sym (add-zero i)) ∙ h 0) (located test q d xs (suc i) (λ (j : ℕ). ap q (omega arith) ∙ h (suc j)))
  where
    by : (t : Bool) → test x ≡ t → q i ≡ test x → suc i + position_or_len test xs ≡ first_from q (length xs) (suc i)
        → i + position_or_len test (x ∷ xs) ≡ first_from q (length (x ∷ xs)) i
    by true e h r = rw (h, e) (omega arith)
    by false e h r = rw (h, e) (omega (arith, r))

cond_pick : (t : Bool) (n : ℕ) → cond t (Some n) None ≡ read_if t n
cond_pick true n = refl
cond_pick false n = refl

-- the place of the first that passes a test, as `position` finds it
pub first_found : (ls : List (List ℕ)) (test : List ℕ → Bool) {r : Option ℕ}
    → (let k = position_or_len test ls in r ≡ cond (ltb k (length ls)) (Some k) None)
    → (let k = first (λ i. test (get_or ls i [])) (length ls) in r ≡ read_if (ltb k (length ls)) k)
unfolding first
first_found ls test h =
    let q = λ (k : ℕ). test (get_or ls k []) in
    let n = length ls in
    let k : position_or_len test ls ≡ first_from q n 0 = omega (arith, located test q [] ls 0 (λ j. ap q (omega arith))) in
    (rw k at h) ∙ cond_pick (ltb (first_from q n 0) n) (first_from q n 0)

-- one of them, as `nth` finds it, or none
pub piece_found : (ls : List (List ℕ)) (k : ℕ) (r : Option (Bor (List ℕ))) (d : Bor (List ℕ)) {o : Bor (List ℕ)} → o ≡ unwrap_or r d → d.now ≡ []
    → option_map (λ x. x.now) r ≡ slice_get ls k → o.now ≡ get_or ls k []
piece_found ls k r d g e h = rw g (mapped r ∙ rw (e, h) (unwrap_or-slice_get ls k []))
  where
    mapped : (r : Option (Bor (List ℕ))) → (unwrap_or r d).now ≡ unwrap_or (option_map (λ (x : Bor (List ℕ)). x.now) r) d.now
    mapped None = refl
    mapped (Some x) = refl
