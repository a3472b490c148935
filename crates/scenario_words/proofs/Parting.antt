-- The laws of how many pieces a text has, and the loop that counts them, by what has been passed.
use mathlib.Core.List.{List, [], ◌∷◌}
use mathlib.Core.Bool.{Bool, true, false}
use mathlib.Core.Path.{◌≡◌, refl}
use Prim.Native.Nat.{ℕ, suc, ◌+◌, ◌≤◌, ◌<◌, zero-le, suc-le-suc}
use native.Mathlib.Nat.{not-suc-le-zero}
use native.Mathlib.Numerals.{add-one}
use native.Mathlib.Omega.{arith}
use lib.Dec.{eqb}
use mir.Val.{bool_byte}
use lib.ListN.{length, get_or, drop, drop_of_length-le}
use lib.Seq.{drop-cons}
use Rattle.base.specs.Folds.{pick}
use Rattle.load_text.specs.Lines.{grow}
use Rattle.scenario_words.specs.Pieces.{opened, pieces_of, piece_count}

grow_count : (b : ℕ) (ls : List (List ℕ)) → 0 < length ls → length (grow b ls) ≡ length ls
grow_count b [] h = absurd (not-suc-le-zero h)
grow_count b (l ∷ ls) h = refl

-- a text has a piece
pub pieces_some : (p : ℕ) (l : List ℕ) → 0 < length (pieces_of p l)
unfolding pieces_of
pieces_some p [] = suc-le-suc zero-le
pieces_some p (b ∷ bs) = by (eqb b p)
  where
    grown : (ls : List (List ℕ)) → 0 < length (grow b ls)
    grown [] = suc-le-suc zero-le
    grown (l ∷ ls) = suc-le-suc zero-le

    by : (t : Bool) → 0 < length (opened t b (pieces_of p bs))
    by true = suc-le-suc zero-le
    by false = grown (pieces_of p bs)

-- by whether the text begins with the separator
count_cons : (p b : ℕ) (bs : List ℕ) {t : Bool} → eqb b p ≡ t → piece_count (b ∷ bs) p ≡ pick t (suc (piece_count bs p)) (piece_count bs p)
unfolding pieces_of
count_cons p b bs {t = true} e = rw e
count_cons p b bs {t = false} e = rw (e, grow_count b (pieces_of p bs) (pieces_some p bs))

-- what is left of a text from k on
module _ (p : ℕ) (s : List ℕ) (k : ℕ) where
  pub count_none : length s ≤ k → piece_count (drop k s) p ≡ 1
  unfolding pieces_of
  count_none h = rw (drop_of_length-le s h)

  pub count_more : {t : Bool} → k < length s → eqb (get_or s k 0) p ≡ t
      → piece_count (drop k s) p ≡ pick t (suc (piece_count (drop (k + 1) s) p)) (piece_count (drop (k + 1) s) p)
  count_more h e = rw (add-one k, drop-cons s k 0 h) (count_cons p (get_or s k 0) (drop (suc k) s) e)

-- a loop that counts the pieces has counted n up to i, the open one among them
pub record Counting (p : ℕ) (s : List ℕ) (n i : ℕ) : Type 0 where
  pub within : i ≤ length s
  pub few : n ≤ i + 1
  pub rest : n + piece_count (drop i s) p ≡ 1 + piece_count s p

pub counting_none : {p : ℕ} {s : List ℕ} → Counting p s 1 0
counting_none = record { within = zero-le; few = omega arith; rest = refl }

module _ {p : ℕ} {s : List ℕ} {n i : ℕ} (h : Counting p s n i) where
  pub counting_more : {f : ℕ} → i < length s → f ≡ bool_byte (eqb (get_or s i 0) p) → Counting p s (n + f) (i + 1)
  counting_more {f} l e = by (eqb (get_or s i 0) p) refl e
    where
      by : (t : Bool) → eqb (get_or s i 0) p ≡ t → f ≡ bool_byte t → Counting p s (n + f) (i + 1)
      by true q e = record { within = omega arith; few = omega (arith, h.few, e); rest = omega (arith, h.rest, e, count_more p s i l q) }
      by false q e = record { within = omega arith; few = omega (arith, h.few, e); rest = omega (arith, h.rest, e, count_more p s i l q) }

  pub counting_all : length s ≤ i → n ≡ piece_count s p
  counting_all l = omega (arith, h.rest, count_none p s i l)
