-- The law of lines and columns: one induction over the text, with the lines before an offset counted from 0.
use Prim.Native.Nat.{ℕ, zero, suc, ◌+◌, ◌-◌, ◌≤◌, ◌<◌, zero-le, suc-le-suc}
use mathlib.Core.Bool.{Bool, true, false, ◌||◌}
use mathlib.Core.List.{List, [], ◌∷◌}
use mathlib.Core.Path.{◌≡◌, refl, sym, ap, ◌∙◌}
use native.Mathlib.Nat.{not-suc-le-zero}
use native.Mathlib.Omega.{arith}
use lib.Dec.{leb, leb-suc-zero, leb-suc-suc}
use lib.ListN.{length, get_or, take, drop, length-drop}
use lib.Seq.{get_or-drop}
use borrow.Author.Tests.{le-leb, lt-leb, leb-true, leb-false}
use Rattle.base.proofs.Tests.{no_tf}
use Rattle.base.specs.Folds.{pick}
use Rattle.load_text.specs.Bytes.{is_newline}
use Rattle.load_text.specs.Lines.{grow, line_of, lines_of, line_from, line_number, column_from, column_number}
use Rattle.load_text.specs.Offsets.{taken_by, is_end, LineAndColumnTell}

-- ---- where the count begins

-- the line after some bytes counts on from where it began
line_shift : (n : ℕ) (l : List ℕ) → line_from n l ≡ n + line_from 0 l
unfolding line_from
line_shift n [] = omega arith
line_shift n (b ∷ bs) = by (is_newline b) (line_shift n bs) (line_shift (n + 1) bs) (line_shift 1 bs)
  where
    by : (t : Bool) → line_from n bs ≡ n + line_from 0 bs → line_from (n + 1) bs ≡ n + 1 + line_from 0 bs → line_from 1 bs ≡ 1 + line_from 0 bs
        → line_from (pick t (n + 1) n) bs ≡ n + line_from (pick t (0 + 1) 0) bs
    by true h m o = omega arith
    by false h m o = h

-- with no newline among them the column goes on, byte by byte
column_on : (c : ℕ) (l : List ℕ) → line_from 0 l ≡ 0 → column_from c l ≡ c + length l
unfolding line_from column_from
column_on c [] h = omega arith
column_on c (b ∷ bs) h = by (is_newline b) (column_on (c + 1) bs) h
  where
    by : (t : Bool) → (line_from 0 bs ≡ 0 → column_from (c + 1) bs ≡ c + 1 + length bs) → line_from (pick t (0 + 1) 0) bs ≡ 0
        → column_from (pick t 1 (c + 1)) bs ≡ c + suc (length bs)
    by true g e = absurd (omega (arith, line_shift 1 bs))
    by false g e = omega (arith, g e)

-- with one it doesn't matter where it began
column_anew : (c d : ℕ) (l : List ℕ) → 0 < line_from 0 l → column_from c l ≡ column_from d l
unfolding line_from column_from
column_anew c d [] h = absurd (not-suc-le-zero h)
column_anew c d (b ∷ bs) h = by (is_newline b) (column_anew (c + 1) (d + 1) bs) h
  where
    by : (t : Bool) → (0 < line_from 0 bs → column_from (c + 1) bs ≡ column_from (d + 1) bs) → 0 < line_from (pick t (0 + 1) 0) bs
        → column_from (pick t 1 (c + 1)) bs ≡ column_from (pick t 1 (d + 1)) bs
    by true g e = refl
    by false g e = g e

-- ---- the lines of a text with one byte more in front

-- a byte that is no newline joins the first line
grow_first : (b : ℕ) (ls : List (List ℕ)) → get_or (grow b ls) 0 [] ≡ b ∷ get_or ls 0 []
grow_first b [] = refl
grow_first b (l ∷ ls) = refl

-- and leaves the others
grow_later : (b k : ℕ) (ls : List (List ℕ)) → get_or (grow b ls) (suc k) [] ≡ get_or ls (suc k) []
grow_later b k [] = refl
grow_later b k (l ∷ ls) = refl

grow_takes : (b k : ℕ) (ls : List (List ℕ)) → 0 < length ls → taken_by (suc k) (grow b ls) ≡ suc (taken_by (suc k) ls)
unfolding taken_by
grow_takes b k [] h = absurd (not-suc-le-zero h)
grow_takes b k (l ∷ ls) h = omega arith

-- a newline among the first bytes, so there are lines
lines_some : (i : ℕ) (l : List ℕ) → 0 < line_from 0 (take i l) → 0 < length (lines_of l)
unfolding line_from lines_of
lines_some zero l h = absurd (not-suc-le-zero h)
lines_some (suc i) [] h = absurd (not-suc-le-zero h)
lines_some (suc i) (b ∷ bs) h = by (is_newline b) (lines_of bs)
  where
    by : (t : Bool) (ls : List (List ℕ)) → 0 < length (pick t ([] ∷ ls) (grow b ls))
    by true ls = suc-le-suc zero-le
    by false [] = suc-le-suc zero-le
    by false (l ∷ ls) = suc-le-suc zero-le

-- ---- the induction

-- k lines stand before the line of the offset i, and c is the column
record Tied (t : List ℕ) (i k c : ℕ) : Type 0 where
  counts : 1 ≤ c
  inside : is_end t i ≡ false → (c ≤ length (get_or (lines_of t) k [])) × (get_or (get_or (lines_of t) k []) (c - 1) 0 ≡ get_or t i 0)
  past : is_end t i ≡ true → c ≡ length (get_or (lines_of t) k []) + 1
  back : i ≤ length t → i ≡ taken_by k (lines_of t) + (c - 1)

tied_none : (i : ℕ) → Tied [] i 0 1
unfolding lines_of taken_by
tied_none i = record {
  counts = omega arith;
  inside = λ e. no_tf (sym (ap (λ (b : Bool). b || is_newline 0) (le-leb 0 i zero-le)) ∙ e);
  past = λ e. refl;
  back = λ h. omega arith;
}

-- whether a line ends, at the first byte and after it
end_first : (b : ℕ) (bs : List ℕ) → is_end (b ∷ bs) 0 ≡ is_newline b
end_first b bs = ap (λ (t : Bool). t || is_newline b) (leb-suc-zero (length bs))

end_next : (b : ℕ) (bs : List ℕ) (i : ℕ) → is_end (b ∷ bs) (suc i) ≡ is_end bs i
end_next b bs i = ap (λ (t : Bool). t || is_newline (get_or bs i 0)) (leb-suc-suc (length bs) i)

-- a newline is a line of its own before the others, and another byte joins the first of them
lines_newline : (b : ℕ) (bs : List ℕ) → is_newline b ≡ true → lines_of (b ∷ bs) ≡ [] ∷ lines_of bs
unfolding lines_of
lines_newline b bs e = rw e

lines_byte : (b : ℕ) (bs : List ℕ) → is_newline b ≡ false → lines_of (b ∷ bs) ≡ grow b (lines_of bs)
unfolding lines_of
lines_byte b bs e = rw e

module _ (b : ℕ) (bs : List ℕ) where
  first_newline : is_newline b ≡ true → Tied (b ∷ bs) 0 0 1
  unfolding taken_by
  first_newline e = record {
    counts = omega arith;
    inside = λ q. no_tf (sym e ∙ sym (end_first b bs) ∙ q);
    past = λ q. rw (lines_newline b bs e);
    back = λ h. omega arith;
  }

  first_byte : is_newline b ≡ false → Tied (b ∷ bs) 0 0 1
  unfolding taken_by
  first_byte e = record {
    counts = omega arith;
    inside = λ q. (rw (lines_byte b bs e, grow_first b (lines_of bs)) (suc-le-suc zero-le), rw (lines_byte b bs e, grow_first b (lines_of bs)));
    past = λ q. no_tf (sym q ∙ end_first b bs ∙ e);
    back = λ h. omega arith;
  }

  module _ (i : ℕ) {k c : ℕ} (h : Tied bs i k c) where
    next_newline : is_newline b ≡ true → Tied (b ∷ bs) (suc i) (suc k) c
    unfolding taken_by
    next_newline e = record {
      counts = h.counts;
      inside = λ q. rw (lines_newline b bs e) (h.inside (sym (end_next b bs i) ∙ q));
      past = λ q. rw (lines_newline b bs e) (h.past (sym (end_next b bs i) ∙ q));
      back = λ l. rw (lines_newline b bs e) (omega (arith, h.back (omega arith)));
    }

  module _ (i : ℕ) {c : ℕ} (h : Tied bs i 0 c) where
    next_byte : is_newline b ≡ false → Tied (b ∷ bs) (suc i) 0 (suc c)
    unfolding taken_by
    next_byte e = record {
      counts = omega arith;
      inside = λ q.
          let p = h.inside (sym (end_next b bs i) ∙ q) in
          let z : suc c - 1 ≡ suc (c - 1) = omega (arith, h.counts) in
          rw (lines_byte b bs e, grow_first b (lines_of bs), z) (suc-le-suc p.0, p.1);
      past = λ q. rw (lines_byte b bs e, grow_first b (lines_of bs)) (omega (arith, h.past (sym (end_next b bs i) ∙ q)));
      back = λ l. omega (arith, h.counts, h.back (omega arith));
    }

  module _ (i : ℕ) {m c : ℕ} (h : Tied bs i (suc m) c) where
    later_byte : is_newline b ≡ false → 0 < length (lines_of bs) → Tied (b ∷ bs) (suc i) (suc m) c
    later_byte e g = record {
      counts = h.counts;
      inside = λ q. rw (lines_byte b bs e, grow_later b m (lines_of bs)) (h.inside (sym (end_next b bs i) ∙ q));
      past = λ q. rw (lines_byte b bs e, grow_later b m (lines_of bs)) (h.past (sym (end_next b bs i) ∙ q));
      back = λ l. rw (lines_byte b bs e, grow_takes b m (lines_of bs) g) (omega (arith, h.back (omega arith)));
    }

tied : (t : List ℕ) (i : ℕ) → Tied t i (line_from 0 (take i t)) (column_from 1 (take i t))
unfolding line_from column_from
tied [] zero = tied_none 0
tied [] (suc i) = tied_none (suc i)
tied (b ∷ bs) zero = by (is_newline b) refl
  where
    by : (t : Bool) → is_newline b ≡ t → Tied (b ∷ bs) 0 0 1
    by true e = first_newline b bs e
    by false e = first_byte b bs e
tied (b ∷ bs) (suc i) = by (is_newline b) refl (line_from 0 (take i bs)) refl (tied bs i)
  where
    by : (t : Bool) → is_newline b ≡ t → (k : ℕ) → line_from 0 (take i bs) ≡ k → Tied bs i k (column_from 1 (take i bs))
        → Tied (b ∷ bs) (suc i) (line_from (pick t (0 + 1) 0) (take i bs)) (column_from (pick t 1 (1 + 1)) (take i bs))
    by true e k q h =
        let n : line_from 1 (take i bs) ≡ suc k = omega (arith, line_shift 1 (take i bs)) in
        rw n (next_newline b bs i h e)
    by false e zero q h =
        let n : column_from 2 (take i bs) ≡ suc (column_from 1 (take i bs)) = omega (arith, column_on 2 (take i bs) q, column_on 1 (take i bs) q) in
        rw (q, n) (next_byte b bs i h e)
    by false e (suc m) q h =
        let g : 0 < line_from 0 (take i bs) = omega arith in
        rw (q, column_anew 2 1 (take i bs) g) (later_byte b bs i h e (lines_some i bs g))

-- ---- the law

pub line_and_column_tell : LineAndColumnTell
unfolding line_number column_number
line_and_column_tell text at =
    let h = tied text at in
    let n : line_from 1 (take at text) - 1 ≡ line_from 0 (take at text) = omega (arith, line_shift 1 (take at text)) in
    record {
      line_from_1 = omega (arith, line_shift 1 (take at text));
      column_from_1 = h.counts;
      inside = rw n h.inside;
      past = rw n h.past;
      back = rw n h.back;
    }

-- ---- a line ends where its text says

end_shift : (s : List ℕ) (from k : ℕ) → is_end (drop from s) k ≡ is_end s (from + k)
end_shift s from k = rw (get_or-drop from s k 0, length-drop from s) (ap (λ (t : Bool). t || is_newline (get_or s (from + k) 0)) (by (leb (length s - from) k) refl))
  where
    by : (t : Bool) → leb (length s - from) k ≡ t → t ≡ leb (length s) (from + k)
    by true e = let h = leb-true (length s - from) k e in sym (le-leb (length s) (from + k) (omega arith))
    by false e = let h = leb-false (length s - from) k e in sym (lt-leb (length s) (from + k) (omega arith))

line_ends : (t : List ℕ) → is_end t (length (line_of t)) ≡ true
unfolding line_of
line_ends [] = ap (λ (b : Bool). b || is_newline 0) (le-leb 0 0 zero-le)
line_ends (b ∷ bs) = by (is_newline b) refl (line_ends bs)
  where
    by : (t : Bool) → is_newline b ≡ t → is_end bs (length (line_of bs)) ≡ true → is_end (b ∷ bs) (length (pick t [] (b ∷ line_of bs))) ≡ true
    by true e h = end_first b bs ∙ e
    by false e h = end_next b bs (length (line_of bs)) ∙ h

pub line_ends_at : (s : List ℕ) (from : ℕ) → is_end s (from + length (line_of (drop from s))) ≡ true
line_ends_at s from = sym (end_shift s from (length (line_of (drop from s)))) ∙ line_ends (drop from s)

-- and not before
line_goes_on : (t : List ℕ) (k : ℕ) → k < length (line_of t) → is_end t k ≡ false
unfolding line_of
line_goes_on [] k h = absurd (not-suc-le-zero h)
line_goes_on (b ∷ bs) zero h = by (is_newline b) refl h
  where
    by : (t : Bool) → is_newline b ≡ t → 0 < length (pick t [] (b ∷ line_of bs)) → is_end (b ∷ bs) 0 ≡ false
    by true e l = absurd (not-suc-le-zero l)
    by false e l = end_first b bs ∙ e
line_goes_on (b ∷ bs) (suc k) h = by (is_newline b) h (line_goes_on bs k)
  where
    by : (t : Bool) → suc k < length (pick t [] (b ∷ line_of bs)) → (k < length (line_of bs) → is_end bs k ≡ false) → is_end (b ∷ bs) (suc k) ≡ false
    by true l g = absurd (not-suc-le-zero l)
    by false l g = end_next b bs k ∙ g (omega arith)

pub line_goes_on_at : (s : List ℕ) (from k : ℕ) → k < length (line_of (drop from s)) → is_end s (from + k) ≡ false
line_goes_on_at s from k h = sym (end_shift s from k) ∙ line_goes_on (drop from s) k h
