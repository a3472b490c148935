-- The laws of lines: a line goes on or ends, and a text that is not empty is its first line and the lines after.
use mathlib.Core.Path.{◌≡◌, refl, sym, ap, ◌∙◌}
use mathlib.Core.List.{List, [], ◌∷◌}
use mathlib.Core.Bool.{Bool, true, false}
use Prim.Native.Nat.{ℕ, zero, suc, ◌+◌, ◌-◌, ◌*◌, ◌≤◌, ◌<◌, zero-le, suc-le-suc}
use native.Mathlib.Nat.{not-suc-le-zero, add-zero}
use native.Mathlib.Omega.{arith}
use lib.Dec.{eqb, leb}
use lib.ListN.{length, get_or, take, drop, drop_of_length-le, length-drop, get_or-eq_default}
use lib.Seq.{drop-drop, get_or-drop}
use borrow.Author.Tests.{eqb-true, le-leb, leb-true, leb-false}
use Rattle.base.proofs.Tests.{not_both}
use Rattle.base.specs.Folds.{pick}
use Rattle.load_text.specs.Strings.{part_of}
use Rattle.load_text.specs.Bytes.{is_white, is_newline, is_property_byte, is_sign, run}
use Rattle.load_text.specs.Lines.{line_of, grow, lines_of, fault, says_nothing, name_end, white_end, opening}
use Rattle.load_text.proofs.Runs.{run_within}
use Rattle.std.specs.Prelude.{Option, Some, None, Result, Ok, Err}
use Rattle.load_text.specs.declared.Fault.{Fault}
use Rattle.load_text.specs.declared.Places.{Places}
use Rattle.load_text.specs.declared.Wrong.TheVariants.{Malformed}

module _ (s : List ℕ) (k : ℕ) where
  pub line_none : length s ≤ k → line_of (drop k s) ≡ []
  unfolding line_of
  line_none h = rw (drop_of_length-le s h)

pub line_take : (l : List ℕ) → take (length (line_of l)) l ≡ line_of l
unfolding line_of
line_take [] = refl
line_take (b ∷ bs) = by (is_newline b) (line_take bs)
  where
    by : (t : Bool) → take (length (line_of bs)) bs ≡ line_of bs → take (length (pick t [] (b ∷ line_of bs))) (b ∷ bs) ≡ pick t [] (b ∷ line_of bs)
    by true h = refl
    by false h = ap (λ (x : List ℕ). b ∷ x) h

pub line_fits : (l : List ℕ) → length (line_of l) ≤ length l
unfolding line_of
line_fits [] = zero-le
line_fits (b ∷ bs) = by (is_newline b) (line_fits bs)
  where
    by : (t : Bool) → length (line_of bs) ≤ length bs → length (pick t [] (b ∷ line_of bs)) ≤ suc (length bs)
    by true h = zero-le
    by false h = suc-le-suc h

-- a text that is not empty is its first line, and the lines after that line's end
pub lines_split : (l : List ℕ) → 0 < length l → lines_of l ≡ line_of l ∷ lines_of (drop (suc (length (line_of l))) l)
unfolding line_of lines_of
lines_split [] h = absurd (not-suc-le-zero h)
lines_split (b ∷ []) h = by (is_newline b)
  where
    by : (t : Bool) → pick t ([] ∷ []) ((b ∷ []) ∷ []) ≡ pick t [] (b ∷ []) ∷ lines_of (drop (length (pick t [] (b ∷ []))) [])
    by true = refl
    by false = refl
lines_split (b ∷ d ∷ bs) h = by (is_newline b) (lines_split (d ∷ bs) (suc-le-suc zero-le))
  where
    by : (t : Bool) → lines_of (d ∷ bs) ≡ line_of (d ∷ bs) ∷ lines_of (drop (suc (length (line_of (d ∷ bs)))) (d ∷ bs))
        → pick t ([] ∷ lines_of (d ∷ bs)) (grow b (lines_of (d ∷ bs)))
        ≡ pick t [] (b ∷ line_of (d ∷ bs)) ∷ lines_of (drop (length (pick t [] (b ∷ line_of (d ∷ bs)))) (d ∷ bs))
    by true e = refl
    by false e = ap (grow b) e

-- the line that begins at i and ends at e
module _ (s : List ℕ) (i : ℕ) {e : ℕ} (h : i < length s) (at : e ≡ i + length (line_of (drop i s))) where
  pub end_fits : e ≤ length s
  end_fits = omega (arith, line_fits (drop i s), length-drop i s)

  pub line_part : part_of s i e ≡ line_of (drop i s)
  unfolding part_of
  line_part =
      let n : e - i ≡ length (line_of (drop i s)) = omega arith in
      rw (le-leb i e (omega arith), le-leb e (length s) end_fits, n, line_take)

  pub lines_next : lines_of (drop i s) ≡ part_of s i e ∷ lines_of (drop (e + 1) s)
  lines_next =
      let p : i + suc (length (line_of (drop i s))) ≡ e + 1 = omega arith in
      rw (line_part, lines_split (drop i s) (omega (arith, length-drop i s)), drop-drop (suc (length (line_of (drop i s)))) i s, p)

-- the bytes from i to the end of its line
pub line_part_any : (s : List ℕ) (i : ℕ) {e : ℕ} → e ≡ i + length (line_of (drop i s)) → part_of s i e ≡ line_of (drop i s)
unfolding part_of
line_part_any s i {e} q = by (leb (length s) i) refl
  where
    nothing : (t : Bool) → pick t (take 0 (drop i s)) [] ≡ []
    nothing true = refl
    nothing false = refl

    by : (t : Bool) → leb (length s) i ≡ t → part_of s i e ≡ line_of (drop i s)
    by false h = line_part s i (leb-false (length s) i h) q
    by true h =
        let o : length s ≤ i = leb-true (length s) i h in
        let n : line_of (drop i s) ≡ [] = line_none s i o in
        let z : e ≡ i = q ∙ ap (λ (l : List ℕ). i + length l) n ∙ add-zero i in
        let d : i - i ≡ 0 = omega arith in
        rw (n, z, d, le-leb i i (omega arith)) (nothing (leb i (length s)))

-- the places of a line's name and sign; the premise stands as the callee's contract gives it
module _ (l : List ℕ) {a : ℕ} (p : a ≡ white_end l 0) where
  name_inside : a ≤ length l
  name_inside = run_within is_white l 0 zero-le p

  -- the sign is at a place that a usize holds, and so is the value
  pub sign_fits : {e s : ℕ} → e ≡ name_end l a → s ≡ white_end l e → length l * 1 < 9223372036854775808 → s < 9223372036854775808
  sign_fits {e} q r n =
      let h : e ≤ length l = run_within is_property_byte l a name_inside q in
      omega (arith, run_within is_white l e h r)

-- the places of an opening are within n bytes
abbrev pub Inside : ℕ → Result (Option Places) Fault → Type 0
Inside n (Ok None) = Unit {0}
Inside n (Ok (Some s)) = (s.from ≤ n) × (s.value ≤ n)
Inside n (Err f) = f.at ≤ n

-- a byte of a class that 0 is not of is in the list
pub class_inside : (p : ℕ → Bool) → p 0 ≡ false → (l : List ℕ) (k : ℕ) → p (get_or l k 0) ≡ true → k < length l
class_inside p none l k h = by (leb (length l) k) refl
  where
    by : (t : Bool) → leb (length l) k ≡ t → k < length l
    by false e = leb-false (length l) k e
    by true e = absurd (not_both h (ap p (get_or-eq_default l 0 (leb-true (length l) k e)) ∙ none))

pub opening_inside : (l : List ℕ) → Inside (length l) (opening l)
unfolding opening
opening_inside l =
    by (says_nothing l (white_end l 0)) (eqb (white_end l 0) (name_end l (white_end l 0))) (is_sign (get_or l (white_end l (name_end l (white_end l 0))) 0)) refl
  where
    a : white_end l 0 ≤ length l
    a = run_within is_white l 0 zero-le refl

    e : name_end l (white_end l 0) ≤ length l
    e = run_within is_property_byte l (white_end l 0) a refl

    s : white_end l (name_end l (white_end l 0)) ≤ length l
    s = run_within is_white l (name_end l (white_end l 0)) e refl

    by : (x y z : Bool) → is_sign (get_or l (white_end l (name_end l (white_end l 0))) 0) ≡ z
        → Inside (length l) (pick x (Ok None) (pick y (Err (fault Malformed (white_end l 0)))
        (pick z (Ok (Some (record { from = white_end l 0; end = name_end l (white_end l 0); value = white_end l (name_end l (white_end l 0)) + 1 })))
        (Err (fault Malformed (white_end l (name_end l (white_end l 0))))))))
    by true y z h = tt
    by false true z h = a
    by false false true h = (a, omega (arith, class_inside is_sign refl l (white_end l (name_end l (white_end l 0))) h))
    by false false false h = s

pub drop_line : (i : ℕ) (t : List ℕ) → i ≤ length (line_of t) → drop i (line_of t) ≡ line_of (drop i t)
unfolding line_of
drop_line zero t h = refl
drop_line (suc i) [] h = refl
drop_line (suc i) (b ∷ bs) h = by (is_newline b) h (drop_line i bs)
  where
    by : (x : Bool) → suc i ≤ length (pick x [] (b ∷ line_of bs)) → (i ≤ length (line_of bs) → drop i (line_of bs) ≡ line_of (drop i bs))
        → drop (suc i) (pick x [] (b ∷ line_of bs)) ≡ line_of (drop i bs)
    by true l g = absurd (not-suc-le-zero l)
    by false l g = g (omega arith)

-- ---- a line in its text: classes without the newline, and without the 0 that is read past the end

module _ (p : ℕ → Bool) (newline : p 10 ≡ false) where
  -- a run of such bytes ends where the line does
  run_line : (t : List ℕ) → run p (line_of t) ≡ run p t
  unfolding run line_of
  run_line [] = refl
  run_line (b ∷ bs) = by (is_newline b) refl (p b) refl (run_line bs)
    where
      by : (x : Bool) → is_newline b ≡ x → (y : Bool) → p b ≡ y → run p (line_of bs) ≡ run p bs → run p (pick x [] (b ∷ line_of bs)) ≡ pick (p b) (suc (run p bs)) 0
      by true e y f h = rw (ap p (eqb-true b 10 e) ∙ newline)
      by false e y f h = rw h

  pub run_at : (s : List ℕ) (from i : ℕ) → i ≤ length (line_of (drop from s)) → run p (drop i (line_of (drop from s))) ≡ run p (drop (from + i) s)
  run_at s from i h = rw (drop_line i (drop from s) h, run_line (drop i (drop from s)), drop-drop i from s)

  module _ (none : p 0 ≡ false) where
    class_line : (t : List ℕ) (k : ℕ) → k ≤ length (line_of t) → p (get_or (line_of t) k 0) ≡ p (get_or t k 0)
    unfolding line_of
    class_line [] k h = refl
    class_line (b ∷ bs) zero h = by (is_newline b) refl
      where
        by : (x : Bool) → is_newline b ≡ x → p (get_or (pick x [] (b ∷ line_of bs)) 0 0) ≡ p b
        by true e = none ∙ sym (ap p (eqb-true b 10 e) ∙ newline)
        by false e = refl
    class_line (b ∷ bs) (suc k) h = by (is_newline b) h (class_line bs k)
      where
        by : (x : Bool) → suc k ≤ length (pick x [] (b ∷ line_of bs)) → (k ≤ length (line_of bs) → p (get_or (line_of bs) k 0) ≡ p (get_or bs k 0))
            → p (get_or (pick x [] (b ∷ line_of bs)) (suc k) 0) ≡ p (get_or bs k 0)
        by true l g = absurd (not-suc-le-zero l)
        by false l g = g (omega arith)

    -- so a byte of the line, or the one past it, is of the class where that of the text is
    pub class_at : (s : List ℕ) (from k : ℕ) → k ≤ length (line_of (drop from s)) → p (get_or (line_of (drop from s)) k 0) ≡ p (get_or s (from + k) 0)
    class_at s from k h = class_line (drop from s) k h ∙ ap p (get_or-drop from s k 0)
