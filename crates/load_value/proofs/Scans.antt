-- The laws of a value's faults, tokens and sizes, as the loops over its bytes go: at the end, and at a byte.
use mathlib.Core.Path.{◌≡◌, refl, subst}
use mathlib.Core.Bool.{Bool, true, false}
use mathlib.Core.List.{List, [], ◌∷◌, map}
use Prim.Native.Nat.{ℕ, zero, suc, ◌+◌, ◌-◌, ◌≤◌, ◌<◌, zero-le, suc-le-suc}
use native.Mathlib.Omega.{arith}
use lib.Dec.{eqb}
use lib.ListN.{length, get_or, drop, drop_of_length-le}
use Rattle.base.proofs.Counting.{drop_more, one_left}
use Rattle.base.specs.Folds.{pick}
use native.Mathlib.Nat.{zero-add}
use Rattle.load_text.specs.Lines.{fault}
use Rattle.std.specs.Prelude.{Result, Ok, Err}
use Rattle.load_text.specs.declared.Fault.{Fault}
use Rattle.load_text.specs.declared.Wrong.TheVariants.{Malformed as IsMalformed}
use Rattle.load_value.specs.declared.Mode.{Mode}
use Rattle.load_value.specs.declared.Step.{Step}
use Rattle.load_value.specs.declared.Step.TheVariants.{Skip, Quote, Keep, Close, Malformed}
use Rattle.load_value.specs.declared.Sizes.{Sizes}
use Rattle.load_value.specs.Steps.{between, step_of}
use Rattle.load_value.specs.Values.{Mark, kept, close, ended, onward, fault_from, marked, marks_from, byte_of}
use Rattle.load_value.specs.Values.{counted, no_sizes, sizes_from, scanned, scan_of, longest_word, word_room, leading, word_of}

-- the answer for what is left, from the mode, the last quote, the place and the sizes so far
abbrev pub scan_from : Mode → ℕ → ℕ → Sizes → List ℕ → Result Sizes Fault
scan_from m q i z l = scanned (fault_from m q i l) (sizes_from z (marks_from m l))

-- what a step makes of it
abbrev pub scan_on : Step → ℕ → ℕ → Sizes → List ℕ → Result Sizes Fault
scan_on (Skip m) q i z l = scan_from m q (i + 1) z l
scan_on (Quote m) q i z l = scan_from m i (i + 1) z l
scan_on (Keep m) q i z l = scan_from m q (i + 1) (counted z (kept 0)) l
scan_on (Close m) q i z l = scan_from m q (i + 1) (counted z close) l
scan_on Malformed q i z l = Err (fault IsMalformed i)

module _ (m : Mode) (q i : ℕ) (z : Sizes) (s : List ℕ) (k : ℕ) where
  pub scan_end : length s ≤ k → scan_from m q i z (drop k s) ≡ scanned (ended m q i) (pick m.token (counted z close) z)
  unfolding fault_from marks_from sizes_from
  scan_end h = rw (drop_of_length-le s h) (by m.token)
    where
      by : (t : Bool) → scanned (ended m q i) (sizes_from z (pick t (close ∷ []) [])) ≡ scanned (ended m q i) (pick t (counted z close) z)
      by true = refl
      by false = refl

  pub scan_next : {r : Step} → k < length s → step_of m (get_or s k 0) ≡ r → scan_from m q i z (drop k s) ≡ scan_on r q i z (drop (k + 1) s)
  unfolding fault_from marks_from sizes_from
  scan_next {r} h e = rw (drop_more s k 0 h, e) (by r)
    where
      by : (r : Step)
          → scanned (onward r q i (λ m' q'. fault_from m' q' (i + 1) (drop (k + 1) s)))
          (sizes_from z (marked r (get_or s k 0) (λ m'. marks_from m' (drop (k + 1) s))))
          ≡ scan_on r q i z (drop (k + 1) s)
      by (Skip n) = refl
      by (Quote n) = refl
      by (Keep n) = refl
      by (Close n) = refl
      by Malformed = refl

-- what is left to write, from the mode
abbrev pub written_from : Mode → List ℕ → List ℕ
written_from m l = map byte_of (marks_from m l)

abbrev pub written_on : Step → ℕ → List ℕ → List ℕ
written_on (Skip m) b l = written_from m l
written_on (Quote m) b l = written_from m l
written_on (Keep m) b l = b ∷ written_from m l
written_on (Close m) b l = 0 ∷ written_from m l
written_on Malformed b l = []

module _ (m : Mode) (s : List ℕ) (k : ℕ) where
  pub written_end : length s ≤ k → written_from m (drop k s) ≡ pick m.token (0 ∷ []) []
  unfolding marks_from
  written_end h = rw (drop_of_length-le s h) (by m.token)
    where
      by : (t : Bool) → map byte_of (pick t (close ∷ []) []) ≡ pick t (0 ∷ []) []
      by true = refl
      by false = refl

  pub written_next : {r : Step} → k < length s → step_of m (get_or s k 0) ≡ r → written_from m (drop k s) ≡ written_on r (get_or s k 0) (drop (k + 1) s)
  unfolding marks_from
  written_next {r} h e = rw (drop_more s k 0 h, e) (by r)
    where
      by : (r : Step) → map byte_of (marked r (get_or s k 0) (λ m'. marks_from m' (drop (k + 1) s))) ≡ written_on r (get_or s k 0) (drop (k + 1) s)
      by (Skip n) = refl
      by (Quote n) = refl
      by (Keep n) = refl
      by (Close n) = refl
      by Malformed = refl

-- what is counted in i bytes
pub record Fits (z : Sizes) (i : ℕ) : Type 0 where
  pub tokens : z.tokens ≤ z.room
  pub first : z.first ≤ z.room
  pub room : z.room ≤ i

pub fits_more : {z : Sizes} {i : ℕ} → Fits z i → Fits z (i + 1)
fits_more h = let r = h.room in record { tokens = h.tokens; first = h.first; room = omega arith }

pub fits_byte : {z y : Sizes} {i : ℕ} → Fits z i → y ≡ counted z (kept 0) → Fits y (i + 1)
fits_byte {z} {y} {i} h e = rw e (by (eqb z.tokens 0))
  where
    by : (t : Bool) → Fits (record { tokens = z.tokens; room = z.room + 1; first = pick t (z.first + 1) z.first }) (i + 1)
    by true =
        let a = h.tokens in
        let b = h.first in
        let c = h.room in
        record { tokens = omega arith; first = omega arith; room = omega arith }
    by false =
        let a = h.tokens in
        let b = h.first in
        let c = h.room in
        record { tokens = omega arith; first = omega arith; room = omega arith }

pub fits_end : {z y : Sizes} {i : ℕ} → Fits z i → y ≡ counted z close → Fits y (i + 1)
fits_end {z} h e =
    let a = h.tokens in
    let b = h.first in
    let c = h.room in
    rw e (record { tokens = omega arith; first = omega arith; room = omega arith })

-- what is left of a word of which o bytes were read
abbrev pub word_from : Mode → ℕ → List ℕ → List ℕ
word_from m o l = leading (word_room - o) (marks_from m l)

abbrev pub word_on : Step → ℕ → ℕ → List ℕ → List ℕ
word_on (Skip m) o b l = word_from m o l
word_on (Quote m) o b l = word_from m o l
word_on (Keep m) o b l = leading (word_room - o) (kept b ∷ marks_from m l)
word_on (Close m) o b l = []
word_on Malformed o b l = []

leading_close : (n : ℕ) (ks : List Mark) → leading n (close ∷ ks) ≡ []
unfolding leading
leading_close zero ks = refl
leading_close (suc n) ks = refl

leading_none : (n : ℕ) → leading n [] ≡ []
unfolding leading
leading_none zero = refl
leading_none (suc n) = refl

-- a word of full length ends
pub word_full : (o : ℕ) (ks : List Mark) → longest_word < o → leading (word_room - o) ks ≡ []
unfolding leading
word_full o ks h =
    let e : word_room - o ≡ 0 = omega arith in
    rw e

-- any other goes on
pub word_more : (o b : ℕ) (ks : List Mark) → o ≤ longest_word → leading (word_room - o) (kept b ∷ ks) ≡ b ∷ leading (word_room - (o + 1)) ks
unfolding leading
word_more o b ks h = rw (one_left word_room o (omega arith))

module _ (m : Mode) (o : ℕ) (s : List ℕ) (k : ℕ) where
  pub word_end : length s ≤ k → word_from m o (drop k s) ≡ []
  unfolding marks_from
  word_end h = rw (drop_of_length-le s h) (by m.token)
    where
      by : (t : Bool) → leading (word_room - o) (pick t (close ∷ []) []) ≡ []
      by true = leading_close (word_room - o) []
      by false = leading_none (word_room - o)

  pub word_next : {r : Step} → k < length s → step_of m (get_or s k 0) ≡ r → word_from m o (drop k s) ≡ word_on r o (get_or s k 0) (drop (k + 1) s)
  unfolding marks_from
  word_next {r} h e = rw (drop_more s k 0 h, e) (by r)
    where
      by : (r : Step) → leading (word_room - o) (marked r (get_or s k 0) (λ m'. marks_from m' (drop (k + 1) s))) ≡ word_on r o (get_or s k 0) (drop (k + 1) s)
      by (Skip n) = refl
      by (Quote n) = refl
      by (Keep n) = refl
      by (Close n) = leading_close (word_room - o) (marks_from n (drop (k + 1) s))
      by Malformed = leading_none (word_room - o)

leading_fits : (n : ℕ) (ks : List Mark) → length (leading n ks) ≤ n
unfolding leading
leading_fits zero ks = zero-le
leading_fits (suc n) [] = zero-le
leading_fits (suc n) (kept b ∷ ks) = suc-le-suc (leading_fits n ks)
leading_fits (suc n) (close ∷ ks) = zero-le

-- a word fits its room
pub word_fits : (l : List ℕ) → length (word_of l) ≤ word_room
unfolding word_of
word_fits l = leading_fits word_room (marks_from between l)

-- a fault is met within n bytes
abbrev pub FaultInside : ℕ → Result (Unit {0}) Fault → Type 0
FaultInside n (Ok tt) = Unit {0}
FaultInside n (Err f) = f.at ≤ n

abbrev pub ScanInside : ℕ → Result Sizes Fault → Type 0
ScanInside n (Ok z) = Unit {0}
ScanInside n (Err f) = f.at ≤ n

fault_inside : (l : List ℕ) (m : Mode) (q i : ℕ) → q ≤ i → FaultInside (i + length l) (fault_from m q i l)
unfolding fault_from
fault_inside [] m q i h = by m.escaped m.quoted refl refl
  where
    by : (x y : Bool) → m.escaped ≡ x → m.quoted ≡ y → FaultInside (i + 0) (ended m q i)
    by true true e f = simp (e, f) (omega arith)
    by true false e f = simp (e, f) (omega arith)
    by false true e f = simp (e, f) (omega arith)
    by false false e f = simp (e, f) tt
fault_inside (b ∷ bs) m q i h =
    by (step_of m b) (λ m' q' k. subst (λ (n : ℕ). FaultInside n (fault_from m' q' (i + 1) bs)) more (fault_inside bs m' q' (i + 1) k))
  where
    more : (i + 1) + length bs ≡ i + suc (length bs)
    more = omega arith

    by : (r : Step) → ((m' : Mode) (q' : ℕ) → q' ≤ i + 1 → FaultInside (i + suc (length bs)) (fault_from m' q' (i + 1) bs))
        → FaultInside (i + suc (length bs)) (onward r q i (λ m' q'. fault_from m' q' (i + 1) bs))
    by (Skip n) on = on n q (omega arith)
    by (Quote n) on = on n i (omega arith)
    by (Keep n) on = on n q (omega arith)
    by (Close n) on = on n q (omega arith)
    by Malformed on = omega arith

pub scan_inside : (l : List ℕ) → ScanInside (length l) (scan_of l)
unfolding scan_of
scan_inside l =
    by (fault_from between 0 0 l) (sizes_from no_sizes (marks_from between l))
    (subst (λ (n : ℕ). FaultInside n (fault_from between 0 0 l)) (zero-add (length l)) (fault_inside l between 0 0 zero-le))
  where
    by : (v : Result (Unit {0}) Fault) (z : Sizes) → FaultInside (length l) v → ScanInside (length l) (scanned v z)
    by (Ok tt) z h = tt
    by (Err f) z h = h
