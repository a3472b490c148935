-- A value as a string of bytes (`spaced`), and what is read of it: a value of one token is that string, and one of several has a space in it.
use mathlib.Core.Path.{◌≡◌, refl, sym, ap, ◌∙◌}
use mathlib.Core.Bool.{Bool, true, false, ◌||◌, ◌&&◌, not, or-true}
use mathlib.Core.List.{List, [], ◌∷◌, ◌++◌, map}
use Prim.Native.Nat.{ℕ, zero, suc, ◌+◌, ◌≤◌, ◌<◌}
use native.Mathlib.Nat.{zero-add, add-zero}
use native.Mathlib.Omega.{arith}
use lib.Dec.{eqb, leb, ltb}
use lib.ListN.{length}
use borrow.Author.Tests.{eqb-true, eqb-false, leb-true, leb-false, ltb-true, ltb-false, eq-eqb, ne_eqb, lt-ltb}
use Rattle.base.proofs.Tests.{no_ft, no_tf, and_true}
use Rattle.base.specs.Folds.{pick}
use Rattle.load_text.specs.Bytes.{is_white}
use Rattle.std.specs.Prelude.{Result, Ok, Err}
use Rattle.load_text.specs.declared.Fault.{Fault}
use Rattle.load_value.specs.declared.Mode.{Mode}
use Rattle.load_value.specs.declared.Step.{Step}
use Rattle.load_value.specs.declared.Step.TheVariants.{Skip, Quote, Keep, Close, Malformed}
use Rattle.load_value.specs.declared.Sizes.{Sizes}
use Rattle.load_value.specs.Steps.{between, in_token, escaping, in_comment, bare_step, step_of}
use Rattle.load_value.specs.Values.{Mark, kept, close, onward, fault_from, marked, marks_from, byte_of, written, joined, spaced}
use Rattle.load_value.specs.Values.{counted, no_sizes, sizes_from, scan_of, longest_word, word_room, is_word, leading, word_of}
use Rattle.load_value.proofs.Counts.{scan_counted}

-- ---- the marks of a value with no fault: every token is closed

-- t: whether a token is open before these marks
unfoldable pub closed_from : Bool → List Mark → Bool
closed_from t [] = not t
closed_from t (kept b ∷ ks) = closed_from true ks
closed_from t (close ∷ ks) = closed_from false ks

closed_any : (t u : Bool) (ks : List Mark) → (t ≡ true → u ≡ true) → closed_from u ks ≡ true → closed_from t ks ≡ true
unfolding closed_from
closed_any false u [] i h = refl
closed_any true u [] i h = no_ft (ap not (sym (i refl)) ∙ h)
closed_any t u (kept b ∷ ks) i h = h
closed_any t u (close ∷ ks) i h = h

-- in quotes a token is open
abbrev Open : Mode → Type 0
Open m = m.quoted ≡ true → m.token ≡ true

-- what a step keeps: a token stays open until its end, and in quotes one is
abbrev Onward : Mode → Step → Type 0
Onward m (Skip n) = Open n × (m.token ≡ true → n.token ≡ true)
Onward m (Quote n) = Open n × (m.token ≡ true → n.token ≡ true)
Onward m (Keep n) = Open n × (n.token ≡ true)
Onward m (Close n) = Open n × (n.token ≡ false)
Onward m Malformed = Unit {0}

bare_onward : (m : Mode) (b : ℕ) → Onward m (bare_step m b)
unfolding bare_step
bare_onward m b = by (is_white b) (eqb b 35) m.token refl
  where
    by : (w h t : Bool) → m.token ≡ t
        → Onward m (pick w (pick t (Close between) (Skip between)) (pick h (pick t Malformed (Skip in_comment)) (Keep (in_token false))))
    by true h true e = (λ q. no_ft q, refl)
    by true h false e = (λ q. no_ft q, λ u. no_ft (sym e ∙ u))
    by false true true e = tt
    by false true false e = (λ q. no_ft q, λ u. no_ft (sym e ∙ u))
    by false false t e = (λ q. no_ft q, refl)

step_onward : (m : Mode) (b : ℕ) → Open m → Onward m (step_of m b)
unfolding step_of
step_onward m b o = by m.comment m.escaped (eqb b 92) (eqb b 34) m.quoted refl
  where
    by : (c e s d q : Bool) → m.quoted ≡ q
        → Onward m (pick c (Skip m) (pick e (Keep (in_token q)) (pick s (Skip (escaping q))
        (pick d (pick q (Skip (in_token false)) (Quote (in_token true))) (pick q (Keep m) (bare_step m b))))))
    by true e s d q h = (o, λ u. u)
    by false true s d q h = (λ u. refl, refl)
    by false false true d q h = (λ u. refl, λ u. refl)
    by false false false true true h = (λ u. refl, λ u. refl)
    by false false false true false h = (λ u. refl, λ u. refl)
    by false false false false true h = (o, o h)
    by false false false false false h = bare_onward m b

abbrev is_good : Result (Unit {0}) Fault → Bool
is_good (Ok tt) = true
is_good (Err f) = false

marks_closed : (l : List ℕ) (m : Mode) (q i : ℕ) → Open m → fault_from m q i l ≡ Ok tt → closed_from m.token (marks_from m l) ≡ true
unfolding fault_from marks_from closed_from
marks_closed [] m q i o g = by m.token
  where
    by : (t : Bool) → closed_from t (pick t (close ∷ []) []) ≡ true
    by true = refl
    by false = refl
marks_closed (b ∷ bs) m q i o g = by (step_of m b) (step_onward m b o) (λ n p. marks_closed bs n p (i + 1)) g
  where
    by : (r : Step) → Onward m r
        → ((n : Mode) (p : ℕ) → Open n → fault_from n p (i + 1) bs ≡ Ok tt → closed_from n.token (marks_from n bs) ≡ true)
        → onward r q i (λ n p. fault_from n p (i + 1) bs) ≡ Ok tt → closed_from m.token (marked r b (λ n. marks_from n bs)) ≡ true
    by (Skip n) k on h = closed_any m.token n.token (marks_from n bs) k.1 (on n q k.0 h)
    by (Quote n) k on h = closed_any m.token n.token (marks_from n bs) k.1 (on n i k.0 h)
    by (Keep n) k on h = closed_any true n.token (marks_from n bs) (λ u. k.1) (on n q k.0 h)
    by (Close n) k on h = closed_any false n.token (marks_from n bs) (λ u. no_ft u) (on n q k.0 h)
    by Malformed k on h = no_ft (ap is_good h)

-- ---- what the scan counted, of the marks

unfoldable closes : List Mark → ℕ
closes [] = 0
closes (kept b ∷ ks) = closes ks
closes (close ∷ ks) = suc (closes ks)

tokens_from : (z : Sizes) (ks : List Mark) → (sizes_from z ks).tokens ≡ z.tokens + closes ks
unfolding sizes_from closes
tokens_from z [] = sym (add-zero z.tokens)
tokens_from z (kept b ∷ ks) = tokens_from (counted z (kept b)) ks
tokens_from z (close ∷ ks) = omega (arith, tokens_from (counted z close) ks)

-- the bytes before the first end of a token
unfoldable first_of : List Mark → ℕ
first_of [] = 0
first_of (kept b ∷ ks) = suc (first_of ks)
first_of (close ∷ ks) = 0

-- once a token has ended, the length of the first stays
first_stays : (z : Sizes) (ks : List Mark) → 0 < z.tokens → (sizes_from z ks).first ≡ z.first
unfolding sizes_from
first_stays z [] h = refl
first_stays z (kept b ∷ ks) h =
    first_stays (counted z (kept b)) ks h ∙ ap (λ (t : Bool). pick t (z.first + 1) z.first) (ne_eqb z.tokens 0 (λ e. omega arith))
first_stays z (close ∷ ks) h = first_stays (counted z close) ks (omega arith)

first_from_lem : (z : Sizes) (ks : List Mark) → z.tokens ≡ 0 → (sizes_from z ks).first ≡ z.first + first_of ks
unfolding sizes_from first_of
first_from_lem z [] e = sym (add-zero z.first)
first_from_lem z (kept b ∷ ks) e =
    let more : Bool → ℕ = λ t. pick t (z.first + 1) z.first in
    let one : more (eqb z.tokens 0) ≡ z.first + 1 = ap more (eq-eqb z.tokens 0 e) in
    omega (arith, first_from_lem (counted z (kept b)) ks e, one)
first_from_lem z (close ∷ ks) e = first_stays (counted z close) ks (omega arith) ∙ sym (add-zero z.first)

-- ---- the tokens joined

-- marks that end an open token end one at least, and so do marks that are there at all
open_closes : (ks : List Mark) → closed_from true ks ≡ true → 0 < closes ks
unfolding closed_from closes
open_closes [] h = no_ft h
open_closes (kept b ∷ ks) h = open_closes ks h
open_closes (close ∷ ks) h = omega arith

some_closes : (k : Mark) (ks : List Mark) → closed_from false (k ∷ ks) ≡ true → 0 < closes (k ∷ ks)
unfolding closed_from closes
some_closes (kept b) ks h = open_closes ks h
some_closes close ks h = omega arith

-- one token is written as it is joined, with a zero byte after it
one_written : (t : Bool) (ks : List Mark) → closed_from t ks ≡ true → closes ks ≡ 1 → map byte_of ks ≡ joined ks ++ (0 ∷ [])
unfolding closed_from closes joined
one_written t [] h e = absurd (omega arith)
one_written t (kept b ∷ ks) h e = ap (λ (l : List ℕ). b ∷ l) (one_written true ks h e)
one_written t (close ∷ []) h e = refl
one_written t (close ∷ k ∷ ks) h e = absurd (omega (arith, some_closes k ks h))

-- and it is what its marks begin with
one_leading : (n : ℕ) (t : Bool) (ks : List Mark) → closed_from t ks ≡ true → closes ks ≡ 1 → first_of ks ≤ n → leading n ks ≡ joined ks
unfolding closed_from closes first_of joined leading
one_leading n t [] h e f = absurd (omega arith)
one_leading zero t (kept b ∷ ks) h e f = absurd (omega arith)
one_leading (suc n) t (kept b ∷ ks) h e f = ap (λ (l : List ℕ). b ∷ l) (one_leading n true ks h e (omega arith))
one_leading zero t (close ∷ []) h e f = refl
one_leading (suc n) t (close ∷ []) h e f = refl
one_leading n t (close ∷ k ∷ ks) h e f = absurd (omega (arith, some_closes k ks h))

one_long : (t : Bool) (ks : List Mark) → closed_from t ks ≡ true → closes ks ≡ 1 → length (joined ks) ≡ first_of ks
unfolding closed_from closes first_of joined
one_long t [] h e = refl
one_long t (kept b ∷ ks) h e = ap suc (one_long true ks h e)
one_long t (close ∷ []) h e = refl
one_long t (close ∷ k ∷ ks) h e = absurd (omega (arith, some_closes k ks h))

none_joined : (ks : List Mark) → closed_from false ks ≡ true → closes ks ≡ 0 → joined ks ≡ []
unfolding joined
none_joined [] h e = refl
none_joined (k ∷ ks) h e = absurd (omega (arith, some_closes k ks h, e))

-- a space is among the bytes
unfoldable pub has_space : List ℕ → Bool
has_space [] = false
has_space (b ∷ bs) = eqb b 32 || has_space bs

several_joined : (ks : List Mark) → 1 < closes ks → has_space (joined ks) ≡ true
unfolding closes joined has_space
several_joined [] h = absurd (omega arith)
several_joined (kept b ∷ ks) h = ap (λ (t : Bool). eqb b 32 || t) (several_joined ks h) ∙ or-true (eqb b 32)
several_joined (close ∷ []) h = absurd (omega arith)
several_joined (close ∷ k ∷ ks) h = refl

-- ---- of a value v that has no fault and whose sizes are z

-- what no rule of a word takes: nothing, more bytes than the longest word has, or a space
abbrev pub no_word : List ℕ → Bool
no_word w = eqb (length w) 0 || ltb longest_word (length w) || has_space w

module _ (w : List ℕ) where
  no_word_none : length w ≡ 0 → no_word w ≡ true
  no_word_none e = rw (eq-eqb (length w) 0 e)

  no_word_long : longest_word < length w → no_word w ≡ true
  no_word_long h = rw (lt-ltb longest_word (length w) h, or-true (eqb (length w) 0))

  no_word_space : has_space w ≡ true → no_word w ≡ true
  no_word_space e = rw e (or-true (eqb (length w) 0 || ltb longest_word (length w)))

module _ (v : List ℕ) {z : Sizes} (e : scan_of v ≡ Ok z) where
  all_closed : closed_from false (marks_from between v) ≡ true
  all_closed = marks_closed v between 0 0 (λ q. no_ft q) (scan_counted v e).good

  tokens_are : z.tokens ≡ closes (marks_from between v)
  tokens_are =
      ap (λ (y : Sizes). y.tokens) (sym (scan_counted v e).sizes) ∙ tokens_from no_sizes (marks_from between v) ∙ zero-add (closes (marks_from between v))

  first_is : z.first ≡ first_of (marks_from between v)
  first_is =
      ap (λ (y : Sizes). y.first) (sym (scan_counted v e).sizes) ∙ first_from_lem no_sizes (marks_from between v) refl
      ∙ zero-add (first_of (marks_from between v))

  -- a value of no token is empty
  pub none_spaced : z.tokens ≡ 0 → spaced v ≡ []
  unfolding spaced
  none_spaced n = none_joined (marks_from between v) all_closed (sym tokens_are ∙ n)

  -- a value of one token is that token, which is as long as the scan says, and what is written of it
  pub token_spaced : z.tokens ≡ 1 → written v ≡ spaced v ++ (0 ∷ [])
  unfolding spaced written
  token_spaced n = one_written false (marks_from between v) all_closed (sym tokens_are ∙ n)

  pub long_spaced : z.tokens ≡ 1 → length (spaced v) ≡ z.first
  unfolding spaced
  long_spaced n = one_long false (marks_from between v) all_closed (sym tokens_are ∙ n) ∙ sym first_is

  -- a word is the value
  pub word_spaced : is_word z ≡ true → word_of v ≡ spaced v
  unfolding spaced word_of
  word_spaced w =
      let both = (and_true (eqb z.tokens 1 && ltb 0 z.first) (leb z.first longest_word)).0 w in
      let one : z.tokens ≡ 1 = eqb-true z.tokens 1 ((and_true (eqb z.tokens 1) (ltb 0 z.first)).0 both.0).0 in
      let few : z.first ≤ longest_word = leb-true z.first longest_word both.1 in
      one_leading word_room false (marks_from between v) all_closed (sym tokens_are ∙ one) (omega (arith, few, first_is))

  -- a value of several tokens has a space
  pub several_spaced : 1 < z.tokens → has_space (spaced v) ≡ true
  unfolding spaced
  several_spaced n = several_joined (marks_from between v) (omega (arith, n, tokens_are))

  -- a value that is no word is nothing that a rule takes
  pub no_word_spaced : is_word z ≡ false → no_word (spaced v) ≡ true
  no_word_spaced w = by (eqb z.tokens 1) (ltb 0 z.first) (leb z.first longest_word) (ltb 1 z.tokens) refl refl refl refl w
    where
      by : (a b c d : Bool) → eqb z.tokens 1 ≡ a → ltb 0 z.first ≡ b → leb z.first longest_word ≡ c → ltb 1 z.tokens ≡ d
          → (a && b) && c ≡ false → no_word (spaced v) ≡ true
      by false b c true n f l m x = no_word_space (spaced v) (several_spaced (ltb-true 1 z.tokens m))
      by false b c false n f l m x =
          let none : z.tokens ≡ 0 = omega (arith, ltb-false 1 z.tokens m, eqb-false z.tokens 1 n) in
          no_word_none (spaced v) (ap length (none_spaced none))
      by true false c d n f l m x =
          no_word_none (spaced v) (omega (arith, long_spaced (eqb-true z.tokens 1 n), ltb-false 0 z.first f))
      by true true false d n f l m x =
          no_word_long (spaced v) (omega (arith, long_spaced (eqb-true z.tokens 1 n), leb-false z.first longest_word l))
      by true true true d n f l m x = no_tf x
