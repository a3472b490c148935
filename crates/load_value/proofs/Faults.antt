-- The byte that decides a value's fault: the misplaced `#`, the quote that stays open, the backslash at the end.
use mathlib.Core.Path.{◌≡◌, ap, refl, sym, ◌∙◌}
use mathlib.Core.Bool.{Bool, true, false}
use mathlib.Core.List.{List, [], ◌∷◌}
use Prim.Native.Nat.{ℕ, ◌+◌, ◌-◌, ◌≤◌, ◌<◌, zero-le}
use native.Mathlib.Omega.{arith}
use borrow.Author.Tests.{eqb-true}
use lib.Dec.{eqb}
use lib.ListN.{length, length-drop, get_or, drop}
use lib.Seq.{drop-drop, get_or-drop}
use Rattle.base.proofs.Tests.{no_ft, not_both}
use Rattle.base.specs.Folds.{pick}
use Rattle.load_text.specs.Bytes.{is_white}
use Rattle.std.specs.Prelude.{Result, Ok, Err}
use Rattle.load_text.specs.Numbers.{wrong_number}
use Rattle.load_text.specs.declared.Fault.{Fault}
use Rattle.load_text.specs.declared.Wrong.TheVariants.{LastBackslash, OpenQuote}
use Rattle.load_value.specs.declared.Mode.{Mode}
use Rattle.load_value.specs.declared.Step.{Step}
use Rattle.load_value.specs.declared.Step.TheVariants.{Skip, Quote, Keep, Close, Malformed}
use Rattle.load_value.specs.declared.Sizes.{Sizes}
use Rattle.load_value.specs.Quotes.{closes, closes_from}
use Rattle.load_value.specs.Steps.{between, in_token, in_comment, bare_step, quote_step, step_of}
use Rattle.load_value.specs.Values.{onward, fault_from, marks_from, no_sizes, sizes_from, scanned, scan_of}

-- the byte at a place of a value decides for a number
pub data Deciding (v : List ℕ) (at : ℕ) : ℕ → Type 0 where
  hash : get_or v at 0 ≡ 35 → Deciding v at 7
  quote : get_or v at 0 ≡ 34 → closes (drop (at + 1) v) ≡ false → Deciding v at 8
  backslash : get_or v at 0 ≡ 92 → at + 1 ≡ length v → Deciding v at 9

abbrev Faulty : List ℕ → Result (Unit {0}) Fault → Type 0
Faulty v (Ok tt) = Unit {0}
Faulty v (Err f) = Deciding v f.at (wrong_number f.wrong)

-- i bytes of the value are read, and l is left: in quotes q is the place of the quote, and it is closed where what is left closes it; after a
-- backslash the last byte is one
record Reached (v l : List ℕ) (m : Mode) (q i : ℕ) : Type 0 where
  quoted : m.quoted ≡ true → get_or v q 0 ≡ 34
  open_on : m.quoted ≡ true → closes (drop (q + 1) v) ≡ closes_from m.escaped l
  escaped : m.escaped ≡ true → (0 < i) × (get_or v (i - 1) 0 ≡ 92)
  silent : m.comment ≡ true → (m.quoted ≡ false) × (m.escaped ≡ false)

-- so also after a step, or the step is at the `#`
abbrev StepIn : List ℕ → List ℕ → ℕ → ℕ → Step → Type 0
StepIn v l q i (Skip m) = Reached v l m q (i + 1)
StepIn v l q i (Quote m) = Reached v l m i (i + 1)
StepIn v l q i (Keep m) = Reached v l m q (i + 1)
StepIn v l q i (Close m) = Reached v l m q (i + 1)
StepIn v l q i Malformed = get_or v i 0 ≡ 35

module _ (v l : List ℕ) (q i : ℕ) where
  by_test : (t : Bool) (x y : Step) → (t ≡ true → StepIn v l q i x) → (t ≡ false → StepIn v l q i y) → StepIn v l q i (pick t x y)
  by_test true x y f g = f refl
  by_test false x y f g = g refl

  -- a mode with neither quote nor backslash asks for nothing
  plain : {k : ℕ} (m : Mode) → m.quoted ≡ false → m.escaped ≡ false → Reached v l m q k
  plain m a b = record {
    quoted = λ e. absurd (not_both e a);
    open_on = λ e. absurd (not_both e a);
    escaped = λ e. absurd (not_both e b);
    silent = λ e. (a, b);
  }

  -- the step at the byte b, after which l is left
  module _ {m : Mode} {b : ℕ} (h : Reached v (b ∷ l) m q i) (is : get_or v i 0 ≡ b) (rest : drop (i + 1) v ≡ l) where
    bare_in : StepIn v l q i (bare_step m b)
    unfolding bare_step
    bare_in =
        by_test (is_white b) _ _
        (λ _. by_test m.token _ _ (λ _. plain between refl refl) (λ _. plain between refl refl))
        (λ _. by_test (eqb b 35) _ _
        (λ e. by_test m.token _ _ (λ _. is ∙ eqb-true b 35 e) (λ _. plain in_comment refl refl))
        (λ _. plain (in_token false) refl refl))

    quote_in : eqb b 34 ≡ true → StepIn v l q i (quote_step m)
    quote_in e =
        by_test m.quoted _ _
        (λ _. plain (in_token false) refl refl)
        (λ _. record {
          quoted = λ _. is ∙ eqb-true b 34 e;
          open_on = λ _. ap (closes_from false) rest;
          escaped = λ e. no_ft e;
          silent = λ e. no_ft e;
        })

    -- what is left closes where the byte does not
    step_on : {x : Bool} (y : Bool) → m.quoted ≡ true → m.escaped ≡ x → closes_from x (b ∷ l) ≡ closes_from y l → closes (drop (q + 1) v) ≡ closes_from y l
    step_on y a e c = h.open_on a ∙ ap (λ (t : Bool). closes_from t (b ∷ l)) e ∙ c

    step_in : StepIn v l q i (step_of m b)
    unfolding step_of closes_from
    step_in =
        by_test m.comment _ _ (λ e. plain m (h.silent e).0 (h.silent e).1)
        (λ _. by_test m.escaped _ _
        (λ a. record { quoted = h.quoted; open_on = λ c. step_on false c a refl; escaped = λ e. no_ft e; silent = λ e. no_ft e })
        (λ a. by_test (eqb b 92) _ _
        (λ e. record {
          quoted = h.quoted;
          open_on = λ c. step_on true c a (rw e);
          escaped = λ _. (omega arith, last ∙ eqb-true b 92 e);
          silent = λ e. no_ft e;
        })
        (λ e. by_test (eqb b 34) _ _ quote_in
        (λ f. by_test m.quoted _ _
        (λ _. record {
          quoted = h.quoted;
          open_on = λ c. step_on m.escaped c a (rw (e, f, a));
          escaped = λ e. absurd (not_both e a);
          silent = h.silent;
        })
        (λ _. bare_in)))))
      where
        last : get_or v (i + 1 - 1) 0 ≡ b
        last = let n : i + 1 - 1 ≡ i = omega arith in rw n is

faults_in : (v : List ℕ) (m : Mode) (q i : ℕ) (l : List ℕ) → Reached v l m q i → drop i v ≡ l → i ≤ length v → Faulty v (fault_from m q i l)
unfolding fault_from closes_from
faults_in v m q i [] h is few = by m.escaped refl m.quoted refl
  where
    long : length v ≡ i
    long = omega (arith, length-drop i v, ap length is)

    shut : (t : Bool) → closes_from t [] ≡ false
    shut true = refl
    shut false = refl

    by : (a : Bool) → m.escaped ≡ a → (b : Bool) → m.quoted ≡ b → Faulty v (pick a (Err (record { wrong = LastBackslash; at = i - 1 })) (pick b (Err (record { wrong = OpenQuote; at = q })) (Ok tt)))
    by true e b f = backslash (h.escaped e).1 (omega (arith, long, (h.escaped e).0))
    by false e true f = quote (h.quoted f) (h.open_on f ∙ shut m.escaped)
    by false e false f = tt
faults_in v m q i (b ∷ bs) h is few =
    go (step_of m b) (step_in v bs q i h at rest)
    (λ m' q' h'. faults_in v m' q' (i + 1) bs h' rest (omega (arith, length-drop i v, ap length is)))
  where
    at : get_or v i 0 ≡ b
    at = let n : i + 0 ≡ i = omega arith in ap (λ (k : ℕ). get_or v k 0) (sym n) ∙ sym (get_or-drop i v 0 0) ∙ ap (λ (x : List ℕ). get_or x 0 0) is

    rest : drop (i + 1) v ≡ bs
    rest = sym (drop-drop 1 i v) ∙ ap (λ (x : List ℕ). drop 1 x) is

    go : (r : Step) → StepIn v bs q i r → ((m' : Mode) (q' : ℕ) → Reached v bs m' q' (i + 1) → Faulty v (fault_from m' q' (i + 1) bs))
        → Faulty v (onward r q i (λ m' q'. fault_from m' q' (i + 1) bs))
    go (Skip m') k on = on m' q k
    go (Quote m') k on = on m' i k
    go (Keep m') k on = on m' q k
    go (Close m') k on = on m' q k
    go Malformed k on = hash k

abbrev pub ScanFaulty : List ℕ → Result Sizes Fault → Type 0
ScanFaulty v (Ok z) = Unit {0}
ScanFaulty v (Err f) = Deciding v f.at (wrong_number f.wrong)

pub scan_faulty : (v : List ℕ) → ScanFaulty v (scan_of v)
unfolding scan_of
scan_faulty v =
    go (fault_from between 0 0 v) (sizes_from no_sizes (marks_from between v)) (faults_in v between 0 0 v (plain v v 0 0 between refl refl) refl zero-le)
  where
    go : (x : Result (Unit {0}) Fault) (z : Sizes) → Faulty v x → ScanFaulty v (scanned x z)
    go (Ok tt) z h = tt
    go (Err f) z h = h
