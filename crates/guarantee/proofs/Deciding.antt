-- W-201: the fault of a text stands at the byte that decided: the bad byte, and the bytes of a line by how the line is read.
use Prim.Native.Nat.{ℕ, zero, suc, ◌+◌, ◌-◌, ◌<◌, ◌≤◌, zero-le}
use borrow.Author.Tests.{eq-eqb, eqb-false, eqb-true, leb-false, leb-true, lt-leb}
use lib.Dec.{eqb, leb, ltb}
use lib.ListN.{drop, drop_of_length-le, get_or, length, length-drop}
use lib.Seq.{drop-drop, get_or-drop}
use mathlib.Core.Bool.{Bool, ◌&&◌, ◌||◌, false, not, true, or-true}
use mathlib.Core.List.{List, [], ◌∷◌}
use mathlib.Core.Logic.{◌⊎◌, inl, inr}
use mathlib.Core.Path.{◌≡◌, ap, refl, sym, ◌∙◌, subst}
use native.Mathlib.Omega.{arith}
use Rattle.base.proofs.Tests.{no_ft, or_false}
use Rattle.std.specs.Prelude.{Err, None, Ok, Option, Result, Some, is_none}
use Rattle.base.specs.Folds.{pick}
use Rattle.load_text.specs.Bytes.{is_bad, is_newline, is_property_byte, is_sign, is_white, run}
use Rattle.load_text.specs.Lines.{bad_from, fault, line_of, lines_of, name_end, opening, says_nothing, white_end}
use Rattle.load_text.specs.Offsets.{is_end}
use Rattle.load_text.specs.Strings.{part_of}
use Rattle.load_text.specs.Numbers.{wrong_number}
use Rattle.load_text.specs.declared.Fault.{Fault}
use Rattle.load_text.specs.declared.Wrong.TheVariants.{BadByte, Malformed, NoCommand, NoType, OutsideRule, TooManyDependencies, UnknownProperty}
use Rattle.service.specs.declared.Kind.{Kind as ServiceKind}
use Rattle.service.specs.declared.Settings.{Settings as ServiceSettings}
use Rattle.load_text.proofs.Lines.{class_at, class_inside, drop_line, end_fits, lines_split, run_at}
use Rattle.load_text.proofs.Offsets.{line_ends_at, line_goes_on_at}
use Rattle.load_text.proofs.Runs.{run_within}
use Rattle.load_value.specs.Quotes.{closes}
use Rattle.load_value.specs.Values.{is_command, is_word, scan_of, word_of}
use Rattle.load_value.specs.declared.Sizes.{Sizes}
use Rattle.load_value.proofs.Faults.{Deciding, ScanFaulty, backslash as slash, hash as misplaced, quote as unclosed, scan_faulty}
use Rattle.load_word.specs.Properties.{is_unknown, property_of, setting_of}
use Rattle.load_word.specs.Words.{is_name, kind_of}
use Rattle.load_word.specs.declared.Property.{Property}
use Rattle.load_word.specs.declared.Property.TheVariants.{Command as CommandProperty, Kind as KindProperty, Link, Setting, Unknown}
use Rattle.load_description.specs.Lines.{dependency_read, kind_read, line_read, opening_read, property_read, scan_read, setting_read, single_read, tokens_read, word_read}
use Rattle.load_description.specs.Settings.{affected, blank, known, max_dependencies}
use Rattle.load_description.specs.Texts.{checked, completion, lines_read, needs_command, read_on, text_read}
use Rattle.load_description.specs.declared.Description.{Description}
use Rattle.load_description.specs.declared.Effect.{Effect}
use Rattle.load_lent.specs.Refusals.{has_byte}
use Rattle.guarantee.specs.Refusals.{Decides, InValue, backslash, bad_byte, first_at, hash, is_start, name, no_name, no_sign, quote, seventeenth, sign_at, value}

-- ---- 6: the first bad byte

-- that of l, at the place k
record FirstBad (l : List ℕ) (k : ℕ) : Type 0 where
  inside : k < length l
  bad : is_bad (get_or l k 0) ≡ true
  first : (i : ℕ) → i < k → is_bad (get_or l i 0) ≡ false

-- where l begins at the offset i
abbrev BadAt : ℕ → List ℕ → Result (Unit {0}) Fault → Type 0
BadAt i l (Ok u) = Unit {0}
BadAt i l (Err f) = (f.wrong ≡ BadByte) × (i ≤ f.at) × FirstBad l (f.at - i)

bad_at : (i : ℕ) (l : List ℕ) → BadAt i l (bad_from i l)
unfolding bad_from
bad_at i [] = tt
bad_at i (b ∷ bs) = by (is_bad b) refl (bad_from (i + 1) bs) (bad_at (i + 1) bs)
  where
    later : (n : ℕ) → i + 1 ≤ n → is_bad b ≡ false → FirstBad bs (n - (i + 1)) → FirstBad (b ∷ bs) (n - i)
    later n l e h =
        let z : n - i ≡ suc (n - (i + 1)) = omega arith in
        rw z record { inside = omega (arith, h.inside); bad = h.bad; first = before (n - (i + 1)) h e }
      where
        before : (k : ℕ) → FirstBad bs k → is_bad b ≡ false → (j : ℕ) → j < suc k → is_bad (get_or (b ∷ bs) j 0) ≡ false
        before k h e zero u = e
        before k h e (suc j) u = h.first j (omega arith)

    here : is_bad b ≡ true → FirstBad (b ∷ bs) (i - i)
    here e =
        let z : i - i ≡ 0 = omega arith in
        rw z record { inside = omega arith; bad = e; first = λ j u. absurd (omega arith) }

    by : (t : Bool) → is_bad b ≡ t → (v : Result (Unit {0}) Fault) → BadAt (i + 1) bs v → BadAt i (b ∷ bs) (pick t (Err (fault BadByte i)) v)
    by true e v h = (refl, omega arith, here e)
    by false e (Ok u) h = tt
    by false e (Err f) h = (h.0, omega (arith, h.1), later f.at h.1 e h.2)

-- ---- the value of a line, where it is well-formed

-- 11 and 12 stand at the byte `seen`
abbrev Seen : ℕ → Result Effect Fault → Type 0
Seen seen (Ok e) = Unit {0}
Seen seen (Err f) = (f.at ≡ seen) × ((f.wrong ≡ OutsideRule) ⊎ (f.wrong ≡ TooManyDependencies))

either_seen : (seen : ℕ) (b : Bool) (x y : Result Effect Fault) → Seen seen x → Seen seen y → Seen seen (pick b x y)
either_seen seen true x y h k = h
either_seen seen false x y h k = k

module _ (s : List ℕ) (d : Description) (at seen : ℕ) where
  word_seen : (p : Property) (w : List ℕ) → Seen seen (word_read s d p at seen w)
  unfolding word_read dependency_read
  word_seen KindProperty w = go (kind_of w)
    where
      go : (x : Option ServiceKind) → Seen seen (kind_read seen x)
      go (Some k) = tt
      go None = (refl, inl refl)
  word_seen (Setting n) w = go (setting_of n w d.settings)
    where
      go : (x : Option ServiceSettings) → Seen seen (setting_read seen x)
      go (Some v) = tt
      go None = (refl, inl refl)
  word_seen (Link l) w =
      either_seen seen (is_name w) _ _
      (either_seen seen (known s d l w) _ _ tt (either_seen seen (ltb d.count max_dependencies) _ _ tt (refl, inr refl))) (refl, inl refl)
  word_seen (CommandProperty c) w = (refl, inl refl)
  word_seen Unknown w = (refl, inl refl)

  single_seen : (p : Property) (z : Sizes) (v : List ℕ) → Seen seen (single_read s d p at seen z v)
  single_seen p z v = either_seen seen (is_word z) _ _ (word_seen p (word_of v)) (refl, inl refl)

  tokens_seen : (p : Property) (z : Sizes) (v : List ℕ) → Seen seen (tokens_read s d p at seen z v)
  unfolding tokens_read
  tokens_seen (CommandProperty c) z v = either_seen seen (is_command z) _ _ tt (refl, inl refl)
  tokens_seen KindProperty z v = single_seen KindProperty z v
  tokens_seen (Setting n) z v = single_seen (Setting n) z v
  tokens_seen (Link l) z v = single_seen (Link l) z v
  tokens_seen Unknown z v = single_seen Unknown z v

-- ---- a line of the text s, which begins at `from`

-- its fault stands at the byte that decided
abbrev Decided : List ℕ → Result Effect Fault → Type 0
Decided s (Ok e) = Unit {0}
Decided s (Err f) = (f.at ≤ length s) × Decides s f.at (wrong_number f.wrong)

-- the first byte of a list, by whether a run begins with it
run_none : (p : ℕ → Bool) → p 0 ≡ false → (t : List ℕ) → run p t ≡ 0 → p (get_or t 0 0) ≡ false
unfolding run
run_none p none [] h = none
run_none p none (b ∷ bs) h = by (p b) h
  where
    by : (t : Bool) → pick t (suc (run p bs)) 0 ≡ 0 → t ≡ false
    by true e = absurd (omega arith)
    by false e = refl

run_some : (p : ℕ → Bool) (t : List ℕ) → 0 < run p t → p (get_or t 0 0) ≡ true
unfolding run
run_some p [] h = absurd (omega arith)
run_some p (b ∷ bs) h = by (p b) h
  where
    by : (t : Bool) → 0 < pick t (suc (run p bs)) 0 → t ≡ true
    by true e = refl
    by false e = absurd (omega arith)

-- the byte of a number that is not 0 is in the list
byte_inside : (t : List ℕ) (k n : ℕ) → eqb 0 (suc n) ≡ false → get_or t k 0 ≡ suc n → k < length t
byte_inside t k n none h = class_inside (λ x. eqb x (suc n)) none t k (eq-eqb (get_or t k 0) (suc n) h)

module _ (s : List ℕ) (from : ℕ) where
  abbrev l : List ℕ
  l = line_of (drop from s)

  -- where its name begins and ends, and where its sign is
  abbrev begin : ℕ
  begin = white_end l 0

  abbrev end : ℕ
  end = name_end l begin

  abbrev sign : ℕ
  sign = white_end l end

  begin_in : begin ≤ length l
  begin_in = run_within is_white l 0 zero-le refl

  end_in : end ≤ length l
  end_in = run_within is_property_byte l begin begin_in refl

  sign_in : sign ≤ length l
  sign_in = run_within is_white l end end_in refl

  -- the same places in the text
  white_at : (i : ℕ) → i ≤ length l → white_end s (from + i) ≡ from + white_end l i
  white_at i h = omega (arith, run_at is_white refl s from i h)

  first_at_lem : first_at s from ≡ from + begin
  first_at_lem = let z : from + 0 ≡ from = omega arith in sym (ap (white_end s) z) ∙ white_at 0 zero-le

  sign_at_lem : sign_at s from ≡ from + sign
  sign_at_lem =
      let n : name_end s (from + begin) ≡ from + end = omega (arith, run_at is_property_byte refl s from begin begin_in) in
      rw (first_at_lem, n, white_at end end_in)

  rest_at : (i : ℕ) → i ≤ length l → drop i l ≡ line_of (drop (from + i) s)
  rest_at i h = drop_line i (drop from s) h ∙ ap line_of (drop-drop i from s)

  -- whether a name begins there
  name_at_lem : {t : Bool} → is_property_byte (get_or (drop begin l) 0 0) ≡ t → is_property_byte (get_or s (from + begin) 0) ≡ t
  name_at_lem h =
      let z : begin + 0 ≡ begin = omega arith in
      sym (class_at is_property_byte refl refl s from begin begin_in)
      ∙ ap (λ (k : ℕ). is_property_byte (get_or l k 0)) (sym z)
      ∙ ap is_property_byte (sym (get_or-drop begin l 0 0))
      ∙ h

  signed_at : {t : Bool} → is_sign (get_or l sign 0) ≡ t → is_sign (get_or s (from + sign) 0) ≡ t
  signed_at h = sym (class_at is_sign refl refl s from sign sign_in) ∙ h

  module _ (u : from < length s) (start : is_start s from ≡ true) where
    line_in : from + length l ≤ length s
    line_in = end_fits s from u refl

    -- a fault in the value, whose bytes are neither 0 nor newlines; p is its place there
    module _ (g : is_sign (get_or l sign 0) ≡ true) where
      value_byte : (p n : ℕ) → eqb 10 (suc n) ≡ false → eqb 0 (suc n) ≡ false → get_or (drop (sign + 1) l) p 0 ≡ suc n
          → InValue s (from + (sign + 1) + p) × (from + (sign + 1) + p < length s) × (get_or s (from + (sign + 1) + p) 0 ≡ suc n)
      value_byte p n a b h =
          let e : get_or l (sign + 1 + p) 0 ≡ suc n = sym (get_or-drop (sign + 1) l p 0) ∙ h in
          let k : sign + 1 + p < length l = byte_inside l (sign + 1 + p) n b e in
          let z : from + (sign + 1 + p) ≡ from + (sign + 1) + p = omega arith in
          let t = sym (class_at (λ x. eqb x (suc n)) a b s from (sign + 1 + p) (omega arith)) ∙ eq-eqb (get_or l (sign + 1 + p) 0) (suc n) e in (
            record {
              from = from;
              start = start;
              signed = rw sign_at_lem (signed_at g);
              after = omega (arith, sign_at_lem);
              line = λ i u v. on i u (omega arith);
            },
            omega (arith, line_in),
            subst (λ (j : ℕ). get_or s j 0 ≡ suc n) z (eqb-true (get_or s (from + (sign + 1 + p)) 0) (suc n) t),
          )
        where
          on : (i : ℕ) → from ≤ i → i < from + length l → is_end s i ≡ false
          on i u v =
              let z : from + (i - from) ≡ i = omega arith in
              subst (λ (j : ℕ). is_end s j ≡ false) z (line_goes_on_at s from (i - from) (omega arith))

      value_decided : (p n : ℕ) → Deciding (drop (sign + 1) l) p n → (from + (sign + 1) + p ≤ length s) × Decides s (from + (sign + 1) + p) n
      value_decided p n (misplaced h) = let b = value_byte p 34 refl refl h in (omega (arith, b.1), hash b.0 b.2)
      value_decided p n (unclosed h e) =
          let b = value_byte p 33 refl refl h in
          let k : p < length (drop (sign + 1) l) = byte_inside (drop (sign + 1) l) p 33 refl h in
          let i : sign + 1 + (p + 1) ≤ length l = omega (arith, length-drop (sign + 1) l) in
          let z : from + (sign + 1 + (p + 1)) ≡ from + (sign + 1) + p + 1 = omega arith in
          let left = drop-drop (p + 1) (sign + 1) l ∙ rest_at (sign + 1 + (p + 1)) i ∙ ap (λ (j : ℕ). line_of (drop j s)) z in
          (omega (arith, b.1), quote b.0 b.2 (sym (ap closes left) ∙ e))
      value_decided p n (slash h e) =
          let b = value_byte p 91 refl refl h in
          let k : p < length (drop (sign + 1) l) = byte_inside (drop (sign + 1) l) p 91 refl h in
          let z : from + length l ≡ from + (sign + 1) + p + 1 = omega (arith, length-drop (sign + 1) l) in
          (omega (arith, b.1), backslash b.0 b.2 (subst (λ (j : ℕ). is_end s j ≡ true) z (line_ends_at s from)))

    -- the rule of its property, after the sign
    seen_decided : (r : Result Effect Fault) → is_sign (get_or l sign 0) ≡ true → Seen (from + white_end l (sign + 1)) r → Decided s r
    seen_decided (Ok e) g h = tt
    seen_decided (Err f) g h = (omega (arith, h.0, line_in, run_within is_white l (sign + 1) after refl), by h.1)
      where
        after : sign + 1 ≤ length l
        after = omega (arith, class_inside is_sign refl l sign g)

        signed : is_sign (get_or s (sign_at s from) 0) ≡ true
        signed = rw sign_at_lem (signed_at g)

        first : f.at ≡ white_end s (sign_at s from + 1)
        first =
            let z : from + (sign + 1) ≡ sign_at s from + 1 = omega (arith, sign_at_lem) in
            h.0 ∙ sym (white_at (sign + 1) after) ∙ ap (white_end s) z

        by : (f.wrong ≡ OutsideRule) ⊎ (f.wrong ≡ TooManyDependencies) → Decides s f.at (wrong_number f.wrong)
        by (inl e) = rw e (value from start signed first)
        by (inr e) = rw e (seventeenth from start signed first)

    module _ (d : Description) where
      -- a line that has name and sign
      named_decided : eqb begin end ≡ false → is_sign (get_or l sign 0) ≡ true → (p : Property)
          → Decided s (property_read s d from l (record { from = begin; end = end; value = sign + 1 }) p)
      unfolding property_read
      named_decided e g p = by (is_unknown p) (scan_of v) (scan_faulty v)
        where
          v : List ℕ
          v = drop (sign + 1) l

          begun : is_property_byte (get_or s (from + begin) 0) ≡ true
          begun = name_at_lem (run_some is_property_byte (drop begin l) (omega (arith, eqb-false begin end e)))

          by : (b : Bool) (x : Result Sizes Fault) → ScanFaulty v x
              → Decided s (pick b (Err (fault UnknownProperty (from + begin))) (scan_read s d p (from + (sign + 1)) (from + white_end l (sign + 1)) x v))
          by true x h = (omega (arith, line_in, begin_in), name from start (sym first_at_lem) begun)
          by false (Ok z) h =
              let at = from + (sign + 1) in
              let seen = from + white_end l (sign + 1) in
              seen_decided (tokens_read s d p at seen z v) g (tokens_seen s d at seen p z v)
          by false (Err f) h = value_decided g f.at (wrong_number f.wrong) h

      -- a line that says something and has no name
      nameless_decided : says_nothing l begin ≡ false → eqb begin end ≡ true → Decides s (from + begin) 7
      nameless_decided e g =
          let h = (or_false (leb (length l) begin) (eqb (get_or l begin 0) 35)).0 e in
          let none : run is_property_byte (drop begin l) ≡ 0 = omega (arith, eqb-true begin end g) in
          no_name from start (sym first_at_lem) (line_goes_on_at s from begin (leb-false (length l) begin h.0))
          (sym (class_at (λ x. eqb x 35) refl refl s from begin begin_in) ∙ h.1)
          (name_at_lem (run_none is_property_byte refl (drop begin l) none))

      line_decided : Decided s (line_read s d from l)
      unfolding line_read opening
      line_decided = by (says_nothing l begin) (eqb begin end) (is_sign (get_or l sign 0)) refl refl refl
        where
          by : (x y z : Bool) → says_nothing l begin ≡ x → eqb begin end ≡ y → is_sign (get_or l sign 0) ≡ z
              → Decided s (opening_read s d from l (pick x (Ok None) (pick y (Err (fault Malformed begin))
              (pick z (Ok (Some (record { from = begin; end = end; value = sign + 1 }))) (Err (fault Malformed sign))))))
          by true y z h e g = tt
          by false true z h e g = (omega (arith, line_in, begin_in), nameless_decided h e)
          by false false true h e g = named_decided e g (property_of (part_of l begin end))
          by false false false h e g = (omega (arith, line_in, sign_in), no_sign from start (sym sign_at_lem) (signed_at g))

-- ---- a text

-- its fault stands at the byte that decided, where one does
pub record Placed (s : List ℕ) (at number : ℕ) : Type 0 where
  pub inside : at ≤ length s
  pub decides : Decides s at number

abbrev TextDecided : {A : Type 0} → List ℕ → Result A Fault → Type 0
TextDecided s (Ok x) = Unit {0}
TextDecided s (Err f) = has_byte (wrong_number f.wrong) ≡ true → Placed s f.at (wrong_number f.wrong)

completion_decided : (s : List ℕ) (d : Description) → TextDecided s (completion d)
unfolding completion
completion_decided s d = by (not d.typed) (needs_command d.settings.kind && is_none d.kept.command)
  where
    by : (x y : Bool) → TextDecided s (pick x (Err (fault NoType 0)) (pick y (Err (fault NoCommand 0)) (Ok (tt {0}))))
    by true y = λ e. no_ft e
    by false true = λ e. no_ft e
    by false false = tt

checked_decided : (s : List ℕ) (c : Result (Unit {0}) Fault) (r : Result Description Fault) → TextDecided s c → TextDecided s r → TextDecided s (checked c r)
checked_decided s (Ok u) r h k = k
checked_decided s (Err f) r h k = h

-- lines are left, so a byte is
lines_left : (s : List ℕ) (from : ℕ) {l : List ℕ} {ls : List (List ℕ)} → lines_of (drop from s) ≡ l ∷ ls → from < length s
unfolding lines_of
lines_left s from {l} {ls} e = by (leb (length s) from) refl
  where
    by : (b : Bool) → leb (length s) from ≡ b → from < length s
    by false h = leb-false (length s) from h
    by true h =
        let n : length (lines_of (drop from s)) ≡ 0 = ap (λ (t : List ℕ). length (lines_of t)) (drop_of_length-le s (leb-true (length s) from h)) in
        absurd (omega (arith, n, ap length e))

-- the line after a line begins after its newline
next_start : (s : List ℕ) (from : ℕ) → from + length (line_of (drop from s)) + 1 < length s → is_start s (from + length (line_of (drop from s)) + 1) ≡ true
next_start s from h =
    let k = from + length (line_of (drop from s)) in
    let z : k + 1 - 1 ≡ k = omega arith in
    let newline : is_newline (get_or s k 0) ≡ true = ap (λ (b : Bool). b || is_newline (get_or s k 0)) (sym (lt-leb (length s) k (omega arith))) ∙ line_ends_at s from in
    rw (z, newline) (or-true (eqb (k + 1) 0))

lines_decided : (s : List ℕ) (d : Description) (from : ℕ) (ls : List (List ℕ)) → lines_of (drop from s) ≡ ls → (from < length s → is_start s from ≡ true)
    → TextDecided s (lines_read s d from ls)
unfolding lines_read
lines_decided s d from [] e g = checked_decided s (completion d) (Ok d) (completion_decided s d) tt
lines_decided s d from (l ∷ ls) e g =
    go (line_read s d from l) decided (λ d'. lines_decided s d' (from + length l + 1) ls rest start)
  where
    u : from < length s
    u = lines_left s from e

    split : l ∷ ls ≡ line_of (drop from s) ∷ lines_of (drop (suc (length (line_of (drop from s)))) (drop from s))
    split = sym e ∙ lines_split (drop from s) (omega (arith, u, length-drop from s))

    is : l ≡ line_of (drop from s)
    is = ap (λ (x : List (List ℕ)). get_or x 0 []) split

    rest : lines_of (drop (from + length l + 1) s) ≡ ls
    rest =
        let z : from + suc (length (line_of (drop from s))) ≡ from + length l + 1 = omega (arith, ap length is) in
        sym (ap (λ (x : List (List ℕ)). drop 1 x) split ∙ ap lines_of (drop-drop (suc (length (line_of (drop from s)))) from s ∙ ap (λ (k : ℕ). drop k s) z))

    start : from + length l + 1 < length s → is_start s (from + length l + 1) ≡ true
    start = subst (λ (x : List ℕ). from + length x + 1 < length s → is_start s (from + length x + 1) ≡ true) (sym is) (next_start s from)

    decided : Decided s (line_read s d from l)
    decided = subst (λ (x : List ℕ). Decided s (line_read s d from x)) (sym is) (line_decided s from u (g u) d)

    go : (r : Result Effect Fault) → Decided s r → ((d' : Description) → TextDecided s (lines_read s d' (from + length l + 1) ls))
        → TextDecided s (read_on r d (λ d'. lines_read s d' (from + length l + 1) ls))
    go (Ok x) k on = on (affected d x)
    go (Err f) k on = λ _. record { inside = k.0; decides = k.1 }

bad_decided : (s : List ℕ) (v : Result (Unit {0}) Fault) → BadAt 0 s v → TextDecided s v
bad_decided s (Ok u) h = tt
bad_decided s (Err f) h = λ _. let z : f.at - 0 ≡ f.at = omega arith in let b = subst (λ (k : ℕ). FirstBad s k) z h.2 in record {
  inside = omega (arith, b.inside);
  decides = rw h.0 (bad_byte b.inside b.bad b.first);
}

text_decided : (s : List ℕ) → TextDecided s (text_read s)
unfolding text_read
text_decided s =
    checked_decided s (bad_from 0 s) (lines_read s blank 0 (lines_of s)) (bad_decided s (bad_from 0 s) (bad_at 0 s))
    (lines_decided s blank 0 (lines_of s) refl (λ _. refl))

pub text_placed : (s : List ℕ) {f : Fault} → text_read s ≡ Err f → has_byte (wrong_number f.wrong) ≡ true → Placed s f.at (wrong_number f.wrong)
text_placed s e h = subst (λ (v : Result Description Fault). TextDecided s v) e (text_decided s) h
