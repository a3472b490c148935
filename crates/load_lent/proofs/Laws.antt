-- The laws of the lent positions, names and sizes, as loops go through them.
use Prim.Native.Nat.{◌*◌, ◌+◌, ◌-◌, ◌<◌, ◌≤◌, ℕ}
use borrow.Author.Tests.{le-ltb, lt-ltb}
use lib.Dec.{eqb, leb, ltb}
use lib.ListN.{get_or-eq_default, drop, drop_of_length-le, get_or, length, take}
use mathlib.Core.Bool.{Bool, ◌&&◌, false, true, or-true}
use mathlib.Core.List.{List, []}
use mathlib.Core.Path.{◌∙◌, ◌≡◌, ap, refl, sym}
use native.Mathlib.Omega.{arith}
use Rattle.std.specs.Prelude.{Ok, Err}
use Rattle.base.proofs.Counting.{drop_more, one_left}
use Rattle.base.specs.Folds.{pick}
use Rattle.load_text.specs.Strings.{part_of}
use Rattle.load_word.specs.Words.{is_name}
use Rattle.load_lent.specs.Checks.{find, longest_text, longest_texts, names_from, sizes_from}
use Rattle.load_lent.specs.Parts.{name_at, name_start, rises_to, text_at, service_count}
use Rattle.load_lent.specs.Refusals.{bare}
use Rattle.load_lent.specs.declared.Refused.{Refused}
use Rattle.load_lent.proofs.Search.{found_some}

-- ---- the positions

module _ (m p : ℕ) (s : List ℕ) (k : ℕ) where
  pub rises_end : length s ≤ k → rises_to m p (drop k s) ≡ eqb p m
  unfolding rises_to
  rises_end h = rw (drop_of_length-le s h)

  pub rises_next : {t : Bool} → k < length s → leb p (get_or s k 0) ≡ t → rises_to m p (drop k s) ≡ (t && rises_to m (get_or s k 0) (drop (k + 1) s))
  unfolding rises_to
  rises_next h e = rw (drop_more s k 0 h, e)

-- ---- past the last service

-- a part that ends where the bytes begin
part_none : (l : List ℕ) (a : ℕ) → [] ≡ part_of l a 0
unfolding part_of
part_none l a = by (leb a 0) (leb 0 (length l))
  where
    none : [] ≡ take (0 - a) (drop a l)
    none =
        let z : 0 - a ≡ 0 = omega arith in
        rw z

    by : (x y : Bool) → [] ≡ pick x (pick y (take (0 - a) (drop a l)) []) []
    by true true = none
    by true false = refl
    by false y = refl

pub name_past : (lent ends : List ℕ) (j : ℕ) → service_count ends < j → [] ≡ name_at lent ends j
unfolding name_at
name_past lent ends j h = part_none lent (name_start ends j) ∙ ap (part_of lent (name_start ends j)) (sym (get_or-eq_default ends 0 (omega arith)))

pub text_past : (lent ends : List ℕ) (j : ℕ) → service_count ends ≤ j → [] ≡ text_at lent ends j
unfolding text_at
text_past lent ends j h =
    part_none lent (get_or ends (2 * j) 0) ∙ ap (part_of lent (get_or ends (2 * j) 0)) (sym (get_or-eq_default ends 0 (omega arith)))

-- ---- names: those before j are good; w is the name of service j as the code has it

pub record NamesLeft (name : ℕ → List ℕ) (n j : ℕ) : Type 0 where
  pub within : j ≤ n
  pub rest : names_from name 0 n ≡ names_from name j (n - j)

module _ {name : ℕ → List ℕ} {n j : ℕ} (k : NamesLeft name n j) where
  pub names_all : n ≤ j → Ok tt ≡ names_from name 0 n
  unfolding names_from
  names_all h =
      let z : n - j ≡ 0 = omega arith in
      sym (k.rest ∙ rw z)

  module _ (l : j < n) {w : List ℕ} (is : w ≡ name j) {g : Bool} (e : g ≡ is_name w) where
    pub names_bad : g ≡ false → {r : Refused} → r ≡ bare 3 j → Err r ≡ names_from name 0 n
    unfolding names_from
    names_bad f b = ap Err b ∙ sym (k.rest ∙ rw (one_left n j l, ← is, ← e, f))

    module _ {q : Bool} (f : g ≡ true) (h : q ≡ ltb (find name j w) j) where
      pub names_twice : q ≡ true → {r : Refused} → r ≡ bare 4 j → Err r ≡ names_from name 0 n
      unfolding names_from
      names_twice t b = ap Err b ∙ sym (k.rest ∙ rw (one_left n j l, ← is, ← e, f, ← h, t))

      pub names_good : q ≡ false → NamesLeft name n (j + 1)
      unfolding names_from
      names_good t = record { within = omega arith; rest = k.rest ∙ rw (one_left n j l, ← is, ← e, f, ← h, t) }

-- ---- sizes: those before j are good, and t is their total; w is the text of service j as the code has it

pub record SizesLeft (text : ℕ → List ℕ) (n t j : ℕ) : Type 0 where
  pub within : j ≤ n
  pub few : t ≤ longest_texts
  pub rest : sizes_from text 0 0 n ≡ sizes_from text t j (n - j)

module _ {text : ℕ → List ℕ} {n t j : ℕ} (k : SizesLeft text n t j) where
  pub sizes_all : n ≤ j → Ok tt ≡ sizes_from text 0 0 n
  unfolding sizes_from
  sizes_all h =
      let z : n - j ≡ 0 = omega arith in
      sym (k.rest ∙ rw z)

  module _ (l : j < n) {w : List ℕ} (is : w ≡ text j) where
    pub sizes_long : longest_text < length w → {r : Refused} → r ≡ bare 5 j → Err r ≡ sizes_from text 0 0 n
    unfolding sizes_from
    sizes_long h b = ap Err b ∙ sym (k.rest ∙ rw (one_left n j l, ← is, lt-ltb longest_text (length w) h))

    pub sizes_many : longest_texts < t + length w → {r : Refused} → r ≡ bare 5 j → Err r ≡ sizes_from text 0 0 n
    unfolding sizes_from
    sizes_many h b =
        ap Err b ∙ sym (k.rest ∙ rw (one_left n j l, ← is, lt-ltb longest_texts (t + length w) h, or-true (ltb longest_text (length w))))

    pub sizes_fit : length w ≤ longest_text → t + length w ≤ longest_texts → SizesLeft text n (t + length w) (j + 1)
    unfolding sizes_from
    sizes_fit h m = record {
      within = omega arith;
      few = m;
      rest = k.rest ∙ rw (one_left n j l, ← is, le-ltb longest_text (length w) h, le-ltb longest_texts (t + length w) m);
    }

-- ---- what the loops go by

pub ruleset rising = (rises_end, rises_next)

pub ruleset naming = (names_all, names_bad, names_good, names_twice, found_some)

pub ruleset sizing = (sizes_all, sizes_fit, sizes_long, sizes_many)
