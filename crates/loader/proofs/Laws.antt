-- The laws of the load's passes, as the code goes through them. t is the text of service j and d its description.
use Prim.Native.Nat.{◌+◌, ◌-◌, ◌<◌, ◌≤◌, suc, zero, zero-le, ℕ}
use borrow.Author.Tests.{ltb-false}
use lib.Dec.{ltb}
use lib.ListN.{length, set}
use mathlib.Core.Bool.{Bool, ◌||◌, false, true}
use mathlib.Core.List.{List}
use mathlib.Core.Path.{◌∙◌, ◌≡◌, ap, refl, sym}
use native.Mathlib.Nat.{eq-or-lt_of_le}
use native.Mathlib.Omega.{arith}
use Rattle.std.specs.Prelude.{Err, Ok, Result}
use Rattle.base.specs.Folds.{pick}
use Rattle.base.proofs.Counting.{one_left}
use Rattle.base.proofs.Tests.{either}
use Rattle.load_text.specs.declared.Fault.{Fault}
use Rattle.load_description.specs.Texts.{text_read}
use Rattle.load_description.specs.declared.Description.{Description}
use Rattle.loader.specs.Short.{Short}
use Rattle.loader.specs.Texts.{descriptions_from}
use Rattle.load_lent.specs.Checks.{longest_text, longest_texts, sizes_from}
use Rattle.load_lent.specs.Refusals.{bare, in_text, refused_in}
use Rattle.load_lent.specs.declared.Refused.{Refused}
use Rattle.load_lent.proofs.Results.{mapped_err, mapped_ok}

-- ---- 5: no text is long

sizes_from_lem : (text : ℕ → List ℕ) (t j m i : ℕ) → sizes_from text t j m ≡ Ok tt → j ≤ i → i < j + m → length (text i) ≤ longest_text
unfolding sizes_from
sizes_from_lem text t j zero i e a b = omega arith
sizes_from_lem text t j (suc m) i e a b =
    by (ltb longest_text (length (text j))) (ltb longest_texts (t + length (text j))) refl e
    (λ r k. sizes_from_lem text (t + length (text j)) (j + 1) m i r (omega arith) (omega arith))
  where
    by : (x y : Bool) → ltb longest_text (length (text j)) ≡ x
        → pick (x || y) (Err (bare 5 j)) (sizes_from text (t + length (text j)) (j + 1) m) ≡ Ok tt
        → (sizes_from text (t + length (text j)) (j + 1) m ≡ Ok tt → j < i → length (text i) ≤ longest_text) → length (text i) ≤ longest_text
    by true y q r on = cc
    by false true q r on = cc
    by false false q r on = either (eq-or-lt_of_le a) (λ (k : j ≡ i). rw (← k) (ltb-false longest_text (length (text j)) q)) (λ (k : j < i). on r k)

pub sizes_short : (text : ℕ → List ℕ) (n : ℕ) → sizes_from text 0 0 n ≡ Ok tt → Short text n
sizes_short text n e = record { each = λ j l. sizes_from_lem text 0 0 n j e zero-le (omega arith) }

-- ---- the texts in turn: those before j are read, as ds, put into the places none

pub record Reading (text : ℕ → List ℕ) (n : ℕ) (none ds : List Description) (j : ℕ) : Type 0 where
  pub within : j ≤ n
  pub rest : descriptions_from text none 0 n ≡ descriptions_from text ds j (n - j)

module _ {text : ℕ → List ℕ} {n : ℕ} {none ds : List Description} {j : ℕ} (k : Reading text n none ds j) where
  pub reading_all : n ≤ j → Ok ds ≡ descriptions_from text none 0 n
  unfolding descriptions_from
  reading_all h =
      let z : n - j ≡ 0 = omega arith in
      sym (k.rest ∙ rw z)

  module _ (h : j < n) {t : List ℕ} (ti : t ≡ text j) {r : Result Description Fault} (e : r ≡ text_read t) where
    abbrev onward : List ℕ → Result Description Fault → Result (List Description) Refused
    onward u q = in_text u j q (λ d. descriptions_from text (set ds j d) (j + 1) (n - (j + 1)))

    step : descriptions_from text ds j (n - j) ≡ onward t r
    unfolding descriptions_from
    step = rw (one_left n j h) refl ∙ (ap (λ (u : List ℕ). onward u (text_read u)) (sym ti) ∙ ap (onward t) (sym e))

    pub reading_more : {d : Description} → r ≡ Ok d → Reading text n none (set ds j d) (j + 1)
    reading_more g = record { within = omega arith; rest = k.rest ∙ (step ∙ ap (onward t) g) }

    pub reading_bad : {f : Fault} → r ≡ Err f → {o : Refused} → o ≡ refused_in t j f → Err o ≡ descriptions_from text none 0 n
    reading_bad g q = ap Err q ∙ sym (k.rest ∙ (step ∙ ap (onward t) g))

-- ---- what the loop over the texts goes by

pub ruleset reading = (reading_more, reading_bad, reading_all, mapped_ok, mapped_err)
