-- W-201: every refusal of a load points at the byte that decided, where one did: pass by pass, in the order of the load.
use Prim.Native.Nat.{ℕ, zero, suc, ◌+◌}
use borrow.Author.Tests.{eq-eqb}
use lib.Dec.{eqb, leb, ltb}
use lib.ListN.{length, replicate, set}
use mathlib.Core.Bool.{Bool, ◌||◌, false, true}
use mathlib.Core.List.{List}
use mathlib.Core.Path.{◌≡◌, refl, subst}
use Rattle.std.specs.Prelude.{Err, Ok, Result}
use Rattle.base.specs.Folds.{pick}
use Rattle.base.proofs.Lists.{copies_hold, set_holds}
use Rattle.base.proofs.Tests.{not_both}
use Rattle.service.specs.Limits.{max_services}
use Rattle.service.specs.Settings.{default_settings}
use Rattle.service.specs.declared.Settings.{Settings}
use Rattle.load_text.specs.Lines.{fault}
use Rattle.load_text.specs.Numbers.{wrong_number}
use Rattle.load_text.specs.declared.Fault.{Fault}
use Rattle.load_text.specs.declared.Wrong.TheVariants.{NoSuchService}
use Rattle.load_text.proofs.Offsets.{line_and_column_tell}
use Rattle.load_word.specs.Words.{is_name}
use Rattle.load_description.specs.Settings.{blank, dependency_at, description_at, max_dependencies, word_at}
use Rattle.load_description.specs.Texts.{text_read}
use Rattle.load_description.specs.declared.Description.{Description}
use Rattle.load_lent.specs.Checks.{find, longest_text, longest_texts, names_from, sizes_from}
use Rattle.load_lent.specs.Parts.{name_at, positioned, service_count, text_at}
use Rattle.load_lent.specs.Refusals.{Answer, column_of_fault, has_byte, in_text, line_of_fault}
use Rattle.load_lent.specs.declared.Refused.{Refused}
use Rattle.load_links.specs.Links.{links_from, links_in, lowest_cyclic, no_links, services_from, settings_of, with_link}
use Rattle.load_links.specs.declared.Links.{Links}
use Rattle.loader.specs.Load.{Outcome, acyclic, load, load_set, load_texts, passed, stored, tested}
use Rattle.loader.specs.Texts.{descriptions_from, no_descriptions}
use Rattle.loader.specs.Tokens.{bytes_from}
use Rattle.loader.proofs.Outcomes.{set_services}
use Rattle.guarantee.specs.Refusals.{RefusalsPoint, Told}
use Rattle.guarantee.proofs.Deciding.{Placed, text_placed}
use Rattle.guarantee.proofs.Values.{text_few}

-- ---- one refusal

-- a number that has neither byte nor line
bare_told : (s : List ℕ) {k : ℕ} → has_byte k ≡ false → eqb k 15 ≡ false → Told s k 0 0
bare_told s {k} h g = record {
  met = λ e. absurd (not_both e h);
  absent = λ e. absurd (not_both (eq-eqb k 15 e) g);
  bare = λ _ _. (refl, refl);
}

fault_told : (s : List ℕ) (f : Fault) → (has_byte (wrong_number f.wrong) ≡ true → Placed s f.at (wrong_number f.wrong))
    → Told s (wrong_number f.wrong) (line_of_fault s f) (column_of_fault s f)
fault_told s f on = record {
  met = λ h. let p = on h in rw h record {
    at = f.at;
    inside = p.inside;
    stands = line_and_column_tell s f.at;
    decides = p.decides;
  };
  absent = λ e. rw e ((line_and_column_tell s f.at).line_from_1, refl);
  bare = λ h g. rw (h, g) (refl, refl);
}

-- ---- the passes, over the texts of the set

abbrev AnswerTold : {A : Type 0} → (ℕ → List ℕ) → Result A Refused → Type 0
AnswerTold text (Ok x) = Unit {0}
AnswerTold text (Err r) = Told (text r.service) r.number r.line r.column

module _ (text : ℕ → List ℕ) where
  either_told : (b : Bool) (x y : Answer) → AnswerTold text x → AnswerTold text y → AnswerTold text (pick b x y)
  either_told true x y h k = h
  either_told false x y h k = k

  names_told : (name : ℕ → List ℕ) (j m : ℕ) → AnswerTold text (names_from name j m)
  unfolding names_from
  names_told name j zero = tt
  names_told name j (suc m) =
      either_told (is_name (name j)) _ _
      (either_told (ltb (find name j (name j)) j) _ _ (bare_told (text j) refl refl) (names_told name (j + 1) m))
      (bare_told (text j) refl refl)

  sizes_told : (t j m : ℕ) → AnswerTold text (sizes_from text t j m)
  unfolding sizes_from
  sizes_told t j zero = tt
  sizes_told t j (suc m) =
      either_told (ltb longest_text (length (text j)) || ltb longest_texts (t + length (text j))) _ _
      (bare_told (text j) refl refl) (sizes_told (t + length (text j)) (j + 1) m)

  descriptions_told : (ds : List Description) (j m : ℕ) → AnswerTold text (descriptions_from text ds j m)
  unfolding descriptions_from
  descriptions_told ds j zero = tt
  descriptions_told ds j (suc m) = go (text_read (text j)) refl (λ d. descriptions_told (set ds j d) (j + 1) m)
    where
      go : (r : Result Description Fault) → text_read (text j) ≡ r → ((d : Description) → AnswerTold text (descriptions_from text (set ds j d) (j + 1) m))
          → AnswerTold text (in_text (text j) j r (λ d. descriptions_from text (set ds j d) (j + 1) m))
      go (Ok d) e on = on d
      go (Err f) e on = fault_told (text j) f (text_placed (text j) e)

-- every description has been read, and so has no more than 16 dependencies
abbrev AllFew : List Description → Type 0
AllFew ds = (i : ℕ) → leb (description_at ds i).count max_dependencies ≡ true

abbrev Few : Result (List Description) Refused → Type 0
Few (Ok ds) = AllFew ds
Few (Err r) = Unit {0}

descriptions_few : (text : ℕ → List ℕ) (ds : List Description) (j m : ℕ) → AllFew ds → Few (descriptions_from text ds j m)
unfolding descriptions_from
descriptions_few text ds j zero h = h
descriptions_few text ds j (suc m) h = go (text_read (text j)) refl (λ d. descriptions_few text (set ds j d) (j + 1) m)
  where
    go : (r : Result Description Fault) → text_read (text j) ≡ r → ((d : Description) → AllFew (set ds j d) → Few (descriptions_from text (set ds j d) (j + 1) m))
        → Few (in_text (text j) j r (λ d. descriptions_from text (set ds j d) (j + 1) m))
    go (Ok d) e on = on d (λ i. set_holds (λ d. leb d.count max_dependencies ≡ true) ds j i d blank (λ _. text_few (text j) e) (h i))
    go (Err f) e on = tt

-- so 15 is the only number for its dependencies
abbrev Only15 : Result Links Fault → Type 0
Only15 (Ok l) = Unit {0}
Only15 (Err f) = f.wrong ≡ NoSuchService

links_15 : (name : ℕ → List ℕ) (n : ℕ) (s : List ℕ) (d : Description) (l : Links) (k m : ℕ) → Only15 (links_from name n s d l k m)
unfolding links_from
links_15 name n s d l k zero = tt
links_15 name n s d l k (suc m) = go (ltb i n) (links_15 name n s d (with_link l (dependency_at d k).link i) (k + 1) m)
  where
    i : ℕ
    i = find name n (word_at s (dependency_at d k).at)

    go : (b : Bool) → Only15 (links_from name n s d (with_link l (dependency_at d k).link i) (k + 1) m)
        → Only15 (pick b (links_from name n s d (with_link l (dependency_at d k).link i) (k + 1) m) (Err (fault NoSuchService (dependency_at d k).at)))
    go true h = h
    go false h = refl

few_15 : (name : ℕ → List ℕ) (n : ℕ) (s : List ℕ) (d : Description) → leb d.count max_dependencies ≡ true → Only15 (links_in name n s d)
unfolding links_in
few_15 name n s d e = rw e (links_15 name n s d no_links 0 d.count)

services_told : (name text : ℕ → List ℕ) (ds : List Description) (n : ℕ) (vs : List Settings) (j m : ℕ) → AllFew ds → AnswerTold text (services_from name text ds n vs j m)
unfolding services_from
services_told name text ds n vs j zero h = tt
services_told name text ds n vs j (suc m) h =
    go (links_in name n (text j) d) (few_15 name n (text j) d (h j)) (λ l. services_told name text ds n (set vs j (settings_of d l)) (j + 1) m h)
  where
    d : Description
    d = description_at ds j

    go : (r : Result Links Fault) → Only15 r → ((l : Links) → AnswerTold text (services_from name text ds n (set vs j (settings_of d l)) (j + 1) m))
        → AnswerTold text (in_text (text j) j r (λ l. services_from name text ds n (set vs j (settings_of d l)) (j + 1) m))
    go (Ok l) e on = on l
    go (Err f) e on = fault_told (text j) f (λ b. absurd (not_both b (rw e)))

-- ---- the load

module _ (text : ℕ → List ℕ) (buffer : List ℕ) where
  pass_told : {A : Type 0} (a : Result A Refused) (on : A → Outcome) → AnswerTold text a → ((x : A) → a ≡ Ok x → AnswerTold text (on x).loaded.answer)
      → AnswerTold text (passed buffer a on).loaded.answer
  pass_told (Ok x) on h k = k x refl
  pass_told (Err r) on h k = h

  test_told : (b : Bool) (n s : ℕ) (o : Outcome) → has_byte n ≡ false → eqb n 15 ≡ false → AnswerTold text o.loaded.answer → AnswerTold text (tested buffer b n s o).loaded.answer
  test_told true n s o h g k = k
  test_told false n s o h g k = bare_told (text s) h g

load_told : (lent ends buffer : List ℕ) → AnswerTold (text_at lent ends) (load lent ends buffer).loaded.answer
unfolding load load_set load_texts acyclic stored
load_told lent ends buffer =
    test_told text buffer (leb n max_services) 1 0 _ refl refl
    (test_told text buffer (positioned lent ends) 2 0 _ refl refl
    (pass_told text buffer (names_from (name_at lent ends) 0 n) _ (names_told text (name_at lent ends) 0 n) λ _ _.
    pass_told text buffer (sizes_from text 0 0 n) _ (sizes_told text 0 0 n) λ _ _.
    pass_told text buffer (descriptions_from text no_descriptions 0 n) _ (descriptions_told text no_descriptions 0 n) λ ds read.
    pass_told text buffer (set_services lent ends ds) _
    (services_told (name_at lent ends) text ds n (replicate max_services default_settings) 0 n (subst Few read few)) λ vs _.
    test_told text buffer (leb n (lowest_cyclic vs n)) 16 (lowest_cyclic vs n) _ refl refl
    (test_told text buffer (leb (length (bytes_from text ds 0 n)) (length buffer)) 25 0 _ refl refl tt)))
  where
    n : ℕ
    n = service_count ends

    text : ℕ → List ℕ
    text = text_at lent ends

    few : Few (descriptions_from text no_descriptions 0 n)
    few = descriptions_few text no_descriptions 0 n (λ i. copies_hold (λ d. leb d.count max_dependencies ≡ true) max_services i blank blank refl refl)

pub refusals_point : RefusalsPoint
refusals_point lent ends tokens r e = subst (λ (a : Answer). AnswerTold (text_at lent ends) a) e (load_told lent ends tokens)
