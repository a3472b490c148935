-- The laws of a load's outcome: the way on after a pass or a test, the refusal in its place, and what holds of every outcome.
use Prim.Native.Nat.{◌<◌, ◌≤◌, ℕ}
use borrow.Author.Tests.{le-leb, leb-true, lt-leb}
use lib.Dec.{leb}
use lib.ListN.{length, replicate}
use lib.Seq.{sets}
use mathlib.Core.Bool.{Bool, false, true}
use mathlib.Core.List.{List}
use mathlib.Core.Path.{◌∙◌, ◌≡◌, ap, refl, sym}
use Rattle.std.specs.Prelude.{Err, None, Ok, Option, Result, Some}
use Rattle.base.specs.Folds.{pick}
use Rattle.service.specs.Limits.{max_services}
use Rattle.service.specs.Settings.{default_settings}
use Rattle.service.specs.declared.Settings.{Settings}
use Rattle.load_description.specs.declared.Description.{Description}
use Rattle.loader.specs.Load.{Outcome, acyclic, load, load_set, load_texts, passed, refused_with, stored, tested, with_descriptions, with_services}
use Rattle.loader.specs.Texts.{descriptions_from, no_descriptions}
use Rattle.load_lent.specs.Checks.{found, names_from, sizes_from}
use Rattle.load_lent.specs.Refusals.{Answer, bare}
use Rattle.load_lent.specs.Parts.{name_at, positioned, service_count, text_at}
use Rattle.load_lent.specs.declared.Refused.{Refused}
use Rattle.load_lent.proofs.Search.{found_at, found_none}
use Rattle.load_links.specs.Links.{lowest_cyclic, services_from, services_in}
use Rattle.loader.specs.Tokens.{bytes_from, commands_from, no_commands}
use Rattle.loader.specs.declared.Placed.{Placed}
use Rattle.loader.proofs.Laws.{sizes_short}

-- ---- the last: 25

module _ (text : ℕ → List ℕ) (buffer : List ℕ) (n : ℕ) (ds : List Description) (vs : List Settings) where
  module _ {p : Placed} (e : p ≡ record { commands = commands_from text ds 0 no_commands 0 n; room = length (bytes_from text ds 0 n) }) where
    pub stored_fits : p.room ≤ length buffer → {b : List ℕ} → b ≡ sets buffer 0 (bytes_from text ds 0 n) → {k : ℕ} → k ≡ n
        → record { loaded = record { answer = Ok tt; table = record { count = k; services = vs }; commands = p.commands }; buffer = b }
        ≡ stored text buffer n ds vs
    unfolding stored
    stored_fits h {b} q i =
        let fits : length (bytes_from text ds 0 n) ≤ length buffer = rw (← ap (λ (y : Placed). y.room) e) h in
        rw (le-leb (length (bytes_from text ds 0 n)) (length buffer) fits, q, i, e)

    pub stored_small : length buffer < p.room → {r : Refused} → r ≡ bare 25 0 → refused_with buffer r ≡ stored text buffer n ds vs
    unfolding stored
    stored_small h q =
        let small : length buffer < length (bytes_from text ds 0 n) = rw (← ap (λ (y : Placed). y.room) e) h in
        rw (lt-leb (length (bytes_from text ds 0 n)) (length buffer) small, q)

  -- ---- 16

  module _ (h : n ≤ max_services) {o : Option ℕ} (e : o ≡ pick (leb n max_services) (found n (lowest_cyclic vs n)) None) where
    sought_as : o ≡ found n (lowest_cyclic vs n)
    sought_as = e ∙ rw (le-leb n max_services h)

    pub acyclic_on : o ≡ None → acyclic text buffer n ds vs ≡ stored text buffer n ds vs
    unfolding acyclic
    acyclic_on s = rw (le-leb n (lowest_cyclic vs n) (found_none n (lowest_cyclic vs n) (sym s ∙ sought_as)))

    pub acyclic_not : {i : ℕ} → o ≡ Some i → {r : Refused} → r ≡ bare 16 i → acyclic text buffer n ds vs ≡ refused_with buffer r
    unfolding acyclic
    acyclic_not s q =
        let w = found_at n (lowest_cyclic vs n) (sym s ∙ sought_as) in
        rw (← w.0, lt-leb n _ w.1, q)

-- ---- the load: each check in turn, with what the checks before it found

module _ {A : Type 0} (buffer : List ℕ) (on : A → Outcome) {r : Result A Refused} where
  pub pass_on : {x : A} → r ≡ Ok x → passed buffer r on ≡ on x
  pass_on e = ap (λ (q : Result A Refused). passed buffer q on) e

  pub pass_not : {w : Refused} → r ≡ Err w → passed buffer r on ≡ refused_with buffer w
  pass_not e = ap (λ (q : Result A Refused). passed buffer q on) e

module _ (lent ends buffer : List ℕ) where
  abbrev n : ℕ
  n = service_count ends

  abbrev name : ℕ → List ℕ
  name = name_at lent ends

  abbrev text : ℕ → List ℕ
  text = text_at lent ends

  -- a load that comes to an outcome
  abbrev Comes : Outcome → Type 0
  Comes o = load lent ends buffer ≡ o

  pub many : max_services < n → {r : Refused} → r ≡ bare 1 0 → Comes (refused_with buffer r)
  unfolding load
  many h q = rw (lt-leb n max_services h, q)

  -- what each check gives stands here as the code has it
  module _ (few : n ≤ max_services) {p : Bool} (pe : p ≡ positioned lent ends) where
    pub unplaced : p ≡ false → {r : Refused} → r ≡ bare 2 0 → Comes (refused_with buffer r)
    unfolding load
    unplaced e q = rw (le-leb n max_services few, ← pe, e, q)

    module _ (good : p ≡ true) {a : Answer} (ae : a ≡ names_from name 0 n) where
      placed : Comes (passed buffer a (λ u. load_texts name text n buffer))
      unfolding load load_set
      placed = rw (le-leb n max_services few, ← pe, good, ae)

      pub unnamed : {r : Refused} → a ≡ Err r → Comes (refused_with buffer r)
      unnamed e = placed ∙ pass_not buffer _ e

      module _ {u : Unit {0}} (named : a ≡ Ok u) {b : Answer} (be : b ≡ sizes_from text 0 0 n) where
        abbrev read_by : Result (List Description) Refused → Outcome
        read_by r = with_descriptions name text buffer n r

        sized : Comes (passed buffer b (λ u. read_by (descriptions_from text no_descriptions 0 n)))
        unfolding load_texts
        sized = placed ∙ (pass_on buffer _ named ∙ rw be)

        pub oversized : {r : Refused} → b ≡ Err r → Comes (refused_with buffer r)
        oversized e = sized ∙ pass_not buffer _ e

        module _ {v : Unit {0}} (fit : b ≡ Ok v) {d : Result (List Description) Refused} (de : d ≡ descriptions_from text no_descriptions 0 n) where
          read : Comes (read_by d)
          read = sized ∙ (pass_on buffer _ fit ∙ rw de)

          pub unread : {r : Refused} → d ≡ Err r → Comes (refused_with buffer r)
          unread e = read ∙ ap read_by e

          module _ {ds : List Description} (told : d ≡ Ok ds) {m : Result (List Settings) Refused} (me : m ≡ services_in name text ds n) where
            made : m ≡ services_from name text ds n (replicate max_services default_settings) 0 n
            unfolding services_in
            made = me ∙ rw (le-leb n max_services few)

            linked : Comes (with_services text buffer n ds m)
            linked = read ∙ (ap read_by told ∙ ap (λ (r : Result (List Settings) Refused). with_services text buffer n ds r) (sym made))

            pub unlinked : {r : Refused} → m ≡ Err r → Comes (refused_with buffer r)
            unlinked e = linked ∙ pass_not buffer _ e

            module _ {vs : List Settings} (whole : m ≡ Ok vs) {o : Option ℕ} (oe : o ≡ pick (leb n max_services) (found n (lowest_cyclic vs n)) None) where
              cycled : Comes (acyclic text buffer n ds vs)
              cycled = linked ∙ pass_on buffer _ whole

              pub cyclic : {i : ℕ} → o ≡ Some i → {r : Refused} → r ≡ bare 16 i → Comes (refused_with buffer r)
              cyclic e q = cycled ∙ acyclic_not text buffer n ds vs few oe e q

              pub kept : o ≡ None → Comes (stored text buffer n ds vs)
              kept e = cycled ∙ acyclic_on text buffer n ds vs few oe e

-- the way of a load through its checks
pub ruleset checking = (kept, many, oversized, unlinked, unnamed, unplaced, unread, sizes_short)

pub ruleset storing = (stored_fits, stored_small)

-- ---- what holds of every refusal, and of what is stored where no number is due, holds of every load

-- the settings of a lent set, by its descriptions
abbrev pub set_services : List ℕ → List ℕ → List Description → Result (List Settings) Refused
set_services lent ends ds =
    services_from (name_at lent ends) (text_at lent ends) ds (service_count ends) (replicate max_services default_settings) 0 (service_count ends)

-- a lent set has descriptions and settings, and no cycle
pub record Whole (lent ends : List ℕ) (ds : List Description) (vs : List Settings) : Type 0 where
  pub few : service_count ends ≤ max_services
  pub read : descriptions_from (text_at lent ends) no_descriptions 0 (service_count ends) ≡ Ok ds
  pub linked : set_services lent ends ds ≡ Ok vs
  pub acyclic : leb (service_count ends) (lowest_cyclic vs (service_count ends)) ≡ true

abbrev pub set_loaded : List ℕ → List ℕ → List ℕ → List Description → List Settings → Outcome
set_loaded lent ends buffer ds vs = record {
  loaded = record {
    answer = Ok tt;
    table = record { count = service_count ends; services = vs };
    commands = commands_from (text_at lent ends) ds 0 no_commands 0 (service_count ends);
  };
  buffer = sets buffer 0 (bytes_from (text_at lent ends) ds 0 (service_count ends));
}

module _ (P : Outcome → Type 0) (buffer : List ℕ) (refused : (r : Refused) → P (refused_with buffer r)) where
  after_pass : {A : Type 0} (a : Result A Refused) (on : A → Outcome) → ((x : A) → a ≡ Ok x → P (on x)) → P (passed buffer a on)
  after_pass (Ok x) on h = h x refl
  after_pass (Err r) on h = refused r

  after_test : (b : Bool) (k s : ℕ) (o : Outcome) → (b ≡ true → P o) → P (tested buffer b k s o)
  after_test true k s o h = h refl
  after_test false k s o h = refused (bare k s)

  pub every_load : (lent ends : List ℕ) → ((ds : List Description) (vs : List Settings) → Whole lent ends ds vs → P (set_loaded lent ends buffer ds vs))
      → P (load lent ends buffer)
  unfolding load load_set load_texts acyclic stored
  every_load lent ends whole =
      after_test (leb n max_services) 1 0 _ λ few.
      after_test (positioned lent ends) 2 0 _ λ _.
      after_pass (names_from (name_at lent ends) 0 n) _ λ _ _.
      after_pass (sizes_from (text_at lent ends) 0 0 n) _ λ _ _.
      after_pass (descriptions_from (text_at lent ends) no_descriptions 0 n) _ λ ds read.
      after_pass (set_services lent ends ds) _ λ vs linked.
      after_test (leb n (lowest_cyclic vs n)) 16 (lowest_cyclic vs n) _ λ none.
      after_test (leb (length (bytes_from (text_at lent ends) ds 0 n)) (length buffer)) 25 0 _ λ _.
      whole ds vs record { few = leb-true n max_services few; read = read; linked = linked; acyclic = none }
    where
      n : ℕ
      n = service_count ends
