-- Trusted: the load, whole: "Order: 1; 2; all names, 3 then 4 each; all texts, 5; then each text in turn ..; then 15 by service and line; 16; 25."
use Rattle.std.specs.Prelude.{ℕ, Bool, List, Result, Ok, Err, leb, length, replicate}
use Rattle.std.proofs.lemmas.List.Edits.{sets}
use Rattle.base.specs.Folds.{pick}
use Rattle.service.specs.Limits.{max_services}
use Rattle.service.specs.Settings.{default_settings, no_services}
use Rattle.service.specs.declared.Settings.{Settings}
use Rattle.load_description.specs.declared.Description.{Description}
use Rattle.load_lent.specs.declared.Refused.{Refused}
use Rattle.loader.specs.declared.Loaded.{Loaded}
use Rattle.load_lent.specs.Parts.{service_count, positioned, name_at, text_at}
use Rattle.load_lent.specs.Checks.{names_from, sizes_from}
use Rattle.load_lent.specs.Refusals.{bare}
use Rattle.loader.specs.Texts.{no_descriptions, descriptions_from}
use Rattle.load_links.specs.Links.{services_from, lowest_cyclic}
use Rattle.loader.specs.Tokens.{bytes_from, no_commands, commands_from}

-- what a load gives back, and what the lent buffer holds then
pub record Outcome : Type 0 where
  pub loaded : Loaded
  pub buffer : List ℕ

-- "The table beside a refusal is that of no services"
abbrev pub refused : Refused → Loaded
refused r = record { answer = Err r; table = no_services; commands = no_commands }

-- the buffer is as it was
abbrev pub refused_with : List ℕ → Refused → Outcome
refused_with buffer r = record { loaded = refused r; buffer = buffer }

-- the way on after a pass
abbrev pub passed : {A : Type 0} → List ℕ → Result A Refused → (A → Outcome) → Outcome
passed buffer (Ok x) on = on x
passed buffer (Err r) on = refused_with buffer r

-- the way on after a test: else a refusal of no line
abbrev pub tested : List ℕ → Bool → ℕ → ℕ → Outcome → Outcome
tested buffer test n s on = pick test on (refused_with buffer (bare n s))

-- 25: "lent room too small"; else the tokens go to the buffer, and "the rest is untouched"
unfoldable pub stored : (ℕ → List ℕ) → List ℕ → ℕ → List Description → List Settings → Outcome
stored text buffer n ds vs =
    tested buffer (leb (length (bytes_from text ds 0 n)) (length buffer)) 25 0
    (record {
      loaded = record {
        answer = Ok tt;
        table = record { count = n; services = vs };
        commands = commands_from text ds 0 no_commands 0 n;
      };
      buffer = sets buffer 0 (bytes_from text ds 0 n);
    })

-- 16, with "the lowest service on any cycle"
unfoldable pub acyclic : (ℕ → List ℕ) → List ℕ → ℕ → List Description → List Settings → Outcome
acyclic text buffer n ds vs = tested buffer (leb n (lowest_cyclic vs n)) 16 (lowest_cyclic vs n) (stored text buffer n ds vs)

abbrev pub with_services : (ℕ → List ℕ) → List ℕ → ℕ → List Description → Result (List Settings) Refused → Outcome
with_services text buffer n ds r = passed buffer r (λ vs. acyclic text buffer n ds vs)

abbrev pub with_descriptions : (ℕ → List ℕ) → (ℕ → List ℕ) → List ℕ → ℕ → Result (List Description) Refused → Outcome
with_descriptions name text buffer n r =
    passed buffer r
    (λ ds. with_services text buffer n ds (services_from name text ds n (replicate max_services default_settings) 0 n))

-- the texts of n services whose names are good: "all texts, 5; then each text in turn"
unfoldable pub load_texts : (ℕ → List ℕ) → (ℕ → List ℕ) → ℕ → List ℕ → Outcome
load_texts name text n buffer =
    passed buffer (sizes_from text 0 0 n)
    (λ u. with_descriptions name text buffer n (descriptions_from text no_descriptions 0 n))

-- a set of n services, whose names and texts are given: "all names, 3 then 4 each", before the texts
unfoldable pub load_set : (ℕ → List ℕ) → (ℕ → List ℕ) → ℕ → List ℕ → Outcome
load_set name text n buffer = passed buffer (names_from name 0 n) (λ u. load_texts name text n buffer)

-- the load of lent bytes and positions, with a lent buffer for the tokens
unfoldable pub load : List ℕ → List ℕ → List ℕ → Outcome
load lent ends buffer =
    tested buffer (leb (service_count ends) max_services) 1 0
    (tested buffer (positioned lent ends) 2 0
    (load_set (name_at lent ends) (text_at lent ends) (service_count ends) buffer))
