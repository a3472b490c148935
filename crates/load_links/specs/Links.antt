-- Trusted: the dependencies of a set as sets of services: 15 "a dependency on a service not in the set", "by service and line"; 16 "the three kinds
-- together have a cycle". With them the settings of each service.
use Rattle.std.specs.Prelude.{◌+◌, ◌^◌, suc, zero, ℕ, leb, ltb, get_or, replicate, set, List, Result, Ok, Err}
use Rattle.std.specs.Int.Bits.{bit_or}
use Rattle.base.specs.Folds.{first, pick}
use Rattle.base.specs.Links.{reach}
use Rattle.base.specs.Sets.{has_bit}
use Rattle.service.specs.Limits.{max_services}
use Rattle.service.specs.Numbers.{with_number}
use Rattle.service.specs.Settings.{default_settings, links_of}
use Rattle.service.specs.declared.Settings.{Settings}
use Rattle.load_text.specs.Lines.{fault}
use Rattle.load_text.specs.declared.Fault.{Fault}
use Rattle.load_text.specs.declared.Wrong.TheVariants.{NoSuchService, TooManyDependencies}
use Rattle.load_word.specs.declared.Link.{Link}
use Rattle.load_word.specs.declared.Link.TheVariants.{DependsOn, DependsMs, WaitsFor}
use Rattle.load_description.specs.Settings.{dependency_at, description_at, max_dependencies, word_at}
use Rattle.load_description.specs.declared.Description.{Description}
use Rattle.load_lent.specs.Checks.{find}
use Rattle.load_lent.specs.Refusals.{bare, in_text}
use Rattle.load_lent.specs.declared.Refused.{Refused}
use Rattle.load_links.specs.declared.Links.{Links}

abbrev pub no_links : Links
no_links = record { hard = 0; milestone = 0; soft = 0 }

-- a link to service i by depends-on, depends-ms or waits-for
abbrev pub with_link : Links → Link → ℕ → Links
with_link l DependsOn i = record { hard = bit_or l.hard (2 ^ i); milestone = l.milestone; soft = l.soft }
with_link l DependsMs i = record { hard = l.hard; milestone = bit_or l.milestone (2 ^ i); soft = l.soft }
with_link l WaitsFor i = record { hard = l.hard; milestone = l.milestone; soft = bit_or l.soft (2 ^ i) }

-- the dependencies of a description from number k on, with m left
unfoldable pub links_from : (ℕ → List ℕ) → ℕ → List ℕ → Description → Links → ℕ → ℕ → Result Links Fault
links_from name n text d l k zero = Ok l
links_from name n text d l k (suc m) =
    let i = find name n (word_at text (dependency_at d k).at) in
    pick (ltb i n) (links_from name n text d (with_link l (dependency_at d k).link i) (k + 1) m)
    (Err (fault NoSuchService (dependency_at d k).at))

-- all dependencies of a description. One that says that it has more than 16 is refused as 12 is; none that was read does
unfoldable pub links_in : (ℕ → List ℕ) → ℕ → List ℕ → Description → Result Links Fault
links_in name n text d =
    pick (leb d.count max_dependencies) (links_from name n text d no_links 0 d.count)
    (Err (fault TooManyDependencies 0))

-- the settings of a service: those of its description, with the three sets of services that it depends on
abbrev pub settings_of : Description → Links → Settings
settings_of d l = with_number 10 l.soft (with_number 9 l.milestone (with_number 8 l.hard d.settings))

-- from service j on with m left, in a set of n; vs holds those before it
unfoldable pub services_from : (ℕ → List ℕ) → (ℕ → List ℕ) → List Description → ℕ → List Settings → ℕ → ℕ → Result (List Settings) Refused
services_from name text ds n vs j zero = Ok vs
services_from name text ds n vs j (suc m) =
    let d = description_at ds j in
    in_text (text j) j (links_in name n (text j) d)
    (λ l. services_from name text ds n (set vs j (settings_of d l)) (j + 1) m)

-- the settings of a set of n services; 1: "more than 32 services"
unfoldable pub services_in : (ℕ → List ℕ) → (ℕ → List ℕ) → List Description → ℕ → Result (List Settings) Refused
services_in name text ds n =
    pick (leb n max_services) (services_from name text ds n (replicate max_services default_settings) 0 n) (Err (bare 1 0))

-- all that service s depends on
abbrev pub links_at : List Settings → ℕ → ℕ
links_at vs s = links_of (get_or vs s default_settings)

-- "the lowest service on any cycle", or n where there is none
unfoldable pub lowest_cyclic : List Settings → ℕ → ℕ
lowest_cyclic vs n = first (λ s. has_bit (reach (links_at vs) n s) s) n
