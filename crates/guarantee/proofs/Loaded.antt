-- What a load gives passes list 24's part on tables: the count, the dependencies, the ranges, and no cycle.
use Prim.Native.Nat.{◌+◌, ◌<◌, ◌^◌, ◌≤◌, suc, zero, ℕ}
use borrow.Author.Tests.{leb-true, ltb-true}
use lib.Dec.{leb, ltb}
use lib.ListN.{get_or, replicate, set}
use mathlib.Core.Bool.{Bool, false, true}
use mathlib.Core.List.{List}
use mathlib.Core.Path.{◌≡◌, refl, subst}
use native.Mathlib.Omega.{arith}
use Rattle.std.specs.Prelude.{Err, Ok, Result}
use Rattle.base.specs.Folds.{every, first, pick, some}
use Rattle.base.specs.Links.{cyclic, reach}
use Rattle.base.specs.Sets.{has_bit, within}
use Rattle.base.proofs.Below.{Sought, found, nowhere, some_false, sought}
use Rattle.base.proofs.Bits.{within_none, within_or, within_power}
use Rattle.base.proofs.Lists.{copies_hold, set_holds}
use Rattle.base.proofs.Tests.{tests}
use Rattle.service.specs.Limits.{max_services}
use Rattle.service.specs.Numbers.{settings_from}
use Rattle.service.specs.Settings.{default_settings, no_services, settings_at}
use Rattle.service.specs.declared.Settings.{Settings}
use Rattle.rules.specs.Dependencies.{all_links}
use Rattle.rules.specs.WellFormed.{links_inside, settings_in_range, table_formed}
use Rattle.rules.proofs.Links.{table_sound}
use Rattle.load_text.specs.Lines.{fault}
use Rattle.load_text.specs.declared.Fault.{Fault}
use Rattle.load_text.specs.declared.Wrong.TheVariants.{NoSuchService, TooManyDependencies}
use Rattle.load_word.specs.declared.Link.{Link}
use Rattle.load_word.specs.declared.Link.TheVariants.{DependsMs, DependsOn, WaitsFor}
use Rattle.load_description.specs.Settings.{blank, dependency_at, description_at, max_dependencies, word_at}
use Rattle.load_description.specs.Texts.{text_read}
use Rattle.load_description.specs.declared.Dependency.{Dependency as Named}
use Rattle.load_description.specs.declared.Description.{Description}
use Rattle.load_lent.specs.Checks.{find}
use Rattle.load_links.specs.Links.{links_at, links_from, links_in, lowest_cyclic, no_links, services_from, settings_of, with_link}
use Rattle.load_lent.specs.Parts.{name_at, service_count, text_at}
use Rattle.load_lent.specs.Refusals.{in_text}
use Rattle.load_lent.specs.declared.Refused.{Refused}
use Rattle.loader.specs.Texts.{descriptions_from, no_descriptions}
use Rattle.loader.proofs.Outcomes.{Whole, every_load}
use Rattle.load_links.specs.declared.Links.{Links}
use Rattle.guarantee.specs.Guarantee.{LoadsFormed}
use Rattle.guarantee.proofs.Values.{InRange, default_ranged, text_few, text_in}

-- the settings of one service in a set of n
pub record ServiceIn (n : ℕ) (v : Settings) : Type 0 where
  pub inside : links_inside n v ≡ true
  pub ranged : settings_in_range v ≡ true

-- ---- the dependencies are services of the set

record LinksIn (n : ℕ) (l : Links) : Type 0 where
  hard : within n l.hard ≡ true
  milestone : within n l.milestone ≡ true
  soft : within n l.soft ≡ true

link_in : (n : ℕ) (l : Links) (by : Link) (i : ℕ) → i < n → LinksIn n l → LinksIn n (with_link l by i)
link_in n l DependsOn i u h =
    record { hard = within_or n l.hard (2 ^ i) h.hard (within_power n i u); milestone = h.milestone; soft = h.soft }
link_in n l DependsMs i u h =
    record { hard = h.hard; milestone = within_or n l.milestone (2 ^ i) h.milestone (within_power n i u); soft = h.soft }
link_in n l WaitsFor i u h =
    record { hard = h.hard; milestone = h.milestone; soft = within_or n l.soft (2 ^ i) h.soft (within_power n i u) }

abbrev Linked : ℕ → Result Links Fault → Type 0
Linked n (Ok l) = LinksIn n l
Linked n (Err f) = Unit {0}

links_from_lem : (name : ℕ → List ℕ) (n : ℕ) (text : List ℕ) (d : Description) (l : Links) (k m : ℕ) → LinksIn n l
    → Linked n (links_from name n text d l k m)
unfolding links_from
links_from_lem name n text d l k zero h = h
links_from_lem name n text d l k (suc m) h = go (ltb i n) refl (λ l'. links_from_lem name n text d l' (k + 1) m)
  where
    e : Named
    e = dependency_at d k

    i : ℕ
    i = find name n (word_at text e.at)

    go : (b : Bool) → ltb i n ≡ b → ((l' : Links) → LinksIn n l' → Linked n (links_from name n text d l' (k + 1) m))
        → Linked n (pick b (links_from name n text d (with_link l e.link i) (k + 1) m) (Err (fault NoSuchService e.at)))
    go true q rest = rest (with_link l e.link i) (link_in n l e.link i (ltb-true i n q) h)
    go false q rest = tt

no_links_in : (n : ℕ) → LinksIn n no_links
no_links_in n = record { hard = within_none n; milestone = within_none n; soft = within_none n }

links_in_lem : (name : ℕ → List ℕ) (n : ℕ) (text : List ℕ) (d : Description) → Linked n (links_in name n text d)
unfolding links_in
links_in_lem name n text d = go (leb d.count max_dependencies)
  where
    go : (b : Bool) → Linked n (pick b (links_from name n text d no_links 0 d.count) (Err (fault TooManyDependencies 0)))
    go true = links_from_lem name n text d no_links 0 d.count (no_links_in n)
    go false = tt

-- a description that was read is never refused for its number of dependencies: all that it names are looked through
pub read_looked_through : (name : ℕ → List ℕ) (n : ℕ) (text t : List ℕ) {d : Description} → text_read t ≡ Ok d
    → links_in name n text d ≡ links_from name n text d no_links 0 d.count
unfolding links_in
read_looked_through name n text t e = rw (text_few t e)

-- ---- the settings of a service

service_in : (n : ℕ) (d : Description) (l : Links) → InRange d.settings → LinksIn n l → ServiceIn n (settings_of d l)
unfolding settings_from
service_in n d l h k = record {
  inside = simp tests ((k.hard, k.milestone), k.soft);
  ranged = simp tests ((((h.delay, h.interval), h.starting), h.stopping), h.limit);
}

default_in : (n : ℕ) → ServiceIn n default_settings
default_in n = record { inside = simp tests ((within_none n, within_none n), within_none n); ranged = refl }

-- ---- the passes

-- every description of the set is in range
abbrev AllIn : List Description → Type 0
AllIn ds = (i : ℕ) → InRange (description_at ds i).settings

abbrev Described : Result (List Description) Refused → Type 0
Described (Ok ds) = AllIn ds
Described (Err r) = Unit {0}

descriptions_in : (text : ℕ → List ℕ) (ds : List Description) (j m : ℕ) → AllIn ds → Described (descriptions_from text ds j m)
unfolding descriptions_from
descriptions_in text ds j zero h = h
descriptions_in text ds j (suc m) h = go (text_read (text j)) refl (λ d. descriptions_in text (set ds j d) (j + 1) m)
  where
    go : (r : Result Description Fault) → text_read (text j) ≡ r → ((d : Description) → AllIn (set ds j d) → Described (descriptions_from text (set ds j d) (j + 1) m))
        → Described (in_text (text j) j r (λ d. descriptions_from text (set ds j d) (j + 1) m))
    go (Ok d) e on = on d (λ i. set_holds (λ d. InRange d.settings) ds j i d blank (λ _. text_in (text j) e) (h i))
    go (Err f) e on = tt

-- every service of the set is in range
abbrev AllServices : ℕ → List Settings → Type 0
AllServices n vs = (i : ℕ) → ServiceIn n (get_or vs i default_settings)

abbrev Made : ℕ → Result (List Settings) Refused → Type 0
Made n (Ok vs) = AllServices n vs
Made n (Err r) = Unit {0}

services_in_lem : (name text : ℕ → List ℕ) (ds : List Description) (n : ℕ) (vs : List Settings) (j m : ℕ) → AllIn ds → AllServices n vs
    → Made n (services_from name text ds n vs j m)
unfolding services_from
services_in_lem name text ds n vs j zero h k = k
services_in_lem name text ds n vs j (suc m) h k =
    go (links_in name n (text j) d) (links_in_lem name n (text j) d) (λ l. services_in_lem name text ds n (set vs j (settings_of d l)) (j + 1) m h)
  where
    d : Description
    d = description_at ds j

    go : (r : Result Links Fault) → Linked n r
        → ((l : Links) → AllServices n (set vs j (settings_of d l)) → Made n (services_from name text ds n (set vs j (settings_of d l)) (j + 1) m))
        → Made n (in_text (text j) j r (λ l. services_from name text ds n (set vs j (settings_of d l)) (j + 1) m))
    go (Ok l) q on = on l (λ i. set_holds (ServiceIn n) vs j i (settings_of d l) default_settings (λ _. service_in n d l (h j) q) (k i))
    go (Err f) q on = tt

-- 16 was not due: no service reaches itself
no_cycle_found : (p : ℕ → Bool) (n : ℕ) → leb n (first p n) ≡ true → some p n ≡ false
no_cycle_found p n e = go (sought p n) (leb-true _ _ e)
  where
    go : {i : ℕ} → Sought p n i → n ≤ i → some p n ≡ false
    go (found {i} h) l = let b = h.bound in absurd (omega arith)
    go (nowhere h) l = (some_false p n).1 h

made_formed : (n : ℕ) (vs : List Settings) → n ≤ max_services → AllServices n vs → leb n (lowest_cyclic vs n) ≡ true → table_formed (record { count = n; services = vs }) ≡ true
unfolding lowest_cyclic cyclic all_links settings_at
made_formed n vs l h e =
    (table_sound (record { count = n; services = vs })).1
    record {
      few = l;
      inside = λ s _. (h s).inside;
      ranged = λ s _. (h s).ranged;
      acyclic = no_cycle_found (λ s. has_bit (reach (links_at vs) n s) s) n e;
    }

-- the table of no services
none_formed : table_formed no_services ≡ true
unfolding table_formed every cyclic some
none_formed = refl

-- ---- the load

-- the services of a set that loads are in range
set_in : (lent ends : List ℕ) {ds : List Description} {vs : List Settings} → Whole lent ends ds vs → AllServices (service_count ends) vs
set_in lent ends {ds} w =
    subst (Made n) w.linked
    (services_in_lem (name_at lent ends) (text_at lent ends) ds n (replicate max_services default_settings) 0 n
    (subst Described w.read
    (descriptions_in (text_at lent ends) no_descriptions 0 n
    (λ i. copies_hold (λ d. InRange d.settings) max_services i blank blank default_ranged default_ranged)))
    (λ i. copies_hold (ServiceIn n) max_services i default_settings default_settings (default_in n) (default_in n)))
  where
    n : ℕ
    n = service_count ends

pub loads_formed : LoadsFormed
loads_formed lent ends tokens =
    every_load (λ o. table_formed o.loaded.table ≡ true) tokens (λ r. none_formed) lent ends
    (λ ds vs w. made_formed (service_count ends) vs w.few (set_in lent ends w) w.acyclic)
