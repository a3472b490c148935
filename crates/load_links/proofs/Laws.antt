-- The laws of links, kinds and services, as the code goes through them.
use Prim.Native.Nat.{◌+◌, ◌-◌, ◌<◌, ◌≤◌, ℕ}
use borrow.Author.Tests.{le-leb, le-ltb, lt-leb, lt-ltb}
use lib.ListN.{get_or, length, replicate, set}
use mathlib.Core.List.{List}
use mathlib.Core.Path.{◌∙◌, ◌≡◌, ap, ap₂, refl, sym}
use native.Mathlib.Nat.{sub-zero}
use native.Mathlib.Omega.{arith}
use Rattle.std.specs.Prelude.{Err, None, Ok, Option, Result, Some}
use Rattle.base.proofs.Lists.{get_d_default}
use Rattle.base.proofs.Counting.{one_left}
use Rattle.service.specs.Limits.{max_services}
use Rattle.service.specs.Settings.{default_settings}
use Rattle.service.specs.declared.Settings.{Settings}
use Rattle.load_text.specs.Lines.{fault}
use Rattle.load_text.specs.declared.Fault.{Fault}
use Rattle.load_text.specs.declared.Wrong.TheVariants.{NoSuchService, TooManyDependencies}
use Rattle.load_description.specs.Settings.{blank, dependency_at, description_at, max_dependencies, word_at}
use Rattle.load_description.specs.declared.Dependency.{Dependency}
use Rattle.load_description.specs.declared.Description.{Description}
use Rattle.load_lent.specs.Checks.{find, found}
use Rattle.load_lent.specs.Refusals.{bare, in_text, refused_in}
use Rattle.load_lent.specs.declared.Refused.{Refused}
use Rattle.load_lent.proofs.Results.{mapped_err}
use Rattle.load_lent.proofs.Search.{found_at, found_none}
use Rattle.load_links.specs.Links.{links_from, links_in, no_links, services_from, services_in, settings_of, with_link}
use Rattle.load_links.specs.declared.Links.{Links}

-- ---- the dependencies of a description: those before k are links, as l

pub record Linking (name : ℕ → List ℕ) (n : ℕ) (text : List ℕ) (d : Description) (l : Links) (k : ℕ) : Type 0 where
  pub few : d.count ≤ max_dependencies
  pub within : k ≤ d.count
  pub rest : links_from name n text d no_links 0 d.count ≡ links_from name n text d l k (d.count - k)

module _ (name : ℕ → List ℕ) (n : ℕ) (text : List ℕ) (d : Description) where
  pub linking_many : max_dependencies < d.count → Err (fault TooManyDependencies 0) ≡ links_in name n text d
  unfolding links_in
  linking_many h = rw (lt-leb d.count max_dependencies h)

  pub linking_none : d.count ≤ max_dependencies → Linking name n text d no_links 0
  linking_none h = record { few = h; within = omega arith; rest = rw (sub-zero d.count) }

module _ {name : ℕ → List ℕ} {n : ℕ} {text : List ℕ} {d : Description} {l : Links} {k : ℕ} (h : Linking name n text d l k) where
  all_links_lem : {r : Result Links Fault} → links_from name n text d l k (d.count - k) ≡ r → r ≡ links_in name n text d
  unfolding links_in
  all_links_lem e = sym (rw (le-leb d.count max_dependencies h.few) (h.rest ∙ e))

  pub linking_all : d.count ≤ k → Ok l ≡ links_in name n text d
  unfolding links_from
  linking_all e =
      let z : d.count - k ≡ 0 = omega arith in
      all_links_lem (rw z)

  -- e is dependency k as the code has it, o the service that was found for it
  module _ (u : k < d.count) {e : Dependency} (is : e ≡ dependency_at d k) {o : Option ℕ} (f : o ≡ found n (find name n (word_at text e.at))) where
    named : ℕ
    named = find name n (word_at text (dependency_at d k).at)

    found_as : o ≡ found n named
    unfolding named
    found_as = f ∙ ap (λ (x : Dependency). found n (find name n (word_at text x.at))) is

    pub linking_more : {i : ℕ} → o ≡ Some i → {l' : Links} → l' ≡ with_link l e.link i → Linking name n text d l' (k + 1)
    unfolding links_from named
    linking_more {i} s {l'} q =
        let e = found_at n named (sym s ∙ found_as) in
        let w : l' ≡ with_link l (dependency_at d k).link i = q ∙ ap (λ (x : Dependency). with_link l x.link i) is in
        record { few = h.few; within = omega arith; rest = h.rest ∙ rw (one_left d.count k u, ← e.0, lt-ltb _ n e.1, ← w) }

    pub linking_absent : o ≡ None → Err (fault NoSuchService e.at) ≡ links_in name n text d
    unfolding links_from named
    linking_absent s =
        ap (λ (x : Dependency). Err (fault NoSuchService x.at)) is
        ∙ all_links_lem (rw (one_left d.count k u, le-ltb named n (found_none n named (sym s ∙ found_as))))

-- ---- the services of a set: those before j are made, as vs, put into the places none

pub record Made (name text : ℕ → List ℕ) (ds : List Description) (n : ℕ) (none vs : List Settings) (j : ℕ) : Type 0 where
  pub within : j ≤ n
  pub few : n ≤ length ds
  pub rest : services_from name text ds n none 0 n ≡ services_from name text ds n vs j (n - j)

module _ (name text : ℕ → List ℕ) (ds : List Description) (n : ℕ) where
  pub made_all : {none vs : List Settings} {j : ℕ} → Made name text ds n none vs j → n ≤ j → Ok vs ≡ services_from name text ds n none 0 n
  unfolding services_from
  made_all {j = j} k h =
      let z : n - j ≡ 0 = omega arith in
      sym (k.rest ∙ rw z)

-- a service more: t is its text, r what the code made of its dependencies; past the places of the array the code reads x
module _ {name text : ℕ → List ℕ} {ds : List Description} {n : ℕ} {none vs : List Settings} {j : ℕ} (x : Description)
    (k : Made name text ds n none vs j) (h : j < n)
    {t : List ℕ} (ti : t ≡ text j) {r : Result Links Fault} (e : r ≡ links_in name n t (get_or ds j x)) where
  is : get_or ds j x ≡ description_at ds j
  is = get_d_default ds j x blank (omega (arith, k.few))

  -- the services from j on, by its text, its description and what comes of its dependencies
  abbrev onward : List ℕ → Description → Result Links Fault → Result (List Settings) Refused
  onward u d q = in_text u j q (λ l. services_from name text ds n (set vs j (settings_of d l)) (j + 1) (n - (j + 1)))

  step : services_from name text ds n vs j (n - j) ≡ onward t (get_or ds j x) r
  unfolding services_from
  step =
      rw (one_left n j h) refl
      ∙ (ap₂ (λ (u : List ℕ) (d : Description). onward u d (links_in name n u d)) (sym ti) (sym is)
      ∙ ap (λ (q : Result Links Fault). onward t (get_or ds j x) q) (sym e))

  pub made_more : {v : Settings} {l : Links} → r ≡ Ok l → v ≡ settings_of (get_or ds j x) l → Made name text ds n none (set vs j v) (j + 1)
  made_more {v} {l} g q = record {
    within = omega arith;
    few = k.few;
    rest =
        k.rest
        ∙ (step
        ∙ (ap (λ (o : Result Links Fault). onward t (get_or ds j x) o) g
        ∙ ap (λ (s : Settings). services_from name text ds n (set vs j s) (j + 1) (n - (j + 1))) (sym q)));
  }

  pub made_absent : {f : Fault} → r ≡ Err f → {o : Refused} → o ≡ refused_in t j f → Err o ≡ services_from name text ds n none 0 n
  made_absent g q = ap Err q ∙ sym (k.rest ∙ (step ∙ ap (λ (o : Result Links Fault). onward t (get_or ds j x) o) g))

module _ (name text : ℕ → List ℕ) (ds : List Description) (n : ℕ) where
  pub services_few : n ≤ max_services → {v : Settings} → v ≡ default_settings
      → {r : Result (List Settings) Refused} → r ≡ services_from name text ds n (replicate max_services v) 0 n → r ≡ services_in name text ds n
  unfolding services_in
  services_few h is e = e ∙ rw (is, le-leb n max_services h)

  pub services_many : max_services < n → {o : Refused} → o ≡ bare 1 0 → Err o ≡ services_in name text ds n
  unfolding services_in
  services_many h e = ap Err e ∙ rw (lt-leb n max_services h)

-- ---- what the loops go by

pub ruleset linking = (linking_many, linking_none, linking_all)

pub ruleset making = (made_absent, made_all, mapped_err)

pub ruleset served = (services_few, services_many)
