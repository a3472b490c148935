-- A hard dependency is a strong one, and that is one of any kind; in a well-formed table none leads past the count, and
-- no service depends on itself, directly or through others.
use Prim.Native.Nat.{◌<◌, ◌≤◌, ℕ}
use borrow.Author.Tests.{le-leb, leb-true}
use lib.Bits.{bit_or}
use mathlib.Core.Bool.{false, true}
use mathlib.Core.Logic.{◌↔◌, inl}
use mathlib.Core.Path.{◌∙◌, ◌≡◌, sym}
use Rattle.base.specs.Links.{Path, cyclic, link, on}
use Rattle.base.specs.Sets.{has_bit}
use Rattle.base.proofs.Below.{every_true}
use Rattle.base.proofs.Bits.{has_bit_or, within_bit}
use Rattle.base.proofs.Links.{Inside, no_cycle}
use Rattle.base.proofs.Tests.{either, or_true, tests}
use Rattle.service.specs.Limits.{max_services}
use Rattle.service.specs.Settings.{settings_at}
use Rattle.service.specs.declared.Table.{Table}
use Rattle.rules.specs.Dependencies.{all_links, depends, hard, hard_links, strong, strong_links}
use Rattle.rules.specs.WellFormed.{links_inside, settings_in_range, table_formed}

pub hard_strong : (t : Table) (s d : ℕ) → hard t s d ≡ true → strong t s d ≡ true
unfolding hard strong hard_links strong_links
hard_strong t s d h = has_bit_or (settings_at t s).hard (settings_at t s).milestone d ∙ (or_true (has_bit (settings_at t s).hard d) _).1 (inl h)

pub strong_depends : (t : Table) (s d : ℕ) → strong t s d ≡ true → depends t s d ≡ true
unfolding strong depends strong_links all_links
strong_depends t s d h =
    has_bit_or (bit_or (settings_at t s).hard (settings_at t s).milestone) (settings_at t s).soft d
    ∙ (or_true (has_bit (bit_or (settings_at t s).hard (settings_at t s).milestone) d) _).1 (inl h)

pub hard_depends : (t : Table) (s d : ℕ) → hard t s d ≡ true → depends t s d ≡ true
hard_depends t s d h = strong_depends t s d (hard_strong t s d h)

-- what list 24's part on tables says
pub record TableSound (t : Table) : Type 0 where
  pub few : t.count ≤ max_services
  pub inside : (s : ℕ) → s < t.count → links_inside t.count (settings_at t s) ≡ true
  pub ranged : (s : ℕ) → s < t.count → settings_in_range (settings_at t s) ≡ true
  pub acyclic : cyclic (all_links t) t.count ≡ false

pub table_sound : (t : Table) → (table_formed t ≡ true) ↔ TableSound t
unfolding table_formed
table_sound t = (
  λ f.
      let g = simp (tests, every_true) at f in
      record {
        few = leb-true _ _ g.0.0;
        inside = λ s l. let k = (g.0.1 s l).0 in simp tests k;
        ranged = λ s l. let k = (g.0.1 s l).1 in simp tests k;
        acyclic = g.1;
      },
  λ h.
      simp (tests, every_true) (
        (
          le-leb _ _ h.few,
          λ s l. let a = h.inside s l in let b = h.ranged s l in (simp tests at a, simp tests at b),
        ),
        h.acyclic,
      ),
)

module _ (t : Table) (f : TableSound t) where
  -- no dependency of any kind leads past the count
  pub all_inside : Inside (all_links t) t.count
  unfolding all_links
  all_inside i j il h =
      let k = f.inside i il in
      let g = simp tests at k in
      either
      ((or_true _ _).0 (sym (has_bit_or (bit_or (settings_at t i).hard (settings_at t i).milestone) (settings_at t i).soft j) ∙ h))
      (λ a.
      either
      ((or_true _ _).0 (sym (has_bit_or (settings_at t i).hard (settings_at t i).milestone j) ∙ a))
      (λ b. within_bit t.count (settings_at t i).hard j g.0.0 b)
      (λ b. within_bit t.count (settings_at t i).milestone j g.0.1 b))
      (λ a. within_bit t.count (settings_at t i).soft j g.1 a)

  pub hard_inside : (e d : ℕ) → e < t.count → has_bit (hard_links t e) d ≡ true → d < t.count
  unfolding hard hard_links
  hard_inside e d el h = all_inside e d el (unfold depends in hard_depends t e d h)

  -- a chain of hard dependencies is one of dependencies
  path_all : {e d : ℕ} → Path (hard_links t) e d → Path (all_links t) e d
  unfolding hard depends
  path_all (link {i = e} {j = d} h) = link (hard_depends t e d h)
  path_all (on {i = e} {k = k} h p) = on (hard_depends t e k h) (path_all p)

  pub no_hard_cycle : (s : ℕ) → s < t.count → Path (hard_links t) s s → ⊥
  no_hard_cycle s l p = no_cycle (all_links t) t.count all_inside f.acyclic s l (path_all p)
