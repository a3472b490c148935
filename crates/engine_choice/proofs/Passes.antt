-- The two passes: the sets are gathered, then each rule's services, then the choice is made.
use Prim.Native.Nat.{ℕ, ◌+◌, ◌<◌, ◌≤◌}
use native.Mathlib.Omega.{arith}
use mathlib.Core.Path.{◌≡◌, ap, ◌∙◌}
use Rattle.base.proofs.Loops.{Folded, folded_none, folded_more, folded_all}
use Rattle.service.specs.Limits.{max_services}
use Rattle.service.specs.Records.{record_at}
use Rattle.service.specs.Settings.{settings_at}
use Rattle.service.specs.declared.Settings.{Settings}
use Rattle.service.specs.declared.Table.{Table}
use Rattle.service.specs.declared.State.{State}
use Rattle.rules.specs.Choice.{Choice}
use Rattle.rules.specs.Rules.{chosen}
use Rattle.engine_choice.specs.declared.standing.Standing.{Standing}
use Rattle.engine_choice.specs.Standing.{nowhere, noted_in, noting, standing}
use Rattle.engine_choice.specs.declared.PerRule.{PerRule}
use Rattle.engine_choice.specs.Fits.{no_fits, fitted_in, fitting, fitted, choice_from}
use Rattle.engine_choice.specs.Lost.{lost_by_user}
use Rattle.engine_choice.proofs.Sets.{choice_as, user_as}

-- the second pass: the sets are whole, and the services below s are fitted
pub record Fitting (t : Table) (x : State) (st : Standing) (f : PerRule ℕ) (s : ℕ) : Type 0 where
  pub stands : st ≡ standing t x t.count
  pub folded : Folded (fitting t x st) no_fits t.count f s

-- the first pass has one more service, v being what the code has read of its settings
pub noting_more : (t : Table) (x : State) {st q : Standing} {v : Settings} {i : ℕ} → Folded (noting t x) nowhere t.count st i → i < t.count
    → v ≡ settings_at t i → q ≡ noted_in st v (record_at x i) i → Folded (noting t x) nowhere t.count q (i + 1)
noting_more t x {st} {i = i} h l at e = folded_more h l (e ∙ ap (λ v. noted_in st v (record_at x i) i) at)

module _ {t : Table} {x : State} where
  -- v is what the code has read of the settings
  pub fitting_more : {st : Standing} {f g : PerRule ℕ} {v : Settings} {s : ℕ} → Fitting t x st f s → s < t.count → v ≡ settings_at t s
      → g ≡ fitted_in f x.clock v (record_at x s) st s → Fitting t x st g (s + 1)
  fitting_more {st} {f} {s = s} h l at e =
      record {
        stands = h.stands;
        folded = folded_more h.folded l (e ∙ ap (λ v. fitted_in f x.clock v (record_at x s) st s) at);
      }

  pub fitting_none : {st : Standing} {f : PerRule ℕ} {i : ℕ} → Folded (noting t x) nowhere t.count st i → t.count ≤ i → f ≡ no_fits
      → Fitting t x st f 0
  fitting_none h l e = record { stands = folded_all h l; folded = rw e folded_none }

  -- after both passes; with more than 64 services a set would not hold them
  module _ {st : Standing} {f : PerRule ℕ} {s : ℕ} (few : t.count ≤ max_services) (h : Fitting t x st f s) (l : t.count ≤ s) where
    pub choice_made : {c : Choice} → c ≡ choice_from f t.count → c ≡ chosen t x
    choice_made e =
        e ∙ ap (λ a. choice_from a t.count) (folded_all h.folded l ∙ ap (λ a. fitted t x a t.count) h.stands)
        ∙ choice_as t x (omega arith)

    pub user_gathered : st.user ≡ lost_by_user t x
    user_gathered = ap (λ (a : Standing). a.user) h.stands ∙ user_as t x (omega arith)
