-- One rule tried on its set of services: it fits some service, or the next is tried; and a list of rules tried in turn, as a loop does.
use Prim.Native.Nat.{ℕ, ◌<◌, ◌≤◌}
use mathlib.Core.Path.{◌≡◌}
use borrow.Author.Tests.{lt-ltb, le-ltb}
use Rattle.base.specs.Folds.{first}
use Rattle.base.specs.Sets.{has_bit}
use Rattle.rules.specs.declared.Rule.{Rule}
use Rattle.rules.specs.Choice.{Choice}
use Rattle.std.specs.Prelude.{Some, None}
use Rattle.std.proofs.Common.{◌+◌, List, length, drop, get_or, refl, sym, ◌∙◌, ap, add-one, drop-cons}
use Rattle.std.proofs.lemmas.List.{drop_all}
use Rattle.engine_choice.specs.Fits.{try_in, in_turn}

-- s is what the code found for the rule k
module _ (k : Rule) (m n s : ℕ) (c z : Choice) where
  pub in_fits : s ≡ first (has_bit m) n → s < n → c ≡ Some (k, s) → c ≡ try_in k m n z
  in_fits e l q = rw (← e, lt-ltb _ _ l) q

  pub in_none : s ≡ first (has_bit m) n → n ≤ s → c ≡ z → c ≡ try_in k m n z
  in_none e l q = rw (← e, le-ltb _ _ l) q

-- a loop over the rules ps has come to place i, of which the code found s; o is what all of them come to
module _ (d : Rule × ℕ) (ps : List (Rule × ℕ)) (n i : ℕ) (o : Choice) (h : o ≡ in_turn (drop i ps) n) where
  pub turn_next : i < length ps → o ≡ try_in (get_or ps i d).0 (get_or ps i d).1 n (in_turn (drop (i + 1) ps) n)
  turn_next l = h ∙ rw (add-one, drop-cons ps i d l)

  pub turn_fits : {s : ℕ} → i < length ps → s ≡ first (has_bit (get_or ps i d).1) n → s < n → Some ((get_or ps i d).0, s) ≡ o
  turn_fits {s} k e l = in_fits _ _ _ _ _ (in_turn (drop (i + 1) ps) n) e l refl ∙ sym (turn_next k)

  pub turn_none : {s : ℕ} → i < length ps → s ≡ first (has_bit (get_or ps i d).1) n → n ≤ s → o ≡ in_turn (drop (i + 1) ps) n
  turn_none {s} k e l = turn_next k ∙ sym (in_none (get_or ps i d).0 _ _ _ _ _ e l refl)

  pub turn_all : length ps ≤ i → None ≡ o
  turn_all l = sym (h ∙ ap (λ qs. in_turn qs n) (drop_all i ps l))
