-- What the next action is: quiet where no rule fits, and else the first rule that fits, at its lowest service.
use Prim.Native.Nat.{◌<◌, suc, zero, ℕ}
use borrow.Author.Tests.{le-ltb, lt-ltb}
use lib.Dec.{lit<, ltb}
use mathlib.Core.Bool.{false}
use mathlib.Core.List.{List, [], ◌∷◌}
use mathlib.Core.Logic.{◌⊎◌, inl, inr}
use mathlib.Core.Path.{◌∙◌, ◌≡◌, ap, refl, subst, sym}
use native.Mathlib.Nat.{eq-or-lt_of_le, le_of_suc-le-suc, le_refl, not-suc-le-zero}
use Rattle.base.specs.Folds.{pick}
use Rattle.base.proofs.Below.{Lowest, Sought, found, nowhere, sought}
use Rattle.base.proofs.Tests.{either}
use Rattle.service.specs.Records.{with_record}
use Rattle.service.specs.declared.Action.TheVariants.{Quiet}
use Rattle.service.specs.declared.State.{State}
use Rattle.service.specs.declared.Table.{Table}
use Rattle.rules.specs.Rules.{act, act_on, chosen, chosen_from, fits, leaves, next_action}
use Rattle.rules.specs.Choice.{Choice}
use Rattle.std.specs.Prelude.{Some, None}
use Rattle.rules.specs.declared.Rule.{Rule}
use Rattle.rules.specs.declared.Rule.TheVariants.{Abandon, Begin, End, Expire, Lose, Release, Settle, Wake}

-- the rules' order
abbrev pub place : Rule → ℕ
place Lose = 0
place Abandon = 1
place Settle = 2
place Wake = 3
place Release = 4
place Begin = 5
place End = 6
place Expire = 7

abbrev rule_at : ℕ → Rule
rule_at zero = Lose
rule_at (suc zero) = Abandon
rule_at (suc (suc zero)) = Settle
rule_at (suc (suc (suc zero))) = Wake
rule_at (suc (suc (suc (suc zero)))) = Release
rule_at (suc (suc (suc (suc (suc zero))))) = Begin
rule_at (suc (suc (suc (suc (suc (suc zero)))))) = End
rule_at (suc (suc (suc (suc (suc (suc (suc n))))))) = Expire

at_place : (k : Rule) → rule_at (place k) ≡ k
at_place Lose = refl
at_place Abandon = refl
at_place Settle = refl
at_place Wake = refl
at_place Release = refl
at_place Begin = refl
at_place End = refl
at_place Expire = refl

place_lt : (k : Rule) → place k < 8
place_lt Lose = lit< tt
place_lt Abandon = lit< tt
place_lt Settle = lit< tt
place_lt Wake = lit< tt
place_lt Release = lit< tt
place_lt Begin = lit< tt
place_lt End = lit< tt
place_lt Expire = lit< tt

module _ (t : Table) (x : State) where
  -- rule k fits nowhere
  abbrev pub Nowhere : Rule → Type 0
  Nowhere k = (s : ℕ) → s < t.count → fits k t x s ≡ false

  -- none of the first m rules fits
  abbrev pub Before : ℕ → Type 0
  Before m = (j : Rule) → place j < m → Nowhere j

  pub data Chosen : Choice → Type 0 where
    no_rule : ((j : Rule) → Nowhere j) → Chosen None
    rule : (k : Rule) (s : ℕ) → Lowest (fits k t x) t.count s → Before (place k) → Chosen (Some (k, s))

  one : (k : Rule) (ks : List Rule) → Before (place k) → (Before (suc (place k)) → Chosen (chosen_from ks t x)) → Chosen (chosen_from (k ∷ ks) t x)
  unfolding chosen_from
  one k ks b later = go (sought (fits k t x) t.count)
    where
      go : {i : ℕ} → Sought (fits k t x) t.count i → Chosen (pick (ltb i t.count) (Some (k, i)) (chosen_from ks t x))
      go (found {i} h) = rw (lt-ltb i t.count h.bound) (rule k i h b)
      go (nowhere h) =
          rw (le-ltb t.count t.count (le_refl t.count))
          (later
          (λ j l.
          either
          (eq-or-lt_of_le (le_of_suc-le-suc l))
          (λ e. subst Nowhere (sym (at_place k) ∙ ap rule_at (sym e) ∙ at_place j) h)
          (λ m. b j m)))

  none_left : ((j : Rule) → Nowhere j) → Chosen (chosen_from [] t x)
  unfolding chosen_from
  none_left h = no_rule h

  pub chosen_is : Chosen (chosen t x)
  unfolding chosen
  chosen_is =
      one Lose _ (λ j l. absurd (not-suc-le-zero l)) λ b.
      one Abandon _ b λ b. one Settle _ b λ b. one Wake _ b λ b. one Release _ b λ b. one Begin _ b λ b. one End _ b λ b. one Expire _ b λ b.
      none_left (λ j. b j (place_lt j))

  -- what is done
  pub record Fires (k : Rule) (s : ℕ) : Type 0 where
    pub lowest : Lowest (fits k t x) t.count s
    pub before : Before (place k)
    pub chooses : chosen t x ≡ Some (k, s)
    pub does : next_action t x ≡ act k t x s

  pub record Stays : Type 0 where
    pub none : (j : Rule) → Nowhere j
    pub chooses : chosen t x ≡ None
    pub does : next_action t x ≡ record { action = Quiet; state = x }

  pub next_either : Stays ⊎ ((k : Rule) × (s : ℕ) × Fires k s)
  unfolding next_action act_on
  next_either = go (chosen t x) refl chosen_is
    where
      go : (c : Choice) → chosen t x ≡ c → Chosen c → Stays ⊎ ((k : Rule) × (s : ℕ) × Fires k s)
      go c e (no_rule h) = inl record { none = h; chooses = e; does = ap (λ (y : Choice). act_on y t x) e }
      go c e (rule k s l b) = inr (k, s, record { lowest = l; before = b; chooses = e; does = ap (λ (y : Choice). act_on y t x) e })

  -- whatever a quiet state and each rule keep, the next action keeps
  pub next_keeps : (P : State → Type 0) → P x → ((k : Rule) (s : ℕ) → Fires k s → P (with_record x s (leaves k t x s)))
      → P (next_action t x).state
  unfolding act
  next_keeps P p h =
      either
      next_either
      (λ q. rw q.does p)
      (λ q. rw q.2.does (h q.0 q.1 q.2))
