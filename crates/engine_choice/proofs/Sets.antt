-- The tests from the sets are the rules' tests, the sets are those of the services that the rules fit, and the choice from
-- them is the rules' choice.
use Prim.Native.Nat.{ℕ, zero, suc, ◌≤◌}
use native.Mathlib.Omega.{arith}
use mathlib.Core.Path.{◌≡◌, refl, ap, ap₂, ◌∙◌}
use mathlib.Core.Bool.{Bool, not, ◌&&◌, ◌||◌}
use lib.Bits.{bit_or}
use lib.Dec.{leb, ltb}
use borrow.Author.Tests.{lt-ltb}
use Rattle.base.specs.Folds.{pick, implies, some, every, first}
use Rattle.base.specs.Sets.{has_bit, single, overlap, marked}
use Rattle.base.proofs.Sets.{marked_overlap, union_kept, marked_first, marked_disjoint}
use Rattle.service.specs.Settings.{settings_at}
use Rattle.service.specs.Records.{record_at, is_down, is_waiting, is_user, active}
use Rattle.service.specs.declared.Table.{Table}
use Rattle.service.specs.declared.State.{State}
use Rattle.rules.specs.declared.Rule.{Rule}
use Rattle.rules.specs.declared.Rule.TheVariants.{Lose, Abandon, Settle, Wake, Release, Begin, End, Expire}
use Rattle.rules.specs.Choice.{Choice}
use Rattle.std.specs.Prelude.{Some}
use Rattle.rules.specs.Dependencies.{hard_links, strong_links, all_links, hard, strong, soft, depends, serving, barred, blocked, needed}
use Rattle.rules.specs.Rules.{running, fits, lost_to_user, chosen_from, chosen}
use Rattle.engine_choice.specs.declared.standing.Standing.{Standing}
use Rattle.engine_choice.specs.Standing.{standing}
use Rattle.engine_choice.specs.Fitting.{lose_by, abandon_by, settle_by, wake_by, release_by, begin_by, end_by, expire_by}
use Rattle.engine_choice.proofs.Gathered.{lost_is, user_is, barred_is, unready_is, blocked_is, needed_is, called_is}
use Rattle.engine_choice.specs.declared.PerRule.{PerRule}
use Rattle.engine_choice.specs.Fits.{no_fits, fitting, fitted, try_in, choice_from}
use Rattle.engine_choice.specs.Lost.{lost_by_user}

module _ (t : Table) (x : State) (l : t.count ≤ 64) where
  abbrev here : Standing
  here = standing t x t.count

  -- what the sets say of one service's dependencies
  in_lost : (m : ℕ) → overlap m here.lost ≡ some (λ d. has_bit m d && not (serving (record_at x d))) t.count
  in_lost m = ap (overlap m) (lost_is t x t.count l) ∙ marked_overlap (λ d. not (serving (record_at x d))) m t.count

  in_barred : (m : ℕ) → overlap m here.barred ≡ some (λ d. has_bit m d && barred (record_at x d)) t.count
  in_barred m = ap (overlap m) (barred_is t x t.count l) ∙ marked_overlap (λ d. barred (record_at x d)) m t.count

  all_serving : (m : ℕ) → not (overlap m here.lost) ≡ every (λ d. implies (has_bit m d) (serving (record_at x d))) t.count
  all_serving m =
      ap (λ a. not (overlap m a)) (lost_is t x t.count l) ∙ marked_disjoint (λ d. serving (record_at x d)) m t.count

  all_ready : (m : ℕ) → not (overlap m here.unready)
      ≡ every (λ d. implies (has_bit m d) (serving (record_at x d) || barred (record_at x d))) t.count
  all_ready m =
      ap (λ a. not (overlap m a)) (unready_is t x t.count l)
      ∙ marked_disjoint (λ d. serving (record_at x d) || barred (record_at x d)) m t.count

  -- and of its dependents
  on_blocked : (s : ℕ) → has_bit here.blocked s ≡ blocked t x s
  unfolding blocked hard
  on_blocked s =
      ap (λ m. has_bit m s) (blocked_is t x t.count)
      ∙ union_kept (λ e. active (record_at x e).phase) (hard_links t) t.count s

  on_needed : (s : ℕ) → has_bit here.needed s ≡ some (λ e. depends t e s && not (is_down (record_at x e).phase)) t.count
  unfolding depends
  on_needed s =
      ap (λ m. has_bit m s) (needed_is t x t.count)
      ∙ union_kept (λ e. not (is_down (record_at x e).phase)) (all_links t) t.count s

  on_called : (s : ℕ) → has_bit here.called s ≡ some (λ e. depends t e s && is_waiting (record_at x e).phase) t.count
  unfolding depends
  on_called s =
      ap (λ m. has_bit m s) (called_is t x t.count)
      ∙ union_kept (λ e. is_waiting (record_at x e).phase) (all_links t) t.count s

  -- the test of each rule from the sets
  abbrev by : Rule → ℕ → Bool
  by Lose s = lose_by (settings_at t s) (record_at x s) here
  by Abandon s = abandon_by (settings_at t s) (record_at x s) here
  by Settle s = settle_by (settings_at t s) (record_at x s) here s
  by Wake s = wake_by (record_at x s) here s
  by Release s = release_by (record_at x s) here s
  by Begin s = begin_by x.clock (settings_at t s) (record_at x s) here
  by End s = end_by (record_at x s) here s
  by Expire s = expire_by x.clock (record_at x s)

  by_as : (k : Rule) (s : ℕ) → by k s ≡ fits k t x s
  unfolding fits hard strong soft needed hard_links strong_links
  by_as Lose s = ap (λ b. running (record_at x s) && b) (in_lost (hard_links t s))
  by_as Abandon s = ap (λ b. is_waiting (record_at x s).phase && b) (in_barred (strong_links t s))
  by_as Settle s = rw (on_blocked s)
  by_as Wake s = rw (on_called s)
  by_as Release s = rw (on_needed s)
  by_as Begin s =
      ap₂ (λ a b. is_waiting (record_at x s).phase && leb (record_at x s).not_before x.clock && a && b)
      (all_serving (strong_links t s)) (all_ready (settings_at t s).soft)
  by_as End s = rw (on_blocked s)
  by_as Expire s = refl

  abbrev set_of : Rule → PerRule ℕ → ℕ
  set_of Lose f = f.lose
  set_of Abandon f = f.abandon
  set_of Settle f = f.settle
  set_of Wake f = f.wake
  set_of Release f = f.release
  set_of Begin f = f.begin
  set_of End f = f.end
  set_of Expire f = f.expire

  set_none_lem : (k : Rule) → set_of k no_fits ≡ 0
  set_none_lem Lose = refl
  set_none_lem Abandon = refl
  set_none_lem Settle = refl
  set_none_lem Wake = refl
  set_none_lem Release = refl
  set_none_lem Begin = refl
  set_none_lem End = refl
  set_none_lem Expire = refl

  set_more : (k : Rule) (f : PerRule ℕ) (s : ℕ) → set_of k (fitting t x here f s) ≡ bit_or (set_of k f) (single s (ltb s 64 && by k s))
  set_more Lose f s = refl
  set_more Abandon f s = refl
  set_more Settle f s = refl
  set_more Wake f s = refl
  set_more Release f s = refl
  set_more Begin f s = refl
  set_more End f s = refl
  set_more Expire f s = refl

  set_is : (k : Rule) (n : ℕ) → n ≤ 64 → set_of k (fitted t x here n) ≡ marked (fits k t x) n
  set_is k zero m = set_none_lem k
  set_is k (suc n) m =
      set_more k (fitted t x here n) n ∙ ap (λ b. bit_or (set_of k (fitted t x here n)) (single n (b && by k n))) (lt-ltb n 64 m)
      ∙ ap₂ (λ a b. bit_or a (single n b)) (set_is k n (omega arith)) (by_as k n)

  try_as : (k : Rule) (y z : Choice) → y ≡ z
      → try_in k (set_of k (fitted t x here t.count)) t.count y
      ≡ pick (ltb (first (fits k t x) t.count) t.count) (Some (k, (first (fits k t x) t.count))) z
  try_as k y z q =
      ap₂ (λ i w. pick (ltb i t.count) (Some (k, i)) w)
      (ap (λ a. first (has_bit a) t.count) (set_is k t.count l) ∙ marked_first (fits k t x) t.count) q

  -- what is chosen from the sets is what the rules choose
  pub choice_as : choice_from (fitted t x here t.count) t.count ≡ chosen t x
  unfolding choice_from chosen chosen_from
  choice_as =
      try_as Lose _ _ (try_as Abandon _ _ (try_as Settle _ _ (try_as Wake _ _
      (try_as Release _ _ (try_as Begin _ _ (try_as End _ _ (try_as Expire _ _ refl)))))))

  pub user_as : here.user ≡ lost_by_user t x
  unfolding lost_by_user
  user_as = user_is t x t.count l

-- rule 1's cause, read from the set
pub lost_to_user_lem : (t : Table) (x : State) (s : ℕ) → overlap (settings_at t s).hard (lost_by_user t x) ≡ lost_to_user t x s
unfolding lost_by_user lost_to_user hard hard_links
lost_to_user_lem t x s =
    marked_overlap (λ d. not (serving (record_at x d)) && is_user (record_at x d).cause) (settings_at t s).hard t.count
