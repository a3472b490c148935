-- What is in each set once n services are noted.
use Prim.Native.Nat.{ℕ, zero, suc, ◌≤◌}
use native.Mathlib.Omega.{arith}
use mathlib.Core.Path.{◌≡◌, refl, ap}
use mathlib.Core.Bool.{Bool, not, ◌&&◌, ◌||◌}
use lib.Bits.{bit_or}
use lib.Dec.{ltb}
use borrow.Author.Tests.{lt-ltb}
use Rattle.base.specs.Sets.{single, kept, marked, union}
use Rattle.service.specs.Records.{record_at, is_down, is_waiting, active, is_user}
use Rattle.service.specs.declared.Table.{Table}
use Rattle.service.specs.declared.State.{State}
use Rattle.rules.specs.Dependencies.{hard_links, all_links, serving, barred}
use Rattle.engine_choice.specs.Standing.{standing}

-- one number more in a set
mark : (p : ℕ → Bool) (n m : ℕ) → suc n ≤ 64 → m ≡ marked p n → bit_or m (single n (ltb n 64 && p n)) ≡ marked p (suc n)
mark p n m l e = rw (lt-ltb n 64 l, e)

module _ (t : Table) (x : State) where
  pub lost_is : (n : ℕ) → n ≤ 64 → (standing t x n).lost ≡ marked (λ i. not (serving (record_at x i))) n
  lost_is zero l = refl
  lost_is (suc n) l = mark (λ i. not (serving (record_at x i))) n (standing t x n).lost l (lost_is n (omega arith))

  pub user_is : (n : ℕ) → n ≤ 64 → (standing t x n).user ≡ marked (λ i. not (serving (record_at x i)) && is_user (record_at x i).cause) n
  user_is zero l = refl
  user_is (suc n) l =
      mark (λ i. not (serving (record_at x i)) && is_user (record_at x i).cause) n (standing t x n).user l (user_is n (omega arith))

  pub barred_is : (n : ℕ) → n ≤ 64 → (standing t x n).barred ≡ marked (λ i. barred (record_at x i)) n
  barred_is zero l = refl
  barred_is (suc n) l = mark (λ i. barred (record_at x i)) n (standing t x n).barred l (barred_is n (omega arith))

  pub unready_is : (n : ℕ) → n ≤ 64 → (standing t x n).unready ≡ marked (λ i. not (serving (record_at x i) || barred (record_at x i))) n
  unready_is zero l = refl
  unready_is (suc n) l =
      mark (λ i. not (serving (record_at x i) || barred (record_at x i))) n (standing t x n).unready l (unready_is n (omega arith))

  pub blocked_is : (n : ℕ) → (standing t x n).blocked ≡ union (λ e. kept (active (record_at x e).phase) (hard_links t e)) n
  unfolding hard_links
  blocked_is zero = refl
  blocked_is (suc n) = ap (λ m. bit_or m (kept (active (record_at x n).phase) (hard_links t n))) (blocked_is n)

  pub needed_is : (n : ℕ) → (standing t x n).needed ≡ union (λ e. kept (not (is_down (record_at x e).phase)) (all_links t e)) n
  unfolding all_links
  needed_is zero = refl
  needed_is (suc n) = ap (λ m. bit_or m (kept (not (is_down (record_at x n).phase)) (all_links t n))) (needed_is n)

  pub called_is : (n : ℕ) → (standing t x n).called ≡ union (λ e. kept (is_waiting (record_at x e).phase) (all_links t e)) n
  unfolding all_links
  called_is zero = refl
  called_is (suc n) = ap (λ m. bit_or m (kept (is_waiting (record_at x n).phase) (all_links t n))) (called_is n)
