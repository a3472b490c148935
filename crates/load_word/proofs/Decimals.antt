-- Numbers of digits, and the laws of a decimal number as the loop reads it.
use mathlib.Core.Path.{◌≡◌, refl}
use mathlib.Core.List.{List}
use mathlib.Core.Bool.{Bool, true, false}
use Rattle.std.specs.Bool.{then_some}
use Prim.Native.Nat.{ℕ, suc, ◌+◌, ◌-◌, ◌*◌, ◌^◌, ◌≤◌, ◌<◌}
use native.Mathlib.Nat.{pow-suc}
use native.Mathlib.Omega.{arith}
use lib.ListN.{length, get_or, drop, drop_of_length-le}
use borrow.Author.Tests.{leb-true}
use Rattle.base.proofs.Tests.{and_true}
use Rattle.base.proofs.Counting.{drop_more}
use Rattle.load_text.specs.Bytes.{is_digit}
use Rattle.load_word.specs.Decimals.{Sane, read_of, continued, decimal_from}
use Rattle.load_word.specs.declared.Decimal.{Decimal}
use Rattle.std.specs.Prelude.{Option, Some}

pub digit_bounds : (b : ℕ) → is_digit b ≡ true → (48 ≤ b) × (b ≤ 57)
digit_bounds b e = let p = (and_true _ _).0 e in (leb-true _ _ p.0, leb-true _ _ p.1)

-- one digit more
pub digit_more : (n v b : ℕ) → v < 10 ^ n → b ≤ 57 → v * 10 + (b - 48) < 10 ^ suc n
digit_more n v b h l = rw (pow-suc 10 n) (omega arith)

-- what is as many digits as it says, where it is anything
pub sane_if : (t : Bool) (k : Decimal) → (t ≡ true → Sane (Some k)) → Sane (then_some t k)
sane_if true k h = h refl
sane_if false k h = tt

module _ (k : Decimal) (s : List ℕ) (i : ℕ) where
  pub decimal_end : length s ≤ i → decimal_from k (drop i s) ≡ Some k
  unfolding decimal_from
  decimal_end h = rw (drop_of_length-le s h)

  pub decimal_next : {r : Option Decimal} → i < length s → read_of k (get_or s i 0) ≡ r
      → decimal_from k (drop i s) ≡ continued r (λ k'. decimal_from k' (drop (i + 1) s))
  unfolding decimal_from
  decimal_next h e = rw (drop_more s i 0 h, e)
