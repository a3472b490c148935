-- A set grown pass by pass until one adds nothing: it then holds what the rounds reach.
use Prim.Native.Nat.{ℕ, zero, suc, ◌-◌, ◌<◌, ◌≤◌}
use native.Mathlib.Nat.{eq-or-lt_of_le, le_of_suc-le-suc, le_trans, not-suc-le-zero}
use native.Mathlib.Omega.{arith}
use mathlib.Core.Path.{◌≡◌, ◌∙◌, refl, subst, sym}
use mathlib.Core.Bool.{Bool, true, false, ◌||◌}
use mathlib.Core.Logic.{inr}
use mathlib.Core.List.{List}
use lib.Bits.{and_le_r, bit_or, or_add_and}
use Rattle.base.specs.Folds.{pick}
use Rattle.base.specs.Sets.{has_bit}
use Rattle.base.specs.Links.{reach}
use Rattle.base.proofs.Tests.{either, or_true}
use Rattle.base.proofs.Bits.{has_bit_or, same_bits}
use Rattle.base.proofs.Links.{reach_link, reach_on, through_joined, through_kept, through_only}
use Rattle.links.specs.Rows.{rows_as}
use Rattle.links.specs.Spreading.{wide}

-- a's numbers are b's
abbrev pub Under : ℕ → ℕ → Type 0
Under a b = (j : ℕ) → has_bit a j ≡ true → has_bit b j ≡ true

same_truth : (a b : Bool) → (a ≡ true → b ≡ true) → (b ≡ true → a ≡ true) → a ≡ b
same_truth true true f g = refl
same_truth true false f g = sym (f refl)
same_truth false true f g = g refl
same_truth false false f g = refl

grown : (q : Bool) (a b : ℕ) → a ≤ pick q (bit_or a b) a
grown true a b =
    let e = or_add_and a b in
    let l = and_le_r a b in
    omega (arith, e, l)
grown false a b = omega arith

-- so the set is no larger a number than what has all its numbers
under_le : (a b : ℕ) → Under a b → a ≤ b
under_le a b f =
    let e : bit_or a b ≡ b
    = same_bits (bit_or a b) b
    (λ j. has_bit_or a b j ∙ same_truth (has_bit a j || has_bit b j) (has_bit b j) (λ h. either ((or_true (has_bit a j) (has_bit b j)).0 h) (f j) (λ k. k))
    (λ h. (or_true (has_bit a j) (has_bit b j)).1 (inr h))) in
    subst (λ n. a ≤ n) e (grown true a b)

module _ (rows : List ℕ) where
  abbrev d : ℕ → ℕ
  d = rows_as rows

  -- a pass keeps what there was, and adds what a number of the set is linked to
  wide_grows : (m n : ℕ) → m ≤ wide rows m n
  wide_grows m zero = omega arith
  wide_grows m (suc n) = le_trans (wide_grows m n) (grown (has_bit (wide rows m n) n) (wide rows m n) (d n))

  wide_keeps : (m n : ℕ) → Under m (wide rows m n)
  wide_keeps m zero j e = e
  wide_keeps m (suc n) j e = through_kept n (wide rows m n) (d n) j (wide_keeps m n j e)

  wide_adds : (m n k : ℕ) → k < n → has_bit m k ≡ true → Under (d k) (wide rows m n)
  wide_adds m zero k l h j e = absurd (not-suc-le-zero l)
  wide_adds m (suc n) k l h j e =
      either
      (eq-or-lt_of_le (le_of_suc-le-suc l))
      (λ (p : k ≡ n). through_joined n (wide rows m n) (d n) j (wide_keeps m n n (rw p at h)) (rw p at e))
      (λ (p : k < n). through_kept n (wide rows m n) (d n) j (wide_adds m n k p h j e))

  -- and nothing that s does not reach, where the set held nothing else
  wide_reached : (s o m n : ℕ) → n ≤ o → Under m (reach d o s) → Under (wide rows m n) (reach d o s)
  wide_reached s o m zero l f j e = f j e
  wide_reached s o m (suc n) l f j e =
      let before = wide_reached s o m n (omega arith) f in
      either
      (through_only n (wide rows m n) (d n) j e)
      (before j)
      (λ h. reach_on d o s n j l (before n h.0) (reach_link d o n j h.1))

  -- a set that a pass leaves as it is has all that is reached from one whose links it has
  closed_reaches : (m o : ℕ) → ((k : ℕ) → k < o → has_bit m k ≡ true → Under (d k) m)
      → (k i : ℕ) → k ≤ o → Under (d i) m → Under (reach d k i) m
  unfolding reach
  closed_reaches m o c zero i l f j e = f j e
  closed_reaches m o c (suc k) i l f j e =
      let from : (a : ℕ) → Under (d a) m → Under (reach d k a) m = λ a g. closed_reaches m o c k a (omega arith) g in
      either
      (through_only k (reach d k i) (reach d k k) j e)
      (from i f j)
      (λ h. from k (c k l (from i f k h.0)) j h.1)

-- m holds the row of s and nothing that s does not reach, and w is m after a pass
pub record Spreading (rows : List ℕ) (n s m w : ℕ) : Type 0 where
  pub row : Under (rows_as rows s) m
  pub reached : Under m (reach (rows_as rows) n s)
  pub next : w ≡ wide rows m n

module _ {rows : List ℕ} {n s : ℕ} where
  pub spreading_none : {m w : ℕ} → m ≡ rows_as rows s → w ≡ wide rows m n → Spreading rows n s m w
  spreading_none e f = record {
    row = λ j h. rw e h;
    reached = λ j h. reach_link (rows_as rows) n s j (rw e at h);
    next = f;
  }

  pub spreading_more : {m w v : ℕ} → Spreading rows n s m w → v ≡ wide rows w n → Spreading rows n s w v
  spreading_more {m} {w} {v} h e = record {
    row = λ j q. rw h.next (wide_keeps rows m n j (h.row j q));
    reached = λ j q. wide_reached rows s n m n (omega arith) h.reached j (rw h.next at q);
    next = e;
  }

  -- the set comes nearer to what s reaches
  pub spreading_less : {m w : ℕ} → Spreading rows n s m w → m < w → reach (rows_as rows) n s - w < reach (rows_as rows) n s - m
  spreading_less {m} {w} h l =
      let b : w ≤ reach (rows_as rows) n s
      = under_le w (reach (rows_as rows) n s) (λ j q. wide_reached rows s n m n (omega arith) h.reached j (rw h.next at q)) in
      omega (arith, b, l)

  pub spreading_all : {m w : ℕ} → Spreading rows n s m w → w ≤ m → m ≡ reach (rows_as rows) n s
  spreading_all {m} {w} h l =
      let g : m ≤ wide rows m n = wide_grows rows m n in
      let f = h.next in
      let same : wide rows m n ≡ m = omega (arith, g, f, l) in
      let closed : (k : ℕ) → k < n → has_bit m k ≡ true → Under (rows_as rows k) m
      = λ k b e j q. subst (λ a. has_bit a j ≡ true) same (wide_adds rows m n k b e j q) in
      same_bits m (reach (rows_as rows) n s)
      (λ j. same_truth (has_bit m j) (has_bit (reach (rows_as rows) n s) j) (h.reached j)
      (closed_reaches rows m n closed n s (omega arith) h.row j))
