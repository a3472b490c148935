-- An array that a loop fills from the front: what stands at each place passed.
use Prim.Native.Nat.{ℕ, ◌+◌, ◌≤◌, ◌<◌}
use native.Mathlib.Nat.{not-suc-le-zero, lt_irrefl, eq-or-lt_of_le}
use native.Mathlib.Omega.{arith}
use mathlib.Core.Path.{◌≡◌, ◌∙◌, subst}
use mathlib.Core.List.{List}
use lib.ListN.{length, get_or, set, length-set}
use lib.Seq.{get_or-set_same, get_or-set_other}
use Rattle.base.proofs.Tests.{either}

-- the first i places of l, which has n, hold F 0, F 1, .., F (i - 1)
pub record Filled {A : Type 0} (d : A) (F : ℕ → A) (n : ℕ) (l : List A) (i : ℕ) : Type 0 where
  pub long : length l ≡ n
  pub at : (j : ℕ) → j < i → get_or l j d ≡ F j

module _ {A : Type 0} {d : A} {F : ℕ → A} {n : ℕ} where
  pub filled_none : {l : List A} → length l ≡ n → Filled d F n l 0
  filled_none h = record { long = h; at = λ j l. absurd (not-suc-le-zero l) }

  pub filled_more : {l : List A} {v : A} {i : ℕ} → Filled d F n l i → i < n → v ≡ F i → Filled d F n (set l i v) (i + 1)
  filled_more {l} {v} {i} h k e =
      record {
        long = length-set l i v ∙ h.long;
        at = λ j q. either
            (eq-or-lt_of_le (let m : j ≤ i = omega arith in m))
            (λ (p : j ≡ i). rw p (get_or-set_same l i v d (rw h.long k) ∙ e))
            (λ (p : j < i). get_or-set_other l i j v d (λ r. lt_irrefl i (subst (λ m. m < i) r p)) ∙ h.at j p);
      }

-- a loop fills the first m places, and has filled i
pub record Filling {A : Type 0} (d : A) (F : ℕ → A) (n m : ℕ) (l : List A) (i : ℕ) : Type 0 where
  pub room : m ≤ n
  pub within : i ≤ m
  pub filled : Filled d F n l i

module _ {A : Type 0} {d : A} {F : ℕ → A} {n m : ℕ} where
  pub filling_none : {l : List A} → m ≤ n → length l ≡ n → Filling d F n m l 0
  filling_none r h = record { room = r; within = omega arith; filled = filled_none h }

  pub filling_more : {l : List A} {v : A} {i : ℕ} → Filling d F n m l i → i < m → v ≡ F i → Filling d F n m (set l i v) (i + 1)
  filling_more {l} {v} {i} h k e =
      let r = h.room in
      record { room = r; within = omega arith; filled = filled_more h.filled (omega arith) e }

  pub filling_all : {l : List A} {i : ℕ} → Filling d F n m l i → m ≤ i → Filled d F n l m
  filling_all {l} {i} h k =
      let w = h.within in
      let e : m ≡ i = omega arith in
      rw e h.filled

-- what was filled by F is filled by G, where they agree
pub filled_as : {A : Type 0} {d : A} {F G : ℕ → A} {n : ℕ} {l : List A} {i : ℕ} → Filled d F n l i → ((j : ℕ) → j < i → F j ≡ G j) → Filled d G n l i
filled_as h e = record { long = h.long; at = λ j k. h.at j k ∙ e j k }
