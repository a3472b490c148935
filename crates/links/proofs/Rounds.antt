-- The rounds: after each, the rows hold what is reached through the numbers passed. Links that agree below n reach the same.
use Prim.Native.Nat.{ℕ, zero, suc, ◌+◌, ◌≤◌, ◌<◌}
use native.Mathlib.Nat.{lt_irrefl}
use native.Mathlib.Numerals.{add-one}
use native.Mathlib.Omega.{arith}
use mathlib.Core.Path.{◌≡◌, refl, ap, ◌∙◌, subst}
use mathlib.Core.Bool.{Bool, ◌&&◌}
use mathlib.Core.List.{List}
use lib.Dec.{leb, ltb}
use lib.ListN.{get_or, length, set, take}
use lib.Seq.{get_or-set_other, get_or-take}
use Rattle.std.proofs.lemmas.List.{length-take-le}
use mathlib.Core.Logic.{◌⊎◌, inl, inr}
use borrow.Author.Tests.{le-leb, lt-leb, lt-ltb, le-ltb}
use Rattle.base.specs.Folds.{pick, some}
use Rattle.base.specs.Sets.{has_bit}
use Rattle.base.specs.Links.{through, reach, cyclic}
use Rattle.base.proofs.Below.{some_as}
use Rattle.base.proofs.Filled.{Filled, Filling, filled_as, filling_more, filling_none}
use Rattle.links.specs.Rows.{rows_as, most_rows}

-- a round through k goes on in place: the rows below i are changed, from i on they are the old ones, and own is the old row of k
pub record Rounding (n k own : ℕ) (old rows : List ℕ) (i : ℕ) : Type 0 where
  pub filling : Filling 0 (λ j. through k (get_or old j 0) (get_or old k 0)) n n rows i
  pub rest : (j : ℕ) → i ≤ j → get_or rows j 0 ≡ get_or old j 0
  pub own_row : own ≡ get_or old k 0

module _ {n k own : ℕ} {old : List ℕ} where
  pub rounding_none : length old ≡ n → own ≡ get_or old k 0 → Rounding n k own old old 0
  rounding_none h e = record { filling = filling_none (omega arith) h; rest = λ j q. refl; own_row = e }

  pub rounding_more : {rows : List ℕ} {i v : ℕ} → Rounding n k own old rows i → i < n → v ≡ through k (get_or rows i 0) own
      → Rounding n k own old (set rows i v) (i + 1)
  rounding_more {rows} {i} {v} h l e =
      record {
        filling = filling_more h.filling l (e ∙ rw (h.rest i (omega arith), h.own_row));
        rest = λ j q.
            let w : i < j = omega arith in
            get_or-set_other rows i j v 0 (λ r. lt_irrefl i (subst (λ m. i < m) r w)) ∙ h.rest j (omega arith);
        own_row = h.own_row;
      }

-- the rows hold what each of n numbers reaches through those below k
pub record Reaching (d : ℕ → ℕ) (n : ℕ) (rows : List ℕ) (k : ℕ) : Type 0 where
  pub within : k ≤ n
  pub filled : Filled 0 (reach d k) n rows n

pub reaching_none : (rows : List ℕ) → Reaching (rows_as rows) (length rows) rows 0
unfolding reach
reaching_none rows = record { within = omega arith; filled = record { long = refl; at = λ j l. refl } }

module _ {d : ℕ → ℕ} {n : ℕ} where
  pub reaching_more : {rows next : List ℕ} {k : ℕ} → Reaching d n rows k → k < n
      → Filled 0 (λ j. through k (get_or rows j 0) (get_or rows k 0)) (length rows) next (length rows) → Reaching d n next (k + 1)
  unfolding reach
  reaching_more {rows} {next} {k} h l g =
      let f = h.filled in
      let g' = subst (λ m. Filled 0 (λ j. through k (get_or rows j 0) (get_or rows k 0)) m next m) f.long g in
      record { within = omega arith; filled = filled_as g' (λ j m. rw (add-one, f.at j m, f.at k l)) }

-- links that agree below n
pub reach_as : (d e : ℕ → ℕ) (n : ℕ) → ((j : ℕ) → j < n → d j ≡ e j) → (k i : ℕ) → k ≤ n → i < n → reach d k i ≡ reach e k i
unfolding reach
reach_as d e n h zero i l m = h i m
reach_as d e n h (suc k) i l m = rw (reach_as d e n h k i (omega arith) m, reach_as d e n h k k (omega arith) l)

pub cyclic_as : (d e : ℕ → ℕ) (n : ℕ) → ((j : ℕ) → j < n → d j ≡ e j) → cyclic d n ≡ cyclic e n
unfolding cyclic
cyclic_as d e n h =
    some_as (λ i. has_bit (reach d n i) i) (λ i. has_bit (reach e n i) i) n
    (λ i l. ap (λ m. has_bit m i) (reach_as d e n h n i (omega arith) l))

-- b is what the code found of the rows after all rounds
pub own_cyclic : (rows : List ℕ) {all : List ℕ} {b : Bool} → Filled 0 (reach (rows_as rows) (length rows)) (length rows) all (length rows)
    → b ≡ some (λ i. has_bit (rows_as all i) i) (length all) → b ≡ cyclic (rows_as rows) (length rows)
unfolding cyclic
own_cyclic rows {all} f e =
    e ∙ ap (some (λ i. has_bit (rows_as all i) i)) f.long
    ∙ some_as (λ i. has_bit (rows_as all i) i) (λ i. has_bit (reach (rows_as rows) (length rows) i) i) (length rows)
    (λ i k. ap (λ m. has_bit m i) (f.at i k))

-- the first n rows are the rows up to n
module _ (rows : List ℕ) (n : ℕ) (l : n ≤ length rows) where
  pub front_cyclic : cyclic (rows_as (take n rows)) (length (take n rows)) ≡ cyclic (rows_as rows) n
  front_cyclic =
      ap (cyclic (rows_as (take n rows))) (length-take-le n rows l)
      ∙ cyclic_as (rows_as (take n rows)) (rows_as rows) n (λ j h. get_or-take n rows j 0 h)

  -- the answer of the rounds, where there are no more rows than there may be
  pub rounds_answer : {b : Bool} → n ≤ most_rows → b ≡ cyclic (rows_as (take n rows)) (length (take n rows))
      → b ≡ (leb n most_rows && cyclic (rows_as rows) n)
  rounds_answer h e = e ∙ front_cyclic ∙ rw (le-leb n most_rows h)

  -- what s reaches, where there is such a row
  pub row_reached : {s m : ℕ} → m ≡ reach (rows_as (take n rows)) (length (take n rows)) s → n ≤ most_rows → s < n
      → m ≡ pick (leb n most_rows && ltb s n) (reach (rows_as rows) n s) 0
  row_reached {s} e h k =
      e ∙ ap (λ m. reach (rows_as (take n rows)) m s) (length-take-le n rows l)
      ∙ reach_as (rows_as (take n rows)) (rows_as rows) n (λ j h. get_or-take n rows j 0 h) n s (omega arith) k
      ∙ rw (le-leb n most_rows h, lt-ltb s n k)

-- there is no such row
pub row_none : (rows : List ℕ) (n s : ℕ) → ((n ≤ most_rows) × (n ≤ s)) ⊎ (most_rows < n)
    → 0 ≡ pick (leb n most_rows && ltb s n) (reach (rows_as rows) n s) 0
row_none rows n s (inl h) = rw (le-leb n most_rows h.0, le-ltb s n h.1)
row_none rows n s (inr h) = rw (lt-leb n most_rows h)
