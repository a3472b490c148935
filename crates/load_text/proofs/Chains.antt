-- What the library counts in a chain, in the words of the definitions: the bytes of a class at a list's beginning, those up to a newline, the newlines,
-- the bytes after the last. And the library's equality of lists, as `same`.
use mathlib.Core.Path.{◌≡◌, refl, sym}
use mathlib.Core.List.{List, [], ◌∷◌}
use mathlib.Core.Bool.{Bool, true, false, not}
use Prim.Native.Nat.{ℕ, suc, ◌+◌, ◌≤◌}
use native.Mathlib.Omega.{arith}
use lib.Dec.{eqb}
use borrow.Author.Tests.{eq-eqb, eqb-true, ne_eqb}
use lib.ListN.{length}
use lib.Pointwise.{pointwise}
use Rattle.std.specs.Prelude.{reverse, cond}
use Rattle.std.specs.List.{count_by, prefix_len}
use Rattle.std.proofs.lemmas.List.{reverse-append, length-reverse}
use Rattle.std.proofs.lemmas.List.Folds.{prefix_len-append}
use Rattle.std.proofs.lemmas.List.Sums.{prefix_len-le-length, sum_by-cons}
use Rattle.base.specs.Folds.{pick}
use Rattle.load_text.specs.Strings.{same}
use Rattle.load_text.specs.Bytes.{is_newline, run}
use Rattle.load_text.specs.Lines.{line_of, line_from, column_from}

pub same_pointwise : (a b : List ℕ) → pointwise eqb a b ≡ same a b
unfolding same
same_pointwise [] [] = refl
same_pointwise [] (y ∷ b) = refl
same_pointwise (x ∷ a) [] = refl
same_pointwise (x ∷ a) (y ∷ b) = rw (same_pointwise a b)

pub run_prefix : (p : ℕ → Bool) (l : List ℕ) → prefix_len p l ≡ run p l
unfolding run
run_prefix p [] = refl
run_prefix p (b ∷ bs) = by (p b) (run_prefix p bs)
  where
    by : (t : Bool) → prefix_len p bs ≡ run p bs → cond t (1 + prefix_len p bs) 0 ≡ pick t (suc (run p bs)) 0
    by true h = omega arith
    by false h = refl

abbrev pub in_line : ℕ → Bool
in_line b = not (is_newline b)

pub line_prefix : (l : List ℕ) → prefix_len in_line l ≡ length (line_of l)
unfolding line_of
line_prefix [] = refl
line_prefix (b ∷ bs) = by (is_newline b) (line_prefix bs)
  where
    by : (t : Bool) → prefix_len in_line bs ≡ length (line_of bs) → cond (not t) (1 + prefix_len in_line bs) 0 ≡ length (pick t [] (b ∷ line_of bs))
    by true h = refl
    by false h = omega arith

pub line_count : (n : ℕ) (l : List ℕ) → n + count_by is_newline l ≡ line_from n l
unfolding line_from
line_count n [] = omega arith
line_count n (b ∷ bs) = rw (sum_by-cons (λ x. cond (is_newline x) 1 0) b bs) (by (is_newline b) (line_count (n + 1) bs) (line_count n bs))
  where
    by : (t : Bool) → n + 1 + count_by is_newline bs ≡ line_from (n + 1) bs → n + count_by is_newline bs ≡ line_from n bs
        → n + (cond t 1 0 + count_by is_newline bs) ≡ line_from (pick t (n + 1) n) bs
    by true h k = omega arith
    by false h k = omega arith

-- with no newline among them the column goes on from where it began; else it is counted after the last
column_last : (k : ℕ) (l : List ℕ)
    → column_from k l ≡ cond (eqb (prefix_len in_line (reverse l)) (length l)) (k + length l) (1 + prefix_len in_line (reverse l))
unfolding column_from
column_last k [] = omega arith
column_last k (b ∷ bs) =
    let last = prefix_len in_line (reverse bs) in
    let n = length bs in
    let few : last ≤ n = rw (← length-reverse bs) (prefix_len-le-length in_line (reverse bs)) in
    rw (reverse-append (b ∷ []) bs, prefix_len-append in_line (reverse bs) (b ∷ []), length-reverse bs)
    (by last few (is_newline b) (eqb last n) refl (column_last (pick (is_newline b) 1 (k + 1)) bs))
  where
    by : (last : ℕ) → last ≤ length bs → (t u : Bool) → eqb last (length bs) ≡ u
        → column_from (pick t 1 (k + 1)) bs ≡ cond u (pick t 1 (k + 1) + length bs) (1 + last)
        → column_from (pick t 1 (k + 1)) bs
        ≡ cond (eqb (cond u (length bs + cond (not t) 1 0) last) (suc (length bs))) (k + suc (length bs)) (1 + cond u (length bs + cond (not t) 1 0) last)
    by last few true true e h = rw (ne_eqb (length bs + 0) (suc (length bs)) (λ q. absurd (omega arith))) (omega arith)
    by last few false true e h = rw (eq-eqb (length bs + 1) (suc (length bs)) (omega arith)) (omega arith)
    by last few t false e h = rw (ne_eqb last (suc (length bs)) (λ q. absurd (omega arith))) h

pub column_prefix : (l : List ℕ) → 1 + prefix_len in_line (reverse l) ≡ column_from 1 l
column_prefix l = by (eqb (prefix_len in_line (reverse l)) (length l)) refl (column_last 1 l)
  where
    by : (t : Bool) → eqb (prefix_len in_line (reverse l)) (length l) ≡ t
        → column_from 1 l ≡ cond t (1 + length l) (1 + prefix_len in_line (reverse l)) → 1 + prefix_len in_line (reverse l) ≡ column_from 1 l
    by true e h = omega (arith, eqb-true (prefix_len in_line (reverse l)) (length l) e)
    by false e h = sym h
