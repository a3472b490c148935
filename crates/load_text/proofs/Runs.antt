-- The laws of runs of bytes, and of the first bad byte and of the column after some bytes, as loops go through them.
use mathlib.Core.Path.{◌≡◌, ap}
use mathlib.Core.List.{List, [], ◌∷◌}
use mathlib.Core.Bool.{Bool, true, false}
use Prim.Native.Nat.{ℕ, suc, ◌+◌, ◌≤◌, ◌<◌, zero-le, suc-le-suc}
use native.Mathlib.Omega.{arith}
use lib.ListN.{length, get_or, drop, drop_of_length-le, length-drop}
use Rattle.base.proofs.Counting.{drop_more}
use Rattle.base.specs.Folds.{pick}
use Rattle.load_text.specs.Bytes.{is_bad, is_newline, run}
use Rattle.load_text.specs.declared.Wrong.TheVariants.{BadByte}
use Rattle.load_text.specs.Lines.{fault, bad_from, column_from}
use Rattle.std.specs.Prelude.{Ok, Err}

pub run_fits : (p : ℕ → Bool) (l : List ℕ) → run p l ≤ length l
unfolding run
run_fits p [] = zero-le
run_fits p (b ∷ bs) = by (p b) (run_fits p bs)
  where
    by : (t : Bool) → run p bs ≤ length bs → pick t (suc (run p bs)) 0 ≤ suc (length bs)
    by true h = suc-le-suc h
    by false h = zero-le

-- a run that begins within a list ends within it
pub run_within : (p : ℕ → Bool) (s : List ℕ) (i : ℕ) {e : ℕ} → i ≤ length s → e ≡ i + run p (drop i s) → e ≤ length s
run_within p s i h q = omega (arith, run_fits p (drop i s), length-drop i s)

module _ (i : ℕ) (s : List ℕ) (k : ℕ) where
  pub bad_end : length s ≤ k → bad_from i (drop k s) ≡ Ok tt
  unfolding bad_from
  bad_end h = rw (drop_of_length-le s h)

  pub bad_next : {t : Bool} → k < length s → is_bad (get_or s k 0) ≡ t
      → bad_from i (drop k s) ≡ pick t (Err (fault BadByte i)) (bad_from (i + 1) (drop (k + 1) s))
  unfolding bad_from
  bad_next h e = rw (drop_more s k 0 h, e)

module _ (k : ℕ) (s : List ℕ) (i : ℕ) where
  pub column_end : length s ≤ i → column_from k (drop i s) ≡ k
  unfolding column_from
  column_end h = rw (drop_of_length-le s h)

  pub column_next : {t : Bool} → i < length s → is_newline (get_or s i 0) ≡ t
      → column_from k (drop i s) ≡ column_from (pick t 1 (k + 1)) (drop (i + 1) s)
  unfolding column_from
  column_next h e = rw (drop_more s i 0 h) (ap (λ (x : Bool). column_from (pick x 1 (k + 1)) (drop (i + 1) s)) e)
