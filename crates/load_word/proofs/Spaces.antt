-- No rule of a word takes a space: a value of several tokens, which has one between them, is outside every rule.
use mathlib.Core.Path.{◌≡◌, refl, ap, sym, ◌∙◌}
use mathlib.Core.Bool.{Bool, true, false, ◌&&◌, not, and-false}
use mathlib.Core.List.{List, [], ◌∷◌, ◌++◌}
use Prim.Native.Nat.{ℕ, ◌+◌}
use lib.Dec.{eqb, leb, ltb}
use native.Mathlib.Nat.{add-zero}
use native.Mathlib.Omega.{arith}
use lib.ListN.{length}
use Rattle.base.proofs.Tests.{and_true, not_true}
use Rattle.load_text.specs.Bytes.{is_name_byte, longest_name}
use Rattle.load_text.specs.Strings.{bytes, index_from, same}
use Rattle.service.specs.declared.Settings.{Settings}
use Rattle.load_word.specs.Words.{flag_of, is_name, kind_of, name_bytes, no_of, signal_names, signal_of}
use Rattle.load_word.specs.Decimals.{blank, continued, count_of, decimal_from, read_of, time_of}
use Rattle.load_word.specs.Properties.{setting_of}
use Rattle.load_word.specs.declared.Setting.{Setting}
use Rattle.load_word.specs.declared.Setting.TheVariants.{Restart, SmoothRecovery, RestartDelay, RestartLimitInterval}
use Rattle.load_word.specs.declared.Setting.TheVariants.{RestartLimitCount, StartTimeout, StopTimeout, TermSignal}
use Rattle.load_word.specs.declared.Decimal.{Decimal}
use Rattle.std.specs.Prelude.{Option, Some, None}

-- no byte of a list is a space
abbrev unspaced : List ℕ → Bool
unspaced [] = true
unspaced (b ∷ bs) = not (eqb 32 b) && unspaced bs

module _ (ys : List ℕ) where
  -- a word without a space is not one with a space
  differs : (xs t : List ℕ) → unspaced t ≡ true → same (xs ++ (32 ∷ ys)) t ≡ false
  unfolding same
  differs [] [] u = refl
  differs [] (y ∷ t) u = rw ((not_true (eqb 32 y)).0 ((and_true (not (eqb 32 y)) (unspaced t)).0 u).0)
  differs (x ∷ xs) [] u = refl
  differs (x ∷ xs) (y ∷ t) u = rw (differs xs t ((and_true (not (eqb 32 y)) (unspaced t)).0 u).1) (and-false (eqb x y))

  -- it is none of a list of such words
  abbrev all_unspaced : List (List ℕ) → Bool
  all_unspaced [] = true
  all_unspaced (t ∷ ts) = unspaced t && all_unspaced ts

  found_none : (xs : List ℕ) (k : ℕ) (ts : List (List ℕ)) → all_unspaced ts ≡ true → index_from (xs ++ (32 ∷ ys)) k ts ≡ k + length ts
  unfolding index_from
  found_none xs k [] u = sym (add-zero k)
  found_none xs k (t ∷ ts) u =
      let both = (and_true (unspaced t) (all_unspaced ts)).0 u in
      rw (differs xs t both.0) (found_none xs (k + 1) ts both.1 ∙ omega arith)

  -- no digit, no point
  goes_on : (r : Option Decimal) (xs : List ℕ) → ((k : Decimal) → decimal_from k (xs ++ (32 ∷ ys)) ≡ None) → continued r (λ k. decimal_from k (xs ++ (32 ∷ ys))) ≡ None
  goes_on (Some k) xs e = e k
  goes_on None xs e = refl

  reads_none : (xs : List ℕ) (k : Decimal) → decimal_from k (xs ++ (32 ∷ ys)) ≡ None
  unfolding decimal_from read_of
  reads_none [] k = refl
  reads_none (x ∷ xs) k = goes_on (read_of k x) xs (reads_none xs)

  names_none : (xs : List ℕ) → name_bytes (xs ++ (32 ∷ ys)) ≡ false
  unfolding name_bytes
  names_none [] = refl
  names_none (x ∷ xs) = rw (names_none xs) (and-false (is_name_byte x))

last_none : (a b : Bool) → (a && b && false) ≡ false
last_none true true = refl
last_none true false = refl
last_none false true = refl
last_none false false = refl

module _ (xs ys : List ℕ) where
  -- "yes, true, no, false" and the types
  no_none : no_of (xs ++ (32 ∷ ys)) ≡ None
  unfolding no_of bytes
  no_none = rw (differs ys xs (bytes "no") refl, differs ys xs (bytes "false") refl)

  flag_none : flag_of (xs ++ (32 ∷ ys)) ≡ None
  unfolding flag_of bytes
  flag_none = rw (differs ys xs (bytes "yes") refl, differs ys xs (bytes "true") refl, no_none)

  pub kind_none : kind_of (xs ++ (32 ∷ ys)) ≡ None
  unfolding kind_of bytes
  kind_none = rw (differs ys xs (bytes "process") refl, differs ys xs (bytes "scripted") refl, differs ys xs (bytes "internal") refl)

  signal_none : signal_of (xs ++ (32 ∷ ys)) ≡ None
  unfolding signal_of signal_names bytes
  signal_none = rw (found_none ys xs 0 signal_names refl)

  time_none : time_of (xs ++ (32 ∷ ys)) ≡ None
  unfolding time_of
  time_none = rw (reads_none ys xs blank)

  count_none : count_of (xs ++ (32 ∷ ys)) ≡ None
  unfolding count_of
  count_none = rw (reads_none ys xs blank)

  pub name_none : is_name (xs ++ (32 ∷ ys)) ≡ false
  unfolding is_name
  name_none =
      let long = length (xs ++ (32 ∷ ys)) in
      ap (λ b. ltb 0 long && leb long longest_name && b) (names_none ys xs) ∙ last_none (ltb 0 long) (leb long longest_name)

  -- no setting takes it
  pub setting_none : (s : Setting) (v : Settings) → setting_of s (xs ++ (32 ∷ ys)) v ≡ None
  unfolding setting_of
  setting_none Restart v = rw flag_none
  setting_none SmoothRecovery v = rw no_none
  setting_none RestartDelay v = rw time_none
  setting_none RestartLimitInterval v = rw time_none
  setting_none RestartLimitCount v = rw count_none
  setting_none StartTimeout v = rw time_none
  setting_none StopTimeout v = rw time_none
  setting_none TermSignal v = rw signal_none
