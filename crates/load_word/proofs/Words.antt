-- The laws of words: the bytes of a name as the loop goes through them, and what stands with a name in a table.
use mathlib.Core.Path.{◌≡◌, refl}
use denote.Ref.{Bor}
use mathlib.Core.Bool.{Bool, true, false}
use mathlib.Core.List.{List, [], ◌∷◌, map}
use Prim.Native.Nat.{ℕ, suc, ◌+◌, ◌≤◌, ◌<◌}
use lib.Dec.{leb}
use lib.ListN.{get_or}
use native.Mathlib.Omega.{arith}
use borrow.Author.Tests.{le-leb, lt-leb}
use Rattle.std.specs.Prelude.{Option, Some, None, option_map, cond, unwrap_or}
use Rattle.std.specs.List.{find, list_all}
use Rattle.base.specs.Folds.{pick}
use Rattle.service.specs.Numbers.{last_signal, signal_at}
use Rattle.service.specs.declared.Signal.TheVariants.{Hup, Int, Kill, None as NoSignal, Quit, Term, Usr1, Usr2}
use Rattle.load_text.specs.Strings.{index_from, same}
use Rattle.load_text.specs.Bytes.{is_name_byte}
use Rattle.load_word.specs.Words.{found, name_bytes, signal_names, signal_of}

pub name_all : (s : List ℕ) → list_all is_name_byte s ≡ name_bytes s
unfolding name_bytes
name_all [] = refl
name_all (b ∷ bs) = rw (name_all bs)

-- ---- what stands with a name in a table

pub found_is : {T : Type 0} (n : List ℕ) (es : List (Bor (List ℕ) × T)) → option_map (λ e. e.1) (find (λ e. same n e.0.now) es) ≡ found n es
unfolding found
found_is n [] = refl
found_is {T} n (e ∷ es) = by (same n e.0.now) (found_is n es)
  where
    by : (t : Bool) → option_map (λ (e : Bor (List ℕ) × T). e.1) (find (λ e. same n e.0.now) es) ≡ found n es
        → option_map (λ (e : Bor (List ℕ) × T). e.1) (cond t (Some e) (find (λ e. same n e.0.now) es)) ≡ pick t (Some e.1) (found n es)
    by true h = refl
    by false h = h

-- the place counted from one further is one further
index_shift : (n : List ℕ) (k : ℕ) (ts : List (List ℕ)) → index_from n (k + 1) ts ≡ suc (index_from n k ts)
unfolding index_from
index_shift n k [] = omega arith
index_shift n k (t ∷ ts) = by (same n t) (index_shift n (k + 1) ts)
  where
    by : (b : Bool) → index_from n (k + 1 + 1) ts ≡ suc (index_from n (k + 1) ts) → pick b (k + 1) (index_from n (k + 1 + 1) ts) ≡ suc (pick b k (index_from n (k + 1) ts))
    by true h = omega arith
    by false h = h

-- that is what stands at the place of the name
found_here : {T : Type 0} (n : List ℕ) (es : List (Bor (List ℕ) × T)) (d : T)
    → unwrap_or (found n es) d ≡ get_or (map (λ e. e.1) es) (index_from n 0 (map (λ e. e.0.now) es)) d
unfolding found index_from
found_here n [] d = refl
found_here {T} n (e ∷ es) d = by (same n e.0.now) (found_here n es d)
  where
    by : (t : Bool) → unwrap_or (found n es) d ≡ get_or (map (λ e. e.1) es) (index_from n 0 (map (λ e. e.0.now) es)) d
        → unwrap_or (pick t (Some e.1) (found n es)) d ≡ get_or (e.1 ∷ map (λ e. e.1) es) (pick t 0 (index_from n (0 + 1) (map (λ e. e.0.now) es))) d
    by true h = refl
    by false h = rw (index_shift n 0 (map (λ (e : Bor (List ℕ) × T). e.0.now) es)) h

pub found_at : {T : Type 0} (n : List ℕ) (es : List (Bor (List ℕ) × T)) {r : Option T} (d : T)
    → r ≡ found n es → unwrap_or r d ≡ get_or (map (λ e. e.1) es) (index_from n 0 (map (λ e. e.0.now) es)) d
found_at n es d h = rw h (found_here n es d)

-- a signal at the place that was found, by the tests of the names
pub signal_chosen : (a b c d e f g h : Bool)
    → pick a (Some NoSignal) (pick b (Some Hup) (pick c (Some Int) (pick d (Some Term) (pick e (Some Quit) (pick f (Some Usr1) (pick g (Some Usr2) (pick h (Some Kill) None)))))))
    ≡ pick (leb (pick a 0 (pick b 1 (pick c 2 (pick d 3 (pick e 4 (pick f 5 (pick g 6 (pick h 7 8)))))))) last_signal) (Some (signal_at (pick a 0 (pick b 1 (pick c 2 (pick d 3 (pick e 4 (pick f 5 (pick g 6 (pick h 7 8)))))))))) None
signal_chosen true b c d e f g h = refl
signal_chosen false true c d e f g h = refl
signal_chosen false false true d e f g h = refl
signal_chosen false false false true e f g h = refl
signal_chosen false false false false true f g h = refl
signal_chosen false false false false false true g h = refl
signal_chosen false false false false false false true h = refl
signal_chosen false false false false false false false true = refl
signal_chosen false false false false false false false false = refl

-- a signal by the place that was found
pub signal_found : (w : List ℕ) {k : ℕ} → index_from w 0 signal_names ≡ k → k < last_signal + 1 → signal_of w ≡ Some (signal_at k)
unfolding signal_of
signal_found w {k} e h = rw (e, le-leb k last_signal (omega arith))

pub signal_none : (w : List ℕ) {k : ℕ} → index_from w 0 signal_names ≡ k → last_signal + 1 ≤ k → signal_of w ≡ None
unfolding signal_of
signal_none w {k} e h = rw (e, lt-leb k last_signal (omega arith))
