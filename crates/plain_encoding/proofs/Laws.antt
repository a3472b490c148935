-- The numbers of a place, put in one copy; and what was made place by place.
use Prim.Native.Nat.{ℕ, zero, suc, ◌+◌, ◌≤◌, ◌<◌}
use native.Mathlib.Numerals.{add-one}
use native.Mathlib.Omega.{arith}
use mathlib.Core.List.{List}
use mathlib.Core.Path.{◌≡◌, refl, sym, ap, ◌∙◌}
use lib.ListN.{get_or, length, replicate, set}
use lib.Seq.{paste, paste-suc, paste-zero}
use borrow.Rule.Slice.PartMut.{put_mid}
use Rattle.std.proofs.lemmas.Slice.{put_mid-paste}
use Rattle.std.proofs.lemmas.List.{get_or_default, same_lists}
use Rattle.base.specs.Folds.{fold}
use Rattle.base.proofs.Filled.{Filled, filled_more, filled_none}
use Rattle.service.specs.Limits.{max_services}
use Rattle.plain_encoding.specs.Encoding.{all_read}
use Rattle.plain_encoding.specs.Numbers.{per_place, place_of, placed}

put_paste : (l : List ℕ) (a : ℕ) (vs : List ℕ) (n : ℕ) → a + n ≤ length l → n ≤ length vs
    → fold (λ m k. set m (a + k) (get_or vs k 0)) l n ≡ paste l a vs n
put_paste l a vs zero h k = paste-zero l a vs
put_paste l a vs (suc n) h k =
    ap (λ m. set m (a + n) (get_or vs n 0)) (put_paste l a vs n (omega arith) (omega arith))
    ∙ paste-suc l a vs n 0 (omega arith) (omega arith)

-- w is the line that was copied to the place
pub copied_placed : (l : List ℕ) (a k : ℕ) {vs w : List ℕ} → a + per_place ≤ length l → length vs ≡ per_place → k ≡ per_place → w ≡ vs
    → put_mid a k l w ≡ placed l a vs
copied_placed l a k {vs} {w} h e q f =
    put_mid-paste a k l w vs per_place f (sym q) (sym e) ∙ sym (put_paste l a vs per_place h (omega arith))

-- a line that was written of the value that the code read; past the last value it reads x
pub line_placed : {A : Type 0} (encoded : A → List ℕ) (values : List A) (i : ℕ) (x d : A) (b : List ℕ) (a : ℕ) {n line : List ℕ} → i < length values
    → line ≡ encoded (get_or values i x) → n ≡ placed b a line → n ≡ placed b a (encoded (get_or values i d))
line_placed encoded values i x d b a h e p =
    p ∙ ap (placed b a) e ∙ ap (λ v. placed b a (encoded v)) (get_or_default values i x d h)

-- what was read for each place
pub read_at : {A : Type 0} (F : ℕ → A) (a : List A) (d : A) (n : ℕ) → length a ≡ n → (m : ℕ) → m ≤ n
    → Filled d F n (fold (λ l j. set l j (F j)) a m) m
read_at F a d n e zero l = filled_none e
read_at F a d n e (suc m) l = rw (sym (add-one m)) (filled_more (read_at F a d n e m (omega arith)) (omega arith) refl)

pub read_all : {A : Type 0} (decoded : List ℕ → ℕ → A) (l : List ℕ) (d : A) {m : List A}
    → ((e : A) → Filled e (λ s. decoded l (place_of s)) max_services m max_services) → m ≡ all_read decoded l d
unfolding all_read
read_all {A} decoded l d {m} h =
    let read = λ (e : A). read_at (λ s. decoded l (place_of s)) (replicate max_services d) e max_services refl max_services (omega arith) in
    same_lists m (fold (λ m s. set m s (decoded l (place_of s))) (replicate max_services d) max_services)
    ((h d).long ∙ sym (read d).long) (λ k e q. (h e).at k (omega (arith, q, (h d).long)) ∙ sym ((read e).at k (omega (arith, q, (h d).long))))
