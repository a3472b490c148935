-- Lists by their places: given by a function of the place, changed at one, of copies, or mapped.
use Prim.Native.Nat.{◌<◌, suc, zero, ℕ}
use lib.ListN.{get_or, length, length-map, replicate, set}
use mathlib.Core.List.{List, [], ◌∷◌, map}
use mathlib.Core.Path.{◌∙◌, ◌≡◌, ap, ap₂, refl, sym}
use native.Mathlib.Nat.{not-suc-le-zero, le_of_suc-le-suc}
use native.Mathlib.Omega.{arith}
use Rattle.base.specs.Folds.{listed}

pub listed_as : {A : Type 0} (f g : ℕ → A) (n : ℕ) → ((i : ℕ) → i < n → f i ≡ g i) → listed f n ≡ listed g n
unfolding listed
listed_as f g zero h = refl
listed_as {A} f g (suc n) h =
    ap₂ (λ (a : A) (l : List A). a ∷ l) (h 0 (omega arith)) (listed_as (λ i. f (suc i)) (λ i. g (suc i)) n (λ i l. h (suc i) (omega arith)))

-- what holds of the value stored, and held before elsewhere, holds at each place
pub set_holds : {A : Type 0} (P : A → Type 0) (l : List A) (s i : ℕ) (a d : A) → (i ≡ s → P a) → P (get_or l i d) → P (get_or (set l s a) i d)
set_holds P [] s i a d f h = h
set_holds P (b ∷ l) zero zero a d f h = f refl
set_holds P (b ∷ l) zero (suc i) a d f h = h
set_holds P (b ∷ l) (suc s) zero a d f h = h
set_holds P (b ∷ l) (suc s) (suc i) a d f h = set_holds P l s i a d (λ e. f (ap suc e)) h

-- and of a list of copies
pub copies_hold : {A : Type 0} (P : A → Type 0) (n i : ℕ) (a d : A) → P a → P d → P (get_or (replicate n a) i d)
copies_hold P zero i a d h k = k
copies_hold P (suc n) zero a d h k = h
copies_hold P (suc n) (suc i) a d h k = copies_hold P n i a d h k

-- what owning an array of structs says is said of the values that stand for them: the array is as long
pub length_mapped : (X Y : Type 0) (f : X → Y) (l : List X) (n : ℕ) → length (map f l) ≡ n → length l ≡ n
length_mapped X Y f l n p = sym (length-map l f) ∙ p

-- within a list, what is read past its end does not matter
pub get_d_default : {A : Type 0} (l : List A) (k : ℕ) (d e : A) → k < length l → get_or l k d ≡ get_or l k e
get_d_default [] k d e h = absurd (not-suc-le-zero h)
get_d_default (x ∷ l) zero d e h = refl
get_d_default (x ∷ l) (suc k) d e h = get_d_default l k d e (le_of_suc-le-suc h)
