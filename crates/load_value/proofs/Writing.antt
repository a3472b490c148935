-- What a loop that writes has still to write, and what was stored at the start read back.
use mathlib.Core.Path.{◌≡◌, refl, sym, ap, ◌∙◌}
use mathlib.Core.List.{List, [], ◌∷◌, ◌++◌}
use Prim.Native.Nat.{ℕ, ◌+◌, ◌≤◌}
use native.Mathlib.Numerals.{add-one}
use native.Mathlib.Nat.{add-zero, zero-add, sub-zero}
use native.Mathlib.Omega.{arith}
use lib.ListN.{length, take, drop, length-set}
use lib.Seq.{sets, sets-eq, length-sets, take-append_seam}
use borrow.Author.Tests.{le-leb}
use Rattle.load_text.specs.Strings.{part_of}
use Rattle.load_value.specs.Stores.{Put, Puts}

-- to write E from `a` into d₀ is to write F from o into d
pub record Left (d₀ : List ℕ) (a : ℕ) (E d : List ℕ) (o : ℕ) (F : List ℕ) : Type 0 where
  pub stores : sets d₀ a E ≡ sets d o F
  pub places : a + length E ≡ o + length F
  pub long : length d ≡ length d₀

pub begin : (d : List ℕ) (a : ℕ) (E : List ℕ) → Left d a E d a E
begin d a E = record { stores = refl; places = refl; long = refl }

-- what is left to write is named another way
pub follow : {d₀ : List ℕ} {a : ℕ} {E d : List ℕ} {o : ℕ} {F G : List ℕ} → Left d₀ a E d o F → F ≡ G → Left d₀ a E d o G
follow w e = rw (← e) w

-- the first of what is left is stored
pub stored : {d₀ : List ℕ} {a : ℕ} {E d : List ℕ} {o b : ℕ} {F d' : List ℕ} {o' : ℕ}
    → Left d₀ a E d o (b ∷ F) → Put d o b d' o' → Left d₀ a E d' o' F
stored {d = d} {o} {b} {F} w p = record {
  stores = w.stores ∙ rw (p.buffer, p.next, add-one o);
  places = omega (arith, w.places, p.next);
  long = ap length p.buffer ∙ length-set d o b ∙ w.long;
}

-- nothing is left
pub ends : {d₀ : List ℕ} {a : ℕ} {E d : List ℕ} {o : ℕ} → Left d₀ a E d o [] → Puts d₀ a E d o
ends {o = o} w = record { buffer = sym w.stores; next = sym (w.places ∙ add-zero o) }

-- what was stored at the start stands there
pub puts_taken : {d vs d' : List ℕ} {r : ℕ} → length vs ≤ length d → Puts d 0 vs d' r → take r d' ≡ vs
puts_taken {d} {vs} h p =
    let n = p.next ∙ zero-add (length vs) in
    let b = p.buffer ∙ sets-eq vs d 0 (omega arith) ∙ ap (λ (k : ℕ). vs ++ drop k d) (zero-add (length vs)) in
    rw (n, b) (take-append_seam vs (drop (length vs) d))

-- the same as a part of the buffer
pub puts_part : {d vs d' : List ℕ} {r : ℕ} → length vs ≤ length d → Puts d 0 vs d' r → part_of d' 0 r ≡ vs
unfolding part_of
puts_part {d} {vs} {d'} {r} h p =
    let n : r ≡ length vs = p.next ∙ zero-add (length vs) in
    let b : d' ≡ vs ++ drop (length vs) d = p.buffer ∙ sets-eq vs d 0 (omega arith) ∙ ap (λ (k : ℕ). vs ++ drop k d) (zero-add (length vs)) in
    let l : length d' ≡ length d = ap length p.buffer ∙ length-sets d 0 vs in
    rw (le-leb 0 r (omega arith), le-leb r (length d') (omega (arith, n, l)), sub-zero r, n, b) (take-append_seam vs (drop (length vs) d))
