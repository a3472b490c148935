-- "Value": what is read of a value and its string of bytes (`spaced`). A value that is a word is read as its string. One of several tokens is refused,
-- and so is its string by every rule, since no rule takes the space in it.
use mathlib.Core.Path.{◌≡◌, refl, ap, ◌∙◌}
use mathlib.Core.Bool.{Bool, true, false, ◌||◌}
use mathlib.Core.List.{List, [], ◌∷◌, ◌++◌}
use Prim.Native.Nat.{ℕ, ◌<◌}
use native.Mathlib.Omega.{arith}
use borrow.Author.Tests.{eqb-true}
use lib.Dec.{eqb}
use Rattle.base.proofs.Tests.{no_ft, and_true}
use Rattle.std.proofs.lemmas.Bool.{false_from_ne_true}
use Rattle.load_value.specs.Values.{is_word, scan_of, spaced}
use Rattle.load_value.specs.declared.Sizes.{Sizes}
use Rattle.std.proofs.Common.{Ok}
use Rattle.load_value.proofs.Spaced.{has_space, several_spaced, word_spaced}
use Rattle.load_word.specs.declared.Property.{Property}
use Rattle.load_word.specs.declared.Property.TheVariants.{Kind, Setting, Command, Link, Unknown}
use Rattle.load_word.proofs.Spaces.{kind_none, name_none, setting_none}
use Rattle.load_description.specs.declared.Description.{Description}
use Rattle.load_description.specs.Lines.{outside, single_read, word_read}

-- the bytes before a space and after it
pub record Parted (w : List ℕ) : Type 0 where
  pub before : List ℕ
  pub after : List ℕ
  pub parts : w ≡ before ++ (32 ∷ after)

parted : (w : List ℕ) → has_space w ≡ true → Parted w
unfolding has_space
parted [] h = no_ft h
parted (b ∷ bs) h = by (eqb b 32) refl h (parted bs)
  where
    by : (t : Bool) → eqb b 32 ≡ t → (t || has_space bs) ≡ true → (has_space bs ≡ true → Parted bs) → Parted (b ∷ bs)
    by true e h on = record { before = []; after = bs; parts = ap (λ (x : ℕ). x ∷ bs) (eqb-true b 32 e) }
    by false e h on = let p = on h in record { before = b ∷ p.before; after = p.after; parts = ap (λ (l : List ℕ). b ∷ l) p.parts }

module _ (text : List ℕ) (d : Description) (at seen : ℕ) where
  -- no rule takes a space
  space_outside : (p : Property) (xs ys : List ℕ) → word_read text d p at seen (xs ++ (32 ∷ ys)) ≡ outside seen
  unfolding word_read
  space_outside Kind xs ys = rw (kind_none xs ys)
  space_outside (Setting s) xs ys = rw (setting_none xs ys s d.settings)
  space_outside (Link l) xs ys = rw (name_none xs ys)
  space_outside (Command c) xs ys = refl
  space_outside Unknown xs ys = refl

  module _ (p : Property) (v : List ℕ) {z : Sizes} (scan : scan_of v ≡ Ok z) where
    -- a word is read as the value's string
    pub word_read_lem : is_word z ≡ true → single_read text d p at seen z v ≡ word_read text d p at seen (spaced v)
    word_read_lem w = rw (w, word_spaced v scan w)

    -- several tokens are refused, as their string is
    pub several_read : 1 < z.tokens → (single_read text d p at seen z v ≡ outside seen) × (word_read text d p at seen (spaced v) ≡ outside seen)
    several_read many =
        let q = parted (spaced v) (several_spaced v scan many) in
        (rw (false_from_ne_true (is_word z) one_token), ap (word_read text d p at seen) q.parts ∙ space_outside p q.before q.after)
      where
        one_token : is_word z ≡ true → ⊥
        one_token w = let one = ((and_true _ _).0 ((and_true _ _).0 w).0).0 in absurd (omega (arith, many, eqb-true z.tokens 1 one))
