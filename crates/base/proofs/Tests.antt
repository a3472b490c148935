-- Tests as facts: each law turns a test's value into facts on its parts. The ruleset `tests` opens a whole test.
use mathlib.Core.Path.{◌≡◌, refl}
use mathlib.Core.Bool.{Bool, true, false, not, ◌&&◌, ◌||◌, true≢false, false≢true}
use mathlib.Core.Logic.{◌↔◌, ◌⊎◌, inl, inr}
use Rattle.base.specs.Folds.{implies}

pub no_ft {ℓ} : {A : Type ℓ} → false ≡ true → A
no_ft e = absurd (false≢true e)

pub no_tf {ℓ} : {A : Type ℓ} → true ≡ false → A
no_tf e = absurd (true≢false e)

pub not_both : {b : Bool} → b ≡ true → b ≡ false → ⊥
not_both {b = true} p q = no_tf q
not_both {b = false} p q = no_ft p

pub or_not : (b : Bool) → (b ≡ true) ⊎ (b ≡ false)
or_not true = inl refl
or_not false = inr refl

pub not_true : (a : Bool) → (not a ≡ true) ↔ (a ≡ false)
not_true true = (λ e. no_ft e, λ e. no_tf e)
not_true false = (λ e. refl, λ e. refl)

pub not_false : (a : Bool) → (not a ≡ false) ↔ (a ≡ true)
not_false true = (λ e. refl, λ e. refl)
not_false false = (λ e. no_tf e, λ e. no_ft e)

pub and_true : (a b : Bool) → ((a && b) ≡ true) ↔ ((a ≡ true) × (b ≡ true))
and_true true b = (λ e. (refl, e), λ h. h.1)
and_true false b = (λ e. no_ft e, λ h. no_ft h.0)

pub and_false : (a b : Bool) → ((a && b) ≡ false) ↔ ((a ≡ true) → b ≡ false)
and_false true b = (λ e _. e, λ h. h refl)
and_false false b = (λ _ e. no_ft e, λ h. refl)

pub or_false : (a b : Bool) → ((a || b) ≡ false) ↔ ((a ≡ false) × (b ≡ false))
or_false true b = (λ e. no_tf e, λ h. no_tf h.0)
or_false false b = (λ e. (refl, e), λ h. h.1)

-- not among `tests`, since `simp` does not go under a sum of types
pub or_true : (a b : Bool) → ((a || b) ≡ true) ↔ ((a ≡ true) ⊎ (b ≡ true))
or_true true b = (λ e. inl refl, λ h. refl)
or_true false b = (λ e. inr e, elim [ inl e ↦ no_ft e | inr e ↦ e ])

pub imp_true : (a b : Bool) → (implies a b ≡ true) ↔ ((a ≡ true) → b ≡ true)
imp_true true b = (λ e _. e, λ h. h refl)
imp_true false b = (λ _ e. no_ft e, λ h. refl)

pub ruleset tests = (not_true, not_false, and_true, and_false, or_false, imp_true)

-- cases with what is taken apart first, so that the cases' types are known when they are read
pub either {ℓ ℓ' ℓ''} : {A : Type ℓ} {B : Type ℓ'} {C : Type ℓ''} → A ⊎ B → (A → C) → (B → C) → C
either (inl a) f g = f a
either (inr b) f g = g b
