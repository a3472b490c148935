-- What is made of a word that is read: a type, settings, or nothing outside the rule.
use Rattle.std.proofs.Common.{ap, Option, Some, None, MatchOption, IsSomeAnd, option_map, ok_or}
use mathlib.Core.Path.{◌≡◌, refl}
use Prim.Native.Nat.{ℕ}
use Rattle.service.specs.declared.Kind.{Kind as ServiceKind}
use Rattle.service.specs.declared.Settings.{Settings as ServiceSettings}
use Rattle.load_text.specs.Lines.{fault}
use Rattle.load_text.specs.declared.Wrong.TheVariants.{OutsideRule}
use Rattle.load_description.specs.declared.Effect.{Effect}
use Rattle.load_description.specs.declared.Effect.TheVariants.{Kind as EffectKind, Settings as EffectSettings}
use Rattle.load_description.specs.Lines.{kind_read, setting_read}

-- what `map` gives of a word that is read, with what each call of its function gives
module _ {A : Type 0} (f : A → Effect) {R : A → Effect → Type 0} (each : (x : A) (y : Effect) → R x y → y ≡ f x) where
  pub mapped : (o : Option A) {m : Option Effect} → MatchOption o (m ≡ None) (λ x. IsSomeAnd m (λ y. R x y)) → m ≡ option_map f o
  mapped None h = h
  mapped (Some x) {m} h = by m h
    where
      by : (m : Option Effect) → IsSomeAnd m (λ y. R x y) → m ≡ Some (f x)
      by None h = absurd h
      by (Some y) h = ap (λ (z : Effect). Some z) (each x y h)

-- a type and settings by the word that is read, or outside the rule
pub kind_told : (seen : ℕ) (o : Option ServiceKind) → ok_or (option_map (λ k. EffectKind k) o) (fault OutsideRule seen) ≡ kind_read seen o
kind_told seen None = refl
kind_told seen (Some k) = refl

pub setting_told : (seen : ℕ) (o : Option ServiceSettings) → ok_or (option_map (λ v. EffectSettings v) o) (fault OutsideRule seen) ≡ setting_read seen o
setting_told seen None = refl
setting_told seen (Some v) = refl
