-- The laws of a line by how it begins and by its property, with premises as the code finds them: where the value is, and what it was read as.
use Rattle.std.proofs.Common.{Option, Some, Result, Ok, Err, IfErr, MatchResult}
use native.Mathlib.Omega.{arith}
use mathlib.Core.Path.{◌≡◌, refl, sym, ap, subst}
use mathlib.Core.List.{List}
use Prim.Native.Nat.{ℕ, ◌+◌, ◌-◌, ◌<◌}
use lib.ListN.{length, drop, length-drop}
use Rattle.load_text.specs.Lines.{fault, opening}
use Rattle.load_text.specs.declared.Fault.{Fault}
use Rattle.load_text.specs.declared.Places.{Places}
use Rattle.load_text.proofs.Lines.{Inside, opening_inside}
use Rattle.load_value.specs.Values.{scan_of}
use Rattle.load_value.specs.declared.Sizes.{Sizes}
use Rattle.load_value.proofs.Scans.{ScanInside, scan_inside}

-- what `told_from` made of what was read, where it is a value and where it is a fault
module _ {T : Type 0} (from : ℕ) where
  abbrev pub Told : Result T Fault → Result T Fault → Type 0
  Told r t = MatchResult r (λ x. t ≡ Ok x) (λ f. t ≡ Err (fault f.wrong (from + f.at)))

  pub told_ok : (r : Result T Fault) {x : T} → Told r (Ok x) → r ≡ Ok x
  told_ok (Ok y) h = sym h
  told_ok (Err f) h = absurd (cc)

  pub told_err : (r : Result T Fault) {e : Fault} → Told r (Err e) → (f : Fault) × (r ≡ Err f) × (e ≡ fault f.wrong (from + f.at))
  told_err (Ok y) h = absurd (cc)
  told_err (Err f) h = (f, refl, cc)

-- a fault of how a line begins is within the line, and that of a value within its part of it: told from an offset it fits
pub opening_fits : (from : ℕ) (l : List ℕ) {r : Result (Option Places) Fault} → from + length l < 18446744073709551616 → r ≡ opening l
    → IfErr r (λ f. from + f.at < 18446744073709551616)
opening_fits from l {r} n e = by r (subst (Inside (length l)) (sym e) (opening_inside l))
  where
    by : (r : Result (Option Places) Fault) → Inside (length l) r → IfErr r (λ f. from + f.at < 18446744073709551616)
    by (Ok o) h = tt
    by (Err f) h = omega arith

pub value_fits : (from : ℕ) (l : List ℕ) (v : ℕ) {value : List ℕ} {r : Result Sizes Fault} → from + (length l - v) < 18446744073709551616
    → value ≡ drop v l → r ≡ scan_of value → IfErr r (λ f. from + f.at < 18446744073709551616)
value_fits from l v {value} {r} n p e = by r (subst (ScanInside (length value)) (sym e) (scan_inside value))
  where
    by : (r : Result Sizes Fault) → ScanInside (length value) r → IfErr r (λ f. from + f.at < 18446744073709551616)
    by (Ok z) i = tt
    by (Err f) i = omega (arith, i, ap length p, length-drop v l)

-- the places of a line that begins with a name
pub opened : (l : List ℕ) {s : Places} → opening l ≡ Ok (Some s) → Inside (length l) (Ok (Some s))
opened l e = subst (Inside (length l)) e (opening_inside l)
