-- The laws of a setting's store: settings are what is read back of their numbers, and what a word's worth makes of them.
use Prim.Native.Nat.{ℕ}
use mathlib.Core.Path.{◌≡◌, ap, sym, ◌∙◌}
use Rattle.std.specs.Prelude.{Option, Some}
use Rattle.service.specs.Numbers.{settings_from, settings_numbers, with_number}
use Rattle.service.specs.declared.Settings.{Settings}
use Rattle.service.proofs.Numbering.{settings_back}
use Rattle.load_word.specs.Properties.{stored}

pub set_to : (next : Settings) → Some next ≡ Some (settings_from (settings_numbers next) 0)
set_to next = ap Some (sym (settings_back next))

pub stored_to : {r : Option ℕ} (v : Settings) (k n : ℕ) (next : Settings)
    → r ≡ Some n → settings_from (settings_numbers next) 0 ≡ with_number k n v → Some next ≡ stored k v r
stored_to v k n next e h = rw e (ap Some (sym (settings_back next) ∙ h))
