-- What the scan counted, said of the tokens themselves: the room is the length of what is written.
use mathlib.Core.Path.{◌≡◌, refl, sym, ap, ◌∙◌}
use mathlib.Core.Bool.{Bool, true, false}
use mathlib.Core.List.{List, [], ◌∷◌, map}
use Prim.Native.Nat.{ℕ, ◌+◌}
use native.Mathlib.Nat.{zero-add, add-zero}
use native.Mathlib.Omega.{arith}
use lib.ListN.{length}
use Rattle.base.proofs.Tests.{no_ft}
use Rattle.std.specs.Prelude.{Result, Ok, Err}
use Rattle.load_text.specs.declared.Fault.{Fault}
use Rattle.load_value.specs.declared.Sizes.{Sizes}
use Rattle.load_value.specs.Steps.{between}
use Rattle.load_value.specs.Values.{Mark, kept, close, fault_from, marks_from, byte_of, written}
use Rattle.load_value.specs.Values.{counted, no_sizes, sizes_from, scanned, scan_of}

abbrev is_tokens : Result Sizes Fault → Bool
is_tokens (Ok z) = true
is_tokens (Err f) = false

abbrev sizes_in : Result Sizes Fault → Sizes
sizes_in (Ok z) = z
sizes_in (Err f) = no_sizes

-- a value that has tokens has no fault, and its sizes are those of its marks
pub record Counted (v : List ℕ) (z : Sizes) : Type 0 where
  pub good : fault_from between 0 0 v ≡ Ok tt
  pub sizes : sizes_from no_sizes (marks_from between v) ≡ z

pub scan_counted : (v : List ℕ) {z : Sizes} → scan_of v ≡ Ok z → Counted v z
unfolding scan_of
scan_counted v {z} e = by (fault_from between 0 0 v) refl e
  where
    by : (f : Result (Unit {0}) Fault) → fault_from between 0 0 v ≡ f → scanned f (sizes_from no_sizes (marks_from between v)) ≡ Ok z → Counted v z
    by (Ok tt) g h = record { good = g; sizes = ap sizes_in h }
    by (Err f) g h = no_ft (ap is_tokens h)

-- each mark takes a byte of room
room_from : (z : Sizes) (ks : List Mark) → (sizes_from z ks).room ≡ z.room + length (map byte_of ks)
unfolding sizes_from
room_from z [] = sym (add-zero z.room)
room_from z (kept b ∷ ks) = omega (arith, room_from (counted z (kept b)) ks)
room_from z (close ∷ ks) = omega (arith, room_from (counted z close) ks)

-- the room of a value is what is written of it
pub scan_room : (v : List ℕ) {z : Sizes} → scan_of v ≡ Ok z → z.room ≡ length (written v)
unfolding written
scan_room v {z} e =
    ap (λ (y : Sizes). y.room) (sym (scan_counted v e).sizes) ∙ room_from no_sizes (marks_from between v) ∙ zero-add (length (map byte_of (marks_from between v)))
