use mathlib.Core.Path.{◌≡◌}
use Prim.Native.Nat.{◌≤◌, ◌-◌}
use lib.ListN.{length, drop}
use Rattle.load_text.specs.Lines.{bad_from}
use Rattle.load_text.proofs.first_bad.Given as goal

abbrev pub invariant-loop-i : goal.invariant-loop-i
invariant-loop-i l = (l.initial.i ≤ l.i) × (l.i ≤ length l.s) × (bad_from 0 l.s ≡ bad_from l.i (drop l.i l.s))

abbrev pub decreases-loop-i : goal.decreases-loop-i
decreases-loop-i l = length l.s - l.i

abbrev pub invariant-lines : goal.invariant-lines
invariant-lines l = (l.i ≤ length l.s) × (bad_from 0 l.s ≡ bad_from l.i (drop l.i l.s))

abbrev pub decreases-lines : goal.decreases-lines
decreases-lines l = length l.s - l.i
