use Rattle.load_value.proofs.Loops.{Told}
use Rattle.load_value.proofs.scan_value.Given as goal

abbrev pub invariant-loop-i : goal.invariant-loop-i
invariant-loop-i l = Told l.s l.m l.z l.quote l.i
