use Rattle.load_value.proofs.Loops.{Written}
use Rattle.load_value.proofs.write_value.Given as goal

abbrev pub invariant-loop-b : goal.invariant-loop-b
invariant-loop-b l = Written l.initial.buffer l.s l.buffer l.m l.o l.b-index
