use Rattle.load_value.proofs.Loops.{Worded}
use Rattle.load_value.proofs.write_word.Given as goal

abbrev pub invariant-loop-b : goal.invariant-loop-b
invariant-loop-b l = Worded l.initial.buffer l.s l.buffer l.m l.o l.b-index
