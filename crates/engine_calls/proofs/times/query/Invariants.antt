use Rattle.engine_calls.proofs.Asked.{Asking}
use Rattle.engine_calls.proofs.times.query.Given as goal

abbrev pub invariant-loop-i : goal.invariant-loop-i
invariant-loop-i l = Asking l.fn.t l.x l.d l.i
