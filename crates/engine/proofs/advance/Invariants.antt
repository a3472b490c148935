use Rattle.base.proofs.Loops.{Folded}
use Rattle.engine_choice.specs.Standing.{nowhere, noting}
use Rattle.engine_choice.proofs.Passes.{Fitting}
use Rattle.engine.proofs.Running.{Running}
use Rattle.engine.proofs.advance.Given as goal

abbrev pub invariant-loop-i : goal.invariant-loop-i
invariant-loop-i l = Folded (noting l.t l.y) nowhere l.t.count l.st l.i

abbrev pub invariant-loop-j : goal.invariant-loop-j
invariant-loop-j l = Fitting l.t l.y l.st l.f l.j

abbrev pub invariant-loop-k : goal.invariant-loop-k
invariant-loop-k l = Running l.t l.initial.y l.initial.services l.initial.actions l.limit l.services l.actions l.y l.last l.k
