use Rattle.rules.specs.Events.{stopped}
use Rattle.engine_calls.proofs.Accepted.{Changing}
use Rattle.engine_calls.proofs.events.stop_all.Given as goal

abbrev pub invariant-loop-k : goal.invariant-loop-k
invariant-loop-k l = Changing (λ j r. stopped r) l.fn.t l.initial.x l.x l.k
