use mathlib.Core.Bool.{◌||◌}
use lib.Dec.{eqb}
use Rattle.base.specs.Sets.{has_bit}
use Rattle.rules.specs.Events.{started_as}
use Rattle.engine_calls.proofs.Accepted.{Changing}
use Rattle.engine_calls.proofs.events.start.Given as goal

abbrev pub invariant-loop-i : goal.invariant-loop-i
invariant-loop-i l = Changing (λ j r. started_as (eqb j l.s) (eqb j l.s || has_bit l.m j) r) l.fn.t l.initial.x l.x l.i
