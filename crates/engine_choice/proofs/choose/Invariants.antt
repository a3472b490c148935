use Rattle.std.proofs.Common.{◌≡◌, drop}
use Rattle.engine_choice.specs.Fits.{choice_from, in_turn}
use Rattle.engine_choice.proofs.choose.Given as goal

abbrev pub invariant-loop-rule : goal.invariant-loop-rule
invariant-loop-rule l = choice_from l.fn.f l.n ≡ in_turn (drop l.rule-index l.rule-items) l.n
