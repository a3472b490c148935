use Rattle.std.proofs.Common.{◌≡◌, set}
use Rattle.base.specs.Folds.{fold}
use Rattle.scenario_services.specs.Lending.{position_of}
use Rattle.scenario_services.proofs.Given.read_positions.Given as goal

abbrev pub invariant-loop-i : goal.invariant-loop-i
invariant-loop-i l = l.self ≡ record l.fn.self { positions = fold (λ m i. set m i (position_of l.line i)) l.fn.self.positions l.i }
