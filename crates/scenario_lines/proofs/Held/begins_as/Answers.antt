-- `begins_as` meets its contract: `all` over the range is the test of every number below its end.
use Rattle.std.proofs.Common.{rules, tests}
use Rattle.base.proofs.Chains.{every_from_all}
use Rattle.scenario_lines.proofs.Held.begins_as.Goals as goal

pub returns : goal.returns
returns c = every_from_all c.all.ensures.ran (λ x b q k. search (rules, tests))
