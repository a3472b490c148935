-- `lowest_cyclic` meets its contract.
use native.Mathlib.Omega.{arith}
use Rattle.std.proofs.Common.{rules}
use Rattle.load_links.proofs.Cycles.{lowest_found, lowest_none}
use Rattle.load_links.proofs.lowest_cyclic.Goals as goal

pub returns-then-has_cycle : goal.returns-then-has_cycle
returns-then-has_cycle c = lowest_found _ _ (omega arith) _ (search rules) c.first_own.ensures

pub returns-else-has_cycle : goal.returns-else-has_cycle
returns-else-has_cycle c = lowest_none _ _ (omega arith) _ (search rules) _ c.has_cycle.ensures c.if-has_cycle.false
