use Rattle.links.specs.Rows.{rows_as}
use Rattle.links.proofs.Descent.{Grounded}
use Rattle.links.proofs.all_join.Given as goal

abbrev pub invariant-loop : goal.invariant-loop
invariant-loop l = Grounded (rows_as l.rows) l.done
