use lib.ListN.{length}
use Rattle.links.specs.Rows.{rows_as}
use Rattle.links.proofs.Rounds.{Reaching}
use Rattle.links.proofs.reached.Given as goal

abbrev pub invariant-loop-k : goal.invariant-loop-k
invariant-loop-k l = Reaching (rows_as l.initial.rows) (length l.initial.rows) l.rows l.k
