use lib.ListN.{length}
use Rattle.links.proofs.Rounds.{Rounding}
use Rattle.links.proofs.round.Given as goal

abbrev pub invariant-loop-row : goal.invariant-loop-row
invariant-loop-row l = Rounding (length l.initial.rows) l.k l.own l.initial.rows l.rows l.row-index
