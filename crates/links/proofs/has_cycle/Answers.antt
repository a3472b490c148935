-- `has_cycle` meets its contract: what is safe is on no cycle, and the rounds decide the rest.
use borrow.Author.Tests.{lt-leb}
use native.Mathlib.Omega.{arith}
use Rattle.links.proofs.Descent.{joined_acyclic}
use Rattle.links.proofs.Rounds.{rounds_answer}
use Rattle.links.proofs.has_cycle.Goals as goal
use Rattle.links.proofs.has_cycle.Goals.{else-n-le-MAX_ROWS-via-then-n-le-MAX_ROWS+else-not-all_join, else-n-le-MAX_ROWS-via-else-n-le-MAX_ROWS}

pub returns-then-not-all_join : goal.returns-then-not-all_join
returns-then-not-all_join c = rounds_answer _ _ (omega arith) c.if-n-le-MAX_ROWS.true c.is_cyclic.ensures

pub returns-else-n-le-MAX_ROWS : goal.returns-else-n-le-MAX_ROWS
returns-else-n-le-MAX_ROWS c =
    elim c.else-n-le-MAX_ROWS.branch [
      | else-n-le-MAX_ROWS-via-then-n-le-MAX_ROWS+else-not-all_join w ↦ joined_acyclic _ _ (omega arith) w.all_join.ensures w.if-not-all_join.false
      | else-n-le-MAX_ROWS-via-else-n-le-MAX_ROWS w ↦ rw (lt-leb _ _ w.if-n-le-MAX_ROWS.false)
    ]
