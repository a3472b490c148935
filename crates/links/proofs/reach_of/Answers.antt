-- `reach_of` meets its contract: what the row of s spreads to, where there is one.
use native.Mathlib.Omega.{arith}
use Rattle.links.proofs.Rounds.{row_reached, row_none}
use Rattle.links.proofs.reach_of.Goals as goal

pub returns-then-s-n : goal.returns-then-s-n
returns-then-s-n c = row_reached _ _ (omega arith) c.spread.ensures c.if-n-le-MAX_ROWS.true c.if-s-n.true

pub returns-else-n-le-MAX_ROWS : goal.returns-else-n-le-MAX_ROWS
returns-else-n-le-MAX_ROWS c = row_none c.args.rows.now _ _ c.else-n-le-MAX_ROWS.either
