use Prim.Native.Nat.{◌-◌}
use lib.ListN.{length}
use Rattle.base.specs.Links.{reach}
use Rattle.links.specs.Rows.{rows_as}
use Rattle.links.proofs.Spreading.{Spreading}
use Rattle.links.proofs.spread.Given as goal

abbrev pub invariant-loop-m : goal.invariant-loop-m
invariant-loop-m l = Spreading l.rows (length l.rows) l.s l.m l.wider

abbrev pub decreases-loop-m : goal.decreases-loop-m
decreases-loop-m l = reach (rows_as l.rows) (length l.rows) l.s - l.m
