use Prim.Native.Nat.{◌-◌}
use lib.ListN.{length}
use Rattle.load_reader.proofs.Laws.{Reached}
use Rattle.load_reader.proofs.read_lines.Given as goal

abbrev pub invariant-loop-from : goal.invariant-loop-from
invariant-loop-from l = Reached l.text l.d l.from

abbrev pub decreases-loop-from : goal.decreases-loop-from
decreases-loop-from l = length l.text - l.from
