-- `read_full` meets its contract: what is read lies within the room, and what is left of it falls.
use Rattle.std.proofs.Common.{length, ◌-◌, ◌≤◌}
use Rattle.bench.proofs.loads.read_full.Given as goal

abbrev pub invariant-loop-used : goal.invariant-loop-used
invariant-loop-used g l = l.used ≤ length l.room

abbrev pub decreases-loop-used : goal.decreases-loop-used
decreases-loop-used g l = length l.room - l.used
