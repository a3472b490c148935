-- `read` is safe and ends: what is left of the room falls.
use Rattle.std.proofs.Common.{◌-◌, ◌≤◌}
use Rattle.check_services.proofs.buffer.Buffer.read.Given as goal

abbrev pub invariant-loop-self : goal.invariant-loop-self
invariant-loop-self g l = l.self.used ≤ l.end

abbrev pub decreases-loop-self : goal.decreases-loop-self
decreases-loop-self g l = l.end - l.self.used
