use mathlib.Core.Path.{◌≡◌}
use lib.ListN.{length, drop}
use Rattle.load_lent.specs.Parts.{rises_to}
use Rattle.load_lent.proofs.Lent.is_positioned.Given as goal

abbrev pub invariant-loop-end : goal.invariant-loop-end
invariant-loop-end l =
    rises_to (length l.self.bytes.now) 0 l.self.ends.now ≡ rises_to (length l.self.bytes.now) l.last (drop l.end-index l.self.ends.now)
