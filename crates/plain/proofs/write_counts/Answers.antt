-- `write_counts` meets its contract: the counts of the services below s are put.
use mathlib.Core.Path.{refl}
use Rattle.base.proofs.Loops.{folded_none, folded_more, folded_all}
use Rattle.plain.specs.Loads.{counts_of}
use Rattle.plain.proofs.write_counts.Goals as goal

pub loop-s-init : goal.loop-s-init
loop-s-init c = folded_none

pub loop-s-preserved : goal.loop-s-preserved
loop-s-preserved c = folded_more c.loop-s.invariant c.loop-s-test.true refl

pub returns : goal.returns
unfolding counts_of
returns c = folded_all c.loop-s.invariant c.loop-s-test.false
