-- `is_meant` meets its contract: the first k numbers of the place are those that are written of what they say.
use Rattle.base.proofs.Loops.{every_all, every_more, folded_none}
use Rattle.plain_encoding.specs.Meaning.{stand_as}
use Rattle.plain_encoding.proofs.meaning.is_meant.Goals as goal

pub loop-k-init : goal.loop-k-init
loop-k-init g c = folded_none

pub loop-k-preserved : goal.loop-k-preserved
loop-k-preserved g c = search every_more

pub returns : goal.returns
unfolding stand_as
returns g c = rw (← c.decode.ensures, ← c.encode-line.ensures) (every_all c.loop-k.invariant c.loop-k-test.false)
