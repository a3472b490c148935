-- `spread` meets its contract: a set of what s reaches, which holds its row.
use Rattle.links.proofs.Spreading.{spreading_none, spreading_less, spreading_more, spreading_all}
use Rattle.links.proofs.spread.Goals as goal

pub loop-m-init : goal.loop-m-init
loop-m-init c = search spreading_none

pub loop-m-smaller : goal.loop-m-smaller
loop-m-smaller c = search spreading_less

pub loop-m-preserved : goal.loop-m-preserved
loop-m-preserved c = search spreading_more

pub returns : goal.returns
returns c = search spreading_all
