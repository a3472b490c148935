-- `all_join` meets its contract: the set gathered so far is safe, whatever the stack holds.
use Rattle.links.proofs.Descent.{grounded_none, grounded_more, all_joined}
use Rattle.links.proofs.all_join.Goals as goal

pub loop-init : goal.loop-init
loop-init c = grounded_none

pub returns-then-n-s : goal.returns-then-n-s
returns-then-n-s c = search all_joined

pub loop-preserved : goal.loop-preserved
loop-preserved c = search grounded_more
