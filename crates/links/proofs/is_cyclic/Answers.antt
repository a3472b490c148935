-- `is_cyclic` meets its contract: a number on a cycle reaches itself.
use Rattle.links.proofs.Rounds.{own_cyclic}
use Rattle.links.proofs.is_cyclic.Goals as goal

pub returns : goal.returns
returns c = own_cyclic _ c.reached.ensures c.has_own.ensures
