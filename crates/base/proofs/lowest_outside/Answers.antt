-- `lowest_outside` meets its contract: what is not in the set is in the set of all other numbers.
use borrow.Author.Rules.{rules}
use Rattle.base.proofs.Zeros.{lowest_others}
use Rattle.base.proofs.lowest_outside.Goals as goal

pub returns : goal.returns
returns c = lowest_others _ _ (search rules) c.lowest_of.ensures
