-- `lowest_of` meets its contract: the zeros below a set's lowest number are counted.
use borrow.Author.Rules.{rules}
use lib.Count.{trailing_le}
use Rattle.base.proofs.Zeros.{zeros_first}
use Rattle.base.proofs.lowest_of.Goals as goal

pub overflow_cast-result : goal.overflow_cast-result
overflow_cast-result c = let h = trailing_le 64 c.args.m in search (rules, h)

pub returns : goal.returns
returns c = search zeros_first
