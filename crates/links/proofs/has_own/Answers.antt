-- `has_own` meets its contract: `any` over the range is the test of some number below its end.
use borrow.Author.Rules.{rules}
use borrow.Author.Tests.{tests}
use Rattle.base.proofs.Chains.{some_from_any}
use Rattle.links.proofs.has_own.Goals as goal

pub returns : goal.returns
returns c = some_from_any c.any.ensures.ran (λ x b q k. search (rules, tests))
