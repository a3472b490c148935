-- `widened` meets its contract: `fold` over the range is the fold over the numbers below its end.
use borrow.Author.Rules.{rules}
use borrow.Author.Tests.{tests}
use Rattle.base.specs.Links.{through}
use Rattle.base.proofs.Chains.{fold_from_fold}
use Rattle.links.specs.Rows.{rows_as}
use Rattle.links.proofs.widened.Goals as goal

pub returns : goal.returns
returns c =
    fold_from_fold (λ a i. through i a (rows_as c.args.rows.now i)) c.fold.ensures.ran (λ b x a q k. search (rules, tests))
