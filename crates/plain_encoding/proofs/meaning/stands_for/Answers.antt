-- `stands_for` meets its contract: `all` over the places.
use borrow.Author.Rules.{rules}
use borrow.Author.Tests.{tests}
use Rattle.base.proofs.Chains.{every_from_all}
use Rattle.plain_encoding.specs.Encoding.{all_stand}
use Rattle.plain_encoding.proofs.meaning.stands_for.Goals as goal

pub returns-then-numbers-eq0 : goal.returns-then-numbers-eq0
unfolding all_stand
returns-then-numbers-eq0 g c =
    rw c.if-numbers-eq0.true (every_from_all c.all.ensures.ran (λ x b q k. search (rules, tests)))
