-- `read_places` meets its contract: each place has the value that was made for it.
use borrow.Author.Rules.{rules}
use borrow.Author.Tests.{tests}
use Rattle.base.proofs.Chains.{made_by}
use Rattle.plain_encoding.specs.Numbers.{place_of}
use Rattle.plain_encoding.proofs.Laws.{read_all}
use Rattle.plain_encoding.proofs.encoded.read_places.Goals as goal

pub returns : goal.returns
returns g c =
    λ d. read_all _ _ d (made_by _ _ (λ i. g.T.Encoded.decoded c.args.numbers.now (place_of i)) (λ i y q k. search (rules, tests)) _ _ c.from_fn.ensures.items)
