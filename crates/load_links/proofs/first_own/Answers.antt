-- `first_own` meets its contract: the search gives the lowest number that reaches itself.
use mathlib.Core.Path.{◌≡◌}
use mathlib.Core.Bool.{false, true}
use borrow.Author.Tests.{tests}
use Rattle.std.proofs.Common.{rules}
use Rattle.std.proofs.lemmas.Iterator.{first_from_Range}
use Rattle.load_lent.proofs.Search.{found_first}
use Rattle.load_links.proofs.Cycles.{own_first, own_found}
use Rattle.load_links.proofs.first_own.Goals as goal

pub returns : goal.returns
returns c =
    let n = c.args.n in
    let rows = c.args.rows.now in
    let h = first_from_Range _ _ _ _ (λ s. own_found rows n c.requires s ≡ true) (λ s. own_found rows n c.requires s ≡ false)
    c.find.ensures.ran (λ x q k. search (rules, tests)) (λ x q k. search (rules, tests)) in
    own_first rows n c.requires (found_first (own_found rows n c.requires) _ _ h)
