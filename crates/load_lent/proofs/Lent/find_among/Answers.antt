-- `find_among` meets its contract: the search gives the lowest number at which the names are the same.
use mathlib.Core.Path.{◌≡◌}
use mathlib.Core.Bool.{false, true}
use borrow.Author.Tests.{tests}
use Rattle.std.proofs.Common.{rules}
use Rattle.std.proofs.lemmas.Iterator.{first_from_Range}
use Rattle.load_text.specs.Strings.{same}
use Rattle.load_lent.specs.Parts.{name_at}
use Rattle.load_lent.specs.Checks.{find}
use Rattle.load_lent.proofs.Search.{found_first}
use Rattle.load_lent.proofs.Lent.find_among.Goals as goal

pub returns : goal.returns
unfolding find
returns c =
    let s = c.args.self in
    let h = first_from_Range _ _ _ _
    (λ i. same c.args.name.now (name_at s.bytes.now s.ends.now i) ≡ true)
    (λ i. same c.args.name.now (name_at s.bytes.now s.ends.now i) ≡ false)
    c.find.ensures.ran (λ x q k. search (rules, tests)) (λ x q k. search (rules, tests)) in
    found_first (λ i. same c.args.name.now (name_at s.bytes.now s.ends.now i)) _ _ h
