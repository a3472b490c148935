-- `resolve` meets its contract: what is left of the dependencies, with the links made so far.
use native.Mathlib.Omega.{arith}
use Rattle.std.proofs.Common.{rules, ◌≡◌, ◌∙◌, ap, Err, length, length-take-le}
use Rattle.std.proofs.lemmas.List.{get_or-take}
use Rattle.load_description.specs.Settings.{max_dependencies}
use Rattle.load_links.proofs.Laws.{linking_more, linking_absent}
use Rattle.load_links.proofs.resolve.Goals as goal

pub loop-dependency-preserved : goal.loop-dependency-preserved
loop-dependency-preserved c =
    let m : length c.args.d.dependencies ≡ max_dependencies = search rules in
    let n = length-take-le c.args.d.count c.args.d.dependencies (omega arith) in
    linking_more c.loop-dependency.invariant (omega arith) (get_or-take _ c.args.d.dependencies _ _ (omega arith)) c.find_word.ensures c.in-Some.is
    c.with-links.ensures

pub returns-in_default : goal.returns-in_default
returns-in_default c =
    let m : length c.args.d.dependencies ≡ max_dependencies = search rules in
    let n = length-take-le c.args.d.count c.args.d.dependencies (omega arith) in
    ap Err c.at-in_default.ensures
    ∙ linking_absent c.loop-dependency.invariant (omega arith) (get_or-take _ c.args.d.dependencies _ _ (omega arith)) c.find_word.ensures c.in_default.is
