-- `is_formed` meets its contract: list 24, from each service and the rows.
use borrow.Author.Rules.{rules}
use mathlib.Core.Path.{◌≡◌}
use lib.ListN.{length}
use Rattle.base.proofs.Lists.{length_mapped}
use Rattle.base.proofs.Filled.{filling_all}
use Rattle.base.proofs.Loops.{every_all}
use Rattle.service.specs.Limits.{max_services}
use Rattle.service.specs.Records.{record_at}
use Rattle.engine_wellformed.specs.Place.{place_formed}
use Rattle.engine_wellformed.proofs.Read.{every_read, filling_read}
use Rattle.engine_wellformed.proofs.Whole.{formed_found, not_formed}
use Rattle.engine_wellformed.proofs.is_formed.Goals as goal

pub returns-then-t-gt-MAX_SERVICES : goal.returns-then-t-gt-MAX_SERVICES
returns-then-t-gt-MAX_SERVICES c = search not_formed

pub loop-i-preserved : goal.loop-i-preserved
loop-i-preserved c =
    let z : length c.args.t.services ≡ max_services = search (rules, length_mapped) in
    filling_read c.args.t _ _ _ _ z c.loop-i.invariant c.loop-i-test.true c.all_links.ensures

pub loop-s-preserved : goal.loop-s-preserved
unfolding record_at
loop-s-preserved c =
    let z : length c.args.t.services ≡ max_services = search (rules, length_mapped) in
    every_read (λ v d. place_formed c.args.t.count c.args.x.clock v (record_at c.args.x d)) c.args.t _ _ _ _ z
    c.if-t-gt-MAX_SERVICES.false c.loop-s.invariant c.loop-s-test.true c.place_formed-ok.ensures

pub returns : goal.returns
returns c =
    formed_found
    c.args.t
    c.args.x
    _
    c.loop-s.ok
    c.has_cycle-cycle.result
    c.if-t-gt-MAX_SERVICES.false
    (filling_all c.loop-i.invariant c.loop-i-test.false)
    (every_all c.loop-s.invariant c.loop-s-test.false)
    c.has_cycle-cycle.ensures
