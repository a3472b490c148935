-- `advance` meets its contract: k actions are handed out; in each step two passes gather the sets, and the choice is made from them. The table has
-- its places, so that what is read of one of them is the settings there (settings_read).
use native.Mathlib.Nat.{le_trans}
use mathlib.Core.Path.{◌≡◌}
use lib.ListN.{length}
use Rattle.base.proofs.Lists.{length_mapped}
use Rattle.service.specs.Limits.{max_services}
use Rattle.service.specs.Records.{record_at, with_record}
use Rattle.service.proofs.Reading.{settings_read}
use Rattle.engine_choice.proofs.Passes.{fitting_more, noting_more}
use Rattle.engine.proofs.Running.{running_none, running_all, turn_inside, turn_quiet, turn_on}
use borrow.Author.Rules.{rules}
use Rattle.engine.proofs.advance.Goals as goal

pub loop-k-init : goal.loop-k-init
loop-k-init c =
    let z : length c.args.x.records ≡ max_services = search (rules, length_mapped) in
    running_none c.requires.0 z

pub loop-i-preserved : goal.loop-i-preserved
unfolding record_at
loop-i-preserved c =
    let more = c.loop-i-test.true in
    noting_more c.args.t c.loop-k.y c.loop-i.invariant more (settings_read c.args.t _ _ (search (rules, length_mapped)) (le_trans more c.requires.1)) c.noted-st.ensures

pub loop-j-preserved : goal.loop-j-preserved
unfolding record_at
loop-j-preserved c =
    let more = c.loop-j-test.true in
    fitting_more c.loop-j.invariant more (settings_read c.args.t _ _ (search (rules, length_mapped)) (le_trans more c.requires.1)) c.fit-f.ensures

pub returns-in_default : goal.returns-in_default
returns-in_default c = search turn_quiet

-- ---- from the place where a rule and a service are chosen: the choice, the second pass and the loop's turn

pub loop-k-preserved : goal.loop-k-preserved
unfolding record_at with_record
loop-k-preserved c =
    let inside = turn_inside c.loop-k.invariant c.requires.1 c.loop-j.invariant c.loop-j-test.false c.choose.ensures c.in-Some.is in
    turn_on c.loop-k.invariant c.requires.1 c.loop-j.invariant c.loop-j-test.false
    c.choose.ensures c.loop-k-test.true c.in-Some.is
    (settings_read c.args.t _ _ (search (rules, length_mapped)) inside)
    c.overlaps-user.ensures c.leave-q.ensures c.hand_out-last.ensures
    c.write_action.ensures.services_after c.write_action.ensures.actions_after

pub returns : goal.returns
returns c = search running_all
