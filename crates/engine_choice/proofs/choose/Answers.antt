-- `choose` meets its contract: the rules are tried in order.
use Rattle.std.proofs.Common.{refl}
use Rattle.engine_choice.specs.Fits.{choice_from, tries}
use Rattle.engine_choice.proofs.Tried.{turn_fits, turn_none}
use Rattle.engine_choice.proofs.choose.Goals as goal

pub loop-rule-init : goal.loop-rule-init
unfolding choice_from
loop-rule-init c = refl

pub returns-then-s-n : goal.returns-then-s-n
returns-then-s-n c = turn_fits _ (tries c.args.f) _ _ _ c.loop-rule.invariant c.loop-rule-test.true c.lowest-s.ensures c.if-s-n.true

pub loop-rule-preserved : goal.loop-rule-preserved
loop-rule-preserved c = turn_none _ (tries c.args.f) _ _ _ c.loop-rule.invariant c.loop-rule-test.true c.lowest-s.ensures c.if-s-n.false
