-- `next_action` meets its contract: list 24, then a run of at most one action.
use mathlib.Core.Path.{◌∙◌, sym}
use native.Mathlib.Omega.{arith}
use Rattle.rules.specs.Calls.{check, outcome}
use Rattle.rules.proofs.Formed.{formed_few}
use Rattle.engine.proofs.Running.{next_done}
use Rattle.engine.proofs.next_action.Goals as goal

pub advance-z-requires : goal.advance-z-requires
advance-z-requires c =
    let found = c.is_formed.ensures in
    let few = formed_few _ _ _ found c.if-is_formed.true in
    (sym found ∙ c.if-is_formed.true, few, record { services = omega arith; actions = omega arith; few = omega arith })

pub returns-then-is_formed : goal.returns-then-is_formed
returns-then-is_formed c = search next_done

pub returns : goal.returns
unfolding outcome check
returns c = simp (c.refused.ensures, c.if-is_formed.false, ← c.is_formed.ensures)
