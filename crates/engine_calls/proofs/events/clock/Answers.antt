-- `clock` meets its contract: the checks in order, then the state.
use borrow.Author.Tests.{le-leb, lt-leb}
use Rattle.rules.specs.Calls.{check, outcome}
use Rattle.engine_calls.proofs.Accepted.{clock_done}
use Rattle.engine_calls.proofs.events.clock.Goals as goal

pub returns-then-to-le-LAST_CLOCK : goal.returns-then-to-le-LAST_CLOCK
returns-then-to-le-LAST_CLOCK c = search clock_done

pub returns-then-x-to : goal.returns-then-x-to
unfolding outcome check
returns-then-x-to c =
    simp (
      c.refused.ensures,
      lt-leb _ _ c.if-to-le-LAST_CLOCK.false,
      le-leb _ _ c.if-x-to.true,
      c.if-is_formed.true,
      ← c.is_formed.ensures,
    )

pub returns-then-is_formed : goal.returns-then-is_formed
unfolding outcome check
returns-then-is_formed c = simp (c.refused-then-is_formed.ensures, lt-leb _ _ c.if-x-to.false, c.if-is_formed.true, ← c.is_formed.ensures)

pub returns : goal.returns
unfolding outcome check
returns c = simp (c.refused-2.ensures, c.if-is_formed.false, ← c.is_formed.ensures)
