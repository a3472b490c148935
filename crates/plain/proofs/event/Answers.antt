-- `event` meets its contract: numbers that stand for nothing, or the state is kept where the change was not refused.
use Rattle.std.proofs.Common.{rules}
use Rattle.plain.specs.Calls.{event_of}
use Rattle.plain.proofs.Laws.{event_called, found_bad, found_good, nothing_called}
use Rattle.plain.proofs.event.Goals as goal

pub returns-in_err-check : goal.returns-in_err-check
returns-in_err-check c = nothing_called _ _ _ (found_bad _ c.in_err-check.ensures) event_of (search rules)

pub returns : goal.returns
returns c =
    event_called _ _ (found_good _ c.in_ok-check.ensures) c.read_table.ensures c.read_state.ensures _ c.change-changed.result
    c.change-changed.ensures c.keep.ensures.answer c.keep.ensures.left
