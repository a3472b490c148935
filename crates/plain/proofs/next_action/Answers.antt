-- `next_action` meets its contract: numbers that stand for nothing, or the state is kept where the step was not refused.
use Rattle.std.proofs.Common.{rules}
use Rattle.plain.specs.Calls.{handed_of, next_of}
use Rattle.plain.proofs.Laws.{found_bad, found_good, mapped, next_called, nothing_called}
use Rattle.plain.proofs.next_action.Goals as goal

pub returns-in_err-check : goal.returns-in_err-check
returns-in_err-check c = nothing_called _ _ _ (found_bad _ c.in_err-check.ensures) next_of (search rules)

pub returns : goal.returns
returns c =
    next_called _ _ (found_good _ c.in_ok-check.ensures) c.read_table.ensures c.read_state.ensures c.next_action-stepped.result
    c.next_action-stepped.ensures (rw (← c.keep.ensures.answer) (mapped handed_of _ _ (λ a b h. search rules) c.map.ensures.cases)) c.keep.ensures.left
