-- `run_to_quiet` meets its contract: numbers that stand for nothing, or the state is kept where the run was not refused.
use Rattle.std.proofs.Common.{rules}
use Rattle.plain.specs.Calls.{run_of}
use Rattle.plain.proofs.Laws.{found_bad, found_good, mapped, nothing_called, nothing_written, run_called, run_written}
use Rattle.plain.proofs.run_to_quiet.Goals as goal

pub returns-in_err-check-clause-called : goal.returns-in_err-check-clause-called
returns-in_err-check-clause-called c = nothing_called _ _ _ (found_bad _ c.in_err-check.ensures) run_of (search rules)

pub returns-in_err-check-clause-written : goal.returns-in_err-check-clause-written
returns-in_err-check-clause-written c = nothing_written _ _ _ (found_bad _ c.in_err-check.ensures)

pub returns-clause-called : goal.returns-clause-called
returns-clause-called c =
    run_called _ _ (found_good _ c.in_ok-check.ensures) c.read_table.ensures c.read_state.ensures _ _ c.run_to_quiet-ran.result
    c.run_to_quiet-ran.ensures.actions_after (rw (← c.keep.ensures.answer) (mapped (λ n. n) _ _ (λ a b h. search rules) c.map.ensures.cases)) c.keep.ensures.left

pub returns-clause-written : goal.returns-clause-written
returns-clause-written c =
    run_written _ _ (found_good _ c.in_ok-check.ensures) c.read_table.ensures c.read_state.ensures _ _ c.run_to_quiet-ran.result
    c.run_to_quiet-ran.ensures.actions_after
