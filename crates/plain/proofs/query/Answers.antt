-- `query` meets its contract: numbers that stand for nothing, or what the engine answers with the table and the state that were read.
use Rattle.std.proofs.Common.{rules}
use Rattle.service.specs.Numbers.{refusal_number}
use Rattle.plain.proofs.Laws.{found_bad, found_good, mapped_err, nothing_asked, query_asked}
use Rattle.plain.proofs.query.Goals as goal

pub returns-in_err-check : goal.returns-in_err-check
returns-in_err-check c = nothing_asked _ _ _ (found_bad _ c.in_err-check.ensures) (search rules)

pub returns : goal.returns
returns c =
    query_asked _ _ (found_good _ c.in_ok-check.ensures) c.read_table.ensures c.read_state.ensures c.query.result c.query.ensures
    (mapped_err refusal_number _ _ (λ k d h. search rules) c.map_err.ensures.cases)
