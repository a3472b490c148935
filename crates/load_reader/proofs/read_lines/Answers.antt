-- `read_lines` meets its contract: what the lines that are left make of the settings so far.
use Rattle.std.proofs.Common.{rules}
use Prim.Native.Nat.{◌<◌}
use Rattle.load_reader.proofs.Laws.{reached_end, reached_good, reached_bad}
use Rattle.load_reader.proofs.Laws.{end_inside, line_inside}
use Rattle.load_reader.proofs.read_lines.Goals as goal

pub read_line-answer-requires : goal.read_line-answer-requires
read_line-answer-requires c = search line_inside

pub overflow_add-from : goal.overflow_add-from
overflow_add-from c =
    let h : c.line_end-end.result < 9223372036854775808 = search end_inside in
    search rules

pub returns-in_default : goal.returns-in_default
returns-in_default c = search reached_bad

pub loop-from-preserved : goal.loop-from-preserved
loop-from-preserved c = search reached_good

pub returns-in_err-complete : goal.returns-in_err-complete
returns-in_err-complete c = rw (reached_end c.loop-from.invariant c.loop-from-test.false) (search rules)

pub returns : goal.returns
returns c = rw (reached_end c.loop-from.invariant c.loop-from-test.false) (search rules)
