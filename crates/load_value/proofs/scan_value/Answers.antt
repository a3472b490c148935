-- `scan_value` meets its contract: the answer for what is left, from what was read so far.
use mathlib.Core.Path.{sym, ◌∙◌}
use Rattle.load_value.proofs.Loops.{told_none, told_skip, told_quote, told_keep, told_close, told_closed}
use Rattle.load_value.proofs.scan_value.Goals as goal
use Rattle.load_value.proofs.scan_value.Goals.{in-Skip, in-Quote, in-Keep, in-Close}

pub loop-i-init : goal.loop-i-init
loop-i-init c = search told_none

pub loop-i-preserved : goal.loop-i-preserved
loop-i-preserved c =
    elim c.match-step.branch [
      | in-Skip w ↦ rw (w.m-is, w.z-is, w.quote-is) (search told_skip)
      | in-Quote w ↦ rw (w.m-is, w.z-is, w.quote-is) (search told_quote)
      | in-Keep w ↦ rw (w.m-is, w.z-is, w.quote-is) (search told_keep)
      | in-Close w ↦ rw (w.m-is, w.z-is, w.quote-is) (search told_close)
    ]

pub returns-then-m : goal.returns-then-m
returns-then-m c = told_closed c.loop-i.invariant c.loop-i-test.false (sym c.ended.ensures ∙ c.in_ok-ended.was) c.if-m.true c.with_end.ensures
