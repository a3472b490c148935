-- `write_value` meets its contract: what is left to write, from what was written so far.
use Rattle.load_value.proofs.Loops.{written_none, written_skip, written_quote, written_keep, written_close, written_closed}
use Rattle.load_value.proofs.write_value.Goals as goal
use Rattle.load_value.proofs.write_value.Goals.{in-Keep, in-Close, in-Skip, in-Skip-2}

pub loop-b-init : goal.loop-b-init
loop-b-init c = search written_none

pub loop-b-preserved : goal.loop-b-preserved
loop-b-preserved c =
    elim c.match-step.branch [
      | in-Keep w ↦ rw (w.buffer-is, w.m-is, w.o-is) (search written_keep)
      | in-Close w ↦ rw (w.buffer-is, w.m-is, w.o-is) (search written_close)
      | in-Skip w ↦ rw (w.buffer-is, w.m-is, w.o-is) (search (written_skip, written_quote))
      | in-Skip-2 w ↦ rw (w.buffer-is, w.m-is, w.o-is) (search (written_skip, written_quote))
    ]

pub returns-then-m : goal.returns-then-m
returns-then-m c = search written_closed
