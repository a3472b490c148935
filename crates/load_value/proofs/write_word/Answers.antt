-- `write_word` meets its contract: what is left to write, from what was written so far.
use mathlib.Core.Logic.{inl, inr}
use Rattle.load_value.proofs.Loops.{worded_none, worded_skip, worded_quote, worded_keep, worded_full, worded_close, worded_bad}
use Rattle.load_value.proofs.write_word.Goals as goal
use Rattle.load_value.proofs.write_word.Goals.{in-Keep+else-o-gt-LONGEST_WORD, in-Skip, in-Skip-2}

pub loop-b-init : goal.loop-b-init
loop-b-init c = search worded_none

pub returns-then-o-gt-LONGEST_WORD : goal.returns-then-o-gt-LONGEST_WORD
returns-then-o-gt-LONGEST_WORD c = search worded_full

pub returns-in-Close : goal.returns-in-Close
returns-in-Close c =
    elim c.in-Close.is [
      | inl p ↦ worded_close c.loop-b.invariant c.loop-b-test.true c.step.ensures p.1
      | inr q ↦ worded_bad c.loop-b.invariant c.loop-b-test.true c.step.ensures q
    ]

pub loop-b-preserved : goal.loop-b-preserved
loop-b-preserved c =
    elim c.match-step.branch [
      | in-Keep+else-o-gt-LONGEST_WORD w ↦ rw (w.buffer-is, w.m-is, w.o-is) (search worded_keep)
      | in-Skip w ↦ rw (w.buffer-is, w.m-is, w.o-is) (search (worded_skip, worded_quote))
      | in-Skip-2 w ↦ rw (w.buffer-is, w.m-is, w.o-is) (search (worded_skip, worded_quote))
    ]
