-- `first_bad` meets its contract: both loops keep that what is left decides, and the label carries what a bad byte or the end decides.
use mathlib.Core.Path.{ap, sym, ◌∙◌}
use Rattle.std.specs.Prelude.{Err}
use Rattle.load_text.proofs.Runs.{bad_end, bad_next}
use borrow.Author.Rules.{rules}
use Rattle.load_text.proofs.first_bad.Goals as goal

pub lines-preserved : goal.lines-preserved
lines-preserved c = (search rules, c.loop-i.invariant.2 ∙ bad_next _ _ _ c.loop-i-test.true (sym c.is_bad.ensures ∙ c.if-is_bad.false))

pub loop-i-preserved : goal.loop-i-preserved
loop-i-preserved c = (search rules, search rules, c.loop-i.invariant.2 ∙ bad_next _ _ _ c.loop-i-test.true (sym c.is_bad.ensures ∙ c.if-is_bad.false))

pub returns-then-s-i : goal.returns-then-s-i
returns-then-s-i c = sym (c.lines.invariant.1 ∙ bad_end _ _ _ c.if-s-i.true)

pub returns-then-is_bad : goal.returns-then-is_bad
returns-then-is_bad c = ap Err c.at.ensures ∙ sym (c.loop-i.invariant.2 ∙ bad_next _ _ _ c.loop-i-test.true (sym c.is_bad.ensures ∙ c.if-is_bad.true))
