-- `value_at` meets its contract: the part from an offset to the end of its line is that line's rest.
use mathlib.Core.Path.{◌∙◌}
use Rattle.load_text.proofs.Lines.{line_part_any}
use Rattle.load_description.specs.Settings.{value_at}
use Rattle.load_description.proofs.value_at.Goals as goal

pub returns : goal.returns
unfolding value_at
returns c = c.part.ensures ∙ line_part_any _ _ c.line_end.ensures
