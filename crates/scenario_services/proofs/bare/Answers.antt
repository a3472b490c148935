-- `bare` meets its contract: the bytes up to the end of the line are the line.
use mathlib.Core.Path.{◌∙◌}
use Rattle.load_text.proofs.Lines.{line_part_any}
use Rattle.scenario_services.proofs.bare.Goals as goal

pub returns : goal.returns
returns c = c.part.ensures ∙ line_part_any c.args.line.now 0 c.line_end.ensures
