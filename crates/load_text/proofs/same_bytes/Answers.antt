-- `same_bytes` meets its contract: the library's equality is that of the definition.
use mathlib.Core.Path.{◌∙◌}
use Rattle.load_text.proofs.Chains.{same_pointwise}
use Rattle.load_text.proofs.same_bytes.Goals as goal

pub returns : goal.returns
returns c = c.eq.ensures ∙ same_pointwise _ _
