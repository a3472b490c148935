-- `verb_at` meets its contract.
use Rattle.std.proofs.Common.{arith, ℕ, ◌≡◌, List, Option, Some, None, Bor, ◌∙◌}
use Rattle.std.specs.List.{slice_get}
use Rattle.std.specs.Option.{option_copied}
use Rattle.std.specs.Slice.{IsItemAt}
use Rattle.std.proofs.lemmas.Option.{gets}
use Rattle.std.proofs.lemmas.Grind.{common_steps}
use Rattle.scenario_lines.specs.Forms.{named_verbs}
use Rattle.scenario_lines.proofs.verb_at.Goals as goal

got : {X : Type 0} (xs : List X) (i : ℕ) (r : Option (Bor X)) → IsItemAt xs i r → option_copied r ≡ slice_get xs i
got xs i None h = grind (arith, common_steps, gets)
got xs i (Some x) h = grind (arith, common_steps, gets)

pub returns : goal.returns
returns c = c.copied.ensures ∙ got named_verbs c.args.place c.get.result c.get.ensures.lookup
