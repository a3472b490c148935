-- `form_of` meets its contract: `position` among the forms.
use Rattle.std.proofs.Common.{rules, tests}
use Rattle.std.proofs.lemmas.Iterator.Search.{position_from_yields_List}
use Rattle.scenario_words.specs.Pieces.{pieces_of}
use Rattle.scenario_words.proofs.Splits.{parted, first_found}
use Rattle.scenario_lines.specs.Forms.{fits_form}
use Rattle.scenario_lines.proofs.form_of.Goals as goal

pub returns : goal.returns
returns c =
    first_found (pieces_of 10 c.args.forms.now) (λ f. fits_form f c.args.line.now)
    (position_from_yields_List (λ f. fits_form f c.args.line.now) _ _ c.position.result c.position.ensures.ran
    (parted _ 10 c.args.forms.now c.split.ensures.rest c.split.ensures.done c.split.ensures.closure (λ x b q k. search (rules, tests)))
    (λ x b q k. search (rules, tests)))
