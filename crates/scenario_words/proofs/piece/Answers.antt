-- `piece` meets its contract.
use Rattle.std.proofs.Common.{rules, tests, refl}
use Rattle.std.proofs.lemmas.Iterator.Consumers.{nth_from_yields_List}
use Rattle.scenario_words.proofs.Splits.{parted, piece_found}
use Rattle.scenario_words.proofs.piece.Goals as goal

pub returns : goal.returns
returns c =
    piece_found _ c.args.k c.nth.result _ c.unwrap_or.ensures refl
    (nth_from_yields_List c.nth.result c.nth.new.self c.args.k c.nth.ensures.ran
    (parted _ c.args.parting c.args.text.now c.split.ensures.rest c.split.ensures.done c.split.ensures.closure (λ x b q k. search (rules, tests))))
