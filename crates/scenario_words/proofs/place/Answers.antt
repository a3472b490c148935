-- `place` meets its contract.
use Rattle.std.proofs.Common.{rules, tests}
use Rattle.std.proofs.lemmas.Iterator.Search.{position_from_yields_List}
use Rattle.load_text.specs.Strings.{same}
use Rattle.load_text.proofs.Chains.{same_pointwise}
use Rattle.scenario_words.specs.Pieces.{pieces_of, place_of}
use Rattle.scenario_words.proofs.Splits.{parted, first_found}
use Rattle.scenario_words.proofs.place.Goals as goal

pub returns : goal.returns
unfolding place_of
returns c =
    first_found (pieces_of c.args.parting c.args.choices.now) (same c.args.wanted.now)
    (position_from_yields_List (same c.args.wanted.now) _ _ c.position.result c.position.ensures.ran
    (parted _ c.args.parting c.args.choices.now c.split.ensures.rest c.split.ensures.done c.split.ensures.closure (λ x b q k. search (rules, tests)))
    (λ x b q k. search (rules, tests, same_pointwise)))
