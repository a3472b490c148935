-- `find` meets its contract: the library's search is the definition's.
use mathlib.Core.Path.{◌≡◌, ap, ◌∙◌}
use Rattle.std.specs.Prelude.{option_map}
use Rattle.std.specs.List.{find}
use Rattle.std.proofs.Common.{rules, tests}
use Rattle.std.proofs.lemmas.Iterator.{YieldsList-from_slice}
use Rattle.std.proofs.lemmas.Iterator.Search.{find_from_yields_List}
use Rattle.load_text.specs.Strings.{same}
use Rattle.load_word.proofs.Words.{found_is}
use Rattle.load_word.proofs.find.Goals as goal

pub returns : goal.returns
returns g c =
    let n = c.args.name.now in
    let es = c.args.table.now in
    let listed : option_map (λ x. x.now) c.find.result ≡ find (λ e. same n e.0.now) es =
    find_from_yields_List (λ e. same n e.0.now) _ _ c.find.result c.find.ensures.ran (YieldsList-from_slice es (cc)) (λ x b q k. search (rules, tests)) in
    let mapped : c.map.result ≡ option_map (λ e. e.1) (option_map (λ x. x.now) c.find.result) = search rules in
    mapped ∙ ap (option_map (λ e. e.1)) listed ∙ found_is n es
