-- `name_bytes` meets its contract: the library's test of all bytes is the definition's.
use mathlib.Core.Path.{◌∙◌}
use Rattle.std.proofs.Common.{rules, tests}
use Rattle.std.proofs.lemmas.Iterator.{YieldsList-from_slice}
use Rattle.std.proofs.lemmas.Iterator.Search.{all_from_yields_List}
use Rattle.load_text.specs.Bytes.{is_name_byte}
use Rattle.load_word.proofs.Words.{name_all}
use Rattle.load_word.proofs.name_bytes.Goals as goal

pub returns : goal.returns
returns c =
    all_from_yields_List is_name_byte _ _ c.all.result c.all.ensures.ran (YieldsList-from_slice c.args.s.now (cc)) (λ x b q k. search (rules, tests))
    ∙ name_all c.args.s.now
