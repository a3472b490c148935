-- `column_number` meets its contract: what the chain counts is the bytes after the last newline.
use mathlib.Core.Path.{◌≡◌, ap, ◌∙◌}
use Prim.Native.Nat.{ℕ, ◌+◌}
use Rattle.std.specs.Prelude.{reverse}
use Rattle.std.specs.List.{prefix_len}
use Rattle.std.proofs.Common.{rules, tests}
use Rattle.std.proofs.lemmas.Iterator.Adapters.{YieldsList-from_rev_slice}
use Rattle.std.proofs.lemmas.Iterator.Consumers.{count_from_yields_List}
use Rattle.std.proofs.lemmas.Iterator.Search.{YieldsList-from_take_while}
use Rattle.std.proofs.lemmas.List.Folds.{length-prefix_len}
use Rattle.load_text.specs.Lines.{column_number}
use Rattle.load_text.proofs.Chains.{column_prefix, in_line}
use Rattle.load_text.proofs.column_number.Goals as goal

pub returns : goal.returns
unfolding column_number
returns c =
    let s = c.head-before.result.now in
    let counted : c.count.result ≡ prefix_len in_line (reverse s) =
    count_from_yields_List c.take_while.result _ c.count.ensures.ran
    (YieldsList-from_take_while _ in_line (YieldsList-from_rev_slice s (cc)) c.take_while.ensures.closure c.take_while.ensures.done (λ x b q k. search (rules, tests)))
    ∙ length-prefix_len in_line (reverse s) in
    ap (λ (n : ℕ). 1 + n) counted ∙ rw c.head-before.ensures (column_prefix _)
