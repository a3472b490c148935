-- `white_end` meets its contract: what the chain counts is the run.
use mathlib.Core.Path.{◌≡◌, ap, ◌∙◌}
use Prim.Native.Nat.{ℕ, ◌+◌}
use Rattle.std.specs.List.{prefix_len}
use Rattle.std.proofs.Common.{rules, tests}
use Rattle.std.proofs.lemmas.Iterator.{YieldsList-from_slice}
use Rattle.std.proofs.lemmas.Iterator.Consumers.{count_from_yields_List}
use Rattle.std.proofs.lemmas.Iterator.Search.{YieldsList-from_take_while}
use Rattle.std.proofs.lemmas.List.Folds.{length-prefix_len}
use Rattle.load_text.specs.Bytes.{is_white}
use Rattle.load_text.proofs.Chains.{run_prefix}
use Rattle.load_text.proofs.white_end.Goals as goal

pub returns : goal.returns
returns c =
    let t = c.tail.result.now in
    let counted : c.count.result ≡ prefix_len is_white t =
    count_from_yields_List c.take_while.result _ c.count.ensures.ran
    (YieldsList-from_take_while _ is_white (YieldsList-from_slice t (cc)) c.take_while.ensures.closure c.take_while.ensures.done (λ x b q k. search (rules, tests)))
    ∙ length-prefix_len is_white t in
    ap (λ (n : ℕ). c.args.i + n) (counted ∙ rw c.tail.ensures (run_prefix is_white _))
