-- `line_number` meets its contract: a line for each newline.
use mathlib.Core.Path.{◌≡◌, ap, ◌∙◌}
use Prim.Native.Nat.{ℕ, ◌+◌}
use Rattle.std.specs.List.{count_by}
use Rattle.std.proofs.Common.{rules}
use Rattle.std.proofs.iter.runs.Made.{chains}
use Rattle.load_text.specs.Bytes.{is_newline}
use Rattle.load_text.specs.Lines.{line_number}
use Rattle.load_text.proofs.Chains.{line_count}
use Rattle.load_text.proofs.line_number.Goals as goal

pub returns : goal.returns
unfolding line_number
returns c =
    let counted : c.count.result ≡ count_by is_newline c.head.result.now = search (rules, chains) in
    ap (λ (n : ℕ). 1 + n) counted ∙ rw c.head.ensures (line_count 1 _)
