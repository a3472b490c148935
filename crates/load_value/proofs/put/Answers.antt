-- `put` meets its contract: past the end `set` changes nothing.
use mathlib.Core.Path.{sym, ◌∙◌}
use lib.Seq.{set_out}
use borrow.Author.Rules.{rules}
use Rattle.load_value.proofs.put.Goals as goal
use Rattle.load_value.proofs.put.Goals.{then-at-buffer, else-at-buffer}

pub returns : goal.returns
returns c =
    elim c.if-at-buffer.branch [
      | then-at-buffer w ↦ record { buffer = w.buffer-is; next = search rules }
      | else-at-buffer w ↦ record { buffer = w.buffer-is ∙ sym (set_out _ _ _ w.if-at-buffer.false); next = search rules }
    ]
