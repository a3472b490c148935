-- `opening_of` meets its contract; the sign is at a place that a usize holds, and so is the value after it.
use Prim.Native.Nat.{◌<◌}
use Rattle.load_text.proofs.Lines.{sign_fits}
use borrow.Author.Rules.{rules}
use Rattle.load_text.proofs.opening_of.Goals as goal

pub overflow_add-value : goal.overflow_add-value
overflow_add-value c =
    let h : c.white_end-sign.result < 9223372036854775808 = search sign_fits in
    search rules
