-- `with_byte` meets its contract: a digit more leaves a number below the next power of ten.
use mathlib.Core.Path.{sym, ◌∙◌}
use Prim.Native.Nat.{◌+◌}
use native.Mathlib.Nat.{add-suc, suc-add}
use native.Mathlib.Numerals.{add-one}
use borrow.Author.Tests.{leb-true}
use Rattle.load_word.proofs.Decimals.{digit_bounds, digit_more, sane_if}
use Rattle.load_word.proofs.Decimal.with_byte.Goals as goal

pub returns-then-self-clause-sane : goal.returns-then-self-clause-sane
returns-then-self-clause-sane c =
    let k = c.args.self in
    let few = digit_bounds c.args.b (sym c.is_digit.ensures ∙ c.if-not-is_digit.false) in
    rw c.then_some-then-self.ensures
    (sane_if _ _ (λ e. (c.requires.0, leb-true (k.part + 1) 4 e, rw (add-one k.part, add-suc k.whole k.part) (digit_more _ _ _ c.requires.2 few.1))))

pub returns-clause-sane : goal.returns-clause-sane
returns-clause-sane c =
    let k = c.args.self in
    let few = digit_bounds c.args.b (sym c.is_digit.ensures ∙ c.if-not-is_digit.false) in
    rw c.then_some-2.ensures
    (sane_if _ _ (λ e. (leb-true (k.whole + 1) 6 e, c.requires.1, rw (add-one k.whole, suc-add k.whole k.part) (digit_more _ _ _ c.requires.2 few.1))))
