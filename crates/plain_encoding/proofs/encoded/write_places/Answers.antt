-- `write_places` meets its contract: the values of the places below s are written.
use borrow.Author.Rules.{rules}
use native.Mathlib.Omega.{arith}
use Rattle.base.proofs.Lists.{length_mapped}
use Rattle.base.proofs.Loops.{folded_none, folded_more, folded_all}
use Rattle.plain_encoding.specs.Encoding.{all_written}
use Rattle.plain_encoding.specs.Numbers.{place_of}
use Rattle.plain_encoding.proofs.Laws.{copied_placed, line_placed}
use Rattle.plain_encoding.proofs.encoded.write_places.Goals as goal

pub loop-s-init : goal.loop-s-init
loop-s-init g c = λ d. folded_none

pub loop-s-preserved : goal.loop-s-preserved
loop-s-preserved g c = λ d.
    folded_more (c.loop-s.invariant d) c.loop-s-test.true
    (line_placed g.T.Encoded.encoded c.args.values.now c.loop-s.s _ d c.loop-s.numbers (place_of c.loop-s.s) (omega arith) c.encode-line.ensures
    (copied_placed _ _ _ (omega arith) (search (rules, length_mapped)) (omega arith) c.copy_from_slice.ensures.after))

pub returns : goal.returns
unfolding all_written
returns g c = λ d. folded_all (c.loop-s.invariant d) c.loop-s-test.false
