-- `of` meets its contract: the buffer begins with the word.
use Rattle.std.proofs.Common.{arith}
use Rattle.load_value.proofs.Scans.{word_fits}
use Rattle.load_value.proofs.Writing.{puts_taken}
use Rattle.load_description.proofs.Word.of.Goals as goal

pub invariant_of-result : goal.invariant_of-result
invariant_of-result c = omega (arith, word_fits c.args.value.now, c.write_word-length.ensures.next)

pub returns : goal.returns
returns c = puts_taken (word_fits c.args.value.now) c.write_word-length.ensures
