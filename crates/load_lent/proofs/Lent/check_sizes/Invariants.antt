use Rattle.load_lent.specs.Parts.{service_count, text_at}
use Rattle.load_lent.proofs.Laws.{SizesLeft}
use Rattle.load_lent.proofs.Lent.check_sizes.Given as goal

abbrev pub invariant-loop-j : goal.invariant-loop-j
invariant-loop-j l = SizesLeft (text_at l.self.bytes.now l.self.ends.now) (service_count l.self.ends.now) l.total l.j
