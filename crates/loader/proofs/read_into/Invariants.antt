use Rattle.load_lent.specs.Parts.{service_count, text_at}
use Rattle.loader.proofs.Laws.{Reading}
use Rattle.loader.proofs.read_into.Given as goal

abbrev pub invariant-loop-j : goal.invariant-loop-j
invariant-loop-j l = Reading (text_at l.set.lent.bytes.now l.set.lent.ends.now) (service_count l.set.lent.ends.now) l.initial.ds l.ds l.j-counter
