use Rattle.load_lent.specs.Parts.{name_at, service_count, text_at}
use Rattle.load_links.proofs.Laws.{Made}
use Rattle.load_links.proofs.make.Given as goal

abbrev pub invariant-loop-j : goal.invariant-loop-j
invariant-loop-j l =
    Made (name_at l.set.lent.bytes.now l.set.lent.ends.now) (text_at l.set.lent.bytes.now l.set.lent.ends.now) l.ds (service_count l.set.lent.ends.now)
    l.initial.services l.services l.j-counter
