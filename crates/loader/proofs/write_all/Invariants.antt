use Rattle.load_lent.specs.Parts.{service_count, text_at}
use Rattle.loader.proofs.Services.{Writing}
use Rattle.loader.proofs.write_all.Given as goal

abbrev pub invariant-loop-j : goal.invariant-loop-j
invariant-loop-j l =
    Writing (text_at l.set.lent.bytes.now l.set.lent.ends.now) l.ds (service_count l.set.lent.ends.now) l.commands l.initial.tokens l.tokens l.j
