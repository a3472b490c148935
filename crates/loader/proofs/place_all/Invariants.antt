use Rattle.load_lent.specs.Parts.{service_count, text_at}
use Rattle.loader.proofs.Services.{Placing}
use Rattle.loader.proofs.place_all.Given as goal

abbrev pub invariant-loop-j : goal.invariant-loop-j
invariant-loop-j l =
    Placing (text_at l.set.lent.bytes.now l.set.lent.ends.now) l.ds (service_count l.set.lent.ends.now) l.initial.commands l.commands l.room l.j
