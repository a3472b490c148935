use Rattle.load_lent.specs.Parts.{name_at, service_count}
use Rattle.load_lent.proofs.Laws.{NamesLeft}
use Rattle.load_lent.proofs.Lent.check_names.Given as goal

abbrev pub invariant-loop-j : goal.invariant-loop-j
invariant-loop-j l = NamesLeft (name_at l.self.bytes.now l.self.ends.now) (service_count l.self.ends.now) l.j
