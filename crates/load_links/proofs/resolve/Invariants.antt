use Rattle.load_lent.specs.Parts.{name_at, service_count}
use Rattle.load_links.proofs.Laws.{Linking}
use Rattle.load_links.proofs.resolve.Given as goal

abbrev pub invariant-loop-dependency : goal.invariant-loop-dependency
invariant-loop-dependency l =
    Linking (name_at l.set.lent.bytes.now l.set.lent.ends.now) (service_count l.set.lent.ends.now) l.text l.fn.d l.links l.dependency-index
