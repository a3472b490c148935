use Rattle.base.proofs.Filled.{Filling}
use Rattle.service.specs.Limits.{max_services}
use Rattle.load_links.specs.Links.{links_at}
use Rattle.load_links.proofs.link_rows.Given as goal

abbrev pub invariant-loop-i : goal.invariant-loop-i
invariant-loop-i l = Filling 0 (links_at l.services) max_services l.n l.rows l.i
