use Rattle.base.proofs.Filled.{Filling}
use Rattle.service.specs.Limits.{max_services}
use Rattle.rules.specs.Dependencies.{all_links}
use Rattle.engine_wellformed.proofs.link_rows.Given as goal

abbrev pub invariant-loop-i : goal.invariant-loop-i
invariant-loop-i l = Filling 0 (all_links l.t) max_services l.t.count l.rows l.i
