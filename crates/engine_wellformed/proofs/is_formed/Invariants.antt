use Rattle.base.proofs.Filled.{Filling}
use Rattle.base.proofs.Loops.{Every}
use Rattle.service.specs.Limits.{max_services}
use Rattle.service.specs.Settings.{settings_at}
use Rattle.service.specs.Records.{record_at}
use Rattle.rules.specs.Dependencies.{all_links}
use Rattle.engine_wellformed.specs.Place.{place_formed}
use Rattle.engine_wellformed.proofs.is_formed.Given as goal

abbrev pub invariant-loop-i : goal.invariant-loop-i
invariant-loop-i l = Filling 0 (all_links l.t) max_services l.t.count l.rows l.i

abbrev pub invariant-loop-s : goal.invariant-loop-s
invariant-loop-s l = Every (λ d. place_formed l.t.count l.x.clock (settings_at l.t d) (record_at l.x d)) l.t.count l.ok l.s
