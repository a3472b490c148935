-- `lent_positions` meets its contract, case by case.
use Rattle.std.proofs.Common.{refl, ap, ◌∙◌, Bor, List, ℕ}
use Rattle.scenario_services.proofs.Laws.{ranged, lent_none}
use Rattle.scenario_services.proofs.Given.lent_positions.Goals as goal
use Rattle.scenario_services.proofs.Given.lent_positions.Goals.{in-Load, in-LoadAt, in_default}

pub returns : goal.returns
returns c =
    ap (λ (r : Bor (List ℕ)). r.now) c.unwrap_or.ensures ∙
    (elim c.match-command.branch [
      | in-Load w ↦ rw w.lent-is (ranged _ _ _ w.get-lent.result _ refl w.get-lent.ensures.lookup ∙ rw (w.own_end.ensures, w.in-Load.is))
      | in-LoadAt w ↦ rw w.lent-is (ranged _ _ _ w.get-lent-in-LoadAt.result _ refl w.get-lent-in-LoadAt.ensures.lookup ∙ rw w.in-LoadAt.is)
      | in_default w ↦ rw w.lent-is (lent_none _ _ _ _ w.in_default.not-Load w.in_default.not-LoadAt)
    ])
