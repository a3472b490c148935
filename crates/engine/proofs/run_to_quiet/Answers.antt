-- `run_to_quiet` meets its contract: the checks in order, then the run.
use borrow.Author.Rules.{rules}
use mathlib.Core.Path.{◌≡◌, ◌∙◌, refl, sym}
use native.Mathlib.Omega.{arith}
use lib.ListN.{length}
use borrow.Author.Tests.{le-leb, lt-leb}
use Rattle.base.proofs.Lists.{length_mapped}
use Rattle.service.specs.Limits.{max_services}
use Rattle.rules.specs.Calls.{check, outcome}
use Rattle.rules.proofs.Formed.{formed_few}
use Rattle.engine.proofs.Running.{run_done, run_rested}
use Rattle.engine.proofs.run_to_quiet.Goals as goal

pub overflow_mul-room : goal.overflow_mul-room
overflow_mul-room c =
    let few = formed_few _ _ _ c.is_formed.ensures c.if-is_formed.true in
    search rules

pub advance-z-requires : goal.advance-z-requires
advance-z-requires c =
    let found = c.is_formed.ensures in
    let few = formed_few _ _ _ found c.if-is_formed.true in (
      sym found ∙ c.if-is_formed.true,
      few,
      record {
        services = c.if-room-services.true;
        actions = c.if-room-actions.true;
        few = omega (arith, few);
      },
    )

pub returns-then-room-actions : goal.returns-then-room-actions
returns-then-room-actions c =
    let found = c.is_formed.ensures in
    let passed = c.if-is_formed.true in
    let ran = c.advance-z.ensures in
    -- the state has a record for each service that there may be
    let sized : length c.args.x.records ≡ max_services = search (rules, length_mapped) in record { actions_after = run_done _ _ _ _ _ _ _ _ found passed _ ran refl c.if-room-services.true c.if-room-actions.true; result_value = run_rested _ _ _ _ _ _ _ _ found passed _ ran refl sized }

pub returns-then-room-services : goal.returns-then-room-services
unfolding outcome check
returns-then-room-services c =
    record {
      actions_after = simp (
        c.refused.ensures,
        lt-leb _ _ c.if-room-actions.false,
        le-leb _ _ c.if-room-services.true,
        c.if-is_formed.true,
        ← c.is_formed.ensures,
      );
      result_value = rw c.refused.ensures;
    }

pub returns-then-is_formed : goal.returns-then-is_formed
unfolding outcome check
returns-then-is_formed c =
    record { actions_after = simp (c.refused-then-is_formed.ensures, lt-leb _ _ c.if-room-services.false, c.if-is_formed.true, ← c.is_formed.ensures); result_value = rw c.refused-then-is_formed.ensures }

pub returns : goal.returns
unfolding outcome check
returns c =
    record { actions_after = simp (c.refused-2.ensures, c.if-is_formed.false, ← c.is_formed.ensures); result_value = rw c.refused-2.ensures }
