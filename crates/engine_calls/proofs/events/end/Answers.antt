-- `end` meets its contract: the checks in order, then the state.
use native.Mathlib.Omega.{arith}
use mathlib.Core.Path.{◌≡◌}
use lib.ListN.{length}
use borrow.Author.Tests.{lt-ltb, le-ltb}
use Rattle.base.proofs.Lists.{length_mapped}
use Rattle.service.specs.Limits.{max_services}
use Rattle.service.specs.Records.{record_at, with_record}
use Rattle.rules.specs.Calls.{check, outcome}
use Rattle.rules.proofs.Formed.{formed_few}
use Rattle.service.proofs.Reading.{settings_read}
use Rattle.engine_calls.proofs.Accepted.{end_done}
use borrow.Author.Rules.{rules}
use Rattle.engine_calls.proofs.events.end.Goals as goal

pub returns-then-r : goal.returns-then-r
unfolding record_at with_record
returns-then-r c =
    -- the table has its places, and there is one for each service
    let places : length c.args.t.services ≡ max_services = search (rules, length_mapped) in
    let l = formed_few _ _ _ c.is_formed.ensures c.if-is_formed.true in
    end_done _ _ _ _ _ _ _ _ (settings_read c.args.t _ _ places (omega (arith, c.if-s-t.true, l)))
    c.is_formed.ensures c.if-is_formed.true c.if-s-t.true c.if-r.true c.end_record-q.ensures
    c.done.ensures

pub returns-then-s-t : goal.returns-then-s-t
unfolding outcome check record_at
returns-then-s-t c =
    simp (
      c.refused.ensures,
      c.if-r.false,
      lt-ltb _ _ c.if-s-t.true,
      c.if-is_formed.true,
      ← c.is_formed.ensures,
    )

pub returns-then-is_formed : goal.returns-then-is_formed
unfolding outcome check
returns-then-is_formed c = simp (c.refused-then-is_formed.ensures, le-ltb _ _ c.if-s-t.false, c.if-is_formed.true, ← c.is_formed.ensures)

pub returns : goal.returns
unfolding outcome check
returns c = simp (c.refused-2.ensures, c.if-is_formed.false, ← c.is_formed.ensures)
