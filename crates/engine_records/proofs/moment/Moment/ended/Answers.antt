-- `ended` meets its contract: each phase by its own arm.
use Rattle.std.proofs.Common.{inl, inr}
use Rattle.rules.specs.Events.{ended_as}
use Rattle.engine_records.proofs.moment.Moment.ended.Goals as goal

pub returns-in-Down : goal.returns-in-Down
unfolding ended_as
returns-in-Down c =
    elim c.in-Down.is [
      | inl e ↦ simp (e, c.dead_record-d.ensures)
      | inr e ↦ simp (e, c.dead_record-d.ensures)
    ]

pub returns-then-brings_up : goal.returns-then-brings_up
unfolding ended_as
returns-then-brings_up c =
    simp (c.started_up.ensures, ← c.brings_up.ensures, c.if-brings_up.true, c.in-Starting.is, c.dead_record-d.ensures)

pub returns-else-brings_up : goal.returns-else-brings_up
unfolding ended_as
returns-else-brings_up c =
    simp (c.at_rest.ensures, ← c.brings_up.ensures, c.if-brings_up.false, c.in-Starting.is, c.dead_record-d.ensures)

pub returns-in-Up : goal.returns-in-Up
unfolding ended_as
returns-in-Up c = simp (c.fallen.ensures, c.in-Up.is, c.dead_record-d.ensures)

pub returns-in-Ending : goal.returns-in-Ending
unfolding ended_as
returns-in-Ending c = simp (c.settled.ensures, c.in-Ending.is, c.dead_record-d.ensures)
