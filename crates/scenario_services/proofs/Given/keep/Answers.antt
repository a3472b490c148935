-- `keep` meets its contract: the bytes that fit are copied, or none does.
use Rattle.std.proofs.Common.{arith, rules, ap, ◌∙◌, take, ◌≡◌, length}
use Rattle.scenario_services.specs.Keeping.{room}
use Rattle.scenario_services.proofs.Laws.{put_sets, sets_none, kept_put}
use Rattle.scenario_services.proofs.Given.keep.Goals as goal
use Rattle.scenario_services.proofs.Given.keep.Goals.{then-end-le-ROOM, else-end-le-ROOM}

pub returns : goal.returns
returns c =
    let n : length c.args.self.now.buffer ≡ room = search rules in
    let f = c.leading-fitting.ensures.0 ∙ ap (λ k. take k c.args.bytes.now) c.saturating_sub.ensures in
    elim c.if-end-le-ROOM.branch [
      | then-end-le-ROOM w ↦
          kept_put c.args.self.now c.if-end-le-ROOM.self c.args.bytes.now c.leading-fitting.result.now w.self-is f
          (put_sets c.args.self.now.bytes _ c.args.self.now.buffer _ c.leading-fitting.result.now w.copy_from_slice.ensures.after (omega arith) (omega (arith, n)))
      | else-end-le-ROOM w ↦ kept_put c.args.self.now c.if-end-le-ROOM.self c.args.bytes.now c.leading-fitting.result.now w.self-is f
          (sets_none c.args.self.now.buffer c.args.self.now.bytes c.leading-fitting.result.now (omega arith))
    ]
