-- Trusted: a run to quiet, and the query.
use Rattle.std.specs.Prelude.{ℕ, ◌*◌, List, leb, ltb, set, Option, Some, None}
use Rattle.base.specs.Folds.{pick, fold, first}
use Rattle.service.specs.declared.Action.{Action}
use Rattle.service.specs.declared.Record.{Record}
use Rattle.service.specs.declared.State.{State}
use Rattle.service.specs.declared.Table.{Table}
use Rattle.service.specs.Records.{record_at}
use Rattle.service.specs.Numbers.{is_quiet, action_service, action_number}
use Rattle.rules.specs.Rules.{next_action}

-- the state after k actions, and the action that comes then
unfoldable pub state_after : Table → State → ℕ → State
state_after t x k = fold (λ y j. (next_action t y).state) x k

unfoldable pub action_after : Table → State → ℕ → Action
action_after t x k = (next_action t (state_after t x k)).action

-- the actions before quiet
unfoldable pub steps_to_quiet : Table → State → ℕ
steps_to_quiet t x = first (λ k. is_quiet (action_after t x k)) (4 * t.count)

-- "fills two lent number slices, service and action .. places past the number are untouched"
unfoldable pub written : (ℕ → ℕ) → List ℕ → ℕ → List ℕ
written f l n = fold (λ m j. set m j (f j)) l n

unfoldable pub written_services : Table → State → List ℕ → List ℕ
written_services t x l = written (λ k. action_service (action_after t x k)) l (steps_to_quiet t x)

unfoldable pub written_actions : Table → State → List ℕ → List ℕ
written_actions t x l = written (λ k. action_number (action_after t x k)) l (steps_to_quiet t x)

-- ---- the query

-- a time above the clock, or none
abbrev pub above : ℕ → Option ℕ → Option ℕ
above now None = None
above now (Some d) = pick (ltb now d) (Some d) None

abbrev pub sooner : Option ℕ → Option ℕ → Option ℕ
sooner None e = e
sooner (Some d) None = Some d
sooner (Some d) (Some e) = pick (leb d e) (Some d) (Some e)

-- the earliest time so far, and one more service's "deadline or not-before .. above the clock"
abbrev pub sooner_of : ℕ → Option ℕ → Record → Option ℕ
sooner_of now d r = sooner (sooner d (above now r.deadline)) (above now (Some r.not_before))

-- "the earliest deadline or not-before of any service above the clock, or that there is none"
unfoldable pub earliest : Table → State → Option ℕ
earliest t x = fold (λ d s. sooner_of x.clock d (record_at x s)) None t.count
