-- Of the code: a run: the room it wants, what it gives back and leaves, and that a run to quiet has come to quiet within its room.
use Rattle.std.specs.Prelude.{ℕ, ◌*◌, ◌≤◌, ◌≡◌, Bool, true, ◌&&◌, List, leb, length, Err, Ok, Result}
use Rattle.base.specs.Folds.{first}
use Rattle.service.specs.Limits.{most_actions}
use Rattle.service.specs.Numbers.{action_number, action_service, is_quiet}
use Rattle.service.specs.declared.Answered.{Answered}
use Rattle.service.specs.declared.Refusal.{Refusal}
use Rattle.service.specs.declared.Table.{Table}
use Rattle.service.specs.declared.State.{State}
use Rattle.rules.specs.Rules.{Step, next_action}
use Rattle.rules.specs.Runs.{action_after, state_after, written}
use Rattle.engine.specs.declared.Progress.{Progress}

-- the number of actions is at most 4n, and the action after them is quiet
abbrev pub rested_as : Result ℕ Refusal → Table → State → Bool
rested_as (Ok k) t x = leb k (4 * t.count) && is_quiet (next_action t x).action
rested_as (Err k) t x = true

abbrev pub rested_within : Table → Answered ℕ → Bool
rested_within t r = rested_as r.answer t r.state

-- two slices with room for m actions, which are no more than a run can have
pub record Room (m : ℕ) (s a : List ℕ) : Type 0 where
  pub services : m ≤ length s
  pub actions : m ≤ length a
  pub few : m ≤ most_actions

-- from x at most m actions are handed out; it got the slices s and a and leaves s' and a'. With a limit of one it is the next action
pub record Advanced (t : Table) (x : State) (m : ℕ) (s a : List ℕ) (r : Progress) (s' a' : List ℕ) : Type 0 where
  pub count : r.count ≡ first (λ k. is_quiet (action_after t x k)) m
  pub state : r.state ≡ state_after t x r.count
  pub services : s' ≡ written (λ k. action_service (action_after t x k)) s r.count
  pub actions : a' ≡ written (λ k. action_number (action_after t x k)) a r.count
  pub single : m ≡ 1 → ◌≡◌ {A = Step} (record { action = r.last; state = r.state }) (next_action t x)
