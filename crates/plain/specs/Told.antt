-- Of the code: what the check of the numbers gives, what the engine answered, with the number of a refusal, and what is left of the state's numbers.
use Rattle.std.specs.Prelude.{ℕ, Bool, List, Result, Ok, Err}
use Rattle.std.specs.Result.{result_map_both}
use Rattle.base.specs.Folds.{pick}
use Rattle.service.specs.Numbers.{refusal_number}
use Rattle.service.specs.declared.Refusal.{Refusal}
use Rattle.service.specs.declared.State.{State}
use Rattle.plain_encoding.specs.Numbers.{state_numbers}

-- where b says whether the numbers stand for a table and a state
abbrev pub checked : Bool → Result (Unit {0}) ℕ
checked b = pick b (Ok tt) (Err 24)

abbrev pub numbered : {A : Type 0} → Result A Refusal → Result A ℕ
numbered = result_map_both (λ a. a) refusal_number

-- the numbers l after an answer that came with the state x
abbrev pub state_kept : {A : Type 0} → List ℕ → Result A Refusal → State → List ℕ
state_kept l (Ok a) x = state_numbers l x
state_kept l (Err k) x = l
