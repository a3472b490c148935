-- Trusted: "Reader and averager, on both sides": the pair, with the calls and answers that paper 01 marks P. The statement over all that is so
-- marked, times and values too, stands in the crate `guarantee`.
use Rattle.std.specs.Prelude.{◌-◌, length, replicate, false, true, List, [], ◌∷◌, ◌++◌, ◌≡◌}
use Rattle.service.specs.Limits.{max_services}
use Rattle.service.specs.Records.{fresh_state}
use Rattle.service.specs.Settings.{default_settings, process}
use Rattle.service.specs.declared.Action.TheVariants.{Launch, Moved, Quiet, Signal}
use Rattle.service.specs.declared.Settings.{Settings}
use Rattle.service.specs.declared.Signal.TheVariants.{Term}
use Rattle.service.specs.declared.State.{State}
use Rattle.service.specs.declared.Table.{Table}
use Rattle.rules.specs.Calls.{Answer, Call, acted, clock, done, end, next, outcome, start}

-- the answers to a list of calls
unfoldable pub answers : Table → State → List Call → List Answer
answers t x [] = []
answers t x (c ∷ cs) = (outcome t x c).answer ∷ answers t (outcome t x c).state cs

-- calls from the fresh state of a table, and the answers that they must give
pub record Played : Type 0 where
  pub table : Table
  pub calls : List Call
  pub given : List Answer

abbrev pub played : Table → List Call → List Answer → Played
played t cs as' = record { table = t; calls = cs; given = as' }

abbrev pub AllGiven : List Played → Type 0
AllGiven [] = Unit {0}
AllGiven (p ∷ ps) = (answers p.table fresh_state p.calls ≡ p.given) × AllGiven ps

-- the table of these services: the places past them have default settings
abbrev pub table_of : List Settings → Table
table_of vs = record { count = length vs; services = vs ++ replicate (max_services - length vs) default_settings }

-- "0 reader, process; 1 averager, process, hard on 0; both restart"
abbrev pub pair : Table
pair = table_of (process 0 ∷ process 1 ∷ [])

-- "Start 1: moved 1, moved 0, launch 0, launch 1, quiet. Clock 50,000, end of 0: moved 1, TERM 1, quiet. End of 1: moved 0,
-- moved 1, moved 0, launch 0, launch 1, quiet."
unfoldable pub pair_calls : List Call
pair_calls =
    start 1 ∷ next ∷ next ∷ next ∷ next ∷ next
    ∷ clock 50000 ∷ end 0 false ∷ next ∷ next ∷ next
    ∷ end 1 true ∷ next ∷ next ∷ next ∷ next ∷ next ∷ next ∷ []

unfoldable pub pair_answers : List Answer
pair_answers =
    done ∷ acted (Moved 1) ∷ acted (Moved 0) ∷ acted (Launch 0) ∷ acted (Launch 1) ∷ acted Quiet
    ∷ done ∷ done ∷ acted (Moved 1) ∷ acted (Signal 1 Term) ∷ acted Quiet
    ∷ done ∷ acted (Moved 0) ∷ acted (Moved 1) ∷ acted (Moved 0) ∷ acted (Launch 0) ∷ acted (Launch 1) ∷ acted Quiet ∷ []
