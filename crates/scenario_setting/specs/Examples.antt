-- Of the code: numbers computed after lines that set one.
use Rattle.std.specs.Prelude.{ℕ, ◌+◌, List, ◌≡◌, refl, replicate, set}
use Rattle.plain_encoding.specs.Numbers.{all_numbers, place_of}
use Rattle.scenario_lines.specs.declared.Verb.{Verb}
use Rattle.scenario_lines.specs.declared.Verb.TheVariants.{SetRecord, SetTable}
use Rattle.scenario_setting.specs.Setting.{state_after, table_after, time_place, timed_place}

-- a state and a table of nothing but this number
abbrev full : ℕ → List ℕ
full n = replicate all_numbers n

-- the lines "set # deadline none" and "set # deadline #"
abbrev set_none : Verb
set_none = SetRecord 5

abbrev set_deadline : Verb
set_deadline = SetRecord 6

-- "set 1 deadline 700"
pub deadline_set_lem : state_after (full 0) set_deadline 1 700 ≡ set (set (full 0) (place_of 1 + timed_place) 1) (place_of 1 + time_place) 700
deadline_set_lem = refl

-- "set 1 deadline none"
pub deadline_none : state_after (full 9) set_none 1 0 ≡ set (set (full 9) (place_of 1 + time_place) 0) (place_of 1 + timed_place) 0
deadline_none = refl

-- "table 0 stop-timeout 3" and "table 0 depends-on 3", before and after the signal, which is a service's eighth number
pub timeout_set : table_after (full 0) (SetTable 4) 0 3 ≡ set (full 0) (place_of 0 + 6) 3
timeout_set = refl

pub depends_set : table_after (full 0) (SetTable 5) 0 3 ≡ set (full 0) (place_of 0 + 8) 3
depends_set = refl

-- a line that sets a number of the state leaves the table as it is
pub table_left : table_after (full 0) set_deadline 0 700 ≡ full 0
table_left = refl
