-- Of the code: the numbers of a table and of a state after a line of a scenario that sets one of them.
use Rattle.std.specs.Prelude.{ℕ, ◌+◌, ◌&&◌, List, eqb, ltb, set}
use Rattle.base.specs.Folds.{pick}
use Rattle.service.specs.Limits.{max_services}
use Rattle.plain_encoding.specs.Numbers.{per_place, place_of}
use Rattle.scenario_lines.specs.declared.Verb.{Verb}
use Rattle.scenario_lines.specs.declared.Verb.TheVariants.{SetClock, SetRecord, SetCount, SetTable}

-- the number of service s at this place among its numbers is n
abbrev pub number_set : List ℕ → ℕ → ℕ → ℕ → List ℕ
number_set l s place n = pick (ltb s max_services && ltb place per_place) (set l (place_of s + place) n) l

-- a record's places of whether it has a deadline, and of the deadline's time
abbrev pub timed_place : ℕ
timed_place = 5

abbrev pub time_place : ℕ
time_place = 6

-- what is set with one of a deadline's two numbers: with a time that there is a deadline, and with none the time 0
abbrev pub deadline_set : List ℕ → ℕ → ℕ → List ℕ
deadline_set l s place =
    pick (eqb place time_place) (number_set l s timed_place 1) (pick (eqb place timed_place) (number_set l s time_place 0) l)

-- the number of a record
abbrev pub record_set : List ℕ → ℕ → ℕ → ℕ → List ℕ
record_set l s place n = number_set (deadline_set l s place) s place n

-- how many lines set a number of a record, and how many one of a service's settings
abbrev pub record_lines : ℕ
record_lines = 12

abbrev pub setting_lines : ℕ
setting_lines = 8

-- the lines that set a service's numbers in a table: five from restart-delay on, and three after the signal
abbrev pub setting_place : ℕ → ℕ
setting_place line = pick (ltb line 5) (line + 2) (line + 3)

-- the forms "set clock #", "set # phase .." to "set # restarts #"
abbrev pub state_after : List ℕ → Verb → ℕ → ℕ → List ℕ
state_after l SetClock s n = set l 0 n
state_after l (SetRecord place) s n = pick (ltb place record_lines) (record_set l s place n) l
state_after l _ s n = l

-- the forms "table count #", "table # restart-delay #" to "table # waits-for #"
abbrev pub table_after : List ℕ → Verb → ℕ → ℕ → List ℕ
table_after l SetCount s n = set l 0 n
table_after l (SetTable line) s n = pick (ltb line setting_lines) (number_set l s (setting_place line) n) l
table_after l _ s n = l
