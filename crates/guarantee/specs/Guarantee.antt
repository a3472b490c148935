-- Trusted: Demand 3 over every list of calls from the fresh state of a loaded set.
use Rattle.std.specs.Prelude.{ℕ, true, List, Ok, ◌≡◌}
use Rattle.service.specs.Settings.{no_services}
use Rattle.rules.specs.Calls.{Call}
use Rattle.rules.specs.Demand.{Holds}
use Rattle.rules.specs.WellFormed.{table_formed}
use Rattle.loader.specs.Load.{load}

-- THE STATEMENT: for every lent set of names and texts that loads, and every list of calls from the fresh state of its table
abbrev pub Guarantee : Type 0
Guarantee =
    (lent ends tokens : List ℕ) → (load lent ends tokens).loaded.answer ≡ Ok tt
    → (cs : List Call) → Holds (load lent ends tokens).loaded.table cs

-- also: what a load gives passes list 24's part on tables
abbrev pub LoadsFormed : Type 0
LoadsFormed = (lent ends tokens : List ℕ) → table_formed (load lent ends tokens).loaded.table ≡ true

-- demand 1, of the load: a refusal changes no lent buffer, and the table beside it is that of no services
abbrev pub RefusedLoadLeavesAll : Type 0
RefusedLoadLeavesAll =
    (lent ends tokens : List ℕ) → ((load lent ends tokens).loaded.answer ≡ Ok tt → ⊥)
    → ((load lent ends tokens).buffer ≡ tokens) × ((load lent ends tokens).loaded.table ≡ no_services)
