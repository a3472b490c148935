-- Of the code: what the checks of a load give, as an outcome; nothing is written before the last of them.
use Rattle.std.specs.Prelude.{List, Result, ℕ}
use Rattle.load_lent.specs.declared.Refused.{Refused}
use Rattle.loader.specs.Load.{Outcome, passed}
use Rattle.loader.specs.declared.Loaded.{Loaded}

abbrev pub outcome : List ℕ → Result Loaded Refused → Outcome
outcome buffer r = passed buffer r (λ l. record { loaded = l; buffer = buffer })
