-- Trusted: deadlines by number, and back.
use Rattle.std.specs.Prelude.{ℕ, Bool, true, false, Option, Some, None}
use Rattle.base.specs.Folds.{pick}
use Rattle.service.specs.Numbers.{flag_of}

-- a deadline is two numbers: whether there is one, and its time
abbrev pub timed : Option ℕ → Bool
timed None = false
timed (Some d) = true

abbrev pub time_of : Option ℕ → ℕ
time_of None = 0
time_of (Some d) = d

abbrev pub deadline_of : ℕ → ℕ → Option ℕ
deadline_of n d = pick (flag_of n) (Some d) None
