-- Of the code: the parts of a settled record: a record at rest, and one with a fall counted.
use Rattle.std.specs.Prelude.{ℕ, Bool, false, None}
use Rattle.service.specs.declared.Phase.TheVariants.{Down}
use Rattle.service.specs.declared.Cause.TheVariants.{None as NoCause, Fell}
use Rattle.service.specs.declared.Settings.{Settings}
use Rattle.service.specs.declared.Record.{Record}
use Rattle.service.specs.Records.{moved, with_aside, with_count, with_killed, with_not_before, with_wanted, with_window}
use Rattle.rules.specs.Settling.{settled_count, settled_not_before, settled_window}

-- a settled record whose times stay
abbrev pub at_rest : Bool → Bool → Record → Record
at_rest wanted aside r = moved Down NoCause None (with_killed false (with_wanted wanted (with_aside aside r)))

-- a fall counted in its window, and the time before which the next launch does not come
abbrev pub fall_counted : Settings → ℕ → Record → Record
fall_counted v now r =
    with_not_before (settled_not_before Fell v now r) (with_window (settled_window Fell v now r) (with_count (settled_count Fell v now r) r))
