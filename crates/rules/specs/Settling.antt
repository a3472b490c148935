-- Trusted: "Settle": the record of a service that has ended, by its cause, with the restart window, limit and delay.
use Rattle.std.specs.Prelude.{ℕ, suc, ◌+◌, ◌-◌, Bool, true, false, not, ◌&&◌, ◌||◌, leb, eqb, None}
use Rattle.base.specs.Folds.{pick}
use Rattle.service.specs.declared.Phase.TheVariants.{Down}
use Rattle.service.specs.declared.Cause.{Cause}
use Rattle.service.specs.declared.Cause.TheVariants.{None as NoCause, User, Released, Fell, Failed}
use Rattle.service.specs.declared.Settings.{Settings}
use Rattle.service.specs.declared.Record.{Record}
use Rattle.service.specs.Records.{moved, with_aside, with_count, with_killed, with_not_before, with_wanted, with_window}

-- "if clock minus window start is at least the interval, window start is the clock and the count 0"
abbrev pub window_over : Settings → ℕ → Record → Bool
window_over v now r = leb v.interval (now - r.window_start)

abbrev pub window_now : Settings → ℕ → Record → ℕ
window_now v now r = pick (window_over v now r) now r.window_start

abbrev pub count_now : Settings → ℕ → Record → ℕ
count_now v now r = pick (window_over v now r) 0 r.restarts

-- "then with a nonzero limit already reached"
abbrev pub limit_reached : Settings → ℕ → Record → Bool
limit_reached v now r = not (eqb v.limit 0) && leb v.limit (count_now v now r)

-- what each field comes to, by the cause
abbrev pub settled_wanted : Cause → Settings → ℕ → Record → Bool
settled_wanted NoCause v now r = r.wanted
settled_wanted User v now r = false
settled_wanted Released v now r = r.wanted
settled_wanted Fell v now r = not (limit_reached v now r) && r.wanted && v.restart
settled_wanted Failed v now r = false

abbrev pub settled_aside : Cause → Settings → ℕ → Record → Bool
settled_aside NoCause v now r = r.aside
settled_aside User v now r = true
settled_aside Released v now r = r.aside
settled_aside Fell v now r = limit_reached v now r || r.aside
settled_aside Failed v now r = true

abbrev pub settled_not_before : Cause → Settings → ℕ → Record → ℕ
settled_not_before NoCause v now r = r.not_before
settled_not_before User v now r = r.not_before
settled_not_before Released v now r = r.not_before
settled_not_before Fell v now r = pick (limit_reached v now r) r.not_before (r.last_launch + v.delay)
settled_not_before Failed v now r = r.not_before

abbrev pub settled_window : Cause → Settings → ℕ → Record → ℕ
settled_window NoCause v now r = r.window_start
settled_window User v now r = r.window_start
settled_window Released v now r = r.window_start
settled_window Fell v now r = window_now v now r
settled_window Failed v now r = r.window_start

abbrev pub settled_count : Cause → Settings → ℕ → Record → ℕ
settled_count NoCause v now r = r.restarts
settled_count User v now r = r.restarts
settled_count Released v now r = r.restarts
settled_count Fell v now r = pick (limit_reached v now r || eqb v.limit 0) (count_now v now r) (suc (count_now v now r))
settled_count Failed v now r = r.restarts

-- "down, no cause, deadline none, killed off", and the rest by the cause c
abbrev pub settled_as : Cause → Settings → ℕ → Record → Record
settled_as c v now r =
    moved Down NoCause None
    (with_killed false (with_wanted (settled_wanted c v now r) (with_aside (settled_aside c v now r)
    (with_not_before (settled_not_before c v now r) (with_window (settled_window c v now r) (with_count (settled_count c v now r) r))))))

abbrev pub settled : Settings → ℕ → Record → Record
settled v now r = settled_as r.cause v now r
