-- Of the code: what list 24 says of the clock, and of the settings and times of one service: under it no sum of settling or of a deadline passes 64
-- bits.
use Rattle.std.specs.Prelude.{ℕ, ◌≤◌, Bool, ◌&&◌, leb}
use Rattle.service.specs.declared.Settings.{Settings}
use Rattle.service.specs.declared.Record.{Record}
use Rattle.service.specs.Limits.{longest_time, max_count, last_clock}
use Rattle.rules.specs.WellFormed.{settings_in_range, times_in_range}

unfoldable pub sound : Settings → ℕ → Record → Bool
sound v now r = leb now last_clock && settings_in_range v && times_in_range now r

-- the same as facts
pub record Sound (v : Settings) (now : ℕ) (r : Record) : Type 0 where
  pub clock : now ≤ last_clock
  pub delay : v.delay ≤ longest_time
  pub begin : v.start_timeout ≤ longest_time
  pub finish : v.stop_timeout ≤ longest_time
  pub launch : r.last_launch ≤ now
  pub window : r.window_start ≤ now
  pub count : r.restarts ≤ max_count
