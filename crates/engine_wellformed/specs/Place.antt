-- Of the code: List 24 at one service: its settings' part and its record's.
use Rattle.std.specs.Prelude.{ℕ, Bool, ◌&&◌}
use Rattle.service.specs.declared.Settings.{Settings}
use Rattle.service.specs.declared.Record.{Record}
use Rattle.service.specs.Settings.{form_of}
use Rattle.rules.specs.WellFormed.{links_inside, settings_in_range, times_in_range, shaped}

unfoldable pub place_formed : ℕ → ℕ → Settings → Record → Bool
place_formed n now v r =
    links_inside n v && settings_in_range v && (times_in_range now r && shaped (form_of v) r.phase r.live r.cause)
