-- Trusted: List 24: when a table and a state are well formed. Records past the last service are not read.
use Rattle.std.specs.Prelude.{ℕ, Bool, true, not, ◌&&◌, leb, Option, Some, None}
use Rattle.base.specs.Folds.{implies, every}
use Rattle.base.specs.Sets.{within}
use Rattle.base.specs.Links.{cyclic}
use Rattle.service.specs.declared.Form.{Form}
use Rattle.service.specs.declared.Phase.{Phase}
use Rattle.service.specs.declared.Phase.TheVariants.{Down, Waiting, Starting, Up, Ending}
use Rattle.service.specs.declared.Cause.{Cause}
use Rattle.service.specs.declared.Settings.{Settings}
use Rattle.service.specs.declared.Record.{Record}
use Rattle.service.specs.declared.State.{State}
use Rattle.service.specs.declared.Table.{Table}
use Rattle.service.specs.Limits.{max_services, longest_time, max_count, last_clock, last_time}
use Rattle.service.specs.Settings.{settings_at, form_of, starts_first, lives_up}
use Rattle.service.specs.Records.{record_at, is_none}
use Rattle.rules.specs.Dependencies.{all_links}

-- "a dependency bit beyond them": none is at or past n
abbrev pub links_inside : ℕ → Settings → Bool
links_inside n v = within n v.hard && within n v.milestone && within n v.soft

-- "a setting outside its range"
abbrev pub settings_in_range : Settings → Bool
settings_in_range v =
    leb v.delay longest_time && leb v.interval longest_time && leb v.start_timeout longest_time
    && leb v.stop_timeout longest_time && leb v.limit max_count

-- list 24's part on tables
unfoldable pub table_formed : Table → Bool
table_formed t =
    leb t.count max_services
    && every (λ s. links_inside t.count (settings_at t s) && settings_in_range (settings_at t s)) t.count
    && not (cyclic (all_links t) t.count)

abbrev pub deadline_in_range : Option ℕ → Bool
deadline_in_range None = true
deadline_in_range (Some d) = leb d last_time

-- "a last launch or window start past the clock, a pending time past .., a count past 65,535"
abbrev pub times_in_range : ℕ → Record → Bool
times_in_range now r =
    leb r.last_launch now && leb r.window_start now && deadline_in_range r.deadline
    && leb r.not_before last_time && leb r.restarts max_count

-- the records that the list lets pass, by form, phase, live and cause
abbrev pub shaped : Form → Phase → Bool → Cause → Bool
shaped f Down live c = not live && is_none c
shaped f Waiting live c = not live && is_none c
shaped f Starting live c = starts_first f && live
shaped f Up live c = implies live (lives_up f) && implies (is_none c && lives_up f) live
shaped f Ending live c = live && not (is_none c)

unfoldable pub shaped_at : Table → State → ℕ → Bool
shaped_at t x s = shaped (form_of (settings_at t s)) (record_at x s).phase (record_at x s).live (record_at x s).cause

-- list 24's part on states
unfoldable pub state_formed : Table → State → Bool
state_formed t x =
    leb x.clock last_clock && every (λ s. times_in_range x.clock (record_at x s) && shaped_at t x s) t.count

unfoldable pub formed : Table → State → Bool
formed t x = table_formed t && state_formed t x
