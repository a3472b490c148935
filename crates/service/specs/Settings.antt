-- Trusted: the settings of a service: its types, its dependencies, the defaults, and the settings in a table.
use Rattle.std.specs.Prelude.{ℕ, Bool, true, false, get_or, replicate}
use Rattle.std.specs.Int.Bits.{bit_or}
use Rattle.service.specs.declared.Kind.{Kind}
use Rattle.service.specs.declared.Kind.TheVariants.{Process, Scripted, Internal}
use Rattle.service.specs.declared.Form.{Form}
use Rattle.service.specs.declared.Form.TheVariants.{Bare, Passing, Direct, Delayed}
use Rattle.service.specs.declared.Signal.TheVariants.{Term}
use Rattle.service.specs.declared.Settings.{Settings}
use Rattle.service.specs.declared.Table.{Table}
use Rattle.service.specs.Limits.{max_services, default_delay, default_interval, default_limit, default_start_timeout, default_stop_timeout}

-- ---- a service's form: how it is launched, and whether it has a live process while up

-- "Internal: up, moved. Process: up, live, launch. Scripted: starting, live, launch"
abbrev pub form_of_kind : Kind → Form
form_of_kind Process = Direct
form_of_kind Scripted = Passing
form_of_kind Internal = Bare

abbrev pub form_of : Settings → Form
form_of v = form_of_kind v.kind

-- launched into starting, with no process once it is up: the good end of its start brings it up
abbrev pub is_passing : Form → Bool
is_passing Bare = false
is_passing Passing = true
is_passing Direct = false
is_passing Delayed = false

-- its launch leads to starting
abbrev pub starts_first : Form → Bool
starts_first Bare = false
starts_first Passing = true
starts_first Direct = false
starts_first Delayed = true

-- it has a live process while it is up
abbrev pub lives_up : Form → Bool
lives_up Bare = false
lives_up Passing = false
lives_up Direct = true
lives_up Delayed = true

-- the services that one depends on by depends-on or depends-ms
abbrev pub strong_of : Settings → ℕ
strong_of v = bit_or v.hard v.milestone

-- the services that one depends on by any kind: "the three kinds together"
abbrev pub links_of : Settings → ℕ
links_of v = bit_or (bit_or v.hard v.milestone) v.soft

-- a service with a type, restart or not, and hard dependencies; all else by default, with no commands
abbrev pub defaults_with : Kind → Bool → ℕ → Settings
defaults_with k b h = record {
  kind = k;
  restart = b;
  has_stop = false;
  signal = Term;
  delay = default_delay;
  interval = default_interval;
  limit = default_limit;
  start_timeout = default_start_timeout;
  stop_timeout = default_stop_timeout;
  hard = h;
  milestone = 0;
  soft = 0;
}

-- an internal service with no dependencies: what stands in a place that no service has
abbrev pub default_settings : Settings
default_settings = defaults_with Internal false 0

-- a process with restart and a set of hard dependencies, as the reader and the averager are
abbrev pub process : ℕ → Settings
process h = defaults_with Process true h

-- "The table beside a refusal is that of no services"
abbrev pub no_services : Table
no_services = record { count = 0; services = replicate max_services default_settings }

-- the settings of service s; past the table's last place, where nothing asks, the default ones
unfoldable pub settings_at : Table → ℕ → Settings
settings_at t s = get_or t.services s default_settings
