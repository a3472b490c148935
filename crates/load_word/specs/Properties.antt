-- Trusted: the 14 properties of paper 01 in its order: each with its name, and with what its value is. The rules of those whose value is a word that
-- the settings hold.
use Rattle.std.specs.Prelude.{ℕ, Bool, true, false, Option, Some, None, option_map, List, [], ◌∷◌, map, get_or}
use Prim.Native.String.{String}
use Rattle.load_text.specs.Strings.{bytes, index_from}
use Rattle.service.specs.Numbers.{flag_number, signal_number, with_number}
use Rattle.service.specs.declared.Settings.{Settings}
use Rattle.load_word.specs.declared.Property.{Property}
use Rattle.load_word.specs.declared.Property.TheVariants.{Kind, Setting, Command, Link, Unknown}
use Rattle.load_word.specs.declared.Setting.{Setting as SettingName}
use Rattle.load_word.specs.declared.Setting.TheVariants.{Restart, SmoothRecovery, RestartDelay, RestartLimitInterval}
use Rattle.load_word.specs.declared.Setting.TheVariants.{RestartLimitCount, StartTimeout, StopTimeout, TermSignal}
use Rattle.load_word.specs.declared.Command.TheVariants.{Start, Stop}
use Rattle.load_word.specs.declared.Link.TheVariants.{DependsOn, DependsMs, WaitsFor}
use Rattle.load_word.specs.Words.{flag_of, no_of, signal_of}
use Rattle.load_word.specs.Decimals.{time_of, count_of}

pub record Named : Type 0 where
  pub name : String
  pub property : Property

abbrev pub named : String → Property → Named
named n p = record { name = n; property = p }

-- "Properties: .."
abbrev pub properties : List Named
properties =
    named "type" Kind
    ∷ named "command" (Command Start)
    ∷ named "stop-command" (Command Stop)
    ∷ named "restart" (Setting Restart)
    ∷ named "smooth-recovery" (Setting SmoothRecovery)
    ∷ named "restart-delay" (Setting RestartDelay)
    ∷ named "restart-limit-interval" (Setting RestartLimitInterval)
    ∷ named "restart-limit-count" (Setting RestartLimitCount)
    ∷ named "start-timeout" (Setting StartTimeout)
    ∷ named "stop-timeout" (Setting StopTimeout)
    ∷ named "depends-on" (Link DependsOn)
    ∷ named "depends-ms" (Link DependsMs)
    ∷ named "waits-for" (Link WaitsFor)
    ∷ named "term-signal" (Setting TermSignal)
    ∷ []

unfoldable pub property_names : List (List ℕ)
unfolding bytes
property_names = map (λ p. bytes p.name) properties

-- the property of a name; "Any other property is unknown"
unfoldable pub property_of : List ℕ → Property
property_of name = get_or (map (λ p. p.property) properties) (index_from name 0 property_names) Unknown

abbrev pub is_unknown : Property → Bool
is_unknown Kind = false
is_unknown (Setting s) = false
is_unknown (Command c) = false
is_unknown (Link l) = false
is_unknown Unknown = true

-- a number read of a word goes to the place k of the settings' numbers
abbrev pub stored : ℕ → Settings → Option ℕ → Option Settings
stored k v (Some n) = Some (with_number k n v)
stored k v None = None

-- what is read of a word is checked, and nothing is kept of it
abbrev pub checked : Settings → Option Bool → Option Settings
checked v (Some b) = Some v
checked v None = None

-- the settings v with the word w as the value of one of them, by its rule; the place is that of the setting among the settings' numbers
unfoldable pub setting_of : SettingName → List ℕ → Settings → Option Settings
setting_of Restart w v = stored 1 v (option_map flag_number (flag_of w))
setting_of SmoothRecovery w v = checked v (no_of w)
setting_of RestartDelay w v = stored 2 v (time_of w)
setting_of RestartLimitInterval w v = stored 3 v (time_of w)
setting_of RestartLimitCount w v = stored 4 v (count_of w)
setting_of StartTimeout w v = stored 5 v (time_of w)
setting_of StopTimeout w v = stored 6 v (time_of w)
setting_of TermSignal w v = stored 7 v (option_map signal_number (signal_of w))
