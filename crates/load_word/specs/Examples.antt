-- Of the code: readings of words other than paper 01's worked examples, which crates/guarantee states: one table, one statement.
use Rattle.std.specs.Prelude.{ℕ, true, ◌≡◌, refl, Option, Some, None, option_map, List, [], ◌∷◌, map}
use Prim.Native.String.{String}
use Rattle.load_text.specs.Strings.{bytes, same, index_from}
use Rattle.service.specs.Numbers.{flag_number, kind_number, settings_from, signal_number, with_number}
use Rattle.service.specs.Settings.{default_settings}
use Rattle.service.specs.declared.Kind.TheVariants.{Scripted}
use Rattle.service.specs.declared.Signal.TheVariants.{Kill, None as NoSignal}
use Rattle.load_word.specs.declared.Property.{Property}
use Rattle.load_word.specs.declared.Property.TheVariants.{Kind, Setting, Command, Link, Unknown}
use Rattle.service.specs.declared.Settings.{Settings}
use Rattle.load_word.specs.Words.{flag_of, no_of, kind_of, signal_names, signal_of}
use Rattle.load_word.specs.Decimals.{digit_of, read_of, decimal_from, time_end, time_of, count_end, count_of}
use Rattle.load_word.specs.Properties.{property_names, property_of, setting_of, stored}

-- a property by its name, a word, and what it does to the settings by default; a type's number is the settings' first
pub record Example : Type 0 where
  pub property : String
  pub word : String
  pub is : Option Settings

-- the default settings with the number n at the place k
abbrev at : ℕ → ℕ → Option Settings
at k n = Some (with_number k n default_settings)

abbrev change_of : Property → List ℕ → Option Settings
change_of Kind w = stored 0 default_settings (option_map kind_number (kind_of w))
change_of (Setting s) w = setting_of s w default_settings
change_of (Command c) w = None
change_of (Link l) w = None
change_of Unknown w = None

abbrev pub examples : List Example
examples =
    -- digits are counted as written
    record { property = "start-timeout"; word = "000005.5000"; is = at 5 55000 } ∷
    record { property = "stop-timeout"; word = "086400"; is = at 6 864000000 } ∷
    record { property = "restart-limit-interval"; word = "86400.0000"; is = at 3 864000000 } ∷
    record { property = "restart-limit-interval"; word = "0086400"; is = None } ∷
    record { property = "restart-limit-interval"; word = "5.00000"; is = None } ∷
    record { property = "restart-limit-interval"; word = "1.2.3"; is = None } ∷
    record { property = "restart-limit-interval"; word = "-1"; is = None } ∷
    record { property = "restart-limit-count"; word = "00003"; is = at 4 3 } ∷
    record { property = "restart-limit-count"; word = "000003"; is = None } ∷
    record { property = "restart-limit-count"; word = "65535"; is = at 4 65535 } ∷
    record { property = "restart-limit-count"; word = "65536"; is = None } ∷
    record { property = "restart-limit-count"; word = "3.0"; is = None } ∷
    -- words are matched byte for byte
    record { property = "restart"; word = "true"; is = at 1 (flag_number true) } ∷
    record { property = "restart"; word = "Yes"; is = None } ∷
    record { property = "restart"; word = "on-failure"; is = None } ∷
    record { property = "smooth-recovery"; word = "false"; is = Some default_settings } ∷
    record { property = "smooth-recovery"; word = "yes"; is = None } ∷
    record { property = "type"; word = "scripted"; is = at 0 (kind_number Scripted) } ∷
    record { property = "type"; word = "bgprocess"; is = None } ∷
    record { property = "term-signal"; word = "none"; is = at 7 (signal_number NoSignal) } ∷
    record { property = "term-signal"; word = "KILL"; is = at 7 (signal_number Kill) } ∷
    record { property = "term-signal"; word = "SIGTERM"; is = None } ∷
    []

pub examples_hold : map (λ e. change_of (property_of (bytes e.property)) (bytes e.word)) examples ≡ map (λ e. e.is) examples
unfolding bytes same index_from flag_of no_of kind_of signal_names signal_of digit_of read_of decimal_from time_end time_of count_end count_of property_names property_of setting_of settings_from
examples_hold = refl
