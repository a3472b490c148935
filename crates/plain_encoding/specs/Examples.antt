-- Of the code: numbers computed: of the fresh state, of a record with a deadline, and of the default settings; each read back. And numbers that stand
-- for nothing.
use Rattle.std.specs.Prelude.{◌+◌, ◌-◌, true, false, [], ◌∷◌, ◌≡◌, refl, replicate, set}
use Rattle.base.specs.Folds.{every}
use Rattle.service.specs.Limits.{max_services}
use Rattle.service.specs.Numbers.{last_cause, last_kind, last_phase, last_signal, settings_from, settings_numbers}
use Rattle.service.specs.Records.{fresh_record, fresh_state, moved, with_count, with_launch, with_live}
use Rattle.service.specs.Settings.{default_settings}
use Rattle.service.specs.declared.Cause.TheVariants.{User}
use Rattle.std.specs.Prelude.{Some}
use Rattle.service.specs.declared.Phase.TheVariants.{Ending}
use Rattle.service.specs.declared.Record.{Record}
use Rattle.plain_encoding.specs.Meaning.{is_record, is_settings, is_state, is_table, stand_as}
use Rattle.plain_encoding.specs.Numbers.{all_numbers, per_place, place_of, record_from, record_numbers, state_of}

abbrev pub ended : Record
ended = with_count 2 (with_launch 40000 (with_live true (moved Ending User (Some 150000) fresh_record)))

pub fresh_read : state_of (replicate all_numbers 0) ≡ fresh_state
unfolding state_of record_from fresh_state
fresh_read = refl

pub ended_numbers : record_numbers ended ≡ (4 ∷ 0 ∷ 0 ∷ 1 ∷ 1 ∷ 1 ∷ 150000 ∷ 0 ∷ 0 ∷ 40000 ∷ 0 ∷ 2 ∷ 0 ∷ 0 ∷ 0 ∷ 0 ∷ [])
ended_numbers = refl

pub ended_read : record_from (record_numbers ended) 0 ≡ ended
unfolding record_from
ended_read = refl

pub default_numbers : settings_numbers default_settings ≡ (2 ∷ 0 ∷ 2000 ∷ 100000 ∷ 3 ∷ 600000 ∷ 100000 ∷ 3 ∷ 0 ∷ 0 ∷ 0 ∷ 0 ∷ 0 ∷ 0 ∷ 0 ∷ 0 ∷ [])
default_numbers = refl

pub default_read : settings_from (settings_numbers default_settings) 0 ≡ default_settings
unfolding settings_from
default_read = refl

-- what is written stands for something, and the fresh state is all 0
pub meant : (is_record (record_numbers ended) 0 ≡ true) × (is_settings (settings_numbers default_settings) 0 ≡ true)
    × (is_state (replicate all_numbers 0) ≡ true) × (is_table (replicate all_numbers 0) ≡ true)
unfolding every stand_as is_record is_settings is_state is_table record_from settings_from
meant = (refl, refl, refl, refl)

-- a phase, a cause, a type and a signal past the last, a flag of 2, a time with no deadline, a number where none is used
pub meant_nothing : (is_record (set (record_numbers ended) 0 (last_phase + 1)) 0 ≡ false)
    × (is_record (set (record_numbers ended) 4 (last_cause + 1)) 0 ≡ false)
    × (is_settings (set (settings_numbers default_settings) 0 (last_kind + 1)) 0 ≡ false)
    × (is_settings (set (settings_numbers default_settings) 7 (last_signal + 1)) 0 ≡ false)
    × (is_record (set (record_numbers ended) 3 2) 0 ≡ false)
    × (is_record (set (record_numbers ended) 5 2) 0 ≡ false)
    × (is_record (set (record_numbers ended) 5 0) 0 ≡ false)
    × (is_record (set (record_numbers ended) (per_place - 1) 1) 0 ≡ false)
    × (is_state (set (replicate all_numbers 0) (place_of (max_services - 1)) 77) ≡ false)
    × (is_state (set (replicate all_numbers 0) 1 1) ≡ false)
    × (is_table (set (replicate all_numbers 0) 1 1) ≡ false)
unfolding every stand_as is_record is_settings is_state is_table record_from settings_from
meant_nothing = (refl, refl, refl, refl, refl, refl, refl, refl, refl, refl, refl)
