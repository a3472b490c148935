-- Trusted: the numbers that stand for a table or a state: those that are written of the table or the state that they say. All others stand for
-- nothing: a type, signal, phase or cause past the last of its list, a flag that is neither 0 nor 1, a deadline's time where there is no deadline,
-- and a number other than 0 where none is used.
use Rattle.std.specs.Prelude.{ℕ, ◌+◌, Bool, ◌&&◌, List, eqb, get_or}
use Rattle.base.specs.Folds.{every}
use Rattle.service.specs.Limits.{max_services}
use Rattle.service.specs.Numbers.{settings_from, settings_numbers}
use Rattle.plain_encoding.specs.Numbers.{per_place, place_of, record_from, record_numbers}

-- the numbers of the place from a on are vs
unfoldable pub stand_as : List ℕ → ℕ → List ℕ → Bool
stand_as l a vs = every (λ k. eqb (get_or l (a + k) 0) (get_or vs k 0)) per_place

unfoldable pub is_record : List ℕ → ℕ → Bool
is_record l a = stand_as l a (record_numbers (record_from l a))

unfoldable pub is_settings : List ℕ → ℕ → Bool
is_settings l a = stand_as l a (settings_numbers (settings_from l a))

unfoldable pub is_state : List ℕ → Bool
is_state l = eqb (get_or l 1 0) 0 && every (λ s. is_record l (place_of s)) max_services

unfoldable pub is_table : List ℕ → Bool
is_table l = eqb (get_or l 1 0) 0 && every (λ s. is_settings l (place_of s)) max_services
