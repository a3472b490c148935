-- Of the code: an encoding of values by the numbers of a place, and its laws, which both encodings keep; all places written, read and tested by one.
use Rattle.std.specs.Prelude.{ℕ, Bool, List, ◌≡◌, length, refl, replicate, set}
use Rattle.base.specs.Folds.{every, fold}
use Rattle.service.specs.Limits.{max_services}
use Rattle.service.specs.Numbers.{flag_number, settings_from, settings_numbers}
use Rattle.std.specs.Prelude.{Option, Some, None}
use Rattle.service.specs.declared.Record.{Record}
use Rattle.service.proofs.Numbering.{cause_back, flag_back, phase_back, settings_back}
use Rattle.plain_encoding.specs.Meaning.{stand_as}
use Rattle.plain_encoding.specs.Numbers.{per_place, place_of, placed, record_from, record_numbers}
use Rattle.plain_encoding.specs.Values.{deadline_of, time_of, timed}

-- a value is as many numbers as a place has, and is read back from them
pub record EncodingLaws {A : Type 0} (encoded : A → List ℕ) (decoded : List ℕ → ℕ → A) : Type 0 where
  pub long : (v : A) → length (encoded v) ≡ per_place
  pub back : (v : A) → decoded (encoded v) 0 ≡ v

-- the numbers l with the value f s at the place of each s
unfoldable pub all_written : {A : Type 0} → (A → List ℕ) → List ℕ → (ℕ → A) → List ℕ
all_written encoded l f = fold (λ m s. placed m (place_of s) (encoded (f s))) l max_services

-- the values of all places of l, put over copies of d
unfoldable pub all_read : {A : Type 0} → (List ℕ → ℕ → A) → List ℕ → A → List A
all_read decoded l d = fold (λ m s. set m s (decoded l (place_of s))) (replicate max_services d) max_services

-- the numbers of each place are those of the value that they say
unfoldable pub all_stand : {A : Type 0} → (A → List ℕ) → (List ℕ → ℕ → A) → List ℕ → Bool
all_stand encoded decoded l = every (λ s. stand_as l (place_of s) (encoded (decoded l (place_of s)))) max_services

-- ---- the laws of records and of settings

deadline_back : (d : Option ℕ) → deadline_of (flag_number (timed d)) (time_of d) ≡ d
deadline_back None = refl
deadline_back (Some d) = refl

record_back : (r : Record) → record_from (record_numbers r) 0 ≡ r
unfolding record_from
record_back r =
    rw (
      (phase_back r.phase).0,
      flag_back r.wanted,
      flag_back r.aside,
      flag_back r.live,
      (cause_back r.cause).0,
      deadline_back r.deadline,
      flag_back r.killed,
    )

pub record_laws : EncodingLaws record_numbers record_from
record_laws = record { long = λ r. refl; back = record_back }

pub settings_laws : EncodingLaws settings_numbers settings_from
settings_laws = record { long = λ v. refl; back = settings_back }
