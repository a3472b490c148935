-- Trusted: a table and a state as numbers, and back: two in front, and then sixteen for each place.
use Rattle.std.specs.Prelude.{ℕ, ◌+◌, ◌*◌, List, [], ◌∷◌, get_or, set, replicate}
use Rattle.base.specs.Folds.{fold}
use Rattle.service.specs.Limits.{max_services}
use Rattle.service.specs.Numbers.{cause_at, cause_number, flag_number, flag_of, phase_at, phase_number, settings_from, settings_numbers}
use Rattle.service.specs.Records.{fresh_record, record_at}
use Rattle.service.specs.Settings.{default_settings, settings_at}
use Rattle.service.specs.declared.Record.{Record}
use Rattle.service.specs.declared.State.{State}
use Rattle.service.specs.declared.Table.{Table}
use Rattle.plain_encoding.specs.Values.{deadline_of, timed, time_of}

-- in front stands the count of services or the clock, and a 0
abbrev pub in_front : ℕ
in_front = 2

-- each place has a record's numbers, or the settings' of a service, and else 0
abbrev pub per_place : ℕ
per_place = 16

abbrev pub all_numbers : ℕ
all_numbers = in_front + per_place * max_services

-- the place of the first number of service s
abbrev pub place_of : ℕ → ℕ
place_of s = in_front + per_place * s

-- the numbers n and 0 in front
abbrev pub headed : List ℕ → ℕ → List ℕ
headed l n = set (set l 0 n) 1 0

-- the numbers vs, those of one place, from a on
abbrev pub placed : List ℕ → ℕ → List ℕ → List ℕ
placed l a vs = fold (λ m k. set m (a + k) (get_or vs k 0)) l per_place

-- ---- the state

-- "Phase .. Also: wanted, aside, live, cause, deadline, killed, not-before, last launch, window start, restart count"
abbrev pub record_numbers : Record → List ℕ
record_numbers r =
    phase_number r.phase
    ∷ flag_number r.wanted
    ∷ flag_number r.aside
    ∷ flag_number r.live
    ∷ cause_number r.cause
    ∷ flag_number (timed r.deadline)
    ∷ time_of r.deadline
    ∷ flag_number r.killed
    ∷ r.not_before
    ∷ r.last_launch
    ∷ r.window_start
    ∷ r.restarts
    ∷ 0
    ∷ 0
    ∷ 0
    ∷ 0
    ∷ []

unfoldable pub record_from : List ℕ → ℕ → Record
record_from l a = record {
  phase = phase_at (get_or l a 0);
  wanted = flag_of (get_or l (a + 1) 0);
  aside = flag_of (get_or l (a + 2) 0);
  live = flag_of (get_or l (a + 3) 0);
  cause = cause_at (get_or l (a + 4) 0);
  deadline = deadline_of (get_or l (a + 5) 0) (get_or l (a + 6) 0);
  killed = flag_of (get_or l (a + 7) 0);
  not_before = get_or l (a + 8) 0;
  last_launch = get_or l (a + 9) 0;
  window_start = get_or l (a + 10) 0;
  restarts = get_or l (a + 11) 0;
}

-- what the numbers l become where the state x is written to them
unfoldable pub state_numbers : List ℕ → State → List ℕ
state_numbers l x = fold (λ m s. placed m (place_of s) (record_numbers (record_at x s))) (headed l x.clock) max_services

unfoldable pub state_of : List ℕ → State
state_of l = record {
  clock = get_or l 0 0;
  records = fold (λ m s. set m s (record_from l (place_of s))) (replicate max_services fresh_record) max_services;
}

-- ---- the table

unfoldable pub table_numbers : List ℕ → Table → List ℕ
table_numbers l t = fold (λ m s. placed m (place_of s) (settings_numbers (settings_at t s))) (headed l t.count) max_services

unfoldable pub table_of : List ℕ → Table
table_of l = record {
  count = get_or l 0 0;
  services = fold (λ m s. set m s (settings_from l (place_of s))) (replicate max_services default_settings) max_services;
}
