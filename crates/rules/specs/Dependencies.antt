-- Trusted: "The service record": who depends on whom, and what a service's record says to the others.
use Rattle.std.specs.Prelude.{ℕ, Bool, not, ◌&&◌, ◌||◌}
use Rattle.base.specs.Folds.{some}
use Rattle.base.specs.Sets.{has_bit}
use Rattle.service.specs.declared.Record.{Record}
use Rattle.service.specs.declared.State.{State}
use Rattle.service.specs.declared.Table.{Table}
use Rattle.service.specs.Settings.{links_of, settings_at, strong_of}
use Rattle.service.specs.Records.{record_at, is_down, is_up, is_none, active}

-- the services that s depends on: by depends-on ("hard"); by that or depends-ms; by any kind
unfoldable pub hard_links : Table → ℕ → ℕ
hard_links t s = (settings_at t s).hard

unfoldable pub strong_links : Table → ℕ → ℕ
strong_links t s = strong_of (settings_at t s)

unfoldable pub all_links : Table → ℕ → ℕ
all_links t s = links_of (settings_at t s)

-- s depends on d: hard, by depends-on or depends-ms, by waits-for, by any kind
unfoldable pub hard : Table → ℕ → ℕ → Bool
hard t s d = has_bit (hard_links t s) d

unfoldable pub strong : Table → ℕ → ℕ → Bool
strong t s d = has_bit (strong_links t s) d

unfoldable pub soft : Table → ℕ → ℕ → Bool
soft t s d = has_bit (settings_at t s).soft d

unfoldable pub depends : Table → ℕ → ℕ → Bool
depends t s d = has_bit (all_links t s) d

-- up with no cause
abbrev pub serving : Record → Bool
serving r = is_up r.phase && is_none r.cause

-- "closing": up with a cause
abbrev pub closing : Record → Bool
closing r = is_up r.phase && not (is_none r.cause)

-- down and aside
abbrev pub barred : Record → Bool
barred r = is_down r.phase && r.aside

-- "s is blocked while a hard dependent is starting, up or ending"
unfoldable pub blocked : Table → State → ℕ → Bool
blocked t x s = some (λ e. hard t e s && active (record_at x e).phase) t.count

-- "s is needed if wanted or if any dependent of any kind isn't down"
unfoldable pub needed : Table → State → ℕ → Bool
needed t x s = (record_at x s).wanted || some (λ e. depends t e s && not (is_down (record_at x e).phase)) t.count
