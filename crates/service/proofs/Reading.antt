-- Reading the table: what the code reads at a place inside it is the settings there, whatever a read past the last place would give.
use Prim.Native.Nat.{ℕ, ◌<◌}
use mathlib.Core.Path.{◌≡◌}
use lib.ListN.{length, get_or}
use Rattle.base.proofs.Lists.{get_d_default}
use Rattle.service.specs.Limits.{max_services}
use Rattle.service.specs.Settings.{default_settings, settings_at}
use Rattle.service.specs.declared.Settings.{Settings}
use Rattle.service.specs.declared.Table.{Table}

pub settings_read : (t : Table) (i : ℕ) (d : Settings) → length t.services ≡ max_services → i < max_services → get_or t.services i d ≡ settings_at t i
unfolding settings_at
settings_read t i d z l = get_d_default t.services i d default_settings (rw z l)
