-- Loops over the table: a service more, by what the code read of it.
use Prim.Native.Nat.{ℕ, ◌+◌, ◌≤◌, ◌<◌}
use native.Mathlib.Omega.{arith}
use mathlib.Core.Path.{◌≡◌, ap, ◌∙◌}
use mathlib.Core.Bool.{Bool, ◌&&◌}
use mathlib.Core.List.{List}
use lib.ListN.{length, get_or, set}
use Rattle.base.proofs.Loops.{Every, every_more}
use Rattle.base.proofs.Filled.{Filling, filling_more}
use Rattle.service.specs.Limits.{max_services}
use Rattle.service.specs.Settings.{links_of, settings_at}
use Rattle.service.specs.declared.Settings.{Settings}
use Rattle.service.specs.declared.Table.{Table}
use Rattle.service.proofs.Reading.{settings_read}
use Rattle.rules.specs.Dependencies.{all_links}

-- one more service passed, q being what the code has of the settings and the record that it read
pub every_read : (p : Settings → ℕ → Bool) (t : Table) (i : ℕ) (b q : Bool) (d : Settings) → length t.services ≡ max_services → t.count ≤ max_services
    → Every (λ s. p (settings_at t s) s) t.count b i → i < t.count → q ≡ p (get_or t.services i d) i
    → Every (λ s. p (settings_at t s) s) t.count (b && q) (i + 1)
every_read p t i b q d z f h l e = every_more h l (e ∙ ap (λ v. p v i) (settings_read t i d z (omega arith)))

-- one more row filled, m being what the code has of the settings that it read
pub filling_read : (t : Table) (rows : List ℕ) (m i : ℕ) (d : Settings) → length t.services ≡ max_services
    → Filling 0 (all_links t) max_services t.count rows i → i < t.count → m ≡ links_of (get_or t.services i d)
    → Filling 0 (all_links t) max_services t.count (set rows i m) (i + 1)
unfolding all_links
filling_read t rows m i d z h l e =
    let r = h.room in
    filling_more h l (e ∙ ap links_of (settings_read t i d z (omega arith)))
