-- Of the code: what rule 1 reads its cause from.
use Rattle.std.specs.Prelude.{ℕ, not, ◌&&◌}
use Rattle.base.specs.Sets.{marked}
use Rattle.service.specs.Records.{record_at, is_user}
use Rattle.service.specs.declared.Table.{Table}
use Rattle.service.specs.declared.State.{State}
use Rattle.rules.specs.Dependencies.{serving}

-- rule 1: those not up with no cause that have the cause user
unfoldable pub lost_by_user : Table → State → ℕ
lost_by_user t x = marked (λ d. not (serving (record_at x d)) && is_user (record_at x d).cause) t.count
