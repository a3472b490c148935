-- Trusted: what is chosen: the first rule with any service that it fits, and the lowest such service, or none.
use Rattle.std.specs.Prelude.{ℕ, Option}
use Rattle.rules.specs.declared.Rule.{Rule}

abbrev pub Choice : Type 0
Choice = Option (Rule × ℕ)
