-- The last clause of demand 1, of the load: a refused load leaves the lent buffer, and the table beside it is that of no services.
use mathlib.Core.Path.{◌≡◌, refl}
use Rattle.std.specs.Prelude.{Ok}
use Rattle.service.specs.Settings.{no_services}
use Rattle.loader.specs.Load.{Outcome}
use Rattle.loader.proofs.Outcomes.{every_load}
use Rattle.guarantee.specs.Guarantee.{RefusedLoadLeavesAll}

pub refused_load_leaves_all : RefusedLoadLeavesAll
refused_load_leaves_all lent ends tokens =
    every_load
    (λ (o : Outcome). (o.loaded.answer ≡ Ok tt → ⊥) → (o.buffer ≡ tokens) × (o.loaded.table ≡ no_services))
    tokens
    (λ r _. (refl, refl))
    lent
    ends
    (λ ds vs w f. absurd (f refl))
