-- Demand 3 holds of what was loaded.
use Rattle.rules.proofs.Demand.{demand3}
use Rattle.loader.specs.Load.{load}
use Rattle.guarantee.specs.Guarantee.{Guarantee}
use Rattle.guarantee.proofs.Loaded.{loads_formed}

-- THE THEOREM
pub guarantee : Guarantee
guarantee lent ends tokens e cs = demand3 (load lent ends tokens).loaded.table (loads_formed lent ends tokens) cs
