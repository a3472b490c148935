-- `write_all` meets its contract: what is left to write, from the place that was reached.
use native.Mathlib.Omega.{arith}
use Rattle.loader.proofs.Services.{places_told, writing_end}
use Rattle.loader.proofs.write_all.Goals as goal

pub write_service-requires : goal.write_service-requires
write_service-requires c = places_told _ _ _ _ _ (omega arith) c.args.set.few c.told-ds c.text.ensures c.loop-j.invariant _

pub returns : goal.returns
returns c = writing_end _ _ _ c.loop-j.invariant (omega arith)
