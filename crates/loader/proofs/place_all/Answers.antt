-- `place_all` meets its contract: what is left to place, from the place that was reached.
use native.Mathlib.Omega.{arith}
use Rattle.loader.proofs.Services.{placing_more}
use Rattle.loader.proofs.place_all.Goals as goal

pub loop-j-preserved : goal.loop-j-preserved
loop-j-preserved c =
    placing_more _ _ _ _ _ (omega arith) c.args.set.few c.told-ds c.text.ensures c.loop-j.invariant c.place_service-place.ensures.0
    c.place_service-place.ensures.1
