-- `make` meets its contract: what is left of the services, with the settings made so far.
use native.Mathlib.Omega.{arith}
use Rattle.load_lent.proofs.Results.{mapped_ok}
use Rattle.load_links.proofs.Laws.{made_more}
use Rattle.load_links.proofs.make.Goals as goal

pub loop-j-preserved : goal.loop-j-preserved
loop-j-preserved c =
    made_more _ c.loop-j.invariant (omega arith) c.text-text.ensures c.resolve.ensures
    (mapped_ok _ _ _ c.map_err.ensures.cases c.in_ok-links.was) c.settings_of.ensures
