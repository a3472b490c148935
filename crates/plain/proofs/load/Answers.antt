-- `load` meets its contract: what the loader gave is kept.
use mathlib.Core.Path.{ap}
use Rattle.loader.specs.Load.{Outcome}
use Rattle.plain.proofs.Loads.{load_kept}
use Rattle.plain.proofs.load.Goals as goal

pub returns-clause-kept : goal.returns-clause-kept
returns-clause-kept c = load_kept c.load.ensures c.keep_loaded.ensures

pub returns-clause-tokens_after : goal.returns-clause-tokens_after
returns-clause-tokens_after c = ap (λ (z : Outcome). z.buffer) c.load.ensures
