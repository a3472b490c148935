-- `has` meets its contract: each place of the dependencies that is taken is asked.
use Rattle.std.proofs.Common.{rules, tests}
use Rattle.base.proofs.Chains.{some_from_any}
use Rattle.load_description.specs.Settings.{known}
use Rattle.load_description.proofs.Description.has.Goals as goal

pub returns : goal.returns
unfolding known
returns c = rw (← c.taken.ensures.value) (some_from_any c.any.ensures.ran (λ x b q k. search (rules, tests)))
