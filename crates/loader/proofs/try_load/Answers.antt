-- `try_load` meets its contract: each check's refusal in its turn, and what is stored after all of them.
use mathlib.Core.Path.{◌∙◌, sym}
use Rattle.loader.proofs.Outcomes.{cyclic}
use Rattle.loader.proofs.try_load.Goals as goal

pub returns-in-Some : goal.returns-in-Some
returns-in-Some c =
    rw (← c.in_ok-set.ensures)
    (sym
    (cyclic _ _ c.args.tokens.now c.in_ok-set.set.few c.is_positioned.ensures c.if-not-is_positioned.false
    c.check_names.ensures c.in_ok-check_names.was c.check_sizes.ensures c.in_ok-check_sizes.was c.read_texts.ensures c.in_ok-ds.was
    c.make_services.ensures c.in_ok-services.was (c.lowest_cyclic.ensures ∙ rw c.count.ensures) c.in-Some.is c.bare-in-Some.ensures))
