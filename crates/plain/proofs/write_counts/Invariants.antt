use lib.ListN.{get_or}
use Rattle.base.proofs.Loops.{Folded}
use Rattle.service.specs.Limits.{max_services}
use Rattle.loader.specs.Tokens.{no_tokens}
use Rattle.plain.specs.Loads.{counted}
use Rattle.plain.proofs.write_counts.Given as goal

abbrev pub invariant-loop-s : goal.invariant-loop-s
invariant-loop-s l =
    Folded (λ m i. counted m i (get_or l.commands i (record { start = no_tokens; stop = no_tokens }))) l.initial.counts max_services l.counts l.s
