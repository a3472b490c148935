use lib.ListN.{get_or}
use Rattle.base.proofs.Loops.{Folded}
use Rattle.service.specs.Limits.{max_services}
use Rattle.plain_encoding.specs.Numbers.{place_of, placed}
use Rattle.plain_encoding.proofs.encoded.write_places.Given as goal

abbrev pub invariant-loop-s : goal.invariant-loop-s
invariant-loop-s g l =
    (d : g.row.T.Denot) → Folded (λ m s. placed m (place_of s) (g.T.Encoded.encoded (get_or l.values s d))) l.initial.numbers max_services l.numbers l.s
