use Prim.Native.Nat.{◌+◌}
use lib.Dec.{eqb}
use lib.ListN.{get_or}
use Rattle.base.proofs.Loops.{Every}
use Rattle.plain_encoding.specs.Numbers.{per_place}
use Rattle.plain_encoding.proofs.meaning.is_meant.Given as goal

abbrev pub invariant-loop-k : goal.invariant-loop-k
invariant-loop-k g l = Every (λ i. eqb (get_or l.numbers (l.at + i) 0) (get_or l.line i 0)) per_place l.same l.k
