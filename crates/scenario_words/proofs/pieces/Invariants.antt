use Rattle.scenario_words.proofs.Parting.{Counting}
use Rattle.scenario_words.proofs.pieces.Given as goal

abbrev pub invariant-loop-b : goal.invariant-loop-b
invariant-loop-b l = Counting l.parting l.text l.count l.b-index
