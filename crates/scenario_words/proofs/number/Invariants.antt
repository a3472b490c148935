use Rattle.std.proofs.Common.{◌≡◌, drop}
use Rattle.scenario_words.specs.Numbers.{number_of, number_from}
use Rattle.scenario_words.proofs.number.Given as goal

abbrev pub invariant-loop-b : goal.invariant-loop-b
invariant-loop-b l = number_of l.word ≡ number_from l.value (drop l.b-index l.word)
