use mathlib.Core.Path.{◌≡◌}
use lib.ListN.{drop}
use Rattle.std.specs.Prelude.{Some}
use Rattle.load_word.specs.Decimals.{Sane, blank, decimal_from}
use Rattle.load_word.proofs.read_decimal.Given as goal

abbrev pub invariant-loop-b : goal.invariant-loop-b
invariant-loop-b l = Sane (Some l.k) × (decimal_from blank l.word ≡ decimal_from l.k (drop l.b-index l.word))
