-- Of the code: for each rule the set of services that it fits, and the choice from those sets.
use Rattle.std.specs.Prelude.{ℕ, Bool, ◌&&◌, List, [], ◌∷◌, ltb, Some, None}
use Rattle.std.specs.Int.Bits.{bit_or}
use Rattle.base.specs.Folds.{pick, fold, first}
use Rattle.base.specs.Sets.{has_bit, single}
use Rattle.service.specs.Settings.{settings_at}
use Rattle.service.specs.Records.{record_at}
use Rattle.service.specs.declared.Settings.{Settings}
use Rattle.service.specs.declared.Record.{Record}
use Rattle.service.specs.declared.Table.{Table}
use Rattle.service.specs.declared.State.{State}
use Rattle.rules.specs.declared.Rule.{Rule}
use Rattle.rules.specs.declared.Rule.TheVariants.{Lose, Abandon, Settle, Wake, Release, Begin, End, Expire}
use Rattle.rules.specs.Choice.{Choice}
use Rattle.engine_choice.specs.declared.standing.Standing.{Standing}
use Rattle.engine_choice.specs.declared.PerRule.{PerRule}
use Rattle.engine_choice.specs.Fitting.{which_by}

abbrev pub no_fits : PerRule ℕ
no_fits = record { lose = 0; abandon = 0; settle = 0; wake = 0; release = 0; begin = 0; end = 0; expire = 0 }

-- a number from 64 on has no place in a set
abbrev pub added_in : PerRule ℕ → PerRule Bool → ℕ → PerRule ℕ
added_in f w s = record {
  lose = bit_or f.lose (single s (ltb s 64 && w.lose));
  abandon = bit_or f.abandon (single s (ltb s 64 && w.abandon));
  settle = bit_or f.settle (single s (ltb s 64 && w.settle));
  wake = bit_or f.wake (single s (ltb s 64 && w.wake));
  release = bit_or f.release (single s (ltb s 64 && w.release));
  begin = bit_or f.begin (single s (ltb s 64 && w.begin));
  end = bit_or f.end (single s (ltb s 64 && w.end));
  expire = bit_or f.expire (single s (ltb s 64 && w.expire));
}

abbrev pub fitted_in : PerRule ℕ → ℕ → Settings → Record → Standing → ℕ → PerRule ℕ
fitted_in f now v r st s = added_in f (which_by now v r st s) s

abbrev pub fitting : Table → State → Standing → PerRule ℕ → ℕ → PerRule ℕ
fitting t x st f s = fitted_in f x.clock (settings_at t s) (record_at x s) st s

abbrev pub fitted : Table → State → Standing → ℕ → PerRule ℕ
fitted t x st n = fold (fitting t x st) no_fits n

-- the rule k at the lowest of the set m below n, or z where there is none
abbrev pub try_in : Rule → ℕ → ℕ → Choice → Choice
try_in k m n z = pick (ltb (first (has_bit m) n) n) (Some (k, (first (has_bit m) n))) z

-- the rules of a list tried in turn, each on its set
abbrev pub in_turn : List (Rule × ℕ) → ℕ → Choice
in_turn [] n = None
in_turn (p ∷ ps) n = try_in p.0 p.1 n (in_turn ps n)

-- the rules with their sets, in paper 01's order
abbrev pub tries : PerRule ℕ → List (Rule × ℕ)
tries f =
    (Lose, f.lose)
    ∷ (Abandon, f.abandon)
    ∷ (Settle, f.settle)
    ∷ (Wake, f.wake)
    ∷ (Release, f.release)
    ∷ (Begin, f.begin)
    ∷ (End, f.end)
    ∷ (Expire, f.expire)
    ∷ []

unfoldable pub choice_from : PerRule ℕ → ℕ → Choice
choice_from f n = in_turn (tries f) n
