-- Of the code: the positions that a load lends: those that its line gives, or where the names and texts given so far end.
use Rattle.std.specs.Prelude.{ℕ, ◌+◌, ◌*◌, List, [], min, set}
use Rattle.std.specs.Option.{unwrap_or}
use Rattle.base.specs.Folds.{fold}
use Rattle.load_text.specs.Strings.{part_of}
use Rattle.scenario_words.specs.Numbers.{number_of}
use Rattle.scenario_words.specs.Pieces.{piece_of}
use Rattle.scenario_lines.specs.declared.Verb.{Verb}
use Rattle.scenario_lines.specs.declared.Verb.TheVariants.{Load, LoadAt}
use Rattle.scenario_lines.specs.Lines.{most_positions}
use Rattle.scenario_lines.specs.declared.Command.{Command}
use Rattle.scenario_services.specs.Keeping.{kept_services}

-- position i of a line: the number that its word is, from the third word on
abbrev pub position_of : List ℕ → ℕ → ℕ
position_of line i = unwrap_or (number_of (piece_of line 32 (i + 2))) 0

-- the positions p with those of the line at their front, where it gives any
abbrev pub with_last : Verb → ℕ → List ℕ → List ℕ → List ℕ
with_last LoadAt n line p = fold (λ m i. set m i (position_of line i)) p (min n most_positions)
with_last _ n line p = p

abbrev pub with_positions : Command → List ℕ → List ℕ → List ℕ
with_positions c line p = with_last c.verb c.last line p

-- where the positions of the services' own ends end
abbrev pub own_end : ℕ → ℕ
own_end n = most_positions + 2 * min n kept_services

-- the part that is lent: the services' own, those of the line, or none
abbrev pub lent_to : Verb → List ℕ → ℕ → ℕ → List ℕ
lent_to Load p last n = part_of p most_positions (own_end n)
lent_to LoadAt p last n = part_of p 0 last
lent_to _ p last n = []

abbrev pub lent_positions : List ℕ → Command → ℕ → List ℕ
lent_positions p c n = lent_to c.verb p c.last n
