-- Of the code: what 5 leaves of the texts: none "passes 4,096 bytes", and so the tokens of a service's two commands have a bound.
use Rattle.std.specs.Prelude.{ℕ, ◌+◌, ◌*◌, ◌<◌, ◌≤◌, List, length}
use Rattle.load_lent.specs.Checks.{longest_text}

pub record Short (text : ℕ → List ℕ) (n : ℕ) : Type 0 where
  pub each : (j : ℕ) → j < n → length (text j) ≤ longest_text

-- two commands, each as long as the text and with a zero byte
abbrev pub most_room : ℕ
most_room = 2 * (longest_text + 1)
