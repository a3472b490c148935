-- Trusted: what a load over numbers tells, and what it leaves in the numbers of the table, of the state and of the token counts.
use Rattle.std.specs.Prelude.{ℕ, ◌+◌, ◌*◌, List, Result, Ok, Err, ◌≡◌, get_or, set}
use Rattle.std.specs.Result.{is_ok}
use Rattle.base.specs.Folds.{fold, pick}
use Rattle.service.specs.Limits.{max_services}
use Rattle.service.specs.Records.{fresh_state}
use Rattle.load_lent.specs.declared.Refused.{Refused}
use Rattle.plain.specs.declared.forms.LoadRefused.{LoadRefused}
use Rattle.loader.specs.Tokens.{no_tokens}
use Rattle.loader.specs.declared.tokens.Commands.{Commands}
use Rattle.loader.specs.declared.Loaded.{Loaded}
use Rattle.plain_encoding.specs.Numbers.{state_numbers, table_numbers}

-- the numbers of a refusal
abbrev pub numbers_of : Refused → LoadRefused
numbers_of r = record { number = r.number; service = r.service; line = r.line; column = r.column }

-- the answer to a load of n services: how many there are, or what refuses it
abbrev pub load_of : Result (Unit {0}) Refused → ℕ → Result ℕ LoadRefused
load_of (Ok u) n = Ok n
load_of (Err r) n = Err (numbers_of r)

-- how many tokens the command and the stop-command of service s have, put into the counts
abbrev pub counted : List ℕ → ℕ → Commands → List ℕ
counted l s c = set (set l (2 * s) c.start.count) (2 * s + 1) c.stop.count

-- the counts of all services
unfoldable pub counts_of : List ℕ → List Commands → List ℕ
counts_of l cs = fold (λ m s. counted m s (get_or cs s (record { start = no_tokens; stop = no_tokens }))) l max_services

-- the numbers after a load: a refused one leaves them as they were, an accepted one writes the table, the fresh state and the counts
abbrev pub table_after : List ℕ → Loaded → List ℕ
table_after l o = pick (is_ok o.answer) (table_numbers l o.table) l

abbrev pub state_after : List ℕ → Loaded → List ℕ
state_after l o = pick (is_ok o.answer) (state_numbers l fresh_state) l

abbrev pub counts_after : List ℕ → Loaded → List ℕ
counts_after l o = pick (is_ok o.answer) (counts_of l o.commands) l

-- what a load leaves in the numbers t of the table, x of the state and n of the counts
pub record Kept (o : Loaded) (t x n : List ℕ) (r : Result ℕ LoadRefused) (t₁ x₁ n₁ : List ℕ) : Type 0 where
  pub answer : r ≡ load_of o.answer o.table.count
  pub table : t₁ ≡ table_after t o
  pub state : x₁ ≡ state_after x o
  pub counts : n₁ ≡ counts_after n o
