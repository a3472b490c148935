-- Of the code: which text, with which numbers, an answer is.
use Rattle.std.specs.Prelude.{ℕ, ◌-◌, eqb, ltb, Option, Some, None, Result, Ok, Err, [], ◌∷◌}
use Rattle.base.specs.Folds.{pick}
use Rattle.plain.specs.declared.forms.Handed.{Handed}
use Rattle.plain.specs.declared.forms.LoadRefused.{LoadRefused as Refusal}
use Rattle.scenario_replies.specs.declared.Text.{Text}
use Rattle.scenario_replies.specs.declared.Text.TheVariants.{Accepted, Loaded, Refused, LoadRefused, BadLine, Quiet, Moved, Launch, StopCommand, Signal, Earliest, NoEarliest}
use Rattle.scenario_replies.specs.declared.Reply.{Reply}

abbrev pub reply_of : Text → ℕ → ℕ → Reply
reply_of t a b = record { text = t; numbers = a ∷ b ∷ 0 ∷ 0 ∷ [] }

abbrev pub ok_reply : Reply
ok_reply = reply_of Accepted 0 0

-- the line with the number n is bad
abbrev pub bad_reply : ℕ → Reply
bad_reply n = reply_of BadLine n 0

abbrev pub refused_reply : ℕ → Reply
refused_reply k = reply_of Refused k 0

-- an event that was accepted, or refused for the number k
abbrev pub event_reply : Result (Unit {0}) ℕ → Reply
event_reply (Ok u) = ok_reply
event_reply (Err k) = refused_reply k

-- an action by its number: the record moved, a launch, a stop-command, and from 3 on the signals
abbrev pub action_text : ℕ → Text
action_text a = pick (eqb a 0) Moved (pick (eqb a 1) Launch (pick (eqb a 2) StopCommand Signal))

-- the place of an action's signal among the signals, and 0 where it has none
abbrev pub action_signal : ℕ → ℕ
action_signal a = pick (ltb a 3) 0 (a - 3)

-- a next action, quiet, or a refusal
abbrev pub next_reply : Result (Option Handed) ℕ → Reply
next_reply (Ok (Some h)) = reply_of (action_text h.action) h.service (action_signal h.action)
next_reply (Ok None) = reply_of Quiet 0 0
next_reply (Err k) = refused_reply k

abbrev pub query_reply : Result (Option ℕ) ℕ → Reply
query_reply (Ok (Some t)) = reply_of Earliest t 0
query_reply (Ok None) = reply_of NoEarliest 0 0
query_reply (Err k) = refused_reply k

-- an accepted load has the count of services, a refused one its number, service, line and column
abbrev pub load_reply : Result ℕ Refusal → Reply
load_reply (Ok n) = reply_of Loaded n 0
load_reply (Err r) = record { text = LoadRefused; numbers = r.number ∷ r.service ∷ r.line ∷ r.column ∷ [] }
