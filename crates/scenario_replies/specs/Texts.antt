-- Of the code: the texts of the answers, and the lists of names.
use Rattle.std.specs.Prelude.{ℕ, List, [], ◌∷◌, ◌++◌, map}
use Prim.Native.String.{String}
use Rattle.scenario_replies.specs.declared.Text.{Text}
use Rattle.scenario_replies.specs.declared.Text.TheVariants.{Accepted, Loaded, Refused, LoadRefused, BadLine, Quiet, Moved, Launch, StopCommand, Signal, RunCount, Earliest, NoEarliest, ClockLine, Record, RecordTimed, Settings, Commands, NoTokens, Tokens, ServiceHead, ServiceTail, Phases, Causes, Kinds, Signals, Restarts}
use Rattle.load_text.specs.Strings.{bytes, same, index_from}

-- In an answer # stands for a number, M for the members of a set, ~ for a number that is not shown, and another capital for the name at that
-- place of a list.
pub record Told : Type 0 where
  pub name : Text
  pub words : String

abbrev pub told : List Told
told =
    record { name = Accepted; words = "ok" } ∷
    record { name = Loaded; words = "ok #" } ∷
    record { name = Refused; words = "refused #" } ∷
    record { name = LoadRefused; words = "refused # service # line # column #" } ∷
    record { name = BadLine; words = "bad line #" } ∷
    record { name = Quiet; words = "quiet" } ∷
    record { name = Moved; words = "moved #" } ∷
    record { name = Launch; words = "launch #" } ∷
    record { name = StopCommand; words = "stop-command #" } ∷
    record { name = Signal; words = "signal # G" } ∷
    record { name = RunCount; words = "run #" } ∷
    record { name = Earliest; words = "at #" } ∷
    record { name = NoEarliest; words = "none" } ∷
    record { name = ClockLine; words = "clock #" } ∷
    record { name = Record; words = "P wanted=# aside=# live=# cause=C deadline=none~~ killed=# not-before=# last-launch=# window-start=# restarts=#" } ∷
    record { name = RecordTimed; words = "P wanted=# aside=# live=# cause=C deadline=~# killed=# not-before=# last-launch=# window-start=# restarts=#" } ∷
    record { name = Settings; words = "type=K restart=Y restart-delay=# restart-limit-interval=# restart-limit-count=# start-timeout=# stop-timeout=# term-signal=G depends-on=M depends-ms=M waits-for=M" } ∷
    record { name = Commands; words = " command=# stop-command=#" } ∷
    record { name = NoTokens; words = "tokens -" } ∷
    record { name = Tokens; words = "tokens " } ∷
    record { name = ServiceHead; words = "# " } ∷
    record { name = ServiceTail; words = " K" } ∷
    record { name = Phases; words = "down waiting starting up ending" } ∷
    record { name = Causes; words = "none user released fell failed" } ∷
    record { name = Kinds; words = "process scripted internal" } ∷
    record { name = Signals; words = "none HUP INT TERM QUIT USR1 USR2 KILL" } ∷
    record { name = Restarts; words = "no yes" } ∷
    []

unfoldable pub texts : List (List ℕ)
unfolding bytes
texts = map (λ t. bytes t.words) told

-- the texts as one, with a newline between two
unfoldable pub lined : List (List ℕ) → List ℕ
lined [] = []
lined (t ∷ []) = t
lined (t ∷ u ∷ us) = t ++ (10 ∷ lined (u ∷ us))

-- the place of a text among the texts, by its name
abbrev pub place : Text → ℕ
place Accepted = 0
place Loaded = 1
place Refused = 2
place LoadRefused = 3
place BadLine = 4
place Quiet = 5
place Moved = 6
place Launch = 7
place StopCommand = 8
place Signal = 9
place RunCount = 10
place Earliest = 11
place NoEarliest = 12
place ClockLine = 13
place Record = 14
place RecordTimed = 15
place Settings = 16
place Commands = 17
place NoTokens = 18
place Tokens = 19
place ServiceHead = 20
place ServiceTail = 21
place Phases = 22
place Causes = 23
place Kinds = 24
place Signals = 25
place Restarts = 26

-- the place of each text among the texts
unfoldable pub places : List ℕ
unfolding bytes texts index_from same
places = map (λ t. index_from t 0 texts) texts
