-- Trusted: "The tokens of the standing commands, unused ones too, go to a lent buffer from its start, by service, command before stop-command, each
-- followed by a zero byte".
use Rattle.std.specs.Prelude.{ℕ, zero, suc, ◌+◌, List, [], ◌++◌, Option, Some, None, Result, Ok, Err, eqb, length, set, replicate}
use Rattle.base.specs.Folds.{pick}
use Rattle.service.specs.Limits.{max_services}
use Rattle.load_value.specs.Values.{scan_of, written}
use Rattle.load_text.specs.declared.Fault.{Fault}
use Rattle.load_value.specs.declared.Sizes.{Sizes}
use Rattle.load_description.specs.declared.Description.{Description}
use Rattle.load_description.specs.Settings.{description_at, value_at}
use Rattle.loader.specs.declared.tokens.Tokens.{Tokens}
use Rattle.loader.specs.declared.tokens.Commands.{Commands}

-- ---- one command

-- how many tokens a value has; a bad one has none, and a value that was read is never bad
abbrev pub tokens_in : Result Sizes Fault → ℕ
tokens_in (Ok z) = z.tokens
tokens_in (Err f) = 0

-- "Commands are lists of tokens": how many the command has whose value begins at an offset of a text, if there is one
unfoldable pub command_count : List ℕ → Option ℕ → ℕ
command_count text None = 0
command_count text (Some at) = tokens_in (scan_of (value_at text at))

-- its tokens as they go to the buffer, where it has any
unfoldable pub command_bytes : List ℕ → Option ℕ → List ℕ
command_bytes text None = []
command_bytes text (Some at) = pick (eqb (command_count text (Some at)) 0) [] (written (value_at text at))

-- ---- what is kept of a service

-- as it goes to the buffer: "command before stop-command"
unfoldable pub kept_of : List ℕ → Description → List ℕ
kept_of text d = command_bytes text d.kept.command ++ command_bytes text d.kept.stop

-- the room that it takes
abbrev pub room_of : List ℕ → Description → ℕ
room_of text d = length (kept_of text d)

-- where its tokens are, when they begin at the place o
unfoldable pub places_of : ℕ → List ℕ → Description → Commands
places_of o text d = record {
  start = record { at = o; count = command_count text d.kept.command };
  stop = record { at = o + length (command_bytes text d.kept.command); count = command_count text d.kept.stop };
}

-- ---- "by service"

-- what goes to the buffer from service j on, with m left
unfoldable pub bytes_from : (ℕ → List ℕ) → List Description → ℕ → ℕ → List ℕ
bytes_from text ds j zero = []
bytes_from text ds j (suc m) = kept_of (text j) (description_at ds j) ++ bytes_from text ds (j + 1) m

abbrev pub no_tokens : Tokens
no_tokens = record { at = 0; count = 0 }

abbrev pub no_commands : List Commands
no_commands = replicate max_services (record { start = no_tokens; stop = no_tokens })

-- where they are, from service j on with m left; cs holds those before it, whose tokens end at the place o
unfoldable pub commands_from : (ℕ → List ℕ) → List Description → ℕ → List Commands → ℕ → ℕ → List Commands
commands_from text ds o cs j zero = cs
commands_from text ds o cs j (suc m) =
    let d = description_at ds j in
    commands_from text ds (o + room_of (text j) d) (set cs j (places_of o (text j) d)) (j + 1) m
