-- Trusted: what is read of one description: nothing yet, what a line does to it, and whether a dependency is among those that it has.
use Rattle.std.specs.Prelude.{ℕ, ◌+◌, Bool, ◌&&◌, true, false, List, Some, None, eqb, leb, get_or, set, replicate, drop}
use Rattle.base.specs.Folds.{pick, some}
use Rattle.service.specs.Numbers.{with_number, kind_number, flag_number}
use Rattle.service.specs.Settings.{default_settings}
use Rattle.service.specs.declared.Settings.{Settings as ServiceSettings}
use Rattle.load_text.specs.Strings.{same}
use Rattle.load_text.specs.Lines.{line_of}
use Rattle.load_value.specs.Values.{word_of}
use Rattle.load_word.specs.declared.Command.{Command as CommandName}
use Rattle.load_word.specs.declared.Command.TheVariants.{Start, Stop}
use Rattle.load_word.specs.declared.Link.{Link}
use Rattle.load_word.specs.declared.Link.TheVariants.{DependsOn, DependsMs, WaitsFor}
use Rattle.load_description.specs.declared.Dependency.{Dependency as Named}
use Rattle.load_description.specs.declared.Kept.{Kept}
use Rattle.load_description.specs.declared.Description.{Description}
use Rattle.load_description.specs.declared.Effect.{Effect}
use Rattle.load_description.specs.declared.Effect.TheVariants.{Nothing, Kind, Settings, Command, Dependency}

-- 12: "a 17th dependency of one service"
abbrev pub max_dependencies : ℕ
max_dependencies = 16

abbrev pub no_dependency : Named
no_dependency = record { link = DependsOn; at = 0 }

abbrev pub nothing_kept : Kept
nothing_kept = record { command = None; stop = None }

-- all settings by default, no type, nothing kept, no dependencies
abbrev pub blank : Description
blank = record {
  settings = default_settings;
  typed = false;
  kept = nothing_kept;
  count = 0;
  dependencies = replicate max_dependencies no_dependency;
}

-- "A later setting replaces an earlier one"
abbrev pub with_settings : Description → Bool → ServiceSettings → Description
with_settings d typed v = record {
  settings = v;
  typed = typed;
  kept = d.kept;
  count = d.count;
  dependencies = d.dependencies;
}

-- the settings with a stop-command
abbrev pub with_stop : ServiceSettings → ServiceSettings
with_stop v = with_number 11 (flag_number true) v

-- a command whose value begins at an offset
abbrev pub with_command : Description → CommandName → ℕ → Description
with_command d Start at = record {
  settings = d.settings;
  typed = d.typed;
  kept = record { command = Some at; stop = d.kept.stop };
  count = d.count;
  dependencies = d.dependencies;
}
with_command d Stop at = record {
  settings = with_stop d.settings;
  typed = d.typed;
  kept = record { command = d.kept.command; stop = Some at };
  count = d.count;
  dependencies = d.dependencies;
}

-- "Dependencies add up"
abbrev pub with_dependency : Description → Link → ℕ → Description
with_dependency d l at = record {
  settings = d.settings;
  typed = d.typed;
  kept = d.kept;
  count = d.count + 1;
  dependencies = set d.dependencies d.count (record { link = l; at = at });
}

-- what a line does
abbrev pub affected : Description → Effect → Description
affected d Nothing = d
affected d (Kind k) = with_settings d true (with_number 0 (kind_number k) d.settings)
affected d (Settings v) = with_settings d d.typed v
affected d (Command c at) = with_command d c at
affected d (Dependency l at) = with_dependency d l at

abbrev pub dependency_at : Description → ℕ → Named
dependency_at d k = get_or d.dependencies k no_dependency

abbrev pub description_at : List Description → ℕ → Description
description_at ds j = get_or ds j blank

-- the value that begins at an offset goes to the line's end
unfoldable pub value_at : List ℕ → ℕ → List ℕ
value_at text at = line_of (drop at text)

-- the word that such a value is
unfoldable pub word_at : List ℕ → ℕ → List ℕ
word_at text at = word_of (value_at text at)

abbrev pub link_number : Link → ℕ
link_number DependsOn = 0
link_number DependsMs = 1
link_number WaitsFor = 2

abbrev pub is_link : Link → Link → Bool
is_link a b = eqb (link_number a) (link_number b)

-- how many places of the dependencies are taken: no more than there are
abbrev pub taken_of : ℕ → ℕ
taken_of n = pick (leb n max_dependencies) n max_dependencies

abbrev pub taken : Description → ℕ
taken d = taken_of d.count

-- "the same kind and name twice counts once": the description has this dependency
abbrev pub is_dependency : List ℕ → Named → Link → List ℕ → Bool
is_dependency text e l w = is_link e.link l && same (word_at text e.at) w

unfoldable pub known : List ℕ → Description → Link → List ℕ → Bool
known text d l w = some (λ k. is_dependency text (dependency_at d k) l w) (taken d)
