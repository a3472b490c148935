-- Trusted: "In a line: 7 for name and sign; 10; value from left (7, 9, at its end 8); 11; 12."
use Rattle.std.specs.Prelude.{ℕ, ◌+◌, List, Option, Some, None, Result, Ok, Err, ltb, drop}
use Rattle.base.specs.Folds.{pick}
use Rattle.load_text.specs.Strings.{part_of}
use Rattle.load_text.specs.Lines.{fault, opening, white_end}
use Rattle.load_text.specs.declared.Fault.{Fault}
use Rattle.load_text.specs.declared.Places.{Places}
use Rattle.load_text.specs.declared.Wrong.TheVariants.{OutsideRule, TooManyDependencies, UnknownProperty}
use Rattle.load_value.specs.Values.{scan_of, is_command, is_word, word_of}
use Rattle.load_value.specs.declared.Sizes.{Sizes}
use Rattle.service.specs.declared.Kind.{Kind as ServiceKind}
use Rattle.service.specs.declared.Settings.{Settings as ServiceSettings}
use Rattle.load_word.specs.declared.Property.{Property}
use Rattle.load_word.specs.declared.Property.TheVariants.{Kind as KindProperty, Setting, Command as CommandProperty, Link, Unknown}
use Rattle.load_word.specs.declared.Command.{Command as CommandName}
use Rattle.load_word.specs.declared.Link.{Link as LinkName}
use Rattle.load_word.specs.Words.{is_name, kind_of}
use Rattle.load_word.specs.Properties.{property_of, is_unknown, setting_of}
use Rattle.load_description.specs.declared.Description.{Description}
use Rattle.load_description.specs.declared.Effect.{Effect}
use Rattle.load_description.specs.declared.Effect.TheVariants.{Nothing, Kind, Settings, Command, Dependency}
use Rattle.load_description.specs.Settings.{max_dependencies, known}

-- In all of these `at` is the offset of the byte after the sign, where the value begins, and `seen` that of the first from
-- there on which is no white space. A setting that a later line replaces is checked like any other.

-- 11: "value outside its property's rule (a dependency's name as in 3)"
abbrev pub outside : ℕ → Result Effect Fault
outside seen = Err (fault OutsideRule seen)

-- a dependency on w: 12 "a 17th dependency of one service"
unfoldable pub dependency_read : List ℕ → Description → LinkName → ℕ → ℕ → List ℕ → Result Effect Fault
dependency_read text d l at seen w =
    pick (known text d l w) (Ok Nothing)
    (pick (ltb d.count max_dependencies) (Ok (Dependency l at)) (Err (fault TooManyDependencies seen)))

abbrev pub kind_read : ℕ → Option ServiceKind → Result Effect Fault
kind_read seen (Some k) = Ok (Kind k)
kind_read seen None = outside seen

abbrev pub setting_read : ℕ → Option ServiceSettings → Result Effect Fault
setting_read seen (Some v) = Ok (Settings v)
setting_read seen None = outside seen

-- a word as a property's value, by what the property's value is
unfoldable pub word_read : List ℕ → Description → Property → ℕ → ℕ → List ℕ → Result Effect Fault
word_read text d KindProperty at seen w = kind_read seen (kind_of w)
word_read text d (Setting s) at seen w = setting_read seen (setting_of s w d.settings)
word_read text d (Link l) at seen w = pick (is_name w) (dependency_read text d l at seen w) (outside seen)
word_read text d (CommandProperty c) at seen w = outside seen
word_read text d Unknown at seen w = outside seen

-- a value that must be a word
abbrev pub single_read : List ℕ → Description → Property → ℕ → ℕ → Sizes → List ℕ → Result Effect Fault
single_read text d p at seen z value = pick (is_word z) (word_read text d p at seen (word_of value)) (outside seen)

-- a command is kept by the offset of its value
abbrev pub command_read : CommandName → ℕ → ℕ → Sizes → Result Effect Fault
command_read c at seen z = pick (is_command z) (Ok (Command c at)) (outside seen)

unfoldable pub tokens_read : List ℕ → Description → Property → ℕ → ℕ → Sizes → List ℕ → Result Effect Fault
tokens_read text d (CommandProperty c) at seen z value = command_read c at seen z
tokens_read text d KindProperty at seen z value = single_read text d KindProperty at seen z value
tokens_read text d (Setting s) at seen z value = single_read text d (Setting s) at seen z value
tokens_read text d (Link l) at seen z value = single_read text d (Link l) at seen z value
tokens_read text d Unknown at seen z value = single_read text d Unknown at seen z value

abbrev pub scan_read : List ℕ → Description → Property → ℕ → ℕ → Result Sizes Fault → List ℕ → Result Effect Fault
scan_read text d p at seen (Ok z) value = tokens_read text d p at seen z value
scan_read text d p at seen (Err f) value = Err (fault f.wrong (at + f.at))

-- 10: "unknown property", decided by the name's first byte
unfoldable pub property_read : List ℕ → Description → ℕ → List ℕ → Places → Property → Result Effect Fault
property_read text d from l s p =
    pick (is_unknown p) (Err (fault UnknownProperty (from + s.from)))
    (scan_read text d p (from + s.value) (from + white_end l s.value) (scan_of (drop s.value l)) (drop s.value l))

-- a line that names nothing says nothing
abbrev pub opening_read : List ℕ → Description → ℕ → List ℕ → Result (Option Places) Fault → Result Effect Fault
opening_read text d from l (Ok None) = Ok Nothing
opening_read text d from l (Ok (Some s)) = property_read text d from l s (property_of (part_of l s.from s.end))
opening_read text d from l (Err f) = Err (fault f.wrong (from + f.at))

-- the line l, which begins at the offset `from` of the text, after lines that made the settings d
unfoldable pub line_read : List ℕ → Description → ℕ → List ℕ → Result Effect Fault
line_read text d from l = opening_read text d from l (opening l)
