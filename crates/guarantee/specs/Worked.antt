-- Trusted: "Reader and averager, on both sides": the worked examples that paper 01 marks P, one table and one statement.
use Rattle.std.specs.Prelude.{ℕ, List, [], ◌++◌, ◌∷◌, ◌≡◌, refl, Option, Some, None, Result, Ok, Err, IsOkAnd}
use Prim.Native.String.{String}
use Rattle.std.proofs.Common.{ap}
use Rattle.base.specs.Folds.{every, first, some}
use Rattle.base.specs.Links.{cyclic, reach}
use Rattle.base.specs.Sets.{has_bit, within}
use Rattle.service.specs.Numbers.{settings_from}
use Rattle.service.specs.Records.{fresh_state, record_at, with_record}
use Rattle.service.specs.Settings.{settings_at}
use Rattle.service.specs.declared.Table.{Table}
use Rattle.rules.specs.Calls.{Answer, Call, check, outcome}
use Rattle.rules.specs.Dependencies.{all_links, blocked, depends, hard, hard_links, needed, soft, strong, strong_links}
use Rattle.rules.specs.Events.{after_clock, after_end, after_start, after_stop, after_stop_all, each, ended_as, start_reaches}
use Rattle.rules.specs.Rules.{act, act_on, chosen, chosen_from, due, fits, hands, leaves, lost_to_user, next_action}
use Rattle.rules.specs.WellFormed.{formed, shaped_at, state_formed, table_formed}
use Rattle.rules.specs.Worked.{answers, pair, pair_answers, pair_calls}
use Rattle.load_text.specs.Bytes.{run}
use Rattle.load_text.specs.Lines.{bad_from, line_from, line_number, line_of, lines_of, opening}
use Rattle.load_text.specs.Strings.{bytes, index_from, part_of, same}
use Rattle.load_text.specs.Numbers.{wrong_number}
use Rattle.load_text.specs.declared.Fault.{Fault}
use Rattle.load_value.specs.Steps.{bare_step, step_of}
use Rattle.load_value.specs.Values.{fault_from, joined, leading, marks_from, scan_of, sizes_from as countFrom, spaced, word_of, written}
use Rattle.load_word.specs.Decimals.{count_end, count_of, decimal_from, digit_of, read_of, time_end, time_of}
use Rattle.load_word.specs.Properties.{property_names, property_of, setting_of}
use Rattle.load_word.specs.Words.{flag_of, is_name, kind_of, name_bytes, no_of, signal_names, signal_of}
use Rattle.load_description.specs.Lines.{dependency_read, line_read, property_read, tokens_read, word_read}
use Rattle.load_description.specs.Settings.{known, value_at, word_at}
use Rattle.load_description.specs.Texts.{completion, lines_read, text_read}
use Rattle.load_description.specs.declared.Description.{Description}
use Rattle.loader.specs.Examples.{Service, load_of, pair_loads, pair as pairTexts}
use Rattle.loader.specs.Load.{Outcome}
use Rattle.loader.specs.Tokens.{command_bytes, command_count}

-- a time and a command's value, as they stand in a description
unfoldable pub time_text : String → List ℕ
time_text s = bytes "type=internal\nrestart-delay=" ++ bytes s

unfoldable pub value_text : String → List ℕ
value_text s = bytes "type=internal\ncommand=" ++ bytes s

-- the number that refuses a description, and 0 for none
abbrev pub refusal_of : Result Description Fault → ℕ
refusal_of (Ok d) = 0
refusal_of (Err f) = wrong_number f.wrong

-- the value of a command that is kept, with its tokens as words
abbrev pub words_of : List ℕ → Option ℕ → List ℕ
words_of text (Some at) = spaced (value_at text at)
words_of text None = []

pub data Case : Type 0 where
  -- a time as it is written and its units of 0.1 ms; one that is refused, by a number
  time refused_time : String → ℕ → Case
  -- a value as it is written, what it is, and its tokens, each followed by a zero byte; one that is refused, by a number
  value : String → String → String → Case
  refused_value : String → ℕ → Case
  -- a set that loads, its table, and calls from the fresh state of the table with their answers
  played : List Service → Table → List Call → List Answer → Case

abbrev pub Passes : Case → Type 0
Passes (time s n) = IsOkAnd (text_read (time_text s)) (λ d. d.settings.delay ≡ n)
Passes (refused_time s n) = refusal_of (text_read (time_text s)) ≡ n
Passes (value s v w) =
    IsOkAnd (text_read (value_text s))
    (λ d. (words_of (value_text s) d.kept.command ≡ bytes v) × (command_bytes (value_text s) d.kept.command ≡ bytes w))
Passes (refused_value s n) = refusal_of (text_read (value_text s)) ≡ n
Passes (played ss t cs as') = ((load_of ss 30).loaded.table ≡ t) × (answers t fresh_state cs ≡ as')

abbrev pub AllPass : List Case → Type 0
AllPass [] = Unit {0}
AllPass (c ∷ cs) = Passes c × AllPass cs

-- THE TABLE
abbrev pub cases : List Case
cases =
    time "0.2" 2000
    ∷ time "86400" 864000000
    ∷ refused_time "86400.0001" 11
    ∷ refused_time ".5" 11
    ∷ refused_time "5." 11
    ∷ refused_time "0.00001" 11
    ∷ value "a  b # c" "a b" "a\0b\0"
    ∷ refused_value "a#b" 7
    ∷ value "\"a  b\"c" "a  bc" "a  bc\0"
    ∷ value "a\\ b" "a b" "a b\0"
    ∷ played pairTexts pair pair_calls pair_answers
    ∷ []

-- THE STATEMENT
pub worked : AllPass cases
unfolding time_text value_text countFrom pair_calls pair_answers answers some every first has_bit within reach cyclic settings_at record_at with_record fresh_state hard_links strong_links all_links hard strong soft depends blocked needed table_formed shaped_at state_formed formed each start_reaches after_start after_stop after_stop_all ended_as after_end after_clock due fits lost_to_user leaves hands chosen_from chosen act act_on next_action check outcome bytes same index_from part_of run line_of lines_of bad_from line_from line_number opening step_of bare_step fault_from marks_from scan_of written leading word_of flag_of no_of kind_of signal_names signal_of name_bytes is_name digit_of read_of decimal_from time_end time_of count_end count_of property_names property_of setting_of value_at word_at known dependency_read word_read tokens_read property_read line_read completion lines_read text_read settings_from command_count command_bytes joined spaced
worked = (refl, (refl, (refl, (refl, (refl, (refl, ((refl, refl), (refl, ((refl, refl), ((refl, refl), ((ap (λ (o : Outcome). o.loaded.table) pair_loads, refl), tt)))))))))))
