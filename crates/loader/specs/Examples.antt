-- Of the code: the pair of paper 01 loaded, and a case for each number that refuses a load.
use Rattle.std.specs.Prelude.{ℕ, ◌+◌, ◌≡◌, refl, List, [], ◌∷◌, ◌++◌, map, length, replicate, Ok, Err}
use Prim.Native.String.{String}
use Rattle.base.specs.Folds.{some, first}
use Rattle.base.specs.Sets.{has_bit}
use Rattle.base.specs.Links.{reach}
use Rattle.service.specs.Numbers.{settings_from}
use Rattle.service.specs.Settings.{default_settings, process}
use Rattle.load_text.specs.Strings.{bytes, same, index_from, part_of}
use Rattle.load_text.specs.Bytes.{run}
use Rattle.load_text.specs.Lines.{line_of, lines_of, bad_from, line_from, line_number, column_from, column_number, opening}
use Rattle.load_value.specs.Steps.{step_of, bare_step}
use Rattle.load_value.specs.Values.{fault_from, marks_from, sizes_from as countFrom, scan_of, written, leading, word_of}
use Rattle.load_word.specs.Words.{flag_of, no_of, kind_of, signal_names, signal_of, name_bytes, is_name}
use Rattle.load_word.specs.Decimals.{digit_of, read_of, decimal_from, time_end, time_of, count_end, count_of}
use Rattle.load_word.specs.Properties.{property_names, property_of, setting_of}
use Rattle.load_description.specs.Settings.{value_at, word_at, known}
use Rattle.load_description.specs.Lines.{dependency_read, word_read, tokens_read, property_read, line_read}
use Rattle.load_description.specs.Texts.{completion, lines_read, text_read}
use Rattle.loader.specs.declared.tokens.Commands.{Commands}
use Rattle.load_lent.specs.Parts.{rises_to, positioned, name_start, name_at, text_at}
use Rattle.load_lent.specs.Checks.{find, names_from, sizes_from}
use Rattle.load_lent.specs.Refusals.{Answer, bare}
use Rattle.loader.specs.Texts.{descriptions_from}
use Rattle.load_links.specs.Links.{links_from, links_in, services_from, lowest_cyclic}
use Rattle.loader.specs.Tokens.{command_bytes, command_count, kept_of, places_of, bytes_from, commands_from}
use Rattle.loader.specs.Load.{Outcome, stored, acyclic, load_texts, load_set, load}

-- a service's name and text
pub record Service : Type 0 where
  pub name : String
  pub text : String

abbrev pub service : String → String → Service
service n t = record { name = n; text = t }

-- the lent bytes and positions of a set
unfoldable pub lent_of : List Service → List ℕ
lent_of [] = []
lent_of (s ∷ ss) = bytes s.name ++ bytes s.text ++ lent_of ss

unfoldable pub ends_from : ℕ → List Service → List ℕ
ends_from p [] = []
ends_from p (s ∷ ss) =
    let e = p + length (bytes s.name) in
    let f = e + length (bytes s.text) in
    e ∷ f ∷ ends_from f ss

unfoldable pub load_of : List Service → ℕ → Outcome
load_of ss room = load (lent_of ss) (ends_from 0 ss) (replicate room 46)

-- "0 reader, process; 1 averager, process, hard on 0; both restart"
abbrev pub pair : List Service
pair =
    service "reader" "type = process\ncommand = /bin/reader\nrestart = yes\n" ∷
    service "averager" "type = process\ncommand = averager -n 5\ndepends-on: reader\nrestart = yes\n" ∷
    []

abbrev tokens_at : ℕ → ℕ → ℕ → Commands
tokens_at at n e = record { start = record { at = at; count = n }; stop = record { at = e; count = 0 } }

abbrev pair_loaded : Outcome
pair_loaded = record {
  loaded = record {
    answer = Ok tt;
    table = record { count = 2; services = process 0 ∷ process 1 ∷ replicate 30 default_settings };
    commands = tokens_at 0 1 12 ∷ tokens_at 12 3 26 ∷ replicate 30 (tokens_at 0 0 0);
  };
  buffer = bytes "/bin/reader\0averager\0-n\05\0....";
}

-- a set, or lent bytes with positions of their own, with the room for tokens; or one service whose text has a number of bytes more
pub data Case : Type 0 where
  set : List Service → ℕ → Case
  lent : String → List ℕ → ℕ → Case
  long : String → ℕ → Case

unfoldable pub answer_of : Case → Answer
answer_of (set ss room) = (load_of ss room).loaded.answer
answer_of (lent l ends room) = (load (bytes l) ends (replicate room 0)).loaded.answer
answer_of (long l n) = (load (97 ∷ (bytes l ++ replicate n 35)) (1 ∷ (1 + length (bytes l) + n) ∷ []) []).loaded.answer

pub record Example : Type 0 where
  pub case : Case
  pub answer : Answer

abbrev refused_at : ℕ → ℕ → ℕ → ℕ → Answer
refused_at n s l c = Err (record { number = n; service = s; line = l; column = c })

abbrev pub examples : List Example
examples =
    record { case = lent "" [] 0; answer = Ok tt } ∷
    record { case = lent "" (replicate 66 0) 0; answer = Err (bare 1 0) } ∷
    record { case = lent "" (replicate 67 0) 0; answer = Err (bare 1 0) } ∷
    record { case = lent "" (replicate 65 0) 0; answer = Err (bare 2 0) } ∷
    record { case = lent "atype=internal" (1 ∷ []) 0; answer = Err (bare 2 0) } ∷
    record { case = lent "atype=internal" (1 ∷ 0 ∷ []) 0; answer = Err (bare 2 0) } ∷
    record { case = lent "atype=internal" (1 ∷ 13 ∷ []) 0; answer = Err (bare 2 0) } ∷
    record { case = lent "a" [] 0; answer = Err (bare 2 0) } ∷
    record { case = lent "atype=internal" (1 ∷ 14 ∷ []) 0; answer = Ok tt } ∷
    record { case = set (service "a" "" ∷ service "" "" ∷ []) 0; answer = Err (bare 3 1) } ∷
    record { case = set (service "a" "" ∷ service "a/b" "" ∷ []) 0; answer = Err (bare 3 1) } ∷
    record { case = set (service "a" "" ∷ service "a" "" ∷ service "" "" ∷ []) 0; answer = Err (bare 4 1) } ∷
    record { case = long "type=internal\n" 4082; answer = Ok tt } ∷
    record { case = long "type=internal\n" 4083; answer = Err (bare 5 0) } ∷
    -- from here on a line and a column where the text has the fault; a text's 7, 13 or 14 comes before the next text's 6
    record { case = set (service "a" "bogus" ∷ service "b" "\u{1}" ∷ []) 0; answer = refused_at 7 0 1 6 } ∷
    record { case = set (service "a" "type=internal" ∷ service "b" "# \n\u{1}" ∷ []) 0; answer = refused_at 6 1 2 1 } ∷
    record { case = set (service "a" "\ncommand= \"x" ∷ []) 0; answer = refused_at 8 0 2 10 } ∷
    record { case = set (service "a" "command=x\\\n" ∷ []) 0; answer = refused_at 9 0 1 10 } ∷
    record { case = set (service "a" "options=x" ∷ []) 0; answer = refused_at 10 0 1 1 } ∷
    record { case = set (service "a" "restart=maybe" ∷ []) 0; answer = refused_at 11 0 1 9 } ∷
    record { case = set (service "a" "waits-for=a\nwaits-for=b\nwaits-for=c\nwaits-for=d\nwaits-for=e\nwaits-for=f\nwaits-for=g\nwaits-for=h\nwaits-for=i\nwaits-for=j\nwaits-for=k\nwaits-for=l\nwaits-for=m\nwaits-for=n\nwaits-for=o\nwaits-for=p\nwaits-for=q\n" ∷ []) 0; answer = refused_at 12 0 17 11 } ∷
    record { case = set (service "a" "depends-on=x" ∷ []) 0; answer = Err (bare 13 0) } ∷
    record { case = set (service "a" "type=internal\ndepends-on=x" ∷ service "b" "type=process" ∷ []) 0; answer = Err (bare 14 1) } ∷
    record { case = set (service "a" "type=internal\n\nwaits-for=x\ndepends-on=y" ∷ []) 0; answer = refused_at 15 0 3 1 } ∷
    -- 1 and 2 are on a cycle, which 0 only reaches; 16 comes before 25
    record { case = set (service "a" "type=internal\ncommand=x\ndepends-on=b" ∷ service "b" "type=internal\ndepends-ms=c" ∷ service "c" "type=internal\nwaits-for=b" ∷ []) 0; answer = Err (bare 16 1) } ∷
    record { case = set (service "a" "type=internal\nwaits-for=a" ∷ []) 0; answer = Err (bare 16 0) } ∷
    -- "the standing commands, unused ones too"; room of just the size is enough
    record { case = set (service "a" "type=internal\ncommand=abc\ncommand=x y\nstop-command=z" ∷ []) 5; answer = Err (bare 25 0) } ∷
    record { case = set (service "a" "type=internal\ncommand=abc\ncommand=x y\nstop-command=z" ∷ []) 6; answer = Ok tt } ∷
    []

pub pair_loads : load_of pair 30 ≡ pair_loaded
unfolding lent_of ends_from load_of some first has_bit reach bytes same index_from part_of run line_of lines_of bad_from line_from line_number column_from column_number opening step_of bare_step fault_from marks_from countFrom scan_of written leading word_of flag_of no_of kind_of signal_names signal_of name_bytes is_name digit_of read_of decimal_from time_end time_of count_end count_of property_names property_of setting_of settings_from value_at word_at known dependency_read word_read tokens_read property_read line_read completion lines_read text_read rises_to positioned name_start name_at text_at find names_from sizes_from descriptions_from links_from links_in services_from lowest_cyclic command_bytes command_count kept_of places_of bytes_from commands_from stored acyclic load_texts load_set load
pair_loads = refl

pub examples_hold : map (λ e. answer_of e.case) examples ≡ map (λ e. e.answer) examples
unfolding lent_of ends_from load_of answer_of some first has_bit reach bytes same index_from part_of run line_of lines_of bad_from line_from line_number column_from column_number opening step_of bare_step fault_from marks_from countFrom scan_of written leading word_of flag_of no_of kind_of signal_names signal_of name_bytes is_name digit_of read_of decimal_from time_end time_of count_end count_of property_names property_of setting_of settings_from value_at word_at known dependency_read word_read tokens_read property_read line_read completion lines_read text_read rises_to positioned name_start name_at text_at find names_from sizes_from descriptions_from links_from links_in services_from lowest_cyclic command_bytes command_count kept_of places_of bytes_from commands_from stored acyclic load_texts load_set load
examples_hold = refl
