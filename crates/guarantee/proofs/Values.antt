-- The settings that a description is read to are in list 24's ranges, and it has at most 16 dependencies: every line keeps it so.
use Prim.Native.Nat.{◌+◌, ℕ}
use borrow.Author.Tests.{le-leb, ltb-true}
use lib.Dec.{eqb, leb, ltb}
use lib.ListN.{drop, get_or, length, set}
use mathlib.Core.Bool.{Bool, ◌&&◌, ◌||◌, false, not, true}
use mathlib.Core.List.{List, [], ◌∷◌}
use mathlib.Core.Path.{◌≡◌, refl, subst}
use native.Mathlib.Omega.{arith}
use Rattle.std.specs.Prelude.{Err, None, Ok, Option, Result, Some, option_map}
use Rattle.base.specs.Folds.{pick}
use Rattle.base.proofs.Lists.{set_holds}
use Rattle.base.proofs.Tests.{and_true}
use Rattle.service.specs.Limits.{longest_time, max_count}
use Rattle.service.specs.Numbers.{flag_number, kind_number, settings_from, settings_numbers, signal_number, with_number}
use Rattle.service.specs.Settings.{default_settings}
use Rattle.service.specs.declared.Kind.{Kind as ServiceKind}
use Rattle.service.specs.declared.Settings.{Settings as ServiceSettings}
use Rattle.load_text.specs.Lines.{bad_from, lines_of, opening, white_end}
use Rattle.load_text.specs.Strings.{part_of}
use Rattle.load_text.specs.declared.Fault.{Fault}
use Rattle.load_text.specs.declared.Places.{Places}
use Rattle.load_value.specs.Values.{is_command, is_word, scan_of, word_of}
use Rattle.load_value.specs.declared.Sizes.{Sizes}
use Rattle.load_word.specs.Decimals.{count_end, count_of, blank as decimalBlank, decimal_from, time_end, time_of, units_of, valued}
use Rattle.load_word.specs.Properties.{checked, is_unknown, property_of, setting_of, stored}
use Rattle.load_word.specs.Words.{flag_of, is_name, kind_of, no_of, signal_of}
use Rattle.load_word.specs.declared.Command.TheVariants.{Start, Stop}
use Rattle.load_word.specs.declared.Decimal.{Decimal}
use Rattle.load_word.specs.declared.Link.{Link as LinkName}
use Rattle.load_word.specs.declared.Property.{Property}
use Rattle.load_word.specs.declared.Property.TheVariants.{Command as CommandProperty, Kind as KindProperty, Link, Setting, Unknown}
use Rattle.load_word.specs.declared.Setting.{Setting as SettingName}
use Rattle.load_word.specs.declared.Setting.TheVariants.{Restart, RestartDelay, RestartLimitCount, RestartLimitInterval}
use Rattle.load_word.specs.declared.Setting.TheVariants.{SmoothRecovery, StartTimeout, StopTimeout, TermSignal}
use Rattle.load_description.specs.Lines.{dependency_read, kind_read, line_read, opening_read, property_read, scan_read, setting_read, single_read, tokens_read, word_read}
use Rattle.load_description.specs.Settings.{affected, blank, known, max_dependencies}
use Rattle.load_description.specs.Texts.{checked as checkedRead, completion, lines_read, read_on, text_read}
use Rattle.load_description.specs.declared.Description.{Description}
use Rattle.load_description.specs.declared.Effect.{Effect}
use Rattle.load_description.specs.declared.Effect.TheVariants.{Command, Dependency, Kind, Nothing, Settings}

-- ---- settings in range

-- the number n may stand at the place k of the settings' numbers: four of them are times, and one is the limit count
abbrev in_rule : ℕ → ℕ → Bool
in_rule k n =
    pick (eqb k 4) (leb n max_count) (pick (eqb k 2 || eqb k 3 || eqb k 5 || eqb k 6) (leb n longest_time) true)

pub record InRange (v : ServiceSettings) : Type 0 where
  pub delay : leb v.delay longest_time ≡ true
  pub interval : leb v.interval longest_time ≡ true
  pub limit : leb v.limit max_count ≡ true
  pub starting : leb v.start_timeout longest_time ≡ true
  pub stopping : leb v.stop_timeout longest_time ≡ true

pub default_ranged : InRange default_settings
default_ranged = record { delay = refl; interval = refl; limit = refl; starting = refl; stopping = refl }

-- kept by every store of a number that may stand in its place: a setting's, the type's, the stop-command's
stored_in : (k n : ℕ) (v : ServiceSettings) → in_rule k n ≡ true → InRange v → InRange (with_number k n v)
unfolding settings_from
stored_in k n v e h = record {
  delay = at 2 (λ a. leb a longest_time ≡ true) (λ q. rw (← q) at e) h.delay;
  interval = at 3 (λ a. leb a longest_time ≡ true) (λ q. rw (← q) at e) h.interval;
  limit = at 4 (λ a. leb a max_count ≡ true) (λ q. rw (← q) at e) h.limit;
  starting = at 5 (λ a. leb a longest_time ≡ true) (λ q. rw (← q) at e) h.starting;
  stopping = at 6 (λ a. leb a longest_time ≡ true) (λ q. rw (← q) at e) h.stopping;
}
  where
    at : (i : ℕ) (P : ℕ → Type 0) → (i ≡ k → P n) → P (get_or (settings_numbers v) i 0) → P (get_or (set (settings_numbers v) k n) i 0)
    at i P f g = set_holds P (settings_numbers v) k i n 0 f g

-- ---- what a word is worth

-- the number that a word is worth, where it is worth one, has p
abbrev Worthy : (ℕ → Bool) → Option ℕ → Type 0
Worthy p (Some n) = p n ≡ true
Worthy p None = Unit {0}

any_worth : (x : Option ℕ) → Worthy (λ n. true) x
any_worth (Some n) = refl
any_worth None = tt

time_at_most : (w : List ℕ) → Worthy (λ n. leb n longest_time) (time_of w)
unfolding time_of time_end
time_at_most w = go (decimal_from decimalBlank w)
  where
    last : (k : Decimal) (b : Bool) → (ltb 0 k.whole && (not k.point || ltb 0 k.part) && leb (units_of k) longest_time) ≡ b
        → Worthy (λ n. leb n longest_time) (pick b (Some (units_of k)) None)
    last k true e = ((and_true (ltb 0 k.whole && (not k.point || ltb 0 k.part)) (leb (units_of k) longest_time)).0 e).1
    last k false e = tt

    go : (r : Option Decimal) → Worthy (λ n. leb n longest_time) (valued r time_end)
    go (Some k) = last k _ refl
    go None = tt

count_at_most : (w : List ℕ) → Worthy (λ n. leb n max_count) (count_of w)
unfolding count_of count_end
count_at_most w = go (decimal_from decimalBlank w)
  where
    last : (k : Decimal) (b : Bool) → (ltb 0 k.whole && leb k.whole 5 && not k.point && leb k.value max_count) ≡ b
        → Worthy (λ n. leb n max_count) (pick b (Some k.value) None)
    last k true e = ((and_true (ltb 0 k.whole && leb k.whole 5 && not k.point) (leb k.value max_count)).0 e).1
    last k false e = tt

    go : (r : Option Decimal) → Worthy (λ n. leb n max_count) (valued r count_end)
    go (Some k) = last k _ refl
    go None = tt

-- ---- a setting's word

abbrev ChangeIn : Option ServiceSettings → Type 0
ChangeIn (Some v) = InRange v
ChangeIn None = Unit {0}

worth_in : (k : ℕ) (v : ServiceSettings) (x : Option ℕ) → InRange v → Worthy (in_rule k) x → ChangeIn (stored k v x)
worth_in k v (Some n) h e = stored_in k n v e h
worth_in k v None h e = tt

checked_in : (v : ServiceSettings) (x : Option Bool) → InRange v → ChangeIn (checked v x)
checked_in v (Some b) h = h
checked_in v None h = tt

setting_in : (s : SettingName) (w : List ℕ) (v : ServiceSettings) → InRange v → ChangeIn (setting_of s w v)
unfolding setting_of
setting_in Restart w v h = worth_in 1 v (option_map flag_number (flag_of w)) h (any_worth (option_map flag_number (flag_of w)))
setting_in SmoothRecovery w v h = checked_in v (no_of w) h
setting_in RestartDelay w v h = worth_in 2 v (time_of w) h (time_at_most w)
setting_in RestartLimitInterval w v h = worth_in 3 v (time_of w) h (time_at_most w)
setting_in RestartLimitCount w v h = worth_in 4 v (count_of w) h (count_at_most w)
setting_in StartTimeout w v h = worth_in 5 v (time_of w) h (time_at_most w)
setting_in StopTimeout w v h = worth_in 6 v (time_of w) h (time_at_most w)
setting_in TermSignal w v h = worth_in 7 v (option_map signal_number (signal_of w)) h (any_worth (option_map signal_number (signal_of w)))

-- ---- a line's effect

-- what the effect needs of the description d to keep it so
abbrev EffectIn : Description → Effect → Type 0
EffectIn d Nothing = Unit {0}
EffectIn d (Kind k) = Unit {0}
EffectIn d (Settings v) = InRange v
EffectIn d (Command c at) = Unit {0}
EffectIn d (Dependency l at) = ltb d.count max_dependencies ≡ true

abbrev LineIn : Description → Result Effect Fault → Type 0
LineIn d (Ok e) = EffectIn d e
LineIn d (Err f) = Unit {0}

-- what holds of both sides of a choice, each where its side is taken, holds of the choice
by_test : (d : Description) (b : Bool) (x y : Result Effect Fault) → (b ≡ true → LineIn d x) → (b ≡ false → LineIn d y) → LineIn d (pick b x y)
by_test d true x y f g = f refl
by_test d false x y f g = g refl

either_line : (d : Description) (b : Bool) (x y : Result Effect Fault) → LineIn d x → LineIn d y → LineIn d (pick b x y)
either_line d b x y f g = by_test d b x y (λ _. f) (λ _. g)

dependency_in : (text : List ℕ) (d : Description) (l : LinkName) (at seen : ℕ) (w : List ℕ) → LineIn d (dependency_read text d l at seen w)
unfolding dependency_read
dependency_in text d l at seen w =
    either_line d (known text d l w) _ _ tt (by_test d (ltb d.count max_dependencies) _ _ (λ e. e) (λ _. tt))

module _ (text : List ℕ) (d : Description) (h : InRange d.settings) where
  word_in : (p : Property) (at seen : ℕ) (w : List ℕ) → LineIn d (word_read text d p at seen w)
  unfolding word_read
  word_in KindProperty at seen w = go (kind_of w)
    where
      go : (x : Option ServiceKind) → LineIn d (kind_read seen x)
      go (Some k) = tt
      go None = tt
  word_in (Setting s) at seen w = go (setting_of s w d.settings) (setting_in s w d.settings h)
    where
      go : (x : Option ServiceSettings) → ChangeIn x → LineIn d (setting_read seen x)
      go (Some v) k = k
      go None k = tt
  word_in (Link l) at seen w = either_line d (is_name w) _ _ (dependency_in text d l at seen w) tt
  word_in (CommandProperty c) at seen w = tt
  word_in Unknown at seen w = tt

  single_in : (p : Property) (at seen : ℕ) (z : Sizes) (value : List ℕ) → LineIn d (single_read text d p at seen z value)
  single_in p at seen z value = either_line d (is_word z) _ _ (word_in p at seen (word_of value)) tt

  tokens_in_lem : (p : Property) (at seen : ℕ) (z : Sizes) (value : List ℕ) → LineIn d (tokens_read text d p at seen z value)
  unfolding tokens_read
  tokens_in_lem (CommandProperty c) at seen z value = either_line d (is_command z) _ _ tt tt
  tokens_in_lem KindProperty at seen z value = single_in KindProperty at seen z value
  tokens_in_lem (Setting s) at seen z value = single_in (Setting s) at seen z value
  tokens_in_lem (Link l) at seen z value = single_in (Link l) at seen z value
  tokens_in_lem Unknown at seen z value = single_in Unknown at seen z value

  line_in : (from : ℕ) (l : List ℕ) → LineIn d (line_read text d from l)
  unfolding line_read property_read
  line_in from l = go (opening l)
    where
      scanned : (p : Property) (at seen : ℕ) (s : Result Sizes Fault) (value : List ℕ) → LineIn d (scan_read text d p at seen s value)
      scanned p at seen (Ok z) value = tokens_in_lem p at seen z value
      scanned p at seen (Err f) value = tt

      go : (o : Result (Option Places) Fault) → LineIn d (opening_read text d from l o)
      go (Ok None) = tt
      go (Err f) = tt
      go (Ok (Some s)) =
          let p = property_of (part_of l s.from s.end) in
          let value = drop s.value l in
          either_line d (is_unknown p) _ _ tt (scanned p (from + s.value) (from + white_end l s.value) (scan_of value) value)

-- ---- what is read of a description

record Sound (d : Description) : Type 0 where
  ranged : InRange d.settings
  few : leb d.count max_dependencies ≡ true

blank_sound : Sound blank
blank_sound = record { ranged = default_ranged; few = refl }

affected_in : (d : Description) (e : Effect) → Sound d → EffectIn d e → Sound (affected d e)
affected_in d Nothing h k = h
affected_in d (Kind t) h k = record { ranged = stored_in 0 (kind_number t) d.settings refl h.ranged; few = h.few }
affected_in d (Settings v) h k = record { ranged = k; few = h.few }
affected_in d (Command Start at) h k = record { ranged = h.ranged; few = h.few }
affected_in d (Command Stop at) h k = record { ranged = stored_in 11 1 d.settings refl h.ranged; few = h.few }
affected_in d (Dependency l at) h k =
    let room = ltb-true d.count max_dependencies k in
    record { ranged = h.ranged; few = le-leb (d.count + 1) max_dependencies (omega arith) }

-- so is what is read
abbrev SoundRead : Result Description Fault → Type 0
SoundRead (Ok d) = Sound d
SoundRead (Err f) = Unit {0}

checked_sound : (c : Result (Unit {0}) Fault) (r : Result Description Fault) → SoundRead r → SoundRead (checkedRead c r)
checked_sound (Ok u) r h = h
checked_sound (Err f) r h = tt

lines_in : (text : List ℕ) (d : Description) (from : ℕ) (ls : List (List ℕ)) → Sound d → SoundRead (lines_read text d from ls)
unfolding lines_read
lines_in text d from [] h = checked_sound (completion d) (Ok d) h
lines_in text d from (l ∷ ls) h =
    go (line_read text d from l) (line_in text d h.ranged from l) (λ d'. lines_in text d' (from + length l + 1) ls)
  where
    go : (r : Result Effect Fault) → LineIn d r → ((d' : Description) → Sound d' → SoundRead (lines_read text d' (from + length l + 1) ls))
        → SoundRead (read_on r d (λ d'. lines_read text d' (from + length l + 1) ls))
    go (Ok e) k rest = rest (affected d e) (affected_in d e h k)
    go (Err f) k rest = tt

text_sound : (text : List ℕ) {d : Description} → text_read text ≡ Ok d → Sound d
unfolding text_read
text_sound text e =
    subst SoundRead e (checked_sound (bad_from 0 text) (lines_read text blank 0 (lines_of text)) (lines_in text blank 0 (lines_of text) blank_sound))

pub text_in : (text : List ℕ) {d : Description} → text_read text ≡ Ok d → InRange d.settings
text_in text e = (text_sound text e).ranged

pub text_few : (text : List ℕ) {d : Description} → text_read text ≡ Ok d → leb d.count max_dependencies ≡ true
text_few text e = (text_sound text e).few
