-- Trusted: Demand 3, one statement over every list of calls. What it rests on is listed at the end of this file.
use Rattle.std.specs.Prelude.{ℕ, suc, ◌+◌, ◌*◌, ◌≤◌, ◌<◌, ◌≢◌, ◌≡◌, Bool, true, false, not, ◌&&◌, ◌||◌, List, [], ◌∷◌, ◌++◌, eqb, length, get_or, Some, None}
use Rattle.base.specs.Folds.{listed}
use Rattle.base.specs.Links.{Path}
use Rattle.service.specs.declared.Phase.TheVariants.{Down}
use Rattle.service.specs.declared.Action.{Action}
use Rattle.service.specs.declared.Action.TheVariants.{Quiet, Moved, Launch, StopCommand, Signal}
use Rattle.service.specs.declared.State.{State}
use Rattle.service.specs.declared.Table.{Table}
use Rattle.service.specs.Limits.{max_services}
use Rattle.service.specs.Settings.{settings_at}
use Rattle.service.specs.Records.{record_at, fresh_state, is_ending}
use Rattle.service.specs.Numbers.{action_of}
use Rattle.rules.specs.declared.Rule.TheVariants.{Lose, Abandon, Settle, Wake, Release, Begin, End, Expire}
use Rattle.rules.specs.Choice.{Choice}
use Rattle.rules.specs.Dependencies.{hard_links}
use Rattle.rules.specs.WellFormed.{table_formed, formed}
use Rattle.rules.specs.Rules.{chosen}
use Rattle.rules.specs.Runs.{state_after, action_after}
use Rattle.rules.specs.Calls.{Call, start, stop, clock, end, stop_all, next, query, run, Answer, refused, done, acted, ran, told, Outcome, outcome, after_calls}

-- ---- a list of calls as moments, in order

-- an action handed out, with whether it is a deadline's KILL; an accepted end of a service; an accepted start; any other accepted event
pub data Mark : Type 0 where
  handed : Action → Bool → Mark
  ended : ℕ → Mark
  began passed : Mark

-- one for each accepted event and for each single action, those of a run too, with the states around it
pub record Moment : Type 0 where
  pub mark : Mark
  pub before : State
  pub after : State

abbrev pub moment : Mark → State → State → Moment
moment k x y = record { mark = k; before = x; after = y }

-- "a deadline's KILL is rule 8's": decided by the rules' state before the action
abbrev pub kills_by : Choice → State → Bool
kills_by None x = false
kills_by (Some (Lose, s)) x = false
kills_by (Some (Abandon, s)) x = false
kills_by (Some (Settle, s)) x = false
kills_by (Some (Wake, s)) x = false
kills_by (Some (Release, s)) x = false
kills_by (Some (Begin, s)) x = false
kills_by (Some (End, s)) x = false
kills_by (Some (Expire, s)) x = is_ending (record_at x s).phase

unfoldable pub deadline_kill : Table → State → Bool
deadline_kill t x = kills_by (chosen t x) x

-- a run's actions are read back from the places that it filled, one by one, each between the states around it
unfoldable pub read_back : Table → State → List ℕ → List ℕ → ℕ → List Moment
read_back t x ss as' n =
    listed
    (λ i.
    moment (handed (action_of (get_or ss i 0) (get_or as' i 0)) (deadline_kill t (state_after t x i))) (state_after t x i) (state_after t x (suc i)))
    n

abbrev pub event_mark : Call → Mark
event_mark (start s) = began
event_mark (stop s) = passed
event_mark (clock c) = passed
event_mark (end s good) = ended s
event_mark stop_all = passed
event_mark next = passed
event_mark query = passed
event_mark (run ss as') = passed

-- by the answer: none for a refusal or a query
unfoldable pub moments_by : Answer → Table → State → Call → Outcome → List Moment
moments_by (refused k) t x c o = []
moments_by done t x c o = moment (event_mark c) x o.state ∷ []
moments_by (acted a) t x c o = moment (handed a (deadline_kill t x)) x o.state ∷ []
moments_by (ran n) t x c o = read_back t x o.services o.actions n
moments_by (told d) t x c o = []

unfoldable pub moments : Table → State → Call → List Moment
moments t x c = moments_by (outcome t x c).answer t x c (outcome t x c)

unfoldable pub story : Table → State → List Call → List Moment
story t x [] = []
story t x (c ∷ cs) = moments t x c ++ story t (outcome t x c).state cs

-- what a value comes to that is fed the moments one by one; and that C holds at each moment, with the value as it is there
unfoldable pub fed : {A : Type 0} → (Moment → A → A) → List Moment → A → A
fed f [] v = v
fed f (m ∷ ms) v = fed f ms (f m v)

unfoldable pub Each : {A : Type 0} → (A → Moment → Type 0) → (Moment → A → A) → A → List Moment → Type 0
Each C f v [] = Unit {0}
Each C f v (m ∷ ms) = C v m × Each C f (f m v) ms

-- ---- the record: "a set of services, empty at first"

abbrev pub Set : Type 0
Set = ℕ → Bool

abbrev pub nobody : Set
nobody s = false

abbrev pub with : ℕ → Set → Set
with s v i = eqb i s || v i

abbrev pub without : ℕ → Set → Set
without s v i = not (eqb i s) && v i

-- "a launch or stop command of s puts s in, an accepted end of s takes it out .. all else leave it"
abbrev pub recorded_by : Mark → Set → Set
recorded_by (handed Quiet k) v = v
recorded_by (handed (Moved s) k) v = v
recorded_by (handed (Launch s) k) v = with s v
recorded_by (handed (StopCommand s) k) v = with s v
recorded_by (handed (Signal s g) k) v = v
recorded_by (ended s) v = without s v
recorded_by began v = v
recorded_by passed v = v

abbrev pub recorded : Moment → Set → Set
recorded m v = recorded_by m.mark v

-- the services whose process was sent a deadline's KILL in its life, from its launch or stop command to its end
abbrev pub sent_by : Mark → Set → Set
sent_by (handed Quiet k) v = v
sent_by (handed (Moved s) k) v = v
sent_by (handed (Launch s) k) v = without s v
sent_by (handed (StopCommand s) k) v = without s v
sent_by (handed (Signal s g) true) v = with s v
sent_by (handed (Signal s g) false) v = v
sent_by (ended s) v = without s v
sent_by began v = v
sent_by passed v = v

abbrev pub sent : Moment → Set → Set
sent m v = sent_by m.mark v

-- ---- first half: whenever a launch, a signal or a stop command is handed out for s

abbrev pub ActsOn : Action → ℕ → Type 0
ActsOn Quiet s = ⊥
ActsOn (Moved i) s = ⊥
ActsOn (Launch i) s = i ≡ s
ActsOn (StopCommand i) s = i ≡ s
ActsOn (Signal i g) s = i ≡ s

-- "no service that hard-depends on it, directly or through others, has a live process, by the record"
abbrev pub ClearBy : Table → Set → Mark → Type 0
ClearBy t v (handed a k) = (s e : ℕ) → ActsOn a s → e < t.count → Path (hard_links t) e s → v e ≡ false
ClearBy t v (ended s) = Unit {0}
ClearBy t v began = Unit {0}
ClearBy t v passed = Unit {0}

abbrev pub Clear : Table → Set → Moment → Type 0
Clear t v m = ClearBy t v m.mark

-- ---- second half: at most 4n actions before quiet, where no event falls between

abbrev pub is_refused : Answer → Bool
is_refused (refused k) = true
is_refused done = false
is_refused (acted a) = false
is_refused (ran n) = false
is_refused (told d) = false

abbrev pub is_event : Call → Bool
is_event (start s) = true
is_event (stop s) = true
is_event (clock c) = true
is_event (end s good) = true
is_event stop_all = true
is_event next = false
is_event query = false
is_event (run ss as') = false

abbrev pub is_start : Call → Bool
is_start (start s) = true
is_start (stop s) = false
is_start (clock c) = false
is_start (end s good) = false
is_start stop_all = false
is_start next = false
is_start query = false
is_start (run ss as') = false

unfoldable pub accepted : Table → State → Call → Bool
accepted t x c = not (is_refused (outcome t x c).answer)

-- no accepted event stands among the calls
unfoldable pub eventless : Table → State → List Call → Bool
eventless t x [] = true
eventless t x (c ∷ cs) = not (is_event c && accepted t x c) && eventless t (outcome t x c).state cs

-- the actions among the moments, moved counted too
abbrev pub is_action : Mark → ℕ
is_action (handed Quiet k) = 0
is_action (handed (Moved s) k) = 1
is_action (handed (Launch s) k) = 1
is_action (handed (StopCommand s) k) = 1
is_action (handed (Signal s g) k) = 1
is_action (ended s) = 0
is_action began = 0
is_action passed = 0

unfoldable pub actions_in : List Moment → ℕ
actions_in [] = 0
actions_in (m ∷ ms) = is_action m.mark + actions_in ms

-- from the state x: at most 4n actions come along any calls with no accepted event among them, and quiet comes
pub record Rests (t : Table) (x : State) : Type 0 where
  pub few : (cs : List Call) → eventless t x cs ≡ true → actions_in (story t x cs) ≤ 4 * t.count
  pub quiet : (k : ℕ) × (k ≤ 4 * t.count) × (action_after t x k ≡ Quiet)

-- ---- second half: the rounds

-- where a list has come to: the state, the record, and who was sent a deadline's KILL
pub record Now : Type 0 where
  pub state : State
  pub live : Set
  pub sent_kill : Set

abbrev pub fresh_now : Now
fresh_now = record { state = fresh_state; live = nobody; sent_kill = nobody }

unfoldable pub now_after : Table → Now → Call → Now
now_after t n c = record {
  state = (outcome t n.state c).state;
  live = fed recorded (moments t n.state c) n.live;
  sent_kill = fed sent (moments t n.state c) n.sent_kill;
}

-- calls, none of them an accepted start, and where they lead
pub data Stretch (t : Table) : Now → List Call → Now → Type 0 where
  empty : {n : Now} → Stretch t n [] n
  call : {n n' : Now} {cs : List Call} (c : Call) → (is_start c && accepted t n.state c) ≡ false
      → Stretch t (now_after t n c) cs n' → Stretch t n (c ∷ cs) n'

-- "Actions go to quiet": calls with no accepted event among them, after which the next action would be answered quiet. That an accepted run
-- does so, and single actions of which the last is answered quiet, is shown in proofs/ToQuiet.antt; where all is quiet already no call is needed
pub record ToQuiet (t : Table) (n : Now) (cs : List Call) (n' : Now) : Type 0 where
  pub calls : Stretch t n cs n'
  pub between : eventless t n.state cs ≡ true
  pub quiet : (outcome t n'.state next).answer ≡ acted Quiet

-- an accepted end of s stands among the calls
pub data Reported (t : Table) (s : ℕ) : Now → List Call → Type 0 where
  here : {n : Now} {cs : List Call} (good : Bool) → accepted t n.state (end s good) ≡ true → Reported t s n (end s good ∷ cs)
  there : {n : Now} {cs : List Call} (c : Call) → Reported t s (now_after t n c) cs → Reported t s n (c ∷ cs)

-- "an accepted clock reading is at or past every pending deadline, actions are taken to quiet, the end of each live
-- process that was sent a deadline's KILL is reported, and actions are taken to quiet"; other calls may stand between
pub data Round (t : Table) : Now → List Call → Now → Type 0 where
  round : {n waited read still reported over : Now} {pause between acts ends rest : List Call} (c : ℕ)
      → Stretch t n pause waited
      → accepted t waited.state (clock c) ≡ true
      → ((s e : ℕ) → s < t.count → (record_at waited.state s).deadline ≡ Some e → e ≤ c)
      → Stretch t (now_after t waited (clock c)) between read
      → ToQuiet t read acts still
      → Stretch t still ends reported
      → ((s : ℕ) → s < t.count → still.live s ≡ true → still.sent_kill s ≡ true → Reported t s still ends)
      → ToQuiet t reported rest over
      → Round t n (pause ++ (clock c ∷ (between ++ (acts ++ (ends ++ rest))))) over

-- "each begun after the one before has ended"
pub data Rounds (t : Table) : ℕ → Now → List Call → Now → Type 0 where
  no_rounds : {n : Now} → Rounds t 0 n [] n
  another : {k : ℕ} {n n' n'' : Now} {cs ds : List Call} → Rounds t k n cs n' → Round t n' ds n'' → Rounds t (suc k) n (cs ++ ds) n''

unfoldable pub now_at : Table → Now → List Call → Now
now_at t n [] = n
now_at t n (c ∷ cs) = now_at t (now_after t n c) cs

-- in the whole list a stop all has no accepted start after it, and n + 1 rounds follow it
pub data WoundDown (t : Table) : List Call → Type 0 where
  wound : {n n' : Now} (before rounds after : List Call)
      → Rounds t (suc t.count) (now_after t (now_at t fresh_now before) stop_all) rounds n → Stretch t n after n'
      → WoundDown t (before ++ (stop_all ∷ (rounds ++ after)))

-- "no timeout is zero"
abbrev pub NoZeroTimeout : Table → Type 0
NoZeroTimeout t =
    (s : ℕ) → s < t.count → ((settings_at t s).start_timeout ≢ 0) × ((settings_at t s).stop_timeout ≢ 0)

-- ---- THE STATEMENT

pub record Holds (t : Table) (cs : List Call) : Type 0 where
  pub safe : Each (Clear t) recorded nobody (story t fresh_state cs)
  -- "While in it, s has a live process": the record is the state's live flags
  pub live : (s : ℕ) → s < t.count → fed recorded (story t fresh_state cs) nobody s ≡ (record_at (after_calls t fresh_state cs) s).live
  pub rests : Rests t (after_calls t fresh_state cs)
  pub down : NoZeroTimeout t → WoundDown t cs → (s : ℕ) → s < t.count → (record_at (after_calls t fresh_state cs) s).phase ≡ Down

-- for every table that passes list 24's part on tables, and every list of calls from the fresh state
abbrev pub Demand3 : Type 0
Demand3 = (t : Table) → table_formed t ≡ true → (cs : List Call) → Holds t cs

-- ---- other statements

-- "4n holds of every state that passes 24": the state is an array of as many records as a table has places
abbrev pub RestsEverywhere : Type 0
RestsEverywhere = (t : Table) (x : State) → length x.records ≡ max_services → formed t x ≡ true → Rests t x

-- every state that a list reaches passes 24, so that a refusal is always the caller's fault
abbrev pub AlwaysFormed : Type 0
AlwaysFormed = (t : Table) → table_formed t ≡ true → (cs : List Call) → formed t (after_calls t fresh_state cs) ≡ true

-- ---- WHAT THE STATEMENT RESTS ON, and where it stands: every definition that it comes down to, by file. scripts/check_docs holds this list to
-- what the definitions name.
--
-- Proved in proofs/Demand.antt (demand3), proofs/Resting.antt (rests_everywhere), proofs/Formed.antt (always_formed);
-- inhabited in proofs/Sample.antt (sample, sample_down).
--
-- rules/Demand          Mark, Moment, moment, kills_by, deadline_kill, read_back, event_mark, moments_by, moments, story, fed, Each, Set, nobody,
--                       with, without, recorded_by, recorded, sent_by, sent, ActsOn, ClearBy, Clear, is_refused, is_event, is_start, accepted,
--                       eventless, is_action, actions_in, Rests, Now, fresh_now, now_after, Stretch, ToQuiet, Reported, Round, Rounds, now_at,
--                       WoundDown, NoZeroTimeout, Holds, Demand3, RestsEverywhere, AlwaysFormed
-- rules/Calls           Call, Answer, Outcome, lent_services, lent_actions, gives, check, outcome, after_calls
-- rules/Runs            state_after, action_after, steps_to_quiet, written, written_services, written_actions, above, sooner, sooner_of, earliest
-- rules/Rules           running, nothing_to_end, due, deadline_in, fits, lost_to_user, abandoned, released, begun_phase, begun_live, begun_deadline,
--                       begun, ending, expired, left_by, leaves, begun_action, term_action, end_action, expired_action, handed_by, hands, Step,
--                       rules, chosen_from, chosen, act, act_on, next_action
-- rules/Choice          Choice
-- rules/Events          each, start_reaches, revived_cause, started_as, after_start, stopped_phase, stopped, after_stop, after_stop_all, dead,
--                       started_up, brings, ended_as, after_end, after_clock
-- rules/Settling        window_over, window_now, count_now, limit_reached, settled_wanted, settled_aside, settled_not_before, settled_window,
--                       settled_count, settled_as, settled
-- rules/WellFormed      links_inside, settings_in_range, table_formed, deadline_in_range, times_in_range, shaped, shaped_at, state_formed, formed
-- rules/Dependencies    hard_links, strong_links, all_links, hard, strong, soft, depends, serving, closing, barred, blocked, needed
-- service/Limits        max_services, longest_time, max_count, last_clock, last_time, default_delay, default_interval, default_limit,
--                       default_start_timeout, default_stop_timeout
-- service/Settings      form_of_kind, form_of, is_passing, starts_first, lives_up, strong_of, links_of, defaults_with, default_settings, settings_at
-- service/Records       is_down, is_waiting, is_starting, is_up, is_ending, active, is_none, is_user, fresh_record, remade, moved, flagged, clocked,
--                       with_phase, with_cause, with_wanted, with_aside, with_live, with_killed, with_not_before, with_launch, with_window,
--                       with_count, fresh_state, record_at, with_record
-- service/Numbers       signal_number, signal_at, is_quiet, action_service, action_number, action_of
-- base/Folds            pick, implies, fold, some, every, first_from, first, listed
-- base/Sets             has_bit, within
-- base/Links            Path, through, reach, cyclic
-- the declared types    in crates/service/src/lib.rt and crates/rules/src/lib.rt
-- the library           lists (get_or, set, length, replicate), numbers and their tests (leb, ltb, eqb, bit_or), Bool
