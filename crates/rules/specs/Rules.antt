-- Trusted: "Next action": rules 1 to 8. Each is three functions: whom it fits, the record it leaves, and what it hands out.
use Rattle.std.specs.Prelude.{ℕ, ◌+◌, Bool, true, false, not, ◌&&◌, ◌||◌, List, [], ◌∷◌, leb, ltb, eqb, Option, Some, None}
use Rattle.base.specs.Folds.{pick, implies, some, every, first}
use Rattle.service.specs.declared.Form.{Form}
use Rattle.service.specs.declared.Form.TheVariants.{Bare, Passing, Direct, Delayed}
use Rattle.service.specs.declared.Signal.{Signal as SignalName}
use Rattle.service.specs.declared.Signal.TheVariants.{None as NoSignal, Hup, Int, Term, Quit, Usr1, Usr2, Kill}
use Rattle.service.specs.declared.Phase.{Phase}
use Rattle.service.specs.declared.Phase.TheVariants.{Down, Waiting, Starting, Up, Ending}
use Rattle.service.specs.declared.Cause.TheVariants.{User, Released, Fell, Failed}
use Rattle.service.specs.declared.Action.{Action}
use Rattle.service.specs.declared.Action.TheVariants.{Quiet, Moved, Launch, StopCommand, Signal}
use Rattle.service.specs.declared.Settings.{Settings}
use Rattle.service.specs.declared.Record.{Record}
use Rattle.service.specs.declared.State.{State}
use Rattle.service.specs.declared.Table.{Table}
use Rattle.service.specs.Settings.{form_of, settings_at}
use Rattle.service.specs.Records.{record_at, with_record, is_down, is_waiting, is_starting, is_up, is_ending, is_none, is_user}
use Rattle.service.specs.Records.{moved, with_aside, with_cause, with_killed, with_launch, with_live, with_phase, with_wanted}
use Rattle.rules.specs.declared.Rule.{Rule}
use Rattle.rules.specs.declared.Rule.TheVariants.{Lose, Abandon, Settle, Wake, Release, Begin, End, Expire}
use Rattle.rules.specs.Choice.{Choice}
use Rattle.rules.specs.Dependencies.{hard, strong, soft, depends, serving, closing, barred, blocked, needed}
use Rattle.rules.specs.Settling.{settled}

-- ---- words of the rules

-- starting or up, with no cause
abbrev pub running : Record → Bool
running r = (is_starting r.phase || is_up r.phase) && is_none r.cause

-- "nothing to end (dead process, internal, scripted without stop-command)"
abbrev pub nothing_to_end : Form → Bool → Bool → Bool
nothing_to_end Bare hasStop live = true
nothing_to_end Passing hasStop live = not hasStop
nothing_to_end Direct hasStop live = not live
nothing_to_end Delayed hasStop live = not live

-- the clock is at or past a deadline
unfoldable pub due : ℕ → Option ℕ → Bool
due now None = false
due now (Some d) = leb d now

-- "Deadline = clock + timeout; none if 0"
abbrev pub deadline_in : ℕ → ℕ → Option ℕ
deadline_in now timeout = pick (eqb timeout 0) None (Some (now + timeout))

-- ---- whom a rule fits

unfoldable pub fits : Rule → Table → State → ℕ → Bool
fits Lose t x s = running (record_at x s) && some (λ d. hard t s d && not (serving (record_at x d))) t.count
fits Abandon t x s = is_waiting (record_at x s).phase && some (λ d. strong t s d && barred (record_at x d)) t.count
fits Settle t x s =
    closing (record_at x s) && not (blocked t x s)
    && nothing_to_end (form_of (settings_at t s)) (settings_at t s).has_stop (record_at x s).live
fits Wake t x s =
    is_down (record_at x s).phase && not (record_at x s).aside
    && ((record_at x s).wanted || some (λ e. depends t e s && is_waiting (record_at x e).phase) t.count)
fits Release t x s =
    (is_waiting (record_at x s).phase || is_starting (record_at x s).phase || is_up (record_at x s).phase)
    && is_none (record_at x s).cause && not (needed t x s)
fits Begin t x s =
    is_waiting (record_at x s).phase && leb (record_at x s).not_before x.clock
    && every (λ d. implies (strong t s d) (serving (record_at x d))) t.count
    && every (λ d. implies (soft t s d) (serving (record_at x d) || barred (record_at x d))) t.count
fits End t x s = closing (record_at x s) && not (blocked t x s)
fits Expire t x s =
    due x.clock (record_at x s).deadline
    && (is_starting (record_at x s).phase || is_ending (record_at x s).phase && not (record_at x s).killed)

-- ---- the record it leaves

-- rule 1: "cause user if one such has user, else fell"
unfoldable pub lost_to_user : Table → State → ℕ → Bool
lost_to_user t x s =
    some (λ d. hard t s d && (not (serving (record_at x d)) && is_user (record_at x d).cause)) t.count

-- rule 2: "down, aside, wanted off"
abbrev pub abandoned : Record → Record
abandoned r = with_phase Down (with_wanted false (with_aside true r))

-- rule 5: "waiting goes down; else cause released"
abbrev pub released : Record → Record
released r =
    with_cause (pick (is_waiting r.phase) r.cause Released) (with_phase (pick (is_waiting r.phase) Down r.phase) r)

-- rule 6, by form
abbrev pub begun_phase : Form → Phase
begun_phase Bare = Up
begun_phase Passing = Starting
begun_phase Direct = Up
begun_phase Delayed = Starting

abbrev pub begun_live : Form → Bool → Bool
begun_live Bare live = live
begun_live Passing live = true
begun_live Direct live = true
begun_live Delayed live = true

abbrev pub begun_deadline : Form → Option ℕ → Option ℕ → Option ℕ
begun_deadline Bare new old = old
begun_deadline Passing new old = new
begun_deadline Direct new old = old
begun_deadline Delayed new old = new

abbrev pub begun : Settings → ℕ → Record → Record
begun v now r =
    moved (begun_phase (form_of v)) r.cause (begun_deadline (form_of v) (deadline_in now v.start_timeout) r.deadline)
    (with_live (begun_live (form_of v) r.live) (with_launch now r))

-- rule 7: "ending, live, stop deadline"
abbrev pub ending : Settings → ℕ → Record → Record
ending v now r = moved Ending r.cause (deadline_in now v.stop_timeout) (with_live true r)

-- rule 8: "ending, cause failed unless user, stop deadline" where it was starting, and else "killed"
abbrev pub expired : Bool → Settings → ℕ → Record → Record
expired starting v now r =
    moved Ending
    (pick starting (pick (is_user r.cause) User Failed) r.cause)
    (pick starting (deadline_in now v.stop_timeout) r.deadline)
    (with_killed (pick starting r.killed true) r)

-- from the settings, the clock and the record alone; `user` says whether rule 1 gives the cause user
abbrev pub left_by : Rule → Bool → Settings → ℕ → Record → Record
left_by Lose user v now r = with_cause (pick user User Fell) r
left_by Abandon user v now r = abandoned r
left_by Settle user v now r = settled v now r
left_by Wake user v now r = with_phase Waiting r
left_by Release user v now r = released r
left_by Begin user v now r = begun v now r
left_by End user v now r = ending v now r
left_by Expire user v now r = expired (is_starting r.phase) v now r

unfoldable pub leaves : Rule → Table → State → ℕ → Record
leaves k t x s = left_by k (lost_to_user t x s) (settings_at t s) x.clock (record_at x s)

-- ---- what it hands out

-- rule 6: "Internal: up, moved. Process: up, live, launch. Scripted: starting, live, launch"
abbrev pub begun_action : Form → ℕ → Action
begun_action Bare s = Moved s
begun_action Passing s = Launch s
begun_action Direct s = Launch s
begun_action Delayed s = Launch s

-- rule 7: "process, its term signal; scripted, run stop-command"; "(Signal none: moved.)"
abbrev pub term_action : SignalName → ℕ → Action
term_action NoSignal s = Moved s
term_action Hup s = Signal s Hup
term_action Int s = Signal s Int
term_action Term s = Signal s Term
term_action Quit s = Signal s Quit
term_action Usr1 s = Signal s Usr1
term_action Usr2 s = Signal s Usr2
term_action Kill s = Signal s Kill

abbrev pub end_action : Form → SignalName → ℕ → Action
end_action Bare g s = Moved s
end_action Passing g s = StopCommand s
end_action Direct g s = term_action g s
end_action Delayed g s = term_action g s

-- rule 8: INT where it was starting, and else KILL
abbrev pub expired_action : Phase → ℕ → Action
expired_action p s = pick (is_starting p) (Signal s Int) (Signal s Kill)

-- from the settings, the record and the service's number alone
abbrev pub handed_by : Rule → Settings → Record → ℕ → Action
handed_by Lose v r s = Moved s
handed_by Abandon v r s = Moved s
handed_by Settle v r s = Moved s
handed_by Wake v r s = Moved s
handed_by Release v r s = Moved s
handed_by Begin v r s = begun_action (form_of v) s
handed_by End v r s = end_action (form_of v) v.signal s
handed_by Expire v r s = expired_action r.phase s

unfoldable pub hands : Rule → Table → State → ℕ → Action
hands k t x s = handed_by k (settings_at t s) (record_at x s) s

-- ---- the next action

-- an action, and the state that it leaves
pub record Step : Type 0 where
  pub action : Action
  pub state : State

abbrev pub rules : List Rule
rules = Lose ∷ Abandon ∷ Settle ∷ Wake ∷ Release ∷ Begin ∷ End ∷ Expire ∷ []

-- "the first rule below with any service it fits, lowest service first"
unfoldable pub chosen_from : List Rule → Table → State → Choice
chosen_from [] t x = None
chosen_from (k ∷ ks) t x =
    let later = chosen_from ks t x in
    pick (ltb (first (fits k t x) t.count) t.count) (Some (k, (first (fits k t x) t.count))) later

unfoldable pub chosen : Table → State → Choice
chosen t x = chosen_from rules t x

unfoldable pub act : Rule → Table → State → ℕ → Step
act k t x s = record { action = hands k t x s; state = with_record x s (leaves k t x s) }

-- "Quiet" where no rule fits
unfoldable pub act_on : Choice → Table → State → Step
act_on None t x = record { action = Quiet; state = x }
act_on (Some (k, s)) t x = act k t x s

unfoldable pub next_action : Table → State → Step
next_action t x = act_on (chosen t x) t x
