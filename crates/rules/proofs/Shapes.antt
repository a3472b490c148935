-- Laws on list 24's record shapes, on phases and on causes, each one computed test: what a rule or an event leaves has a
-- shape that the list lets pass.
use mathlib.Core.Bool.{Bool, ◌&&◌, ◌||◌, false, not, true}
use mathlib.Core.Path.{◌≡◌, refl}
use Rattle.base.specs.Folds.{pick}
use Rattle.service.specs.Records.{active, is_down, is_ending, is_none, is_starting, is_up, is_user, is_waiting}
use Rattle.service.specs.Settings.{is_passing}
use Rattle.service.specs.declared.Cause.{Cause}
use Rattle.service.specs.declared.Cause.TheVariants.{Failed, Fell, None as NoCause, Released, User}
use Rattle.service.specs.declared.Form.{Form}
use Rattle.service.specs.declared.Phase.{Phase}
use Rattle.service.specs.declared.Phase.TheVariants.{Down, Ending, Up, Waiting}
use Rattle.service.proofs.Finite.{bools, causes, finite, given, forms, phases}
use Rattle.rules.specs.Events.{revived_cause, stopped_phase}
use Rattle.rules.specs.Rules.{begun_live, begun_phase, nothing_to_end}
use Rattle.rules.specs.WellFormed.{shaped}

-- what the rules leave
test_lose_shaped : forms (λ k. phases (λ p. bools (λ l. causes (λ c. bools (λ b. given (shaped k p l c) (given ((is_starting p || is_up p) && is_none c) (shaped k p l (pick b User Fell)))))))) ≡ true
unfolding forms phases bools causes given
test_lose_shaped = refl

pub lose_shaped : (k : Form) (p : Phase) (l : Bool) (c : Cause) (b : Bool) → shaped k p l c ≡ true → ((is_starting p || is_up p) && is_none c) ≡ true → shaped k p l (pick b User Fell) ≡ true
lose_shaped = simp finite at test_lose_shaped

test_abandon_shaped : forms (λ k. phases (λ p. bools (λ l. causes (λ c. given (shaped k p l c) (given (is_waiting p) (shaped k Down l c)))))) ≡ true
unfolding forms phases bools causes given
test_abandon_shaped = refl

pub abandon_shaped : (k : Form) (p : Phase) (l : Bool) (c : Cause) → shaped k p l c ≡ true → is_waiting p ≡ true → shaped k Down l c ≡ true
abandon_shaped = simp finite at test_abandon_shaped

test_settle_shaped : forms (λ k. phases (λ p. bools (λ l. causes (λ c. bools (λ b. given (shaped k p l c) (given (is_up p) (given (nothing_to_end k b l) (shaped k Down l NoCause)))))))) ≡ true
unfolding forms phases bools causes given
test_settle_shaped = refl

pub settle_shaped : (k : Form) (p : Phase) (l : Bool) (c : Cause) (b : Bool) → shaped k p l c ≡ true → is_up p ≡ true → nothing_to_end k b l ≡ true → shaped k Down l NoCause ≡ true
settle_shaped = simp finite at test_settle_shaped

test_wake_shaped : forms (λ k. phases (λ p. bools (λ l. causes (λ c. given (shaped k p l c) (given (is_down p) (shaped k Waiting l c)))))) ≡ true
unfolding forms phases bools causes given
test_wake_shaped = refl

pub wake_shaped : (k : Form) (p : Phase) (l : Bool) (c : Cause) → shaped k p l c ≡ true → is_down p ≡ true → shaped k Waiting l c ≡ true
wake_shaped = simp finite at test_wake_shaped

test_release_shaped : forms (λ k. phases (λ p. bools (λ l. causes (λ c. given (shaped k p l c) (given (is_waiting p || is_starting p || is_up p) (given (is_none c) (shaped k (pick (is_waiting p) Down p) l (pick (is_waiting p) c Released)))))))) ≡ true
unfolding forms phases bools causes given
test_release_shaped = refl

pub release_shaped : (k : Form) (p : Phase) (l : Bool) (c : Cause) → shaped k p l c ≡ true → (is_waiting p || is_starting p || is_up p) ≡ true → is_none c ≡ true → shaped k (pick (is_waiting p) Down p) l (pick (is_waiting p) c Released) ≡ true
release_shaped = simp finite at test_release_shaped

test_begin_shaped : forms (λ k. phases (λ p. bools (λ l. causes (λ c. given (shaped k p l c) (given (is_waiting p) (shaped k (begun_phase k) (begun_live k l) c)))))) ≡ true
unfolding forms phases bools causes given
test_begin_shaped = refl

pub begin_shaped : (k : Form) (p : Phase) (l : Bool) (c : Cause) → shaped k p l c ≡ true → is_waiting p ≡ true → shaped k (begun_phase k) (begun_live k l) c ≡ true
begin_shaped = simp finite at test_begin_shaped

test_expire_shaped : forms (λ k. phases (λ p. bools (λ l. causes (λ c. bools (λ b. given (shaped k p l c) (given (is_starting p || is_ending p && b) (shaped k Ending l (pick (is_starting p) (pick (is_user c) User Failed) c)))))))) ≡ true
unfolding forms phases bools causes given
test_expire_shaped = refl

pub expire_shaped : (k : Form) (p : Phase) (l : Bool) (c : Cause) (b : Bool) → shaped k p l c ≡ true → (is_starting p || is_ending p && b) ≡ true → shaped k Ending l (pick (is_starting p) (pick (is_user c) User Failed) c) ≡ true
expire_shaped = simp finite at test_expire_shaped

-- what the events leave
test_stop_shaped : forms (λ k. phases (λ p. bools (λ l. causes (λ c. given (shaped k p l c) (shaped k (stopped_phase p) l (pick (active p) User c)))))) ≡ true
unfolding forms phases bools causes given
test_stop_shaped = refl

pub stop_shaped : (k : Form) (p : Phase) (l : Bool) (c : Cause) → shaped k p l c ≡ true → shaped k (stopped_phase p) l (pick (active p) User c) ≡ true
stop_shaped = simp finite at test_stop_shaped

test_start_shaped : forms (λ k. phases (λ p. bools (λ l. causes (λ c. given (shaped k p l c) (shaped k p l (revived_cause c)))))) ≡ true
unfolding forms phases bools causes given
test_start_shaped = refl

pub start_shaped : (k : Form) (p : Phase) (l : Bool) (c : Cause) → shaped k p l c ≡ true → shaped k p l (revived_cause c) ≡ true
start_shaped = simp finite at test_start_shaped

test_started_shaped : forms (λ k. phases (λ p. bools (λ l. causes (λ c. given (shaped k p l c) (given (is_starting p) (given (is_passing k) (shaped k Up false c))))))) ≡ true
unfolding forms phases bools causes given
test_started_shaped = refl

pub started_shaped : (k : Form) (p : Phase) (l : Bool) (c : Cause) → shaped k p l c ≡ true → is_starting p ≡ true → is_passing k ≡ true → shaped k Up false c ≡ true
started_shaped = simp finite at test_started_shaped

test_fell_shaped : forms (λ k. phases (λ p. bools (λ l. causes (λ c. given (shaped k p l c) (given (is_up p) (shaped k p false (pick (is_none c) Fell c))))))) ≡ true
unfolding forms phases bools causes given
test_fell_shaped = refl

pub fell_shaped : (k : Form) (p : Phase) (l : Bool) (c : Cause) → shaped k p l c ≡ true → is_up p ≡ true → shaped k p false (pick (is_none c) Fell c) ≡ true
fell_shaped = simp finite at test_fell_shaped

test_dead_shaped : forms (λ k. phases (λ p. bools (λ l. causes (λ c. given (shaped k p l c) (given (is_down p || is_waiting p) (shaped k p false c)))))) ≡ true
unfolding forms phases bools causes given
test_dead_shaped = refl

pub dead_shaped : (k : Form) (p : Phase) (l : Bool) (c : Cause) → shaped k p l c ≡ true → (is_down p || is_waiting p) ≡ true → shaped k p false c ≡ true
dead_shaped = simp finite at test_dead_shaped

-- who has a live process
test_end_lives : forms (λ k. phases (λ p. bools (λ l. causes (λ c. bools (λ b. given (shaped k p l c) (given (is_up p) (given (not (nothing_to_end k b l)) (given (not (is_passing k)) (l))))))))) ≡ true
unfolding forms phases bools causes given
test_end_lives = refl

pub end_lives : (k : Form) (p : Phase) (l : Bool) (c : Cause) (b : Bool) → shaped k p l c ≡ true → is_up p ≡ true → not (nothing_to_end k b l) ≡ true → not (is_passing k) ≡ true → l ≡ true
end_lives = simp finite at test_end_lives

test_ending_lives : forms (λ k. phases (λ p. bools (λ l. causes (λ c. given (shaped k p l c) (given (is_ending p) (l)))))) ≡ true
unfolding forms phases bools causes given
test_ending_lives = refl

pub ending_lives : (k : Form) (p : Phase) (l : Bool) (c : Cause) → shaped k p l c ≡ true → is_ending p ≡ true → l ≡ true
ending_lives = simp finite at test_ending_lives

test_inactive_dead : forms (λ k. phases (λ p. bools (λ l. causes (λ c. given (shaped k p l c) (given (not (active p)) (not l)))))) ≡ true
unfolding forms phases bools causes given
test_inactive_dead = refl

pub inactive_dead : (k : Form) (p : Phase) (l : Bool) (c : Cause) → shaped k p l c ≡ true → not (active p) ≡ true → not l ≡ true
inactive_dead = simp finite at test_inactive_dead

test_down_dead : forms (λ k. phases (λ p. bools (λ l. causes (λ c. given (shaped k p l c) (given (is_down p) (not l)))))) ≡ true
unfolding forms phases bools causes given
test_down_dead = refl

pub down_dead : (k : Form) (p : Phase) (l : Bool) (c : Cause) → shaped k p l c ≡ true → is_down p ≡ true → not l ≡ true
down_dead = simp finite at test_down_dead

-- who has a cause
test_waiting_uncaused : forms (λ k. phases (λ p. bools (λ l. causes (λ c. given (shaped k p l c) (given (is_waiting p) (is_none c)))))) ≡ true
unfolding forms phases bools causes given
test_waiting_uncaused = refl

pub waiting_uncaused : (k : Form) (p : Phase) (l : Bool) (c : Cause) → shaped k p l c ≡ true → is_waiting p ≡ true → is_none c ≡ true
waiting_uncaused = simp finite at test_waiting_uncaused

test_ending_caused : forms (λ k. phases (λ p. bools (λ l. causes (λ c. given (shaped k p l c) (given (is_ending p) (not (is_none c))))))) ≡ true
unfolding forms phases bools causes given
test_ending_caused = refl

pub ending_caused : (k : Form) (p : Phase) (l : Bool) (c : Cause) → shaped k p l c ≡ true → is_ending p ≡ true → not (is_none c) ≡ true
ending_caused = simp finite at test_ending_caused

test_user_caused : causes (λ c. given (is_user c) (not (is_none c))) ≡ true
unfolding causes given
test_user_caused = refl

pub user_caused : (c : Cause) → is_user c ≡ true → not (is_none c) ≡ true
user_caused = simp finite at test_user_caused

-- phases
test_up_active : phases (λ p. given (is_up p) (active p)) ≡ true
unfolding phases given
test_up_active = refl

pub up_active : (p : Phase) → is_up p ≡ true → active p ≡ true
up_active = simp finite at test_up_active

test_active_not_down : phases (λ p. given (active p) (not (is_down p))) ≡ true
unfolding phases given
test_active_not_down = refl

pub active_not_down : (p : Phase) → active p ≡ true → not (is_down p) ≡ true
active_not_down = simp finite at test_active_not_down

test_expire_active : phases (λ p. bools (λ b. given (is_starting p || is_ending p && b) (active p))) ≡ true
unfolding phases bools given
test_expire_active = refl

pub expire_active : (p : Phase) (b : Bool) → (is_starting p || is_ending p && b) ≡ true → active p ≡ true
expire_active = simp finite at test_expire_active

test_expire_not_up : phases (λ p. bools (λ b. given (is_starting p || is_ending p && b) (not (is_up p)))) ≡ true
unfolding phases bools given
test_expire_not_up = refl

pub expire_not_up : (p : Phase) (b : Bool) → (is_starting p || is_ending p && b) ≡ true → not (is_up p) ≡ true
expire_not_up = simp finite at test_expire_not_up

test_release_active : phases (λ p. given (active (pick (is_waiting p) Down p)) (active p)) ≡ true
unfolding phases given
test_release_active = refl

pub release_active : (p : Phase) → active (pick (is_waiting p) Down p) ≡ true → active p ≡ true
release_active = simp finite at test_release_active

test_release_up : phases (λ p. given (is_up p) (is_up (pick (is_waiting p) Down p))) ≡ true
unfolding phases given
test_release_up = refl

pub release_up : (p : Phase) → is_up p ≡ true → is_up (pick (is_waiting p) Down p) ≡ true
release_up = simp finite at test_release_up

test_stop_active : phases (λ p. given (active (stopped_phase p)) (active p)) ≡ true
unfolding phases given
test_stop_active = refl

pub stop_active : (p : Phase) → active (stopped_phase p) ≡ true → active p ≡ true
stop_active = simp finite at test_stop_active

test_stop_up : phases (λ p. given (is_up p) (is_up (stopped_phase p))) ≡ true
unfolding phases given
test_stop_up = refl

pub stop_up : (p : Phase) → is_up p ≡ true → is_up (stopped_phase p) ≡ true
stop_up = simp finite at test_stop_up

test_begin_not_down : forms (λ k. not (is_down (begun_phase k))) ≡ true
unfolding forms
test_begin_not_down = refl

pub begin_not_down : (k : Form) → not (is_down (begun_phase k)) ≡ true
begin_not_down = simp finite at test_begin_not_down

test_begin_not_waiting : forms (λ k. not (is_waiting (begun_phase k))) ≡ true
unfolding forms
test_begin_not_waiting = refl

pub begin_not_waiting : (k : Form) → not (is_waiting (begun_phase k)) ≡ true
begin_not_waiting = simp finite at test_begin_not_waiting

test_begin_active : forms (λ k. active (begun_phase k)) ≡ true
unfolding forms
test_begin_active = refl

pub begin_active : (k : Form) → active (begun_phase k) ≡ true
begin_active = simp finite at test_begin_active

test_serving_running : phases (λ p. bools (λ b. given (is_up p && b) ((is_starting p || is_up p) && b))) ≡ true
unfolding phases bools given
test_serving_running = refl

pub serving_running : (p : Phase) (b : Bool) → (is_up p && b) ≡ true → ((is_starting p || is_up p) && b) ≡ true
serving_running = simp finite at test_serving_running

test_release_not_ending : phases (λ p. given (is_waiting p || is_starting p || is_up p) (not (is_ending p))) ≡ true
unfolding phases given
test_release_not_ending = refl

pub release_not_ending : (p : Phase) → (is_waiting p || is_starting p || is_up p) ≡ true → not (is_ending p) ≡ true
release_not_ending = simp finite at test_release_not_ending
