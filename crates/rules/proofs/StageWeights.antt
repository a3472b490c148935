-- The weights of the stages before the last, and the laws on them, each one computed test: which rule lowers which weight,
-- and that going on to the next stage raises none.
use Prim.Native.Nat.{ℕ}
use lib.Dec.{leb, ltb}
use mathlib.Core.Bool.{Bool, ◌&&◌, ◌||◌, not, true}
use mathlib.Core.Path.{◌≡◌, refl}
use Rattle.base.specs.Folds.{pick}
use Rattle.service.specs.Records.{active, is_down, is_none, is_starting, is_up, is_waiting}
use Rattle.service.specs.declared.Cause.{Cause}
use Rattle.service.specs.declared.Cause.TheVariants.{Fell, Released, User}
use Rattle.service.specs.declared.Phase.{Phase}
use Rattle.service.specs.declared.Phase.TheVariants.{Down, Ending, Starting, Up, Waiting}
use Rattle.service.proofs.Finite.{bools, causes, finite, given, phases}
use Rattle.rules.proofs.LastRests.{heavy}
use Rattle.rules.proofs.Weights.{Weight}

-- by phase, cause (none or not) and aside: in any state, and where rule 1 fits nowhere
abbrev pub any_weight : Phase → Bool → Bool → ℕ
any_weight Down none aside = pick aside 0 2
any_weight Waiting none aside = 1
any_weight Starting none aside = pick none 4 3
any_weight Up none aside = pick none 4 3
any_weight Ending none aside = 1

abbrev pub tidy_weight : Phase → Bool → Bool → ℕ
tidy_weight Down none aside = pick aside 0 2
tidy_weight Waiting none aside = 1
tidy_weight Starting none aside = pick none 2 1
tidy_weight Up none aside = pick none 2 3
tidy_weight Ending none aside = 1

-- by phase and cause, where only services that nobody needs settle
abbrev pub release_weight : Phase → Bool → ℕ
release_weight Down none = 0
release_weight Waiting none = 1
release_weight Starting none = pick none 2 1
release_weight Up none = pick none 2 1
release_weight Ending none = 1

unfoldable pub weigh_any : Weight
weigh_any v now r = any_weight r.phase (is_none r.cause) r.aside

unfoldable pub weigh_tidy : Weight
weigh_tidy v now r = tidy_weight r.phase (is_none r.cause) r.aside

unfoldable pub weigh_release : Weight
weigh_release v now r = release_weight r.phase (is_none r.cause)

-- rule 1 lowers the first weight; rules 2, 3 and 4 the second; rules 3 and 5 the third
test_lose_lighter : phases (λ p. causes (λ c. bools (λ b. bools (λ a. given (is_starting p || is_up p) (given (is_none c) (ltb (any_weight p (is_none (pick b User Fell)) a) (any_weight p (is_none c) a))))))) ≡ true
unfolding phases causes bools given
test_lose_lighter = refl

pub lose_lighter : (p : Phase) (c : Cause) (b : Bool) (a : Bool) → (is_starting p || is_up p) ≡ true → is_none c ≡ true → ltb (any_weight p (is_none (pick b User Fell)) a) (any_weight p (is_none c) a) ≡ true
lose_lighter = simp finite at test_lose_lighter

test_abandon_lighter : phases (λ p. bools (λ n. bools (λ a. given (is_waiting p) (ltb (tidy_weight Down n true) (tidy_weight p n a))))) ≡ true
unfolding phases bools given
test_abandon_lighter = refl

pub abandon_lighter : (p : Phase) (n : Bool) (a : Bool) → is_waiting p ≡ true → ltb (tidy_weight Down n true) (tidy_weight p n a) ≡ true
abandon_lighter = simp finite at test_abandon_lighter

test_settle_lighter : phases (λ p. bools (λ n. bools (λ a. bools (λ b. given (is_up p) (given (not n) (ltb (tidy_weight Down true b) (tidy_weight p n a))))))) ≡ true
unfolding phases bools given
test_settle_lighter = refl

pub settle_lighter : (p : Phase) (n : Bool) (a : Bool) (b : Bool) → is_up p ≡ true → not n ≡ true → ltb (tidy_weight Down true b) (tidy_weight p n a) ≡ true
settle_lighter = simp finite at test_settle_lighter

test_wake_lighter : phases (λ p. bools (λ n. bools (λ a. given (is_down p) (given (not a) (ltb (tidy_weight Waiting n a) (tidy_weight p n a)))))) ≡ true
unfolding phases bools given
test_wake_lighter = refl

pub wake_lighter : (p : Phase) (n : Bool) (a : Bool) → is_down p ≡ true → not a ≡ true → ltb (tidy_weight Waiting n a) (tidy_weight p n a) ≡ true
wake_lighter = simp finite at test_wake_lighter

test_unneeded_lighter : phases (λ p. bools (λ n. given (is_up p) (ltb (release_weight Down true) (release_weight p n)))) ≡ true
unfolding phases bools given
test_unneeded_lighter = refl

pub unneeded_lighter : (p : Phase) (n : Bool) → is_up p ≡ true → ltb (release_weight Down true) (release_weight p n) ≡ true
unneeded_lighter = simp finite at test_unneeded_lighter

test_release_lighter : phases (λ p. causes (λ c. given (is_waiting p || is_starting p || is_up p) (given (is_none c) (ltb (release_weight (pick (is_waiting p) Down p) (is_none (pick (is_waiting p) c Released))) (release_weight p (is_none c)))))) ≡ true
unfolding phases causes given
test_release_lighter = refl

pub release_lighter : (p : Phase) (c : Cause) → (is_waiting p || is_starting p || is_up p) ≡ true → is_none c ≡ true → ltb (release_weight (pick (is_waiting p) Down p) (is_none (pick (is_waiting p) c Released))) (release_weight p (is_none c)) ≡ true
release_lighter = simp finite at test_release_lighter

-- each weighs no more than the one before, and none more than 4
test_tidy_any : phases (λ p. bools (λ n. bools (λ a. leb (tidy_weight p n a) (any_weight p n a)))) ≡ true
unfolding phases bools
test_tidy_any = refl

pub tidy_any : (p : Phase) (n : Bool) (a : Bool) → leb (tidy_weight p n a) (any_weight p n a) ≡ true
tidy_any = simp finite at test_tidy_any

test_release_tidy : phases (λ p. bools (λ n. bools (λ a. leb (release_weight p n) (tidy_weight p n a)))) ≡ true
unfolding phases bools
test_release_tidy = refl

pub release_tidy : (p : Phase) (n : Bool) (a : Bool) → leb (release_weight p n) (tidy_weight p n a) ≡ true
release_tidy = simp finite at test_release_tidy

test_last_release : phases (λ p. bools (λ n. bools (λ d. bools (λ z. leb (pick (heavy p n d z) 1 0) (release_weight p n))))) ≡ true
unfolding phases bools
test_last_release = refl

pub last_release : (p : Phase) (n : Bool) (d : Bool) (z : Bool) → leb (pick (heavy p n d z) 1 0) (release_weight p n) ≡ true
last_release = simp finite at test_last_release

test_any_four : phases (λ p. bools (λ n. bools (λ a. leb (any_weight p n a) 4))) ≡ true
unfolding phases bools
test_any_four = refl

pub any_four : (p : Phase) (n : Bool) (a : Bool) → leb (any_weight p n a) 4 ≡ true
any_four = simp finite at test_any_four

-- what rule 5 leaves
test_released_off : phases (λ p. causes (λ c. given (is_waiting p || is_starting p || is_up p) (not ((is_starting (pick (is_waiting p) Down p) || is_up (pick (is_waiting p) Down p)) && is_none (pick (is_waiting p) c Released))))) ≡ true
unfolding phases causes given
test_released_off = refl

pub released_off : (p : Phase) (c : Cause) → (is_waiting p || is_starting p || is_up p) ≡ true → (not ((is_starting (pick (is_waiting p) Down p) || is_up (pick (is_waiting p) Down p)) && is_none (pick (is_waiting p) c Released))) ≡ true
released_off = simp finite at test_released_off

test_released_busy : phases (λ p. not (is_waiting (pick (is_waiting p) Down p))) ≡ true
unfolding phases
test_released_busy = refl

pub released_busy : (p : Phase) → not (is_waiting (pick (is_waiting p) Down p)) ≡ true
released_busy = simp finite at test_released_busy

test_released_woken : phases (λ p. given (is_waiting p || is_starting p || is_up p) (not (is_down p))) ≡ true
unfolding phases given
test_released_woken = refl

pub released_woken : (p : Phase) → (is_waiting p || is_starting p || is_up p) ≡ true → not (is_down p) ≡ true
released_woken = simp finite at test_released_woken

test_released_running : phases (λ p. causes (λ c. given (is_waiting p || is_starting p || is_up p) (given (is_none c) (given (active p) ((is_starting p || is_up p) && is_none c))))) ≡ true
unfolding phases causes given
test_released_running = refl

pub released_running : (p : Phase) (c : Cause) → (is_waiting p || is_starting p || is_up p) ≡ true → is_none c ≡ true → active p ≡ true → ((is_starting p || is_up p) && is_none c) ≡ true
released_running = simp finite at test_released_running
