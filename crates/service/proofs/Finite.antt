-- A law on phases, causes, types and truth values, proved by running a test at each of them: state the test with
-- `phases`, `causes`, `forms`, `bools` and `given`, prove it by computing, and turn it into the law by `simp finite`.
use mathlib.Core.Bool.{Bool, ◌&&◌, false, true}
use mathlib.Core.Logic.{◌↔◌}
use mathlib.Core.Path.{◌≡◌}
use Rattle.base.specs.Folds.{implies}
use Rattle.base.proofs.Tests.{imp_true, tests}
use Rattle.service.specs.declared.Cause.{Cause}
use Rattle.service.specs.declared.Cause.TheVariants.{Failed, Fell, None as NoCause, Released, User}
use Rattle.service.specs.declared.Form.{Form}
use Rattle.service.specs.declared.Form.TheVariants.{Bare, Passing, Direct, Delayed}
use Rattle.service.specs.declared.Phase.{Phase}
use Rattle.service.specs.declared.Phase.TheVariants.{Down, Ending, Starting, Up, Waiting}

unfoldable pub phases : (Phase → Bool) → Bool
phases f = f Down && (f Waiting && (f Starting && (f Up && f Ending)))

unfoldable pub causes : (Cause → Bool) → Bool
causes f = f NoCause && (f User && (f Released && (f Fell && f Failed)))

unfoldable pub forms : (Form → Bool) → Bool
forms f = f Bare && (f Passing && (f Direct && f Delayed))

unfoldable pub bools : (Bool → Bool) → Bool
bools f = f true && f false

module _ (f : Phase → Bool) where
  phase_to : phases f ≡ true → (p : Phase) → f p ≡ true
  unfolding phases
  phase_to e Down = (simp tests at e).0
  phase_to e Waiting = (simp tests at e).1.0
  phase_to e Starting = (simp tests at e).1.1.0
  phase_to e Up = (simp tests at e).1.1.1.0
  phase_to e Ending = (simp tests at e).1.1.1.1

  pub phases_true : (phases f ≡ true) ↔ ((p : Phase) → f p ≡ true)
  unfolding phases
  phases_true = (phase_to, λ h. simp tests (h Down, (h Waiting, (h Starting, (h Up, h Ending)))))

module _ (f : Cause → Bool) where
  cause_to : causes f ≡ true → (c : Cause) → f c ≡ true
  unfolding causes
  cause_to e NoCause = (simp tests at e).0
  cause_to e User = (simp tests at e).1.0
  cause_to e Released = (simp tests at e).1.1.0
  cause_to e Fell = (simp tests at e).1.1.1.0
  cause_to e Failed = (simp tests at e).1.1.1.1

  pub causes_true : (causes f ≡ true) ↔ ((c : Cause) → f c ≡ true)
  unfolding causes
  causes_true = (cause_to, λ h. simp tests (h NoCause, (h User, (h Released, (h Fell, h Failed)))))

module _ (f : Form → Bool) where
  form_to : forms f ≡ true → (k : Form) → f k ≡ true
  unfolding forms
  form_to e Bare = (simp tests at e).0
  form_to e Passing = (simp tests at e).1.0
  form_to e Direct = (simp tests at e).1.1.0
  form_to e Delayed = (simp tests at e).1.1.1

  pub forms_true : (forms f ≡ true) ↔ ((k : Form) → f k ≡ true)
  unfolding forms
  forms_true = (form_to, λ h. simp tests (h Bare, (h Passing, (h Direct, h Delayed))))

module _ (f : Bool → Bool) where
  bool_to : bools f ≡ true → (b : Bool) → f b ≡ true
  unfolding bools
  bool_to e true = (simp tests at e).0
  bool_to e false = (simp tests at e).1

  pub bools_true : (bools f ≡ true) ↔ ((b : Bool) → f b ≡ true)
  unfolding bools
  bools_true = (bool_to, λ h. simp tests (h true, h false))

-- `implies` under a name of its own, which is all that `simp finite` opens
unfoldable pub given : Bool → Bool → Bool
given a b = implies a b

pub given_true : (a b : Bool) → (given a b ≡ true) ↔ ((a ≡ true) → b ≡ true)
unfolding given
given_true a b = imp_true a b

pub ruleset finite = (phases_true, causes_true, forms_true, bools_true, given_true)
