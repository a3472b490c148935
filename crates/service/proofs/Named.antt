-- A passed test of a phase or a cause names it.
use mathlib.Core.Bool.{true}
use mathlib.Core.Path.{◌≡◌, refl}
use Rattle.base.proofs.Tests.{no_ft}
use Rattle.service.specs.Records.{is_down, is_ending, is_up, is_user, is_waiting}
use Rattle.service.specs.declared.Cause.{Cause}
use Rattle.service.specs.declared.Cause.TheVariants.{Failed, Fell, None as NoCause, Released, User}
use Rattle.service.specs.declared.Phase.{Phase}
use Rattle.service.specs.declared.Phase.TheVariants.{Down, Ending, Starting, Up, Waiting}

pub is_down_lem : (p : Phase) → is_down p ≡ true → p ≡ Down
is_down_lem Down e = refl
is_down_lem Waiting e = no_ft e
is_down_lem Starting e = no_ft e
is_down_lem Up e = no_ft e
is_down_lem Ending e = no_ft e

pub is_waiting_lem : (p : Phase) → is_waiting p ≡ true → p ≡ Waiting
is_waiting_lem Down e = no_ft e
is_waiting_lem Waiting e = refl
is_waiting_lem Starting e = no_ft e
is_waiting_lem Up e = no_ft e
is_waiting_lem Ending e = no_ft e

pub is_up_lem : (p : Phase) → is_up p ≡ true → p ≡ Up
is_up_lem Down e = no_ft e
is_up_lem Waiting e = no_ft e
is_up_lem Starting e = no_ft e
is_up_lem Up e = refl
is_up_lem Ending e = no_ft e

pub is_ending_lem : (p : Phase) → is_ending p ≡ true → p ≡ Ending
is_ending_lem Down e = no_ft e
is_ending_lem Waiting e = no_ft e
is_ending_lem Starting e = no_ft e
is_ending_lem Up e = no_ft e
is_ending_lem Ending e = refl

pub is_user_lem : (c : Cause) → is_user c ≡ true → c ≡ User
is_user_lem NoCause e = no_ft e
is_user_lem User e = refl
is_user_lem Released e = no_ft e
is_user_lem Fell e = no_ft e
is_user_lem Failed e = no_ft e
