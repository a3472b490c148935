-- Numbers and back: what is read of an enum's number is what it was, and no number is past the list's last.
use Prim.Native.Nat.{◌≤◌}
use mathlib.Core.Bool.{Bool, true, false}
use mathlib.Core.Path.{◌≡◌, refl}
use native.Mathlib.Omega.{arith}
use Rattle.service.specs.Numbers.{cause_at, cause_number, kind_at, kind_number, phase_at, phase_number, signal_at, signal_number}
use Rattle.service.specs.Numbers.{flag_number, flag_of, last_cause, last_kind, last_phase, last_signal, settings_from, settings_numbers}
use Rattle.service.specs.declared.Cause.{Cause}
use Rattle.service.specs.declared.Cause.TheVariants.{Failed, Fell, None as NoCause, Released, User}
use Rattle.service.specs.declared.Kind.{Kind}
use Rattle.service.specs.declared.Kind.TheVariants.{Internal, Process, Scripted}
use Rattle.service.specs.declared.Phase.{Phase}
use Rattle.service.specs.declared.Phase.TheVariants.{Down, Ending, Starting, Up, Waiting}
use Rattle.service.specs.declared.Settings.{Settings}
use Rattle.service.specs.declared.Signal.{Signal}
use Rattle.service.specs.declared.Signal.TheVariants.{Hup, Int, Kill, None as NoSignal, Quit, Term, Usr1, Usr2}

pub kind_back : (k : Kind) → (kind_at (kind_number k) ≡ k) × (kind_number k ≤ last_kind)
kind_back Process = (refl, omega arith)
kind_back Scripted = (refl, omega arith)
kind_back Internal = (refl, omega arith)

pub signal_back : (g : Signal) → (signal_at (signal_number g) ≡ g) × (signal_number g ≤ last_signal)
signal_back NoSignal = (refl, omega arith)
signal_back Hup = (refl, omega arith)
signal_back Int = (refl, omega arith)
signal_back Term = (refl, omega arith)
signal_back Quit = (refl, omega arith)
signal_back Usr1 = (refl, omega arith)
signal_back Usr2 = (refl, omega arith)
signal_back Kill = (refl, omega arith)

pub phase_back : (p : Phase) → (phase_at (phase_number p) ≡ p) × (phase_number p ≤ last_phase)
phase_back Down = (refl, omega arith)
phase_back Waiting = (refl, omega arith)
phase_back Starting = (refl, omega arith)
phase_back Up = (refl, omega arith)
phase_back Ending = (refl, omega arith)

pub cause_back : (c : Cause) → (cause_at (cause_number c) ≡ c) × (cause_number c ≤ last_cause)
cause_back NoCause = (refl, omega arith)
cause_back User = (refl, omega arith)
cause_back Released = (refl, omega arith)
cause_back Fell = (refl, omega arith)
cause_back Failed = (refl, omega arith)

-- a flag read back
pub flag_back : (b : Bool) → flag_of (flag_number b) ≡ b
flag_back true = refl
flag_back false = refl

-- settings read back from their numbers
pub settings_back : (v : Settings) → settings_from (settings_numbers v) 0 ≡ v
unfolding settings_from
settings_back v = rw ((kind_back v.kind).0, (signal_back v.signal).0, flag_back v.restart, flag_back v.has_stop)
