-- Trusted: "Yes or no", types and signals, and names of services (number 3).
use Rattle.std.specs.Prelude.{ℕ, zero, suc, ◌+◌, Bool, true, false, ◌&&◌, Option, Some, None, List, [], ◌∷◌, leb, ltb, length}
use Prim.Native.String.{String}
use denote.Ref.{Bor}
use Rattle.base.specs.Folds.{pick}
use Rattle.load_text.specs.Strings.{bytes, same, index_from}
use Rattle.load_text.specs.Bytes.{is_name_byte, longest_name}
use Rattle.service.specs.Numbers.{last_signal, signal_at}
use Rattle.service.specs.declared.Kind.{Kind}
use Rattle.service.specs.declared.Kind.TheVariants.{Internal, Process, Scripted}
use Rattle.service.specs.declared.Signal.{Signal}
use Rattle.service.specs.declared.Signal.TheVariants.{Hup, Int, Kill, None as NoSignal, Quit, Term, Usr1, Usr2}

-- what stands in a table with the first of its names that n is
unfoldable pub found : {T : Type 0} → List ℕ → List (Bor (List ℕ) × T) → Option T
found n [] = None
found n (e ∷ es) = pick (same n e.0.now) (Some e.1) (found n es)

-- "smooth-recovery accepts only no or false"
unfoldable pub no_of : List ℕ → Option Bool
unfolding bytes
no_of w = pick (same w (bytes "no")) (Some false) (pick (same w (bytes "false")) (Some false) None)

-- "Yes or no: yes, true, no, false"
unfoldable pub flag_of : List ℕ → Option Bool
unfolding bytes
flag_of w = pick (same w (bytes "yes")) (Some true) (pick (same w (bytes "true")) (Some true) (no_of w))

-- "type: process, scripted, internal"
unfoldable pub kind_of : List ℕ → Option Kind
unfolding bytes
kind_of w =
    pick (same w (bytes "process")) (Some Process)
    (pick (same w (bytes "scripted")) (Some Scripted)
    (pick (same w (bytes "internal")) (Some Internal) None))

-- "term-signal: none, HUP, INT, TERM (default), QUIT, USR1, USR2, KILL"
abbrev pub signal_name : Signal → String
signal_name NoSignal = "none"
signal_name Hup = "HUP"
signal_name Int = "INT"
signal_name Term = "TERM"
signal_name Quit = "QUIT"
signal_name Usr1 = "USR1"
signal_name Usr2 = "USR2"
signal_name Kill = "KILL"

-- the names of the signals with the numbers from n on, k of them
abbrev pub names_from : ℕ → ℕ → List (List ℕ)
names_from n zero = []
names_from n (suc k) = bytes (signal_name (signal_at n)) ∷ names_from (suc n) k

unfoldable pub signal_names : List (List ℕ)
unfolding bytes
signal_names = names_from 0 (last_signal + 1)

unfoldable pub signal_of : List ℕ → Option Signal
signal_of w = pick (leb (index_from w 0 signal_names) last_signal) (Some (signal_at (index_from w 0 signal_names))) None

-- all bytes are those of a name
unfoldable pub name_bytes : List ℕ → Bool
name_bytes [] = true
name_bytes (b ∷ bs) = is_name_byte b && name_bytes bs

-- 3: "1 to 32 of a-z A-Z 0-9 `-` `_` `.`"
unfoldable pub is_name : List ℕ → Bool
is_name l = ltb 0 (length l) && leb (length l) longest_name && name_bytes l
