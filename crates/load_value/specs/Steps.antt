-- Trusted: "Value": what each byte of a value does, by where the reader is.
use Rattle.std.specs.Prelude.{ℕ, Bool, true, false, eqb}
use Rattle.base.specs.Folds.{pick}
use Rattle.load_text.specs.Bytes.{is_white}
use Rattle.load_value.specs.declared.Mode.{Mode}
use Rattle.load_value.specs.declared.Step.{Step}
use Rattle.load_value.specs.declared.Step.TheVariants.{Skip, Quote, Keep, Close, Malformed}

-- no token is open; this is how a value begins
abbrev pub between : Mode
between = record { escaped = false; quoted = false; token = false; comment = false }

-- in a token, in quotes or not
abbrev pub in_token : Bool → Mode
in_token q = record { escaped = false; quoted = q; token = true; comment = false }

-- after a backslash, in quotes or not
abbrev pub escaping : Bool → Mode
escaping q = record { escaped = true; quoted = q; token = true; comment = false }

abbrev pub in_comment : Mode
in_comment = record { escaped = false; quoted = false; token = false; comment = true }

-- "outside quotes a run of white space becomes one space; leading and trailing runs go", "split at white space neither
-- quoted nor escaped"; "`#` outside quotes and not escaped begins a comment at the value's start or after such white
-- space; elsewhere it is malformed"
unfoldable pub bare_step : Mode → ℕ → Step
bare_step m b =
    pick (is_white b) (pick m.token (Close between) (Skip between))
    (pick (eqb b 35) (pick m.token Malformed (Skip in_comment)) (Keep (in_token false)))

-- "`"` opens and closes a quoted stretch"
abbrev pub quote_step : Mode → Step
quote_step m = pick m.quoted (Skip (in_token false)) (Quote (in_token true))

-- "A backslash, in quotes or out, makes the next byte literal"; a quoted stretch is "kept literally"
unfoldable pub step_of : Mode → ℕ → Step
step_of m b =
    pick m.comment (Skip m)
    (pick m.escaped (Keep (in_token m.quoted))
    (pick (eqb b 92) (Skip (escaping m.quoted))
    (pick (eqb b 34) (quote_step m)
    (pick m.quoted (Keep m) (bare_step m b)))))
