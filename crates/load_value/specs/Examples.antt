-- Of the code: readings of values other than paper 01's worked examples, which crates/guarantee states: one table, one statement.
use Rattle.std.specs.Prelude.{ℕ, ◌≡◌, refl, true, false, List, [], ◌∷◌, map, eqb}
use Prim.Native.String.{String}
use Rattle.base.specs.Folds.{pick}
use Rattle.load_text.specs.Strings.{bytes}
use Rattle.load_text.specs.Lines.{fault}
use Rattle.std.specs.Prelude.{Result, Ok, Err}
use Rattle.load_text.specs.declared.Fault.{Fault}
use Rattle.load_text.specs.declared.Wrong.{Wrong}
use Rattle.load_text.specs.declared.Wrong.TheVariants.{LastBackslash, Malformed, OpenQuote}
use Rattle.load_value.specs.declared.Sizes.{Sizes}
use Rattle.load_value.specs.Steps.{step_of, bare_step}
use Rattle.load_value.specs.Quotes.{closes, closes_from}
use Rattle.load_value.specs.Values.{fault_from, marks_from, sizes_from, scan_of, written}

-- a value: what the scan says, and its tokens with a slash for each zero byte, so that they show
pub record Example : Type 0 where
  pub value : String
  pub scan : Result Sizes Fault
  pub tokens : String

pub record Outcome : Type 0 where
  pub scan : Result Sizes Fault
  pub tokens : List ℕ

abbrev tokens : ℕ → ℕ → ℕ → Result Sizes Fault
tokens n r f = Ok (record { tokens = n; room = r; first = f })

abbrev refused : Wrong → ℕ → Result Sizes Fault
refused w i = Err (fault w i)

abbrev pub examples : List Example
examples =
    -- the first fault from the left, and 8 only at the end
    record { value = "\"a\\"; scan = refused LastBackslash 2; tokens = "a/" } ∷
    record { value = "a#\\"; scan = refused Malformed 1; tokens = "a" } ∷
    record { value = "x \"a#"; scan = refused OpenQuote 2; tokens = "x/a#/" } ∷
    record { value = "\\"; scan = refused LastBackslash 0; tokens = "/" } ∷
    -- a comment begins where no token is open
    record { value = "# \"'\\"; scan = tokens 0 0 0; tokens = "" } ∷
    record { value = "  "; scan = tokens 0 0 0; tokens = "" } ∷
    record { value = "\"\"#"; scan = refused Malformed 2; tokens = "" } ∷
    record { value = "\" \"# c"; scan = refused Malformed 3; tokens = " " } ∷
    record { value = "a\\ # c"; scan = refused Malformed 3; tokens = "a " } ∷
    record { value = "\\## c"; scan = refused Malformed 2; tokens = "#" } ∷
    record { value = "a \\# # c"; scan = tokens 2 4 1; tokens = "a/#/" } ∷
    -- an empty token is a token
    record { value = "\"\" a"; scan = tokens 2 3 0; tokens = "/a/" } ∷
    record { value = "a \"\""; scan = tokens 2 3 1; tokens = "a//" } ∷
    record { value = "\\\"a\\\\"; scan = tokens 1 4 3; tokens = "\"a\\/" } ∷
    []

abbrev outcome : Example → Outcome
outcome e = record { scan = scan_of (bytes e.value); tokens = map (λ b. pick (eqb b 0) 47 b) (written (bytes e.value)) }

abbrev given : Example → Outcome
given e = record { scan = e.scan; tokens = bytes e.tokens }

pub examples_hold : map outcome examples ≡ map given examples
unfolding bytes step_of bare_step fault_from marks_from sizes_from scan_of written
examples_hold = refl

-- what closes a quoted stretch, after its opening quote: a quote that no backslash makes literal
pub quotes_close : map (λ s. closes (bytes s)) ("" ∷ "a" ∷ "a\" b" ∷ "a\\\"" ∷ "a\\\\\"" ∷ "\\" ∷ []) ≡ false ∷ false ∷ true ∷ false ∷ true ∷ false ∷ []
unfolding bytes closes_from
quotes_close = refl
