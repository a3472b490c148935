-- Trusted: "Times" and "Limit count": decimal numbers as they are written.
use Rattle.std.specs.Prelude.{ℕ, ◌+◌, ◌-◌, ◌*◌, ◌^◌, ◌≤◌, ◌<◌, true, false, ◌||◌, ◌&&◌, not, Option, Some, None, List, [], ◌∷◌, eqb, leb, ltb}
use Rattle.base.specs.Folds.{pick}
use Rattle.service.specs.Limits.{longest_time, max_count}
use Rattle.load_text.specs.Bytes.{is_digit}
use Rattle.load_word.specs.declared.Decimal.{Decimal}

-- nothing read yet
abbrev pub blank : Decimal
blank = record { whole = 0; part = 0; value = 0; point = false }

-- a digit more, before the point or after it: at most six and four
unfoldable pub digit_of : Decimal → ℕ → Option Decimal
digit_of k b =
    pick k.point
    (pick (ltb k.part 4) (Some (record { whole = k.whole; part = k.part + 1; value = k.value * 10 + (b - 48); point = true })) None)
    (pick (ltb k.whole 6) (Some (record { whole = k.whole + 1; part = k.part; value = k.value * 10 + (b - 48); point = false })) None)

-- "one to six digits, then optionally a point and one to four digits": a byte more
unfoldable pub read_of : Decimal → ℕ → Option Decimal
read_of k b =
    pick (is_digit b) (digit_of k b)
    (pick (eqb b 46 && not k.point && ltb 0 k.whole)
    (Some (record { whole = k.whole; part = k.part; value = k.value; point = true })) None)

-- as many digits as it says
abbrev pub Sane : Option Decimal → Type 0
Sane (Some k) = (k.whole ≤ 6) × (k.part ≤ 4) × (k.value < 10 ^ (k.whole + k.part))
Sane None = Unit {0}

abbrev pub continued : Option Decimal → (Decimal → Option Decimal) → Option Decimal
continued (Some k) on = on k
continued None on = None

unfoldable pub decimal_from : Decimal → List ℕ → Option Decimal
decimal_from k [] = Some k
decimal_from k (b ∷ bs) = continued (read_of k b) (λ k'. decimal_from k' bs)

abbrev pub valued : Option Decimal → (Decimal → Option ℕ) → Option ℕ
valued (Some k) f = f k
valued None f = None

-- "held in units of 0.1 ms"
abbrev pub units_of : Decimal → ℕ
units_of k = k.value * 10 ^ (4 - k.part)

-- "at most 86400 seconds"; a digit at least, and one after a point
unfoldable pub time_end : Decimal → Option ℕ
time_end k =
    pick (ltb 0 k.whole && (not k.point || ltb 0 k.part) && leb (units_of k) longest_time) (Some (units_of k)) None

unfoldable pub time_of : List ℕ → Option ℕ
time_of w = valued (decimal_from blank w) time_end

-- "Limit count: one to five digits, 0 to 65,535"
unfoldable pub count_end : Decimal → Option ℕ
count_end k =
    pick (ltb 0 k.whole && leb k.whole 5 && not k.point && leb k.value max_count) (Some k.value) None

unfoldable pub count_of : List ℕ → Option ℕ
count_of w = valued (decimal_from blank w) count_end
