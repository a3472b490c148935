-- Of the code: the numbers that words are: "1 to 20 decimal digits, leading zeros allowed, that fit 64 bits".
use Rattle.std.specs.Prelude.{ℕ, ◌+◌, ◌-◌, ◌*◌, ◌^◌, Bool, ◌&&◌, Option, Some, None, List, [], ◌∷◌, leb, ltb, length}
use Rattle.base.specs.Folds.{pick}
use Rattle.load_text.specs.Bytes.{is_digit}

-- the number n where the test holds
abbrev pub read_if : Bool → ℕ → Option ℕ
read_if t n = pick t (Some n) None

-- what a number is read on to, where there is one
abbrev pub read_on : Option ℕ → (ℕ → Option ℕ) → Option ℕ
read_on None f = None
read_on (Some n) f = f n

-- a digit more after the value v, where that is a digit and fits
abbrev pub with_digit : ℕ → ℕ → Option ℕ
with_digit v b = read_if (is_digit b && ltb (v * 10 + (b - 48)) (2 ^ 64)) (v * 10 + (b - 48))

-- the number after the digits with the value v
abbrev pub number_from : ℕ → List ℕ → Option ℕ
number_from v [] = Some v
number_from v (b ∷ bs) = read_on (with_digit v b) (λ n. number_from n bs)

abbrev pub number_of : List ℕ → Option ℕ
number_of w = pick (leb 1 (length w) && leb (length w) 20) (number_from 0 w) None

-- a number that is at most m
abbrev pub number_to : List ℕ → ℕ → Option ℕ
number_to w m = read_on (number_of w) (λ n. read_if (leb n m) n)
