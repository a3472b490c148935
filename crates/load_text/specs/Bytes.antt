-- Trusted: "Reading a text": the classes of bytes, and the run of bytes of a class.
use Rattle.std.specs.Prelude.{ℕ, suc, Bool, ◌||◌, ◌&&◌, List, [], ◌∷◌, eqb, leb, ltb}
use Rattle.base.specs.Folds.{pick}

-- "White space: bytes 32, 9, 11, 12, 13"
abbrev pub is_white : ℕ → Bool
is_white b = eqb b 32 || eqb b 9 || (leb 11 b && leb b 13)

-- "A newline ends a line"
abbrev pub is_newline : ℕ → Bool
is_newline b = eqb b 10

-- "All others below 32 but the newline, and 127, are bad"
abbrev pub is_bad : ℕ → Bool
is_bad b = ltb b 9 || (ltb 13 b && ltb b 32) || eqb b 127

-- "a property name of one or more of a-z, `-` and `.`"
abbrev pub is_property_byte : ℕ → Bool
is_property_byte b = (leb 97 b && leb b 122) || eqb b 45 || eqb b 46

-- 3: "a-z A-Z 0-9 `-` `_` `.`"
abbrev pub is_name_byte : ℕ → Bool
is_name_byte b =
    (leb 97 b && leb b 122) || (leb 65 b && leb b 90) || (leb 48 b && leb b 57) || eqb b 45 || eqb b 95 || eqb b 46

-- 3: "1 to 32"
abbrev pub longest_name : ℕ
longest_name = 32

abbrev pub is_digit : ℕ → Bool
is_digit b = leb 48 b && leb b 57

-- "`=` or `:` (same meaning)"
abbrev pub is_sign : ℕ → Bool
is_sign b = eqb b 61 || eqb b 58

-- how many bytes of the class p a list begins with
unfoldable pub run : (ℕ → Bool) → List ℕ → ℕ
run p [] = 0
run p (b ∷ bs) = pick (p b) (suc (run p bs)) 0
