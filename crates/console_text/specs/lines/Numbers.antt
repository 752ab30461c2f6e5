-- A number is one or more decimal digits, leading zeros allowed, 0..2^64-1. Assumes nothing: these are definitions.
use Rattle.std.specs.Prelude.{ℕ, ◌+◌, ◌-◌, ◌*◌, List, [], ◌∷◌, Bool, true, cond, ◌&&◌, Option, Some, None, length, ltb, leb}

-- '0' to '9'
abbrev pub is_digit : ℕ → Bool
is_digit b = leb 48 b && leb b 57

unfoldable pub all_digits : List ℕ → Bool
all_digits [] = true
all_digits (b ∷ bs) = is_digit b && all_digits bs

-- what the digits before gave, ten times for each digit to come, and the value of these
unfoldable pub value_from : ℕ → List ℕ → ℕ
value_from v [] = v
value_from v (b ∷ bs) = value_from (v * 10 + (b - 48)) bs

-- digits alone, with a value below 2^64
unfoldable pub number_from : ℕ → List ℕ → Option ℕ
number_from v bs = cond (all_digits bs && ltb (value_from v bs) 18446744073709551616) (Some (value_from v bs)) None

unfoldable pub number_of : List ℕ → Option ℕ
number_of bs = cond (ltb 0 (length bs)) (number_from 0 bs) None
