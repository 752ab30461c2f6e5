-- The fields of a line as numbers. Assumes nothing: these are definitions.
use Rattle.std.specs.Prelude.{ℕ, List, [], Bool, true, false, cond, Option, Some, None, get_or, ltb}
use Rattle.console_text.specs.lines.Fields.{fields_of}
use Rattle.console_text.specs.lines.Numbers.{number_of}

-- the field with an index, 0 for the first; no bytes where there is none
abbrev pub field_at : List ℕ → ℕ → List ℕ
field_at line index = get_or (fields_of line) index []

abbrev pub is_value : Option ℕ → Bool
is_value (Some n) = true
is_value None = false

abbrev pub value_of : Option ℕ → ℕ
value_of (Some n) = n
value_of None = 0

unfoldable pub is_number_at : List ℕ → ℕ → Bool
is_number_at line index = is_value (number_of (field_at line index))

-- 0 where the field is no number
unfoldable pub number_at : List ℕ → ℕ → ℕ
number_at line index = value_of (number_of (field_at line index))

-- 0 where the number has more than 16 bits
unfoldable pub number16_at : List ℕ → ℕ → ℕ
number16_at line index = cond (ltb 65535 (number_at line index)) 0 (number_at line index)
