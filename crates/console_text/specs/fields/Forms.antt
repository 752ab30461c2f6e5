-- The form of a line: how many fields follow its first word, and which of them are bytes. Assumes nothing: these are definitions.
use Rattle.std.specs.Prelude.{ℕ, ◌-◌, List, Bool, length, take, eqb}
use Rattle.wire.specs.expansion.Equal.{same_bytes}
use Rattle.console_text.specs.lines.Fields.{fields_of}
use Rattle.console_text.specs.fields.Numbers.{field_at}
use Rattle.console_text.specs.hex.Bytes.{bytes_of, is_bytes}

-- how many fields follow the first
abbrev pub arguments_of : List ℕ → ℕ
arguments_of line = length (fields_of line) - 1

unfoldable pub has_arguments : List ℕ → ℕ → Bool
has_arguments line n = eqb (arguments_of line) n

-- the first word of a line is this one
abbrev pub is_word : List ℕ → List ℕ → Bool
is_word word line = same_bytes (field_at line 0) word

unfoldable pub are_bytes_at : List ℕ → ℕ → Bool
are_bytes_at line index = is_bytes (field_at line index)

-- the bytes of a field, in room for so many: what does not fit is left out
unfoldable pub bytes_in : ℕ → List ℕ → ℕ → List ℕ
bytes_in room line index = take room (bytes_of (field_at line index))
