-- Bytes are hex digits, two a byte, either case on input, lower case on output; '-' is no bytes. Assumes nothing: these are definitions.
use Rattle.std.specs.Prelude.{ℕ, ◌+◌, ◌-◌, ◌*◌, ◌/◌, ◌%◌, List, [], ◌∷◌, Bool, true, false, cond, ◌&&◌, ◌||◌, length, get_or, ltb, leb, eqb}
use Rattle.console_text.specs.lines.Numbers.{is_digit}

-- the value of a hex digit: '0' to '9', 'A' to 'F', 'a' to 'f'; 16 for a byte that is none
unfoldable pub hex_value : ℕ → ℕ
hex_value b = cond (is_digit b) (b - 48) (cond (leb 65 b && leb b 70) (b - 55) (cond (leb 97 b && leb b 102) (b - 87) 16))

abbrev pub is_hex : ℕ → Bool
is_hex b = ltb (hex_value b) 16

-- the byte of two digits
abbrev pub byte_of : ℕ → ℕ → ℕ
byte_of a b = hex_value a % 16 * 16 + hex_value b % 16

-- the bytes that the digits of a field give, two a byte; a digit left over gives none, and so does '-'
unfoldable pub bytes_of : List ℕ → List ℕ
bytes_of [] = []
bytes_of (a ∷ []) = []
bytes_of (a ∷ (b ∷ bs)) = byte_of a b ∷ bytes_of bs

-- hex digits alone, and two for each byte
unfoldable pub all_pairs : List ℕ → Bool
all_pairs [] = true
all_pairs (a ∷ []) = false
all_pairs (a ∷ (b ∷ bs)) = is_hex a && (is_hex b && all_pairs bs)

-- the field '-' (45)
abbrev pub is_dash : List ℕ → Bool
is_dash s = eqb (length s) 1 && eqb (get_or s 0 0) 45

-- a field is bytes: '-', or one or more pairs of digits
unfoldable pub is_bytes : List ℕ → Bool
is_bytes s = is_dash s || (ltb 0 (length s) && all_pairs s)

-- the digit of a number below 16: '0' to '9', then 'a' to 'f'
unfoldable pub glyph : ℕ → ℕ
glyph d = cond (ltb d 10) (48 + d) (87 + d)

-- bytes as digits, two a byte
unfoldable pub digits_of : List ℕ → List ℕ
digits_of [] = []
digits_of (b ∷ bs) = glyph (b / 16) ∷ glyph (b % 16) ∷ digits_of bs

-- bytes as they are shown: '-' for none
unfoldable pub text_of : List ℕ → List ℕ
text_of s = cond (eqb (length s) 0) (45 ∷ []) (digits_of s)

-- the text of bytes in so much room: all of it, or nothing
unfoldable pub text_in : ℕ → List ℕ → List ℕ
text_in room s = cond (leb (length (text_of s)) room) (text_of s) []
