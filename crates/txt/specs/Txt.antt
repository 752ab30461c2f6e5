-- The strings of a TXT, the key and the value of each, and the string that answers for a key (specification, 'TXT pairs'; RFC 6763, 6.3 and 6.4).
-- Assumes nothing: these are definitions.
use Rattle.std.specs.Prelude.{ℕ, zero, suc, ◌+◌, List, [], ◌∷◌, Bool, true, false, cond, take, eqb}
use Rattle.std.proofs.Math.Option.{Option, none, some}
use Rattle.wire.specs.case_folding.Fold.{same_name}

-- A string of a TXT: the place where its text starts, and the text.
pub data Text : Type 0 where
  text : ℕ → List ℕ → Text

-- Each string "is a single length byte, followed by 0-255 bytes of text data" (RFC 6763, 6.1). These are the strings that start in the bytes
-- from the place `at` on; the first `k` of the bytes belong to the string before.
unfoldable pub strings_from : ℕ → ℕ → List ℕ → List Text
strings_from at k [] = []
strings_from at (suc k) (b ∷ bs) = strings_from (at + 1) k bs
strings_from at zero (b ∷ bs) = text (at + 1) (take b bs) ∷ strings_from (at + 1) b bs

abbrev pub strings : List ℕ → List Text
strings txt = strings_from 0 0 txt

-- "Everything up to the first '=' character is the key" (6.3); 61 is "=". A string without one is all key.
unfoldable pub key_of : List ℕ → List ℕ
key_of [] = []
key_of (b ∷ bs) = cond (eqb b 61) [] (b ∷ key_of bs)

-- "Everything after the first '=' character to the end of the string .. is the value" (6.3); a string without one has no value (6.4).
unfoldable pub value_of : List ℕ → Option (List ℕ)
value_of [] = none
value_of (b ∷ bs) = cond (eqb b 61) (some bs) (value_of bs)

-- "Empty strings and strings starting with "=" are skipped."
abbrev pub skipped : List ℕ → Bool
skipped [] = true
skipped (b ∷ bs) = eqb b 61

-- a string has a key: it is not skipped, and its key is the same, "ASCII case ignored"
unfoldable pub has_key : List ℕ → List ℕ → Bool
has_key key s = cond (skipped s) false (same_name (key_of s) key)

-- "The first string whose key matches", if there is one
unfoldable pub first_with : List ℕ → List Text → Option Text
first_with key [] = none
first_with key (text at s ∷ rest) = cond (has_key key s) (some (text at s)) (first_with key rest)
