-- A line is fields separated by exactly one space: a space in front, at the end or doubled gives a field of no bytes, which is of no form.
-- Assumes nothing: these are definitions.
use Rattle.std.specs.Prelude.{ℕ, List, [], ◌∷◌, cond, eqb}

-- a byte in front of the first field
abbrev pub in_front : ℕ → List (List ℕ) → List (List ℕ)
in_front b [] = (b ∷ []) ∷ []
in_front b (f ∷ fs) = (b ∷ f) ∷ fs

-- the fields of a line: the bytes between its spaces (32)
unfoldable pub fields_of : List ℕ → List (List ℕ)
fields_of [] = [] ∷ []
fields_of (b ∷ bs) = cond (eqb b 32) ([] ∷ fields_of bs) (in_front b (fields_of bs))
