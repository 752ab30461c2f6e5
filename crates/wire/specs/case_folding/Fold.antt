-- "Names are equal with ASCII letters folded and nothing else" (the specification). A length byte is at most 63, below every letter, so all bytes of an
-- uncompressed name may be folded alike.
use Rattle.std.specs.Prelude.{ℕ, ◌+◌, List, [], ◌∷◌, Bool, true, false, cond, ◌&&◌, leb, eqb}

-- 'A' to 'Z' (65 to 90) become 'a' to 'z'
abbrev pub lower : ℕ → ℕ
lower b = cond (leb 65 b && leb b 90) (b + 32) b

-- the same bytes, one for one, with letters folded
unfoldable pub same_name : List ℕ → List ℕ → Bool
same_name [] [] = true
same_name [] (y ∷ ys) = false
same_name (x ∷ xs) [] = false
same_name (x ∷ xs) (y ∷ ys) = eqb (lower x) (lower y) && same_name xs ys
