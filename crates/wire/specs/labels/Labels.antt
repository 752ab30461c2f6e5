-- A name as the list of its labels (specification, 'Reading a message'; RFC 1035, 3.1): "labels of 1..63 bytes and a zero byte, at most 255 bytes
-- uncompressed". Assumes nothing: these are definitions.
use Rattle.std.specs.Prelude.{ℕ, ◌≤◌, ◌<◌, List, [], ◌∷◌, ◌++◌, length}

-- the uncompressed bytes of a name: each label after its length byte, then a zero byte
abbrev pub encode : List (List ℕ) → List ℕ
encode [] = 0 ∷ []
encode (l ∷ ls) = length l ∷ (l ++ encode ls)

-- each label has 1 to 63 bytes
pub data Labels : List (List ℕ) → Type 0 where
  none : Labels []
  one : {l : List ℕ} {ls : List (List ℕ)} → 1 ≤ length l → length l < 64 → Labels ls → Labels (l ∷ ls)

-- a name of at most 255 bytes
pub record IsName (ls : List (List ℕ)) : Type 0 where
  pub labels : Labels ls
  pub short : length (encode ls) ≤ 255
