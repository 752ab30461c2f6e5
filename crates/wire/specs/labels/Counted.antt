-- How many labels an uncompressed name has, and how long the first is (specification, 'Reading a message'; RFC 1035, 3.1): the zero byte of the root is no
-- label, so the root has none. Assumes nothing: these are definitions.
use Rattle.std.specs.Prelude.{ℕ, zero, suc, List, [], ◌∷◌, length}
use Rattle.wire.specs.octets.Octets.{byte_at}

-- the offsets at which labels start, of bytes that stand at `at`, `k` bytes of a label still to come
unfoldable pub starts : ℕ → ℕ → List ℕ → List ℕ
starts at k [] = []
starts at (suc k) (b ∷ bs) = starts (suc at) k bs
starts at zero (zero ∷ bs) = []
starts at zero (suc n ∷ bs) = at ∷ starts (suc at) (suc n) bs

-- how many labels a name has
abbrev pub labels_in : List ℕ → ℕ
labels_in bs = length (starts 0 0 bs)

-- how long its first label is: its length byte is the first of the name, and 0 in the root
abbrev pub first_in : List ℕ → ℕ
first_in bs = byte_at bs 0
