-- Equality of rdata (specification, 'Reading a message'). Assumes nothing: these are definitions.
use Rattle.std.specs.Prelude.{ℕ, List, [], ◌∷◌, Bool, true, false, ◌&&◌, eqb}
use Rattle.wire.specs.rdata.Rdata.{Rdata, rdata, unfit}

-- two lists of bytes are the same; case counts
unfoldable pub same_bytes : List ℕ → List ℕ → Bool
same_bytes [] [] = true
same_bytes [] (y ∷ ys) = false
same_bytes (x ∷ xs) [] = false
same_bytes (x ∷ xs) (y ∷ ys) = eqb x y && same_bytes xs ys

-- "Rdata is equal when the bytes are, after names in PTR and SRV are expanded"; what is not as its type asks equals nothing
abbrev pub rdata_is : Rdata → List ℕ → Bool
rdata_is (rdata d) other = same_bytes d other
rdata_is unfit other = false
