-- The bytes of a key that is asked for. Assumes nothing.
use mathlib.Core.Path.{◌≡◌, refl, ap}
use mathlib.Core.List.{List, [], ◌∷◌}
use mathlib.Core.Bool.{◌||◌}
use Prim.Native.Nat.{ℕ}
use lib.ListN.{length}
use lib.Dec.{eqb}
use Rattle.std.specs.List.{list_any}
use Rattle.wire.specs.Lists.{some as some_of}
use Rattle.txt.specs.Lookup.{bad_byte, bad_key}

any-some_of : (key : List ℕ) → list_any bad_byte key ≡ some_of bad_byte key
unfolding some_of
any-some_of [] = refl
any-some_of (b ∷ bs) = ap (λ t. bad_byte b || t) (any-some_of bs)

pub bad_key_is : (key : List ℕ) → (eqb (length key) 0 || list_any bad_byte key) ≡ bad_key key
unfolding bad_key
bad_key_is key = ap (λ t. eqb (length key) 0 || t) (any-some_of key)
