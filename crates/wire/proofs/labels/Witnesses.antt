-- Names for which the premises of Numbers.antt hold: the root, "A" and "a" with one label each, and a name of 127 labels, which is as many as there can be.
-- Assumes nothing.
use mathlib.Core.Path.{◌≡◌, refl}
use mathlib.Core.List.{List, [], ◌∷◌}
use mathlib.Core.Bool.{true}
use Prim.Native.Nat.{ℕ, zero, suc}
use Rattle.wire.specs.case_folding.Fold.{same_name}
use Rattle.wire.specs.names.Names.{name, name_at, from_run, read_from, labels_fill, is_name}
use Rattle.wire.specs.name_pieces.Pieces.{piece_at}
use Rattle.wire.specs.labels.Counted.{starts, labels_in, first_in}

-- so many labels of one byte, and the root
unfoldable single : ℕ → List ℕ
single zero = 0 ∷ []
single (suc n) = 1 ∷ 97 ∷ single n

root_is_name : (is_name (0 ∷ []) ≡ true) × (labels_in (0 ∷ []) ≡ 0) × (first_in (0 ∷ []) ≡ 0)
unfolding labels_fill starts
root_is_name = (refl, refl, refl)

equal_names : (is_name (1 ∷ 97 ∷ 0 ∷ []) ≡ true) × (same_name (1 ∷ 65 ∷ 0 ∷ []) (1 ∷ 97 ∷ 0 ∷ []) ≡ true)
unfolding labels_fill same_name
equal_names = (refl, refl)

most_labels : (is_name (single 127) ≡ true) × (labels_in (single 127) ≡ 127) × (first_in (single 127) ≡ 1)
unfolding single labels_fill starts
most_labels = (refl, refl, refl)

-- a name that begins with a pointer: its first label is that of what the pointer leads to
pointed : (name_at (0 ∷ 0 ∷ 0 ∷ 0 ∷ 0 ∷ 0 ∷ 0 ∷ 0 ∷ 0 ∷ 0 ∷ 0 ∷ 0 ∷ 2 ∷ 97 ∷ 98 ∷ 1 ∷ 99 ∷ 0 ∷ 192 ∷ 15 ∷ []) 18 ≡ name (1 ∷ 99 ∷ 0 ∷ []) 20)
    × (labels_in (1 ∷ 99 ∷ 0 ∷ []) ≡ 1) × (first_in (1 ∷ 99 ∷ 0 ∷ []) ≡ 1)
unfolding name_at from_run read_from piece_at starts
pointed = (refl, refl, refl)
