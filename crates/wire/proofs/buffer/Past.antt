-- Stores past the end of a list change nothing. Assumes nothing.
use mathlib.Core.Path.{◌≡◌, refl, sym, ap, ◌∙◌}
use mathlib.Core.List.{List, [], ◌∷◌}
use mathlib.Core.Bool.{Bool, true, false}
use Prim.Native.Nat.{ℕ, zero, suc, ◌+◌, ◌-◌, ◌≤◌, ◌<◌, min}
use native.Mathlib.Omega.{arith}
use lib.ListN.{length, take, drop, set, take-append-drop}
use lib.Seq.{sets, length-sets, take_all, length-take-le}
use lib.Dec.{leb}
use borrow.Author.Tests.{leb-true, leb-false}
use Rattle.wire.proofs.octets.Sets.{sets-append}

set_past : (l : List ℕ) (i v : ℕ) → length l ≤ i → set l i v ≡ l
set_past [] i v h = refl
set_past (x ∷ l) zero v h = absurd (omega arith)
set_past (x ∷ l) (suc i) v h = ap (λ (r : List ℕ). x ∷ r) (set_past l i v (omega arith))

pub sets-past : (l : List ℕ) (i : ℕ) (vs : List ℕ) → length l ≤ i → sets l i vs ≡ l
sets-past l i [] h = refl
sets-past l i (v ∷ vs) h =
    ap (λ (r : List ℕ). sets r (suc i) vs) (set_past l i v h) ∙ sets-past l (suc i) vs (omega arith)

-- what there is room for is all that is stored
sets-room : (l : List ℕ) (at n : ℕ) (s : List ℕ) → n ≤ length s → length l ≤ at + n → sets l at (take n s) ≡ sets l at s
sets-room l at n s h k =
    let e : length (take n s) ≡ n = length-take-le n s h in
    let f : length (sets l at (take n s)) ≤ at + length (take n s) = let g = length-sets l at (take n s) in omega (arith, g, e, k) in
    sym (sets-past (sets l at (take n s)) (at + length (take n s)) (drop n s) f) ∙ sets-append l at (take n s) (drop n s) ∙ ap (sets l at) (take-append-drop n s)

-- so many of the bytes as there is room for, stored, are all of them stored
pub sets-room_for : (l : List ℕ) (at : ℕ) (s : List ℕ) (n : ℕ) → at ≤ length l → n ≡ min (length s) (length l - at) → sets l at (take n s) ≡ sets l at s
sets-room_for l at s n h e = go (leb (length s) (length l - at)) refl
  where
    go : (x : Bool) → leb (length s) (length l - at) ≡ x → sets l at (take n s) ≡ sets l at s
    go true t = let k : length s ≤ length l - at = leb-true _ _ t in ap (sets l at) (take_all n s (omega (arith, e)))
    go false t = let k : length l - at < length s = leb-false _ _ t in sets-room l at n s (omega (arith, e)) (omega (arith, e))
