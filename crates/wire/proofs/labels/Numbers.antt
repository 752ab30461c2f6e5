-- What the two numbers of a name are: at most 127 labels, of which the first has at most 63 bytes; 0 and 0 for the root and only for it; and names that are
-- equal, letters folded, have the same two. Assumes nothing; Witnesses.antt has names for which each premise holds.
use mathlib.Core.Path.{◌≡◌, refl, sym, ap, ◌∙◌}
use mathlib.Core.List.{List, [], ◌∷◌}
use mathlib.Core.Bool.{Bool, true, false, cond, ◌&&◌}
use Prim.Native.Nat.{ℕ, zero, suc, ◌+◌, ◌*◌, ◌<◌, ◌≤◌}
use native.Mathlib.Omega.{arith}
use borrow.Author.Tests.{ltb-true, leb-true, eqb-true, lt-leb}
use lib.ListN.{length, length-append}
use lib.Dec.{ltb, leb, eqb}
use mathlib.Mathlib.Data.Bool.Basic.{and-eq-true-eq-eq-true-and-eq-true as both}
use Rattle.wire.specs.case_folding.Fold.{lower, same_name}
use Rattle.wire.specs.names.Names.{name, name_at, labels_fill, is_name}
use Rattle.wire.specs.labels.Counted.{starts, labels_in, first_in}
use Rattle.wire.specs.labels.Labels.{encode, Labels, none, one}
use Rattle.wire.proofs.labels.Counted.{label-before}
use Rattle.wire.proofs.labels.Encoded.{made_of}
use Rattle.wire.proofs.names.Plain.{expanded-is_name}

-- the root: no label, and no first one
pub root_numbers : (labels_in (0 ∷ []) ≡ 0) × (first_in (0 ∷ []) ≡ 0)
unfolding starts
root_numbers = (refl, refl)

-- a name has as many labels as the list of them
pub counted : {ls : List (List ℕ)} → Labels ls → labels_in (encode ls) ≡ length ls
unfolding starts
counted none = refl
counted (one {l = l} {ls = ls} lo hi rest) =
    let some : length l ≡ 0 → ⊥ = λ z. omega arith in omega (arith, label-before (length l) l (encode ls) some refl, counted rest)

-- each label takes two bytes at the least, and the root one
long : {ls : List (List ℕ)} → Labels ls → 2 * length ls + 1 ≤ length (encode ls)
long none = omega arith
long (one {l = l} {ls = ls} lo hi rest) = omega (arith, length-append l (encode ls), long rest)

module _ (bs : List ℕ) (is : is_name bs ≡ true) where
  -- "at most 255 bytes uncompressed" leaves room for 127 labels
  pub at_most-127 : labels_in bs ≤ 127
  at_most-127 = let m = made_of bs is in omega (arith, ap labels_in m.2, counted m.1.labels, long m.1.labels, m.1.short)

  pub first-at_most_63 : first_in bs ≤ 63
  first-at_most_63 = let m = made_of bs is in omega (arith, ap first_in m.2, go m.1.labels)
    where
      go : {ls : List (List ℕ)} → Labels ls → first_in (encode ls) ≤ 63
      go none = omega arith
      go (one lo hi rest) = omega arith

  -- only the root has no label, and no first one
  root_of : {ls : List (List ℕ)} → Labels ls → first_in (encode ls) ≡ 0 → encode ls ≡ 0 ∷ []
  root_of none z = refl
  root_of (one lo hi rest) z = absurd (omega arith)

  pub first_of-root : first_in bs ≡ 0 → bs ≡ 0 ∷ []
  first_of-root z = let m = made_of bs is in m.2 ∙ root_of m.1.labels (sym (ap first_in m.2) ∙ z)

  pub labels-of_root : labels_in bs ≡ 0 → bs ≡ 0 ∷ []
  labels-of_root z = let m = made_of bs is in m.2 ∙ go m.1.labels (sym (counted m.1.labels) ∙ sym (ap labels_in m.2) ∙ z)
    where
      go : {ls : List (List ℕ)} → Labels ls → length ls ≡ 0 → encode ls ≡ 0 ∷ []
      go none z = refl
      go (one lo hi rest) z = absurd (omega arith)

-- a byte that is folded to a length byte is that byte: it is below every letter
length-byte : (x n : ℕ) → n < 64 → lower x ≡ lower n → x ≡ n
length-byte x n h e =
    let k : n < 65 = omega arith in
    let low : lower n ≡ n = simp (lt-leb 65 n k) in go (leb 65 x && leb x 90) refl (e ∙ low)
  where
    go : (b : Bool) → (leb 65 x && leb x 90) ≡ b → cond b (x + 32) x ≡ n → x ≡ n
    go true t f =
        let up : 65 ≤ x = leb-true 65 x ((both (leb 65 x) (leb x 90)).0 t).0 in absurd (omega arith)
    go false t f = f

-- bytes that equal a name, letters folded, have their labels where it has its own
same_starts : (at k : ℕ) (a b : List ℕ) → labels_fill k b ≡ true → same_name a b ≡ true → starts at k a ≡ starts at k b
unfolding starts labels_fill same_name
same_starts at k [] [] f h = refl
same_starts at k [] (y ∷ ys) f h = let z : ◌≡◌ {A = ℕ} 0 1 = cc in absurd (omega arith)
same_starts at k (x ∷ xs) [] f h = let z : ◌≡◌ {A = ℕ} 0 1 = cc in absurd (omega arith)
same_starts at (suc k) (x ∷ xs) (y ∷ ys) f h = same_starts (suc at) k xs ys f ((both (eqb (lower x) (lower y)) (same_name xs ys)).0 h).1
same_starts at zero (x ∷ xs) (zero ∷ ys) f h =
    let e : x ≡ 0 = length-byte x 0 (omega arith) (eqb-true _ _ ((both (eqb (lower x) (lower 0)) (same_name xs ys)).0 h).0) in
    ap (λ (n : ℕ). starts at 0 (n ∷ xs)) e
same_starts at zero (x ∷ xs) (suc n ∷ ys) f h =
    let g = (both (ltb (suc n) 64) (labels_fill (suc n) ys)).0 f in
    let s = (both (eqb (lower x) (lower (suc n))) (same_name xs ys)).0 h in
    let e : x ≡ suc n = length-byte x (suc n) (ltb-true _ _ g.0) (eqb-true _ _ s.0) in
    ap (λ (m : ℕ). starts at 0 (m ∷ xs)) e ∙ ap (λ (l : List ℕ). at ∷ l) (same_starts (suc at) (suc n) xs ys g.1 s.1)

same_first : (a b : List ℕ) → first_in b ≤ 63 → same_name a b ≡ true → first_in a ≡ first_in b
unfolding same_name
same_first [] [] f h = refl
same_first [] (y ∷ ys) f h = let z : ◌≡◌ {A = ℕ} 0 1 = cc in absurd (omega arith)
same_first (x ∷ xs) [] f h = let z : ◌≡◌ {A = ℕ} 0 1 = cc in absurd (omega arith)
same_first (x ∷ xs) (y ∷ ys) f h = length-byte x y (omega arith) (eqb-true _ _ ((both (eqb (lower x) (lower y)) (same_name xs ys)).0 h).0)

-- bytes that equal a name, letters folded, have its two numbers
pub same_numbers : (a b : List ℕ) → is_name b ≡ true → same_name a b ≡ true → (labels_in a ≡ labels_in b) × (first_in a ≡ first_in b)
same_numbers a b is h = (
  ap length (same_starts 0 0 a b ((both (labels_fill 0 b) (leb (length b) 255)).0 is).0 h),
  same_first a b (first-at_most_63 b is) h,
)

-- what holds of every name holds of the name that is read at an offset
module _ (p : List ℕ) (at : ℕ) (bs : List ℕ) (e : ℕ) (h : name_at p at ≡ name bs e) where
  pub read_at_most_127 : labels_in bs ≤ 127
  read_at_most_127 = at_most-127 bs (expanded-is_name p at bs e h)

  pub read_first_at_most_63 : first_in bs ≤ 63
  read_first_at_most_63 = first-at_most_63 bs (expanded-is_name p at bs e h)

  pub read_first_of_root : first_in bs ≡ 0 → bs ≡ 0 ∷ []
  read_first_of_root = first_of-root bs (expanded-is_name p at bs e h)
