-- What callers use of a name that was written: it is read back byte for byte, it is no longer than the name whole, and its labels start where it
-- stands. Assumes nothing.
use Prim.Native.Nat.{ℕ, zero, suc, ◌+◌, ◌<◌, ◌≤◌}
use mathlib.Core.Path.{◌≡◌, refl, sym, ap, ap₂, ◌∙◌}
use mathlib.Core.List.{List, [], ◌∷◌, ◌++◌}
use mathlib.Core.Bool.{Bool, true, false, cond}
use native.Mathlib.Omega.{arith}
use lib.ListN.{length, take, length-append}
use Rattle.wire.proofs.names.Extend.{within}
use Rattle.wire.specs.names.Names.{name, name_at, is_name}
use Rattle.wire.specs.labels.Labels.{encode, Labels, none, one, IsName}
use Rattle.wire.proofs.labels.Encoded.{encode-pos, made_of}
use Rattle.writer.specs.compression.Compression.{stands_at, place_of, onward, cut_here, cut_from, cut_of, name_bytes, name_places}
use Rattle.wire.specs.labels.Counted.{starts, labels_in}
use Rattle.writer.specs.compression.Sentence.{Rising}
use Rattle.writer.proofs.compression.ByLabels.{starts-on, cut_at, by_labels, places_by, by-labels, places-by}
use Rattle.writer.proofs.compression.Places.{name-rising}
use Rattle.writer.proofs.compression.ReadBack as labelled
use Rattle.std.specs.Prelude.{Option, Some, None}

shorter : (p os : List ℕ) {ls : List (List ℕ)} → Labels ls → length (by_labels p os ls) ≤ length (encode ls)
unfolding by_labels
shorter p os none = omega arith
shorter p os (one {l = l} {ls = ls} lo hi rest) = go (place_of p (encode (l ∷ ls)) os) (shorter p os rest)
  where
    go : (x : Option ℕ) → length (by_labels p os ls) ≤ length (encode ls) → length (cut_at x (length l ∷ (l ++ by_labels p os ls))) ≤ length (encode (l ∷ ls))
    go (Some o) ih = omega (arith, length-append l (encode ls), encode-pos ls)
    go None ih = omega (arith, length-append l (encode ls), length-append l (by_labels p os ls))

-- what is kept of a list has no more labels
fewer : (a b k m : ℕ) (bs : List ℕ) → length (starts a k (take m bs)) ≤ length (starts b k bs)
unfolding starts
fewer a b k zero bs = omega arith
fewer a b k (suc m) [] = omega arith
fewer a b (suc k) (suc m) (x ∷ bs) = fewer (suc a) (suc b) k m bs
fewer a b zero (suc m) (zero ∷ bs) = omega arith
fewer a b zero (suc m) (suc n ∷ bs) = omega (arith, fewer (suc a) (suc b) (suc n) m bs)

module _ (p os : List ℕ) (bs : List ℕ) where
  pub places-few : (at : ℕ) → length (name_places p os at bs) ≤ labels_in bs
  unfolding name_places
  places-few at = fewer at 0 0 (cut_of p os bs).kept bs

  module _ (ok : is_name bs ≡ true) where
    of : (ls : List (List ℕ)) × (IsName ls) × (bs ≡ encode ls)
    of = made_of bs ok

    same : name_bytes p os bs ≡ by_labels p os of.0
    same = ap (name_bytes p os) of.2 ∙ by-labels p os of.1.labels

    same_places : (at : ℕ) → name_places p os at bs ≡ places_by p os at of.0
    same_places at = ap (name_places p os at) of.2 ∙ places-by p os at of.1.labels

    pub name-short : length (name_bytes p os bs) ≤ length bs
    name-short = omega (arith, ap length same, ap length of.2, shorter p os of.1.labels)

    pub written-rising : (at : ℕ) → Rising at (at + length (name_bytes p os bs)) (name_places p os at bs)
    written-rising at = rw (same, same_places at) (name-rising p os at of.0)

    -- The read-back of a name: written after the bytes p ++ between, where p has every name before it, and followed by any bytes.
    pub name_back : (between post : List ℕ) (n : ℕ) → length p ≤ 16384 → Rising 12 n os
        → name_at (p ++ (between ++ (name_bytes p os bs ++ post))) (length p + length between) ≡ name bs (length p + length between + length (name_bytes p os bs))
    name_back between post n small low =
        ap (λ (l : List ℕ). name_at (p ++ (between ++ (l ++ post))) (length p + length between)) same ∙ labelled.name_back p os between post n of.0 small low
        of.1
        ∙ ap₂ (λ (l b : List ℕ). name l (length p + length between + length b)) (sym of.2) (sym same)

-- an offset that a name is cut for lies in the packet, and no more is kept than there is
module _ (p os : List ℕ) where
  stands_within : (s : List ℕ) (o : ℕ) → stands_at p s o ≡ true → o < length p
  stands_within s o h = let g = labelled.stands_read p s o h in within p o s g.0 g.1

  place-within : (s os : List ℕ) (o : ℕ) → place_of p s os ≡ Some o → o < length p
  unfolding place_of
  place-within s [] o h = let z : ◌≡◌ {A = ℕ} 0 1 = cc in absurd (omega arith)
  place-within s (x ∷ xs) o h = go (stands_at p s x) refl h (place-within s xs o)
    where
      go : (b : Bool) → stands_at p s x ≡ b → cond b (Some x) (place_of p s xs) ≡ Some o → (place_of p s xs ≡ Some o → o < length p) → o < length p
      go true e k ih = let i : x ≡ o = cc in rw (← i) (stands_within s x e)
      go false e k ih = ih k

  pub cut-within : (k : ℕ) (bs : List ℕ) (o : ℕ) → (cut_from p os k bs).place ≡ Some o → o < length p
  unfolding cut_from
  cut-within k [] o h = let z : ◌≡◌ {A = ℕ} 0 1 = cc in absurd (omega arith)
  cut-within (suc k) (b ∷ bs) o h = cut-within k bs o h
  cut-within zero (zero ∷ bs) o h = let z : ◌≡◌ {A = ℕ} 0 1 = cc in absurd (omega arith)
  cut-within zero (suc n ∷ bs) o h = go (place_of p (suc n ∷ bs) os) refl h (cut-within (suc n) bs o)
    where
      go : (x : Option ℕ) → place_of p (suc n ∷ bs) os ≡ x → (cut_here x (onward (cut_from p os (suc n) bs))).place ≡ Some o →
          ((cut_from p os (suc n) bs).place ≡ Some o → o < length p) → o < length p
      go (Some y) e q ih = place-within (suc n ∷ bs) os o (e ∙ q)
      go None e q ih = ih q

  pub kept-most : (k : ℕ) (bs : List ℕ) → (cut_from p os k bs).kept ≤ length bs
  unfolding cut_from
  kept-most k [] = omega arith
  kept-most (suc k) (b ∷ bs) = omega (arith, kept-most k bs)
  kept-most zero (zero ∷ bs) = omega arith
  kept-most zero (suc n ∷ bs) = go (place_of p (suc n ∷ bs) os) (kept-most (suc n) bs)
    where
      go : (x : Option ℕ) → (cut_from p os (suc n) bs).kept ≤ length bs → (cut_here x (onward (cut_from p os (suc n) bs))).kept ≤ length (suc n ∷ bs)
      go (Some y) ih = omega arith
      go None ih = omega arith

-- a name of labels has as many labels
pub labels_in_lem : {ls : List (List ℕ)} (at : ℕ) → Labels ls → length (starts at 0 (encode ls)) ≡ length ls
unfolding starts
labels_in_lem at none = refl
labels_in_lem at (one {l = []} {ls = ls} lo hi rest) = absurd (omega arith)
labels_in_lem at (one {l = x ∷ xs} {ls = ls} lo hi rest) =
    ap suc (ap length (starts-on [] [] (suc (suc at)) xs (encode ls)) ∙ labels_in_lem (suc (suc at) + length xs) rest)
