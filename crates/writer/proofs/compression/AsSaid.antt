-- What is written is the name cut as the specification says, and why only labels of earlier names are looked at. Assumes nothing.
use Prim.Native.Nat.{ℕ, zero, suc, ◌+◌, ◌<◌, ◌≤◌}
use mathlib.Core.Path.{◌≡◌, refl, sym, ap, ◌∙◌}
use mathlib.Core.List.{List, [], ◌∷◌, ◌++◌, append_assoc}
use mathlib.Core.Bool.{Bool, true, false, cond}
use native.Mathlib.Omega.{arith}
use lib.ListN.{length, take, drop, length-append}
use Rattle.wire.specs.declared.name_pieces.Piece.TheVariants.{Pointer}
use Rattle.wire.specs.name_pieces.Pieces.{piece_at}
use Rattle.wire.specs.names.Names.{Reading, name, malformed, ending, read_piece, from_run, name_at}
use Rattle.wire.proofs.names.Rest.{unroll}
use Rattle.wire.proofs.name_pieces.Pieces.{is_pointer_lem}
use Rattle.wire.specs.labels.Labels.{encode, Labels}
use Rattle.writer.specs.compression.Compression.{is_read, stands_at, place_of, pointer_to, name_bytes, name_places}
use Rattle.writer.specs.compression.Sentence.{Among, first, later, Stands, label_bytes, Rising, empty, next, Cuts, whole, cut}
use Rattle.writer.proofs.compression.ByLabels.{cut_at, none_at, by_labels, places_by, by-labels, places-by}
use Rattle.std.specs.Prelude.{Option, Some, None}

above : {m n o : ℕ} {os : List ℕ} → Rising m n os → Among o os → m ≤ o
above {o = o} (empty {m = m} {n = n} _) i = elim i [ ]
above (next h r) first = h
above (next h r) (later i) = omega (arith, above r i)

-- what the search answers
nowhere : (p s : List ℕ) {os : List ℕ} {o : ℕ} → Among o os → place_of p s os ≡ None → stands_at p s o ≡ true → ⊥
unfolding place_of
nowhere p s (first {o = o} {os = os}) h t = go (stands_at p s o) refl h
  where
    go : (b : Bool) → stands_at p s o ≡ b → cond b (Some o) (place_of p s os) ≡ None → ⊥
    go true e k = let z : ◌≡◌ {A = ℕ} 0 1 = cc in omega arith
    go false e k = let z : ◌≡◌ {A = ℕ} 0 1 = cc in omega arith
nowhere p s (later {o = o} {x = x} {os = os} i) h t = go (stands_at p s x) refl h (nowhere p s i)
  where
    go : (b : Bool) → stands_at p s x ≡ b → cond b (Some x) (place_of p s os) ≡ None → (place_of p s os ≡ None → stands_at p s o ≡ true → ⊥) → ⊥
    go true e k ih = let z : ◌≡◌ {A = ℕ} 0 1 = cc in omega arith
    go false e k ih = ih k t

found : (p s : List ℕ) (m n : ℕ) (os : List ℕ) (o : ℕ) → Rising m n os → place_of p s os ≡ Some o
    → (Among o os) × (stands_at p s o ≡ true) × ((o' : ℕ) → Among o' os → stands_at p s o' ≡ true → o ≤ o')
unfolding place_of
found p s m n [] o up h = let z : ◌≡◌ {A = ℕ} 0 1 = cc in absurd (omega arith)
found p s m n (x ∷ xs) o (next lo up) h = go (stands_at p s x) refl h (found p s (suc x) n xs o up)
  where
    go : (b : Bool) → stands_at p s x ≡ b → cond b (Some x) (place_of p s xs) ≡ Some o
        → (place_of p s xs ≡ Some o → (Among o xs) × (stands_at p s o ≡ true) × ((o' : ℕ) → Among o' xs → stands_at p s o' ≡ true → o ≤ o'))
        → (Among o (x ∷ xs)) × (stands_at p s o ≡ true) × ((o' : ℕ) → Among o' (x ∷ xs) → stands_at p s o' ≡ true → o ≤ o')
    go true e k ih = let i : x ≡ o = cc in (rw (← i) first, rw (← i) e, λ o' j t. least i o' j)
      where
        least : x ≡ o → (o' : ℕ) → Among o' (x ∷ xs) → o ≤ o'
        least i o' first = omega arith
        least i o' (later j) = omega (arith, above up j)
    go false e k ih = let f = ih k in (later f.0, f.1, least f)
      where
        least : (Among o xs) × (stands_at p s o ≡ true) × ((o' : ℕ) → Among o' xs → stands_at p s o' ≡ true → o ≤ o') → (o' : ℕ) → Among o' (x ∷ xs) → stands_at p
            s o' ≡ true → o ≤ o'
        least f o' first t = let z : ◌≡◌ {A = ℕ} 0 1 = cc in absurd (omega arith)
        least f o' (later j) t = f.2 o' j t

labels-cut : (p : List ℕ) (m n : ℕ) (os : List ℕ) → Rising m n os → (at : ℕ) (ls : List (List ℕ)) → Cuts p os at ls (by_labels p os ls) (places_by p os at ls)
unfolding by_labels places_by
labels-cut p m n os up at [] = whole (λ j o h s. omega arith) refl refl
labels-cut p m n os up at (l ∷ ls) = go (place_of p (encode (l ∷ ls)) os) refl (labels-cut p m n os up (at + 1 + length l) ls)
  where
    not_first : place_of p (encode (l ∷ ls)) os ≡ None → (o : ℕ) → Stands p os (l ∷ ls) o → ⊥
    not_first is o s = nowhere p (encode (l ∷ ls)) s.labelled is s.read

    go : (x : Option ℕ) → place_of p (encode (l ∷ ls)) os ≡ x → Cuts p os (at + 1 + length l) ls (by_labels p os ls) (places_by p os (at + 1 + length l) ls)
        → Cuts p os at (l ∷ ls) (cut_at x (length l ∷ (l ++ by_labels p os ls))) (none_at x (at ∷ places_by p os (at + 1 + length l) ls))
    go (Some o) is ih =
        let f = found p (encode (l ∷ ls)) m n os o up is in
        cut 0 o (omega arith) (record { labelled = f.0; read = f.1 }) (λ o' s. f.2 o' s.labelled s.read) (λ j o' h s. omega arith) refl refl
    go None is (whole never same noted) = whole shift (ap (λ (b : List ℕ). length l ∷ (l ++ b)) same) (ap (λ (b : List ℕ). at ∷ b) noted)
      where
        shift : (j o : ℕ) → j < length (l ∷ ls) → Stands p os (drop j (l ∷ ls)) o → ⊥
        shift zero o h s = not_first is o s
        shift (suc j) o h s = never j o (omega arith) s
    go None is (cut k o h s least never same noted) =
        cut (suc k) o (omega arith) s least shift (ap (λ (b : List ℕ). length l ∷ (l ++ b)) same ∙ ap (λ (b : List ℕ). length l ∷ b)
        (sym (append_assoc l (label_bytes (take k ls)) (pointer_to o)))) (ap (λ (b : List ℕ). at ∷ b) noted)
      where
        shift : (j o' : ℕ) → j < suc k → Stands p os (drop j (l ∷ ls)) o' → ⊥
        shift zero o' h s = not_first is o' s
        shift (suc j) o' h s = never j o' (omega arith) s

-- A name that is made of labels is written cut as the specification says, where the offsets rise.
pub is_cut : (p : List ℕ) (m n : ℕ) (os : List ℕ) → Rising m n os → (at : ℕ) (ls : List (List ℕ)) → Labels ls → Cuts p os at ls (name_bytes p os (encode ls))
    (name_places p os at (encode ls))
is_cut p m n os up at ls ok = rw (by-labels p os ok, places-by p os at ok) (labels-cut p m n os up at ls)

-- Why only labels of earlier names are looked at. First: at an earlier label of the name itself more stands than a later suffix.
shorter : (k : ℕ) (ls : List (List ℕ)) → length (encode (drop k ls)) ≤ length (encode ls)
shorter zero ls = omega arith
shorter (suc k) [] = omega arith
shorter (suc k) (l ∷ ls) = omega (arith, shorter k ls, length-append l (encode ls))

pub own_longer : (ls : List (List ℕ)) (j k : ℕ) → j < k → k ≤ length ls → length (encode (drop k ls)) < length (encode (drop j ls))
own_longer [] j k h g = absurd (omega arith)
own_longer (l ∷ ls) j zero h g = absurd (omega arith)
own_longer (l ∷ ls) zero (suc k) h g = omega (arith, shorter k ls, length-append l (encode ls))
own_longer (l ∷ ls) (suc j) (suc k) h g = own_longer ls j k (omega arith) (omega arith)

-- Second: at an offset at which a pointer stands the same is read as at its target, which is smaller.
pub pointer_same : (p s : List ℕ) (o t : ℕ) → piece_at p o o 0 ≡ Pointer t → (t < o) × (stands_at p s o ≡ stands_at p s t)
unfolding stands_at name_at
pointer_same p s o t e =
    let f = is_pointer_lem p o o 0 t e in
    (omega (arith, f.4, f.5), ap (is_read s) (unroll p o o 0 ∙ ap (read_piece (from_run p) p o o 0) e) ∙ same (from_run p t t 0))
  where
    same : (x : Reading) → is_read s (ending (o + 2) x) ≡ is_read s x
    same (name bs d) = refl
    same malformed = refl
