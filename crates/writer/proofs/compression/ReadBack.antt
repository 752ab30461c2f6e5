-- What was written as a name is read as that name, byte for byte, whatever stands between the names and whatever follows.
-- Assumes nothing.
use Prim.Native.Nat.{ℕ, suc, ◌+◌, ◌*◌, ◌/◌, ◌%◌, ◌<◌, ◌≤◌}
use mathlib.Core.Path.{◌≡◌, refl, sym, ap, ap₂, ◌∙◌}
use mathlib.Core.List.{List, [], ◌∷◌, ◌++◌}
use mathlib.Core.Bool.{Bool, true, false, cond}
use native.Mathlib.Numerals.{add-one}
use native.Mathlib.Omega.{arith}
use lib.ListN.{length, get_or, drop, length-append}
use lib.Seq.{drop_at, drop-drop}
use Rattle.wire.specs.declared.name_pieces.Piece.TheVariants.{Pointer}
use Rattle.wire.specs.name_pieces.Pieces.{piece_at, target}
use Rattle.wire.specs.names.Names.{Reading, name, malformed, ending, read_piece, from_run, name_at}
use Rattle.wire.proofs.names.Rest.{unroll}
use Rattle.wire.proofs.name_pieces.Pieces.{piece_root, piece_pointer}
use Rattle.wire.specs.labels.Labels.{encode, Labels, none, one, IsName}
use Rattle.wire.proofs.expansion.Bytes.{same_equal}
use Rattle.wire.proofs.labels.Encoded.{encode-pos}
use Rattle.writer.specs.compression.Compression.{is_read, stands_at, place_of, pointer_to}
use Rattle.writer.proofs.compression.ByLabels.{cut_at, none_at, by_labels, places_by}
use Rattle.writer.specs.compression.Sentence.{Rising, empty, next}
use Rattle.wire.proofs.names.Extend.{read_on, within}
use Rattle.wire.proofs.names.InPlace.{head, tail_at, label-step}
use Rattle.std.specs.Prelude.{Option, Some, None}

-- what stands at an offset is read there
pub stands_read : (p s : List ℕ) (o : ℕ) → stands_at p s o ≡ true → (e : ℕ) × (name_at p o ≡ name s e)
unfolding stands_at
stands_read p s o h = go (name_at p o) refl h
  where
    go : (x : Reading) → name_at p o ≡ x → is_read s x ≡ true → (e : ℕ) × (name_at p o ≡ name s e)
    go (name bs e) r k = (e, r ∙ ap (λ (l : List ℕ). name l e) (same_equal bs s k))
    go malformed r k = let z : ◌≡◌ {A = ℕ} 0 1 = cc in absurd (omega arith)

-- the offset that was found is one of the offsets, and the name stands there
pub place_found : (p s : List ℕ) {m n : ℕ} {os : List ℕ} (o : ℕ) → Rising m n os → place_of p s os ≡ Some o → (m ≤ o) × (stands_at p s o ≡ true)
unfolding place_of
place_found p s o (empty h) k = let z : ◌≡◌ {A = ℕ} 0 1 = cc in absurd (omega arith)
place_found p s {m = m} o (next {o = x} {os = xs} lo up) h = go (stands_at p s x) refl h (place_found p s o up)
  where
    go : (b : Bool) → stands_at p s x ≡ b → cond b (Some x) (place_of p s xs) ≡ Some o → (place_of p s xs ≡ Some o → (suc x ≤ o) × (stands_at p s o ≡ true)) → (m ≤ o) ×
        (stands_at p s o ≡ true)
    go true e k ih = let i : x ≡ o = cc in (omega arith, ap (stands_at p s) (sym i) ∙ e)
    go false e k ih = let f = ih k in (omega (arith, f.0), f.1)

-- the 14 bits of a pointer
bits : (o : ℕ) → o < 16384 → (192 + o / 256) % 64 * 256 + o % 256 ≡ o
bits o h = omega arith

module _ (p q os : List ℕ) (n : ℕ) (small : length p ≤ 16384) (low : Rising 12 n os) where
  -- a pointer stands at a place, to an offset that was found for s
  pointer_step : (s post : List ℕ) (o start at used : ℕ) → place_of p s os ≡ Some o → length p ≤ start → drop at (p ++ q) ≡ pointer_to o ++ post → used + length s ≤
      255
      → from_run (p ++ q) start at used ≡ name s (at + 2)
  pointer_step s post o start at used is later e fits =
      let P : List ℕ = p ++ q in
      let f = place_found p s o low is in
      let r = stands_read p s o f.1 in
      let inside : o < length p = within p o s r.0 r.1 in
      let g = head P at (192 + o / 256) (o % 256 ∷ post) e in
      let g' = head P (suc at) (o % 256) post g.2 in
      let next : get_or P (at + 1) 0 ≡ o % 256 = ap (λ (k : ℕ). get_or P k 0) (add-one at) ∙ g'.1 in
      let to : target P at ≡ o = ap₂ (λ (x y : ℕ). x % 64 * 256 + y) g.1 next ∙ bits o (omega arith) in
      let at_pointer : piece_at P start at used ≡ Pointer o =
      piece_pointer P start at used g.0 (omega (arith, g.1)) (omega (arith, g'.0)) (omega (arith, to, f.0)) (omega (arith, to)) ∙ ap Pointer to in
      unroll P start at used ∙ ap (read_piece (from_run P) P start at used) at_pointer ∙ ap (ending (at + 2)) (read_on p q o used s r.0 r.1 fits)

  -- a name written after the packet p, anywhere in what follows p
  pub read_back : (ls : List (List ℕ)) → Labels ls → (post : List ℕ) (start at used : ℕ) → length p ≤ start → drop at (p ++ q) ≡ by_labels p os ls ++ post
      → used + length (encode ls) ≤ 255 → from_run (p ++ q) start at used ≡ name (encode ls) (at + length (by_labels p os ls))
  unfolding by_labels
  read_back [] none post start at used later e fits =
      let g = head (p ++ q) at 0 post e in
      unroll (p ++ q) start at used ∙ ap (read_piece (from_run (p ++ q)) (p ++ q) start at used) (piece_root (p ++ q) start at used g.0 g.1)
  read_back (l ∷ ls) (one lo hi rest) post start at used later e fits = go (place_of p (encode (l ∷ ls)) os) refl e (read_back ls rest)
    where
      go : (x : Option ℕ) → place_of p (encode (l ∷ ls)) os ≡ x → drop at (p ++ q) ≡ cut_at x (length l ∷ (l ++ by_labels p os ls)) ++ post
          → ((post : List ℕ) (start at used : ℕ) → length p ≤ start → drop at (p ++ q) ≡ by_labels p os ls ++ post
          → used + length (encode ls) ≤ 255 → from_run (p ++ q) start at used ≡ name (encode ls) (at + length (by_labels p os ls)))
          → from_run (p ++ q) start at used ≡ name (encode (l ∷ ls)) (at + length (cut_at x (length l ∷ (l ++ by_labels p os ls))))
      go (Some o) is k ih = pointer_step (encode (l ∷ ls)) post o start at used is later k fits
      go None is k ih =
          label-step (p ++ q) l (by_labels p os ls) (encode ls) post start at used lo hi k fits (encode-pos ls)
          (λ d. ih post start (at + 1 + length l) (used + 1 + length l) later d (omega (arith, length-append l (encode ls))))

-- The read-back of a name: written after the bytes p ++ between, where p has every name before it, and followed by any bytes.
pub name_back : (p os between post : List ℕ) (n : ℕ) (ls : List (List ℕ)) → length p ≤ 16384 → Rising 12 n os → IsName ls
    → name_at (p ++ (between ++ (by_labels p os ls ++ post))) (length p + length between) ≡ name (encode ls)
    (length p + length between + length (by_labels p os ls))
unfolding name_at
name_back p os between post n ls small low ok =
    let there : drop (length p + length between) (p ++ (between ++ (by_labels p os ls ++ post))) ≡ by_labels p os ls ++ post =
    sym (drop-drop (length between) (length p) (p ++ (between ++ (by_labels p os ls ++ post))))
    ∙ ap (drop (length between)) (drop_at p (between ++ (by_labels p os ls ++ post)) (length p) refl) ∙ drop_at between (by_labels p os ls ++ post)
    (length between) refl in
    read_back p (between ++ (by_labels p os ls ++ post)) os n small low ls ok.labels post (length p + length between) (length p + length between) 0
    (omega arith) there (omega (arith, ok.short))

-- every offset of a list reads as a name of labels
pub data Read (P : List ℕ) : List ℕ → Type 0 where
  nothing : Read P []
  reads : {o : ℕ} {os : List ℕ} (ls : List (List ℕ)) (e : ℕ) → name_at P o ≡ name (encode ls) e → Read P os → Read P (o ∷ os)

-- The offsets that are noted for a name are those of names: its own suffixes, wherever it was cut.
pub places-read : (p q os : List ℕ) (n : ℕ) → length p ≤ 16384 → Rising 12 n os → (ls : List (List ℕ)) → Labels ls → (post : List ℕ) (at : ℕ) → length p ≤ at →
    drop at (p ++ q) ≡ by_labels p os ls ++ post
    → length (encode ls) ≤ 255 → Read (p ++ q) (places_by p os at ls)
unfolding by_labels places_by name_at
places-read p q os n small low [] none post at later e fits = nothing
places-read p q os n small low (l ∷ ls) (one lo hi rest) post at later e fits =
    go (place_of p (encode (l ∷ ls)) os) e (places-read p q os n small low ls rest post (at + 1 + length l) (omega arith))
  where
    go : (x : Option ℕ) → drop at (p ++ q) ≡ cut_at x (length l ∷ (l ++ by_labels p os ls)) ++ post
        → (drop (at + 1 + length l) (p ++ q) ≡ by_labels p os ls ++ post → length (encode ls) ≤ 255 → Read (p ++ q) (places_by p os (at + 1 + length l) ls))
        → Read (p ++ q) (none_at x (at ∷ places_by p os (at + 1 + length l) ls))
    go (Some o) k ih = nothing
    go None k ih =
        reads (l ∷ ls) _ (read_back p q os n small low (l ∷ ls) (one lo hi rest) post at at 0 later e (omega arith))
        (ih (tail_at (p ++ q) l (by_labels p os ls) post at k) (omega (arith, length-append l (encode ls))))
