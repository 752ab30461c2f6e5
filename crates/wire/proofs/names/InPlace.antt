-- Names that lie in a packet as they are: a name is read behind where it starts, an uncompressed one is read wherever it lies, and what is read without any
-- name before it is uncompressed. Assumes nothing.
use Prim.Native.Nat.{ℕ, zero, suc, ◌+◌, ◌<◌, ◌≤◌}
use mathlib.Core.Path.{◌≡◌, refl, sym, ap, ap₂, ◌∙◌}
use mathlib.Core.List.{List, [], ◌∷◌, ◌++◌, append_assoc}
use mathlib.Core.Bool.{Bool, true, false, cond, ◌&&◌}
use native.Mathlib.Numerals.{add-one}
use native.Mathlib.Omega.{arith}
use borrow.Author.Tests.{leb-true, ltb-true}
use mathlib.Mathlib.Data.Bool.Basic.{and-eq-true-eq-eq-true-and-eq-true as both}
use lib.ListN.{length, get_or, take, drop, length-append, length-drop, take-append-drop}
use lib.Seq.{take_at, drop_at, drop-drop, drop-cons, take-add, length-take-le}
use lib.Dec.{leb, ltb}
use Rattle.wire.specs.declared.name_pieces.Piece.{Piece}
use Rattle.wire.specs.declared.name_pieces.Piece.TheVariants.{Root, Label, Pointer, Bad}
use Rattle.wire.specs.name_pieces.Pieces.{piece_at}
use Rattle.wire.specs.case_folding.Fold.{lower, same_name}
use Rattle.wire.specs.names.Names.{Reading, name, malformed, before, ending, read_piece, read_from, from_run, name_at, labels_fill, is_name}
use Rattle.wire.specs.labels.Labels.{encode, Labels, none, one}
use Rattle.wire.proofs.labels.Encoded.{encode-pos, made_of}
use Rattle.wire.proofs.case_folding.Equal.{heads, same_length}
use Rattle.wire.proofs.name_pieces.Pieces.{is-root, is-label, pointer_back, pointer_far, piece_root, piece_label}
use Rattle.wire.proofs.names.Rest.{unroll}

-- a name ends behind where it starts
abbrev Onward : ℕ → Reading → Type 0
Onward at (name bs e) = at < e
Onward at malformed = Unit {0}

onward-before : (at n : ℕ) (xs : List ℕ) (x : Reading) → Onward (at + 1 + n) x → Onward at (before xs x)
onward-before at n xs (name ys e) h = omega arith
onward-before at n xs malformed h = tt

onward-ending : (at : ℕ) (x : Reading) → Onward at (ending (at + 2) x)
onward-ending at (name ys e) = omega arith
onward-ending at malformed = tt

onward-piece : (rest : ℕ → ℕ → ℕ → Reading) → ((s a u : ℕ) → Onward a (rest s a u)) → (p : List ℕ) (start at used : ℕ) (x : Piece) → Onward at (read_piece rest p start at used x)
onward-piece rest ih p start at used Root = omega arith
onward-piece rest ih p start at used (Label n) = onward-before at n (take (n + 1) (drop at p)) (rest start (at + 1 + n) (used + 1 + n)) (ih start (at + 1 + n) (used + 1 + n))
onward-piece rest ih p start at used (Pointer t) = onward-ending at (rest t t used)
onward-piece rest ih p start at used Bad = tt

onward : (f : ℕ) (p : List ℕ) (start at used : ℕ) → Onward at (read_from f p start at used)
unfolding read_from
onward zero p start at used = tt
onward (suc f) p start at used = onward-piece (read_from f p) (onward f p) p start at used (piece_at p start at used)

pub ends_behind : (p : List ℕ) (at : ℕ) (bs : List ℕ) (e : ℕ) → name_at p at ≡ name bs e → at < e
unfolding name_at from_run
ends_behind p at bs e h = let s : Onward at (name bs e) = rw h at (onward (at + 256) p at at 0) in s

-- what stands at a place, from what is left there
pub head : (p : List ℕ) (at x : ℕ) (r : List ℕ) → drop at p ≡ x ∷ r → (at < length p) × (get_or p at 0 ≡ x) × (drop (suc at) p ≡ r)
head [] zero x r e = let z : ◌≡◌ {A = ℕ} 0 1 = cc in absurd (omega arith)
head [] (suc at) x r e = let z : ◌≡◌ {A = ℕ} 0 1 = cc in absurd (omega arith)
head (y ∷ ys) zero x r e = (omega arith, cc, cc)
head (y ∷ ys) (suc at) x r e = let h = head ys at x r e in (omega arith, h.1, h.2)

-- what follows a label
pub tail_at : (P l w post : List ℕ) (at : ℕ) → drop at P ≡ (length l ∷ (l ++ w)) ++ post → drop (at + 1 + length l) P ≡ w ++ post
tail_at P l w post at e =
    let g = head P at (length l) (l ++ w ++ post) e in
    let skip : at + 1 + length l ≡ suc at + length l = omega arith in
    ap (λ (k : ℕ). drop k P) skip ∙ sym (drop-drop (length l) (suc at) P) ∙ ap (drop (length l)) (g.2 ∙ append_assoc l w post) ∙ drop_at l (w ++ post)
    (length l) refl

-- a label stands at a place, and the rest of the name, written as w, is read as s
pub label-step : (P l w s post : List ℕ) (start at used : ℕ) → 1 ≤ length l → length l < 64 → drop at P ≡ (length l ∷ (l ++ w)) ++ post
    → used + length (length l ∷ (l ++ s)) ≤ 255 → 1 ≤ length s
    → (drop (at + 1 + length l) P ≡ w ++ post → from_run P start (at + 1 + length l) (used + 1 + length l) ≡ name s (at + 1 + length l + length w))
    → from_run P start at used ≡ name (length l ∷ (l ++ s)) (at + length (length l ∷ (l ++ w)))
label-step P l w s post start at used lo hi e fits some rest =
    let n : ℕ = length l in
    let g = head P at n (l ++ w ++ post) e in
    let left : length P ≡ at + 1 + (n + length w + length post) = omega
    (arith, ap length e, length-drop at P, length-append (l ++ w) post, length-append l w) in
    let at_label : piece_at P start at used ≡ Label n =
    piece_label P start at used g.0 (omega arith) (omega arith) (omega arith) (omega (arith, length-append l s)) ∙ ap Label g.1 in
    let body : take (n + 1) (drop at P) ≡ n ∷ l =
    ap (λ (k : ℕ). take k (drop at P)) (add-one n) ∙ ap (take (suc n)) e
    ∙ ap (λ (r : List ℕ). n ∷ r) (ap (take n) (append_assoc l w post) ∙ take_at l (w ++ post) n refl) in
    unroll P start at used ∙ ap (read_piece (from_run P) P start at used) at_label ∙ ap₂ before body (rest (tail_at P l w post at e))
    ∙ ap (name (n ∷ (l ++ s))) (omega (arith, length-append l w))

-- the labels of an uncompressed name are read where they lie
labels-here : (ls : List (List ℕ)) → Labels ls → (P post : List ℕ) (start at used : ℕ) → drop at P ≡ encode ls ++ post → used + length (encode ls) ≤ 255
    → from_run P start at used ≡ name (encode ls) (at + length (encode ls))
labels-here [] none P post start at used e fits =
    let g = head P at 0 post e in
    unroll P start at used ∙ ap (read_piece (from_run P) P start at used) (piece_root P start at used g.0 g.1)
labels-here (l ∷ ls) (one lo hi rest) P post start at used e fits =
    label-step P l (encode ls) (encode ls) post start at used lo hi e fits (encode-pos ls)
    (λ d. labels-here ls rest P post start (at + 1 + length l) (used + 1 + length l) d (omega (arith, length-append l (encode ls))))

-- so is the name
pub read_in_place : (P bs post : List ℕ) (at : ℕ) → is_name bs ≡ true → drop at P ≡ bs ++ post → name_at P at ≡ name bs (at + length bs)
unfolding name_at
read_in_place P bs post at ok e =
    let m = made_of bs ok in
    let is : encode m.0 ≡ bs = sym m.2 in
    let fits : 0 + length (encode m.0) ≤ 255 = omega (arith, m.1.short) in
    labels-here m.0 m.1.labels P post at at 0 (e ∙ ap (λ (l : List ℕ). l ++ post) m.2) fits
    ∙ ap (λ (l : List ℕ). name l (at + length l)) is

-- the bytes that were read are those that lie there
abbrev Lies : List ℕ → ℕ → Reading → Type 0
Lies p at (name bs e) = (e ≡ at + length bs) × (take (length bs) (drop at p) ≡ bs)
Lies p at malformed = Unit {0}

-- a target is at least 12, so from a run that starts there or before it no pointer leads anywhere
lies_piece : (start : ℕ) → start ≤ 12 → (rest : ℕ → ℕ → ℕ → Reading) (p : List ℕ) → ((a u : ℕ) → Lies p a (rest start a u)) → (at used : ℕ) (x : Piece)
    → piece_at p start at used ≡ x → Lies p at (read_piece rest p start at used x)
lies_piece start low rest p ih at used Root e = let f = is-root p start at used e in (refl, ap (take 1) (drop-cons p at 0 f.0) ∙ ap (λ (b : ℕ). b ∷ []) f.1)
lies_piece start low rest p ih at used (Label n) e = go (rest start (at + 1 + n) (used + 1 + n)) (ih (at + 1 + n) (used + 1 + n))
  where
    f : (at < length p) × (get_or p at 0 ≡ 0 → ⊥) × (get_or p at 0 < 64) × (at + 1 + get_or p at 0 ≤ length p) × (used + 1 + get_or p at 0 < 255) × (get_or p at 0 ≡ n)
    f = is-label p start at used n e

    xs : List ℕ
    xs = take (n + 1) (drop at p)

    long : length xs ≡ n + 1
    long = length-take-le (n + 1) (drop at p) (omega (arith, length-drop at p, f.3, f.5))

    go : (x : Reading) → Lies p (at + 1 + n) x → Lies p at (before xs x)
    go (name ys d) h =
        let next : at + (n + 1) ≡ at + 1 + n = omega arith in
        let more : length (take (n + 1) (drop at p) ++ ys) ≡ n + 1 + length ys = length-append (take (n + 1) (drop at p)) ys ∙ ap (λ (k : ℕ). k + length ys) long in (
          omega (arith, h.0, more),
          ap (λ (k : ℕ). take k (drop at p)) more ∙ take-add (n + 1) (length ys) (drop at p)
              ∙ ap (λ (l : List ℕ). take (n + 1) (drop at p) ++ l) (ap (take (length ys)) (drop-drop (n + 1) at p ∙ ap (λ (k : ℕ). drop k p) next) ∙ h.1),
        )
    go malformed h = tt
lies_piece start low rest p ih at used (Pointer t) e = absurd (omega (arith, pointer_back p start at used t e, pointer_far p start at used t e))
lies_piece start low rest p ih at used Bad e = tt

lies : (start : ℕ) → start ≤ 12 → (f : ℕ) (p : List ℕ) (at used : ℕ) → Lies p at (read_from f p start at used)
unfolding read_from
lies start low zero p at used = tt
lies start low (suc f) p at used = lies_piece start low (read_from f p) p (lies start low f p) at used (piece_at p start at used) refl

pub front_plain : (p bs : List ℕ) (e : ℕ) → name_at p 0 ≡ name bs e → (e ≡ length bs) × (p ≡ bs ++ drop (length bs) p)
unfolding name_at from_run
front_plain p bs e h =
    let s : Lies p 0 (name bs e) = rw h at (lies 0 (omega arith) (0 + 256) p 0 0) in
    (omega (arith, s.0), sym (ap (λ (l : List ℕ). l ++ drop (length bs) p) (sym s.1) ∙ take-append-drop (length bs) p))

-- the first name behind a header holds no pointer: its bytes lie there as they were read
pub first_plain : (p bs : List ℕ) (e : ℕ) → name_at p 12 ≡ name bs e → (e ≡ 12 + length bs) × (take (length bs) (drop 12 p) ≡ bs)
unfolding name_at from_run
first_plain p bs e h = rw h at (lies 12 (omega arith) (12 + 256) p 12 0)

-- a length byte is below every letter, so only itself folds to it
length-only : (y n : ℕ) → n < 64 → n ≡ lower y → y ≡ n
length-only y n h = go (leb 65 y && leb y 90) refl
  where
    go : (b : Bool) → (leb 65 y && leb y 90) ≡ b → n ≡ cond b (y + 32) y → y ≡ n
    go true t e = absurd (omega (arith, leb-true 65 y ((both (leb 65 y) (leb y 90)).0 t).0))
    go false t e = sym e

low-kept : (n : ℕ) → n < 64 → lower n ≡ n
low-kept n h = go (leb 65 n && leb n 90) refl
  where
    go : (b : Bool) → (leb 65 n && leb n 90) ≡ b → cond b (n + 32) n ≡ n
    go true t = absurd (omega (arith, leb-true 65 n ((both (leb 65 n) (leb n 90)).0 t).0))
    go false t = refl

-- bytes that equal a name, letters folded, are a name
same_fills : (k : ℕ) (a b : List ℕ) → same_name a b ≡ true → labels_fill k a ≡ true → labels_fill k b ≡ true
unfolding labels_fill same_name
same_fills k [] b s h = let z : ◌≡◌ {A = ℕ} 0 1 = cc in absurd (omega arith)
same_fills k (x ∷ xs) [] s h = let z : ◌≡◌ {A = ℕ} 0 1 = cc in absurd (omega arith)
same_fills (suc k) (x ∷ xs) (y ∷ ys) s h = same_fills k xs ys (heads x y xs ys s).1 h
same_fills zero (zero ∷ []) (y ∷ ys) s h = go y ys (length-only y 0 (omega arith) (heads 0 y [] ys s).0) (same_length [] ys (heads 0 y [] ys s).1)
  where
    go : (y : ℕ) (ys : List ℕ) → y ≡ 0 → 0 ≡ length ys → labels_fill 0 (y ∷ ys) ≡ true
    go y [] e l = rw e
    go y (c ∷ cs) e l = absurd (omega arith)
same_fills zero (zero ∷ (c ∷ cs)) (y ∷ ys) s h = let z : ◌≡◌ {A = ℕ} 0 1 = cc in absurd (omega arith)
same_fills zero (suc n ∷ xs) (y ∷ ys) s h =
    let g = (both (ltb (suc n) 64) (labels_fill (suc n) xs)).0 h in
    let q = heads (suc n) y xs ys s in
    let e : y ≡ suc n = length-only y (suc n) (ltb-true _ _ g.0) (sym (low-kept (suc n) (ltb-true _ _ g.0)) ∙ q.0) in
    rw e (simp g.0 (same_fills (suc n) xs ys q.1 g.1))

pub same_is_name : (a b : List ℕ) → same_name a b ≡ true → is_name a ≡ true → is_name b ≡ true
same_is_name a b s h =
    let g = (both (labels_fill 0 a) (leb (length a) 255)).0 h in
    let l : leb (length b) 255 ≡ true = ap (λ (n : ℕ). leb n 255) (sym (same_length a b s)) ∙ g.1 in
    simp (same_fills 0 a b s g.0, l)
