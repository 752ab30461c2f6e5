-- Uncompressed names: what a name in a packet expands to is one, and none is a proper beginning of another. Assumes nothing.
use mathlib.Core.Path.{◌≡◌, refl, sym, ap, ◌∙◌}
use mathlib.Core.List.{List, [], ◌∷◌, ◌++◌}
use mathlib.Core.Bool.{Bool, true, false, ◌&&◌, and-false, and-true}
use Prim.Native.Nat.{ℕ, zero, suc, ◌+◌, ◌-◌, ◌<◌, ◌≤◌}
use native.Mathlib.Omega.{arith}
use native.Mathlib.Numerals.{add-one}
use borrow.Author.Tests.{lt-ltb, le-ltb, le-leb, lt-leb, eq-eqb, ne_eqb}
use lib.ListN.{length, get_or, take, drop, length-drop, drop_of_length-le}
use lib.Seq.{drop-cons, drop-drop, length-take-le}
use lib.Dec.{ltb, leb, eqb}
use Rattle.wire.specs.name_pieces.Pieces.{piece_at}
use Rattle.wire.specs.names.Names.{Reading, name, malformed, before, ending, read_piece, read_from, from_run, name_at, labels_fill, is_name}
use Rattle.wire.specs.declared.name_pieces.Piece.{Piece}
use Rattle.wire.specs.declared.name_pieces.Piece.TheVariants.{Root, Label, Pointer, Bad}
use Rattle.wire.proofs.name_pieces.Pieces.{is-label}
use Rattle.wire.proofs.names.Use.{at_most-255}

-- the bytes of a label are passed over
skip : (xs ys : List ℕ) → labels_fill (length xs) (xs ++ ys) ≡ labels_fill 0 ys
unfolding labels_fill
skip [] ys = refl
skip (x ∷ xs) ys = skip xs ys

-- a label in front of labels that fill
label-fills : (n : ℕ) (xs ys : List ℕ) → (n ≡ 0 → ⊥) → n < 64 → length xs ≡ n → labels_fill 0 ys ≡ true → labels_fill 0 (n ∷ (xs ++ ys)) ≡ true
unfolding labels_fill
label-fills zero xs ys z s l h = absurd (z refl)
label-fills (suc n) xs ys z s l h =
    let e : labels_fill (suc n) (xs ++ ys) ≡ true = ap (λ (k : ℕ). labels_fill k (xs ++ ys)) (sym l) ∙ skip xs ys ∙ h in
    simp (lt-ltb _ _ s, e)

abbrev Fills : Reading → Type 0
Fills (name bs e) = labels_fill 0 bs ≡ true
Fills malformed = Unit {0}

fills_before : (n : ℕ) (xs : List ℕ) → (n ≡ 0 → ⊥) → n < 64 → length xs ≡ n → (x : Reading) → Fills x → Fills (before (n ∷ xs) x)
fills_before n xs z s l (name ys e) h = label-fills n xs ys z s l h
fills_before n xs z s l malformed h = tt

fills_ending : (e : ℕ) (x : Reading) → Fills x → Fills (ending e x)
fills_ending e (name ys d) h = h
fills_ending e malformed h = tt

fills_piece : (rest : ℕ → ℕ → ℕ → Reading) → ((s a u : ℕ) → Fills (rest s a u)) → (p : List ℕ) (start at used : ℕ) (x : Piece) → piece_at p start at used ≡ x
    → Fills (read_piece rest p start at used x)
unfolding labels_fill
fills_piece rest ih p start at used Root e = refl
fills_piece rest ih p start at used (Label n) e =
    let f = is-label p start at used n e in
    let front : take (n + 1) (drop at p) ≡ n ∷ take n (drop (suc at) p) =
    ap (λ (k : ℕ). take k (drop at p)) (add-one n) ∙ ap (take (suc n)) (drop-cons p at 0 f.0)
    ∙ ap (λ (k : ℕ). k ∷ take n (drop (suc at) p)) f.5 in
    let long : length (take n (drop (suc at) p)) ≡ n =
    length-take-le n (drop (suc at) p) (omega (arith, length-drop (suc at) p, f.3, f.5)) in
    rw front (fills_before n (take n (drop (suc at) p)) (λ z. f.1 (f.5 ∙ z)) (omega (arith, f.2, f.5)) long (rest start (at + 1 + n) (used + 1 + n)) (ih start (at + 1 + n) (used + 1 + n)))
fills_piece rest ih p start at used (Pointer t) e = fills_ending (at + 2) (rest t t used) (ih t t used)
fills_piece rest ih p start at used Bad e = tt

fills : (f : ℕ) (p : List ℕ) (start at used : ℕ) → Fills (read_from f p start at used)
unfolding read_from
fills zero p start at used = tt
fills (suc f) p start at used = fills_piece (read_from f p) (fills f p) p start at used (piece_at p start at used) refl

-- an expanded name is well formed
pub expanded-is_name : (p : List ℕ) (at : ℕ) (bs : List ℕ) (e : ℕ) → name_at p at ≡ name bs e → is_name bs ≡ true
unfolding name_at from_run
expanded-is_name p at bs e h =
    let f : Fills (name bs e) = rw h at (fills (at + 256) p at at 0) in
    let g : labels_fill 0 bs ≡ true = f in
    simp (g, le-leb _ _ (at_most-255 p at bs e h))

-- where one list of labels and a longer one both fill, nothing is longer
no_more : (k : ℕ) (a x : List ℕ) → labels_fill k a ≡ true → labels_fill k (a ++ x) ≡ true → x ≡ []
unfolding labels_fill
no_more k [] x h g = let z : ◌≡◌ {A = ℕ} 0 1 = cc in absurd (omega arith)
no_more (suc k) (b ∷ bs) x h g = no_more k bs x h g
no_more zero (zero ∷ []) [] h g = refl
no_more zero (zero ∷ []) (y ∷ ys) h g = let z : ◌≡◌ {A = ℕ} 0 1 = cc in absurd (omega arith)
no_more zero (zero ∷ (c ∷ cs)) x h g = let z : ◌≡◌ {A = ℕ} 0 1 = cc in absurd (omega arith)
no_more zero (suc n ∷ bs) x h g = no_more (suc n) bs x (right (ltb (suc n) 64) (labels_fill (suc n) bs) h) (right (ltb (suc n) 64) (labels_fill (suc n) (bs ++ x)) g)
  where
    right : (a b : Bool) → (a && b) ≡ true → b ≡ true
    right true b e = e
    right false b e = let z : ◌≡◌ {A = ℕ} 0 1 = cc in absurd (omega arith)

fills_of : (bs : List ℕ) → is_name bs ≡ true → labels_fill 0 bs ≡ true
fills_of bs h = left (labels_fill 0 bs) (leb (length bs) 255) h
  where
    left : (a b : Bool) → (a && b) ≡ true → a ≡ true
    left true b e = refl
    left false b e = let z : ◌≡◌ {A = ℕ} 0 1 = cc in absurd (omega arith)

-- no name is a proper beginning of another
pub no_proper_beginning : (a x : List ℕ) → is_name a ≡ true → is_name (a ++ x) ≡ true → x ≡ []
no_proper_beginning a x h g = no_more 0 a x (fills_of a h) (fills_of (a ++ x) g)

-- a label at a time: the bytes of a label are passed over, also where it runs past the end
pub labels-on : (k : ℕ) (l : List ℕ) → labels_fill k l ≡ labels_fill 0 (drop k l)
unfolding labels_fill
labels-on zero l = refl
labels-on (suc k) [] = refl
labels-on (suc k) (b ∷ bs) = labels-on k bs

module _ (s : List ℕ) (at : ℕ) (lt : at < length s) (inv : labels_fill 0 s ≡ labels_fill 0 (drop at s)) where
  front : drop at s ≡ get_or s at 0 ∷ drop (at + 1) s
  front = drop-cons s at 0 lt ∙ ap (λ (k : ℕ). get_or s at 0 ∷ drop k s) (sym (add-one at))

  pub labels-root : get_or s at 0 ≡ 0 → labels_fill 0 s ≡ eqb (at + 1) (length s)
  unfolding labels_fill
  labels-root z = inv ∙ rw (front, z) (go (drop (at + 1) s) (length-drop (at + 1) s))
    where
      go : (l : List ℕ) → length l ≡ length s - (at + 1) → labels_fill 0 (0 ∷ l) ≡ eqb (at + 1) (length s)
      go [] h = let e : at + 1 ≡ length s = omega arith in sym (eq-eqb _ _ e)
      go (c ∷ cs) h = let e : at + 1 ≡ length s → ⊥ = λ q. omega arith in sym (ne_eqb _ _ e)

  at_label : (n : ℕ) → get_or s at 0 ≡ n → labels_fill 0 s ≡ labels_fill 0 (n ∷ drop (at + 1) s)
  at_label n e = inv ∙ rw (front, e)

  pub labels-reserved : (n : ℕ) → get_or s at 0 ≡ n → 64 ≤ n → labels_fill 0 s ≡ false
  unfolding labels_fill
  labels-reserved n e h = at_label n e ∙ go n h
    where
      go : (m : ℕ) → 64 ≤ m → labels_fill 0 (m ∷ drop (at + 1) s) ≡ false
      go zero h = absurd (omega arith)
      go (suc m) h = simp (le-ltb _ _ h)

  pub labels_next : (n : ℕ) → get_or s at 0 ≡ n → (n ≡ 0 → ⊥) → n < 64 → labels_fill 0 s ≡ labels_fill 0 (drop (at + 1 + n) s)
  unfolding labels_fill
  labels_next n e z h = at_label n e ∙ go n z h
    where
      go : (m : ℕ) → (m ≡ 0 → ⊥) → m < 64 → labels_fill 0 (m ∷ drop (at + 1) s) ≡ labels_fill 0 (drop (at + 1 + m) s)
      go zero z h = absurd (z refl)
      go (suc m) z h = simp (lt-ltb _ _ h) (labels-on (suc m) (drop (at + 1) s) ∙ ap (labels_fill 0) (drop-drop (suc m) (at + 1) s))

pub labels-end : (s : List ℕ) (at : ℕ) → length s ≤ at → labels_fill 0 s ≡ labels_fill 0 (drop at s) → labels_fill 0 s ≡ false
unfolding labels_fill
labels-end s at h inv = inv ∙ rw (drop_of_length-le s h)

-- the answer of the test, from that of the labels
pub name-long : (s : List ℕ) → 255 < length s → false ≡ is_name s
name-long s h = sym (simp (lt-leb _ _ h) (and-false (labels_fill 0 s)))

pub name-short : (s : List ℕ) (b : Bool) → length s ≤ 255 → labels_fill 0 s ≡ b → b ≡ is_name s
name-short s b h e = sym (simp (le-leb _ _ h) (and-true (labels_fill 0 s) ∙ e))
