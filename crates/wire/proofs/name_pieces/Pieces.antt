-- Which tests say which piece stands at a place of a name, and back. Assumes nothing.
use mathlib.Core.Path.{◌≡◌, refl}
use mathlib.Core.List.{List}
use mathlib.Core.Bool.{Bool, true, false, cond, ◌&&◌}
use Prim.Native.Nat.{ℕ, ◌+◌, ◌<◌, ◌≤◌}
use native.Mathlib.Omega.{arith}
use borrow.Author.Tests.{lt-ltb, le-ltb, le-leb, lt-leb, eq-eqb, ne_eqb, ltb-true, ltb-false, leb-true, eqb-true, eqb-false}
use lib.ListN.{length, get_or}
use lib.Dec.{ltb, leb, eqb}
use mathlib.Mathlib.Data.Bool.Basic.{and-eq-true-eq-eq-true-and-eq-true as both}
use Rattle.wire.specs.name_pieces.Pieces.{piece_at, target, good_label, good_pointer}
use Rattle.wire.specs.declared.name_pieces.Piece.{Piece}
use Rattle.wire.specs.declared.name_pieces.Piece.TheVariants.{Root, Label, Pointer, Bad}

-- which tests a piece has passed
abbrev Passed : (b1 b2 b3 b4 b5 b6 : Bool) (k t : ℕ) → Piece → Type 0
Passed b1 b2 b3 b4 b5 b6 k t Root = (b1 ≡ true) × (b2 ≡ true)
Passed b1 b2 b3 b4 b5 b6 k t (Label n) = (b1 ≡ true) × (b2 ≡ false) × (b3 ≡ true) × (b4 ≡ true) × (k ≡ n)
Passed b1 b2 b3 b4 b5 b6 k t (Pointer n) = (b1 ≡ true) × (b5 ≡ false) × (b6 ≡ true) × (t ≡ n)
Passed b1 b2 b3 b4 b5 b6 k t Bad = Unit {0}

passed : (b1 b2 b3 b4 b5 b6 : Bool) (k t : ℕ)
    → Passed b1 b2 b3 b4 b5 b6 k t (cond b1 (cond b2 Root (cond b3 (cond b4 (Label k) Bad) (cond b5 Bad (cond b6 (Pointer t) Bad)))) Bad)
passed false b2 b3 b4 b5 b6 k t = tt
passed true true b3 b4 b5 b6 k t = (refl, refl)
passed true false true true b5 b6 k t = (refl, refl, refl, refl, refl)
passed true false true false b5 b6 k t = tt
passed true false false b4 true b6 k t = tt
passed true false false b4 false true k t = (refl, refl, refl, refl)
passed true false false b4 false false k t = tt

module _ (p : List ℕ) (start at used : ℕ) where
  facts : (x : Piece) → piece_at p start at used ≡ x
      → Passed (ltb at (length p)) (eqb (get_or p at 0) 0) (ltb (get_or p at 0) 64) (good_label p at used) (ltb (get_or p at 0) 192) (good_pointer p start at) (get_or p at 0) (target p at) x
  unfolding piece_at
  facts x e = rw e at (passed (ltb at (length p)) (eqb (get_or p at 0) 0) (ltb (get_or p at 0) 64) (good_label p at used) (ltb (get_or p at 0) 192) (good_pointer p start at) (get_or p at 0) (target p at))

  pub is-root : piece_at p start at used ≡ Root → (at < length p) × (get_or p at 0 ≡ 0)
  is-root e = let f = facts Root e in (ltb-true _ _ f.0, eqb-true _ _ f.1)

  pub is-label : (n : ℕ) → piece_at p start at used ≡ Label n
      → (at < length p) × (get_or p at 0 ≡ 0 → ⊥) × (get_or p at 0 < 64) × (at + 1 + get_or p at 0 ≤ length p) × (used + 1 + get_or p at 0 < 255) × (get_or p at 0 ≡ n)
  is-label n e =
      let f = facts (Label n) e in
      let g = (both (leb (at + 1 + get_or p at 0) (length p)) (ltb (used + 1 + get_or p at 0) 255)).0 f.3 in
      (ltb-true _ _ f.0, eqb-false _ _ f.1, ltb-true _ _ f.2, leb-true _ _ g.0, ltb-true _ _ g.1, f.4)

  pub is_pointer_lem : (t : ℕ) → piece_at p start at used ≡ Pointer t
      → (at < length p) × (192 ≤ get_or p at 0) × (at + 1 < length p) × (12 ≤ target p at) × (target p at < start) × (target p at ≡ t)
  is_pointer_lem t e =
      let f = facts (Pointer t) e in
      let g = (both (ltb (at + 1) (length p) && leb 12 (target p at)) (ltb (target p at) start)).0 f.2 in
      let h = (both (ltb (at + 1) (length p)) (leb 12 (target p at))).0 g.0 in
      (ltb-true _ _ f.0, ltb-false _ _ f.1, ltb-true _ _ h.0, leb-true _ _ h.1, ltb-true _ _ g.1, f.3)

  -- a label lies in the packet and leaves room for the zero byte
  pub label-in : (n : ℕ) → piece_at p start at used ≡ Label n → at + 1 + n ≤ length p
  label-in n e = let f = is-label n e in omega (arith, f.3, f.5)

  pub label-room : (n : ℕ) → piece_at p start at used ≡ Label n → used + 1 + n < 255
  label-room n e = let f = is-label n e in omega (arith, f.4, f.5)

  -- a pointer lies in the packet and leads to an earlier run
  pub pointer_in : (t : ℕ) → piece_at p start at used ≡ Pointer t → at + 1 < length p
  pointer_in t e = (is_pointer_lem t e).2

  pub pointer_back : (t : ℕ) → piece_at p start at used ≡ Pointer t → t < start
  pointer_back t e = let f = is_pointer_lem t e in omega (arith, f.4, f.5)

  pub pointer_far : (t : ℕ) → piece_at p start at used ≡ Pointer t → 12 ≤ t
  pointer_far t e = let f = is_pointer_lem t e in omega (arith, f.3, f.5)

  pub piece_past : length p ≤ at → piece_at p start at used ≡ Bad
  unfolding piece_at
  piece_past h = simp (le-ltb _ _ h)

  pub piece_root : at < length p → get_or p at 0 ≡ 0 → piece_at p start at used ≡ Root
  unfolding piece_at
  piece_root h z = simp (lt-ltb _ _ h, eq-eqb _ _ z)

  pub piece_long : at < length p → (get_or p at 0 ≡ 0 → ⊥) → get_or p at 0 < 64 → length p < at + 1 + get_or p at 0 → piece_at p start at used ≡ Bad
  unfolding piece_at
  piece_long h z s l = simp (lt-ltb _ _ h, ne_eqb _ _ z, lt-ltb _ _ s, lt-leb _ _ l)

  pub piece_full : at < length p → (get_or p at 0 ≡ 0 → ⊥) → get_or p at 0 < 64 → at + 1 + get_or p at 0 ≤ length p → 255 ≤ used + 1 + get_or p at 0 → piece_at p start at used ≡ Bad
  unfolding piece_at
  piece_full h z s l f = simp (lt-ltb _ _ h, ne_eqb _ _ z, lt-ltb _ _ s, le-leb _ _ l, le-ltb _ _ f)

  pub piece_label : at < length p → (get_or p at 0 ≡ 0 → ⊥) → get_or p at 0 < 64 → at + 1 + get_or p at 0 ≤ length p → used + 1 + get_or p at 0 < 255 → piece_at p start at used ≡ Label (get_or p at 0)
  unfolding piece_at
  piece_label h z s l f = simp (lt-ltb _ _ h, ne_eqb _ _ z, lt-ltb _ _ s, le-leb _ _ l, lt-ltb _ _ f)

  pub piece_reserved : at < length p → (get_or p at 0 ≡ 0 → ⊥) → 64 ≤ get_or p at 0 → get_or p at 0 < 192 → piece_at p start at used ≡ Bad
  unfolding piece_at
  piece_reserved h z s r = simp (lt-ltb _ _ h, ne_eqb _ _ z, le-ltb _ _ s, lt-ltb _ _ r)

  module _ (h : at < length p) (r : 192 ≤ get_or p at 0) where
    not-zero : get_or p at 0 ≡ 0 → ⊥
    not-zero e = omega arith

    not-label : 64 ≤ get_or p at 0
    not-label = omega arith

    pub piece_short : length p ≤ at + 1 → piece_at p start at used ≡ Bad
    unfolding piece_at
    piece_short l = simp (lt-ltb _ _ h, ne_eqb _ _ not-zero, le-ltb _ _ not-label, le-ltb _ _ r, le-ltb _ _ l)

    pub piece_header : at + 1 < length p → target p at < 12 → piece_at p start at used ≡ Bad
    unfolding piece_at
    piece_header l f = simp (lt-ltb _ _ h, ne_eqb _ _ not-zero, le-ltb _ _ not-label, le-ltb _ _ r, lt-ltb _ _ l, lt-leb _ _ f)

    pub piece_forward : at + 1 < length p → 12 ≤ target p at → start ≤ target p at → piece_at p start at used ≡ Bad
    unfolding piece_at
    piece_forward l f b = simp (lt-ltb _ _ h, ne_eqb _ _ not-zero, le-ltb _ _ not-label, le-ltb _ _ r, lt-ltb _ _ l, le-leb _ _ f, le-ltb _ _ b)

    pub piece_pointer : at + 1 < length p → 12 ≤ target p at → target p at < start → piece_at p start at used ≡ Pointer (target p at)
    unfolding piece_at
    piece_pointer l f b = simp (lt-ltb _ _ h, ne_eqb _ _ not-zero, le-ltb _ _ not-label, le-ltb _ _ r, lt-ltb _ _ l, le-leb _ _ f, lt-ltb _ _ b)
