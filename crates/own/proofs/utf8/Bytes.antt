-- What a screen can show, byte by byte. Assumes nothing.
use mathlib.Core.Path.{◌≡◌, refl, sym, ap, ◌∙◌}
use mathlib.Core.List.{List, [], ◌∷◌}
use mathlib.Core.Bool.{Bool, true, false, ◌&&◌, and-false, and-true, or-true}
use Prim.Native.Nat.{ℕ, ◌+◌, ◌-◌, ◌<◌, ◌≤◌}
use native.Mathlib.Numerals.{add-one}
use native.Mathlib.Omega.{arith}
use borrow.Author.Tests.{le-leb, lt-leb, lt-ltb, le-ltb, eq-eqb, ne_eqb, leb-true}
use mathlib.Mathlib.Data.Bool.Basic.{and-eq-true-eq-eq-true-and-eq-true as both}
use lib.ListN.{length, get_or, drop, drop_of_length-le}
use lib.Seq.{drop-cons}
use lib.Dec.{leb}
use Rattle.own.specs.declared.utf8.Next.{Next}
use Rattle.own.specs.utf8.Utf8.{owing, within, starts, following, may_stand, behind, shown_from, is_shown, all_plain}

module _ (low high b : ℕ) where
  pub below : b < low → false ≡ within low high b
  unfolding within
  below h = sym (simp (lt-leb _ _ h))

  pub from_low : low ≤ b → leb b high ≡ within low high b
  unfolding within
  from_low h = sym (simp (le-leb _ _ h))

  pub between : low ≤ b → b ≤ high → within low high b ≡ true
  unfolding within
  between h k = simp (le-leb _ _ h, le-leb _ _ k)

  pub within-true : within low high b ≡ true → (low ≤ b) × (b ≤ high)
  unfolding within
  within-true h = let f = (both (leb low b) (leb b high)).0 h in (leb-true _ _ f.0, leb-true _ _ f.1)

-- a first byte
module _ (b : ℕ) (v : Bool) (is : v ≡ within 0x20 0x7E b) where
  pub starts-plain : v ≡ true → true ≡ starts b
  unfolding starts
  starts-plain t = sym (simp (sym is ∙ t))

  pub starts-lead : v ≡ false → (w : Bool) → w ≡ within 0xC2 0xF4 b → w ≡ starts b
  unfolding starts
  starts-lead t w iw = sym (simp (sym is ∙ t) (sym iw))

pub starts-led : (b : ℕ) → 0xC2 ≤ b → b ≤ 0xF4 → starts b ≡ true
unfolding starts
starts-led b h k = simp (between 0xC2 0xF4 b h k) (or-true (within 0x20 0x7E b))

-- what follows it, by the table
module _ (b : ℕ) where
  pub follows-1 : b < 0x80 → following b ≡ owing 0 0x80 0xBF
  unfolding following
  follows-1 h = simp (lt-ltb _ _ h)

  pub follows-2 : 0x80 ≤ b → b < 0xE0 → following b ≡ owing 1 0x80 0xBF
  unfolding following
  follows-2 h k = simp (le-ltb _ _ h, lt-ltb _ _ k)

  pub follows-E0 : b ≡ 0xE0 → following b ≡ owing 2 0xA0 0xBF
  unfolding following
  follows-E0 e = rw e

  pub follows-ED : b ≡ 0xED → following b ≡ owing 2 0x80 0x9F
  unfolding following
  follows-ED e = rw e

  pub follows-3 : 0xE0 ≤ b → (b ≡ 0xE0 → ⊥) → (b ≡ 0xED → ⊥) → b < 0xF0 → following b ≡ owing 2 0x80 0xBF
  unfolding following
  follows-3 g m n k = let h : 0x80 ≤ b = omega arith in simp (le-ltb _ _ h, le-ltb _ _ g, ne_eqb _ _ m, ne_eqb _ _ n, lt-ltb _ _ k)

  pub follows-F0 : b ≡ 0xF0 → following b ≡ owing 3 0x90 0xBF
  unfolding following
  follows-F0 e = rw e

  pub follows-F4 : b ≡ 0xF4 → following b ≡ owing 3 0x80 0x8F
  unfolding following
  follows-F4 e = rw e

  pub follows-4 : 0xF0 ≤ b → (b ≡ 0xF0 → ⊥) → (b ≡ 0xF4 → ⊥) → following b ≡ owing 3 0x80 0xBF
  unfolding following
  follows-4 k m n =
      let g : 0x80 ≤ b = omega arith in
      let h : 0xE0 ≤ b = omega arith in
      let p : b ≡ 0xE0 → ⊥ = (λ e. omega arith) in
      let q : b ≡ 0xED → ⊥ = (λ e. omega arith) in
      simp (le-ltb _ _ g, le-ltb _ _ h, ne_eqb _ _ p, ne_eqb _ _ q, le-ltb _ _ k, ne_eqb _ _ m, ne_eqb _ _ n)

-- a byte at its place
module _ (next : Next) (b : ℕ) where
  pub stands_first : next.owed ≡ 0 → may_stand next b ≡ starts b
  unfolding may_stand
  stands_first e = simp (eq-eqb _ _ e)

  pub stands_owed : (next.owed ≡ 0 → ⊥) → may_stand next b ≡ within next.low next.high b
  unfolding may_stand
  stands_owed e = simp (ne_eqb _ _ e)

  pub behind-first : next.owed ≡ 0 → behind next b ≡ following b
  unfolding behind
  behind-first e = simp (eq-eqb _ _ e)

  pub behind-owed : (next.owed ≡ 0 → ⊥) → behind next b ≡ owing (next.owed - 1) 0x80 0xBF
  unfolding behind
  behind-owed e = simp (ne_eqb _ _ e)

-- plain bytes may stand wherever a character starts
pub plain-shown : (s : List ℕ) → all_plain s ≡ true → true ≡ is_shown s
unfolding is_shown all_plain shown_from may_stand behind
plain-shown [] h = refl
plain-shown (b ∷ bs) h =
    let f = (both (within 0x20 0x7E b) (all_plain bs)).0 h in
    let r = within-true 0x20 0x7E b f.0 in
    let k : b < 0x80 = omega (arith, r.1) in
    let t = starts-plain b _ refl f.0 in
    plain-shown bs f.1 ∙ sym (simp (sym t, follows-1 b k))

-- a turn of the loop over the bytes
module _ (s : List ℕ) (i : ℕ) where
  pub plain_end : (v : Bool) → length s ≤ i → all_plain s ≡ (v && all_plain (drop i s)) → v ≡ all_plain s
  unfolding all_plain
  plain_end v h inv = sym (inv ∙ rw (drop_of_length-le s h) (and-true v))

  module _ (h : i < length s) where
    pub front : drop i s ≡ get_or s i 0 ∷ drop (i + 1) s
    front = drop-cons s i 0 h ∙ ap (λ (k : ℕ). get_or s i 0 ∷ drop k s) (sym (add-one i))

    module _ (p : Bool) (inv : all_plain s ≡ (p && all_plain (drop i s))) (v : Bool) (is : v ≡ within 0x20 0x7E (get_or s i 0)) where
      plain_turn : all_plain s ≡ (p && (v && all_plain (drop (i + 1) s)))
      unfolding all_plain
      plain_turn = inv ∙ rw (front, is)

      pub plain-on : v ≡ true → (w : Bool) → w ≡ p → all_plain s ≡ (w && all_plain (drop (i + 1) s))
      plain-on t w k = plain_turn ∙ simp (t, k)

      pub plain-lost : v ≡ false → (w : Bool) → w ≡ false → all_plain s ≡ (w && all_plain (drop (i + 1) s))
      plain-lost t w k = plain_turn ∙ simp (t, k, and-false)
