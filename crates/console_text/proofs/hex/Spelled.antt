-- Bytes as hex digits, written one by one. Assumes nothing.
use mathlib.Core.Path.{◌≡◌, refl, sym, ap, ◌∙◌}
use mathlib.Core.List.{List, [], ◌∷◌, ◌++◌}
use Prim.Native.Nat.{ℕ, ◌+◌, ◌*◌, ◌/◌, ◌%◌, ◌≤◌, ◌<◌}
use native.Mathlib.Omega.{arith}
use native.Mathlib.Nat.{zero-add}
use native.Mathlib.Numerals.{add-one}
use lib.ListN.{length, get_or, take, set}
use lib.Seq.{sets, take_all, take-suc, length-take-le}
use borrow.Author.Tests.{le-leb, lt-leb, ne_eqb}
use Rattle.wire.proofs.octets.Sets.{sets-append}
use Rattle.console_text.specs.hex.Bytes.{glyph, digits_of, text_of, text_in}

digits_length : (s : List ℕ) → length (digits_of s) ≡ 2 * length s
unfolding digits_of
digits_length [] = refl
digits_length (b ∷ bs) = omega (arith, digits_length bs)

digits_append : (s t : List ℕ) → digits_of (s ++ t) ≡ digits_of s ++ digits_of t
unfolding digits_of
digits_append [] t = refl
digits_append (b ∷ bs) t = ap (λ (x : List ℕ). glyph (b / 16) ∷ (glyph (b % 16) ∷ x)) (digits_append bs t)

-- the two digits of one byte more
pub one_more : (out₀ out s : List ℕ) (i x y : ℕ) → i < length s → out ≡ sets out₀ 0 (digits_of (take i s))
    → x ≡ glyph (get_or s i 0 / 16) → y ≡ glyph (get_or s i 0 % 16)
    → set (set out (2 * i) x) (2 * i + 1) y ≡ sets out₀ 0 (digits_of (take (i + 1) s))
unfolding digits_of
one_more out₀ out s i x y h e ex ey =
    let n : 2 * i ≡ length (digits_of (take i s)) = omega (arith, digits_length (take i s), length-take-le i s (omega arith)) in
    rw (e, ex, ey, add-one, n)
    (rw zero-add at (sets-append out₀ 0 (digits_of (take i s)) (digits_of (get_or s i 0 ∷ []))))
    ∙ ap (sets out₀ 0) (sym (digits_append (take i s) (get_or s i 0 ∷ [])))
    ∙ rw (add-one, take-suc s i 0 h)

-- the whole answer: how many characters are written, and the buffer then
abbrev pub Wrote : ℕ → List ℕ → List ℕ → List ℕ → Type 0
Wrote n out₀ out s = (n ≡ length (text_in (length out₀) s)) × (out ≡ sets out₀ 0 (text_in (length out₀) s))

module _ (out s : List ℕ) where
  pub text_all : (i : ℕ) (out' : List ℕ) → (length s ≡ 0 → ⊥) → 2 * length s ≤ length out → length s ≤ i → out' ≡ sets out 0 (digits_of (take i s))
      → Wrote (2 * length s) out out' s
  unfolding text_in text_of
  text_all i out' n h all e =
      let k : length (digits_of s) ≤ length out = omega (arith, digits_length s) in
      let t : text_in (length out) s ≡ digits_of s = simp (ne_eqb (length s) 0 n, le-leb (length (digits_of s)) (length out) k) in
      (sym (ap length t ∙ digits_length s), e ∙ ap (λ (x : List ℕ). sets out 0 (digits_of x)) (take_all i s all) ∙ ap (sets out 0) (sym t))

  pub text_over : (length s ≡ 0 → ⊥) → length out < 2 * length s → Wrote 0 out out s
  unfolding text_in text_of
  text_over n h =
      let k : length out < length (digits_of s) = omega (arith, digits_length s) in
      let t : text_in (length out) s ≡ [] = simp (ne_eqb (length s) 0 n, lt-leb (length (digits_of s)) (length out) k) in
      (sym (ap length t), ap (sets out 0) (sym t))

  pub text_dash : length s ≡ 0 → 1 ≤ length out → Wrote 1 out (set out 0 45) s
  unfolding text_in text_of
  text_dash e h = let t : text_in (length out) s ≡ 45 ∷ [] = simp (e, le-leb 1 (length out) h) in (sym (ap length t), ap (sets out 0) (sym t))

  pub text_none : length s ≡ 0 → length out ≡ 0 → Wrote 0 out out s
  unfolding text_in text_of
  text_none e h = let t : text_in (length out) s ≡ [] = simp (e, h) in (sym (ap length t), ap (sets out 0) (sym t))
