-- What is shown reads back: the text of bytes is a field of bytes, and gives the same bytes. Assumes nothing.
use mathlib.Core.Path.{◌≡◌, refl, ap, ◌∙◌}
use mathlib.Core.List.{List, [], ◌∷◌}
use mathlib.Core.Bool.{true}
use Prim.Native.Nat.{ℕ, suc, ◌+◌, ◌*◌, ◌/◌, ◌%◌, ◌<◌}
use native.Mathlib.Omega.{arith}
use lib.ListN.{length, get_or}
use Rattle.std.proofs.lemmas.Bool.Decides.{nat_tests}
use borrow.Author.Tests.{lt-ltb, ne_eqb}
use Rattle.console_text.specs.hex.Bytes.{hex_value, is_hex, byte_of, bytes_of, all_pairs, is_bytes, glyph, digits_of, text_of}
use Rattle.console_text.proofs.hex.Pairs.{bytes_more}

-- the value of a digit that is shown
value_back : (d : ℕ) → d < 16 → hex_value (glyph d) ≡ d
unfolding hex_value glyph
value_back d h = grind (arith, nat_tests)

digit_back : (d : ℕ) → d < 16 → is_hex (glyph d) ≡ true
digit_back d h = rw (value_back d h) (lt-ltb d 16 h)

byte_back : (b : ℕ) → b < 256 → byte_of (glyph (b / 16)) (glyph (b % 16)) ≡ b
byte_back b h =
    let i : b / 16 < 16 = omega arith in
    let j : b % 16 < 16 = omega arith in
    let e : b / 16 % 16 * 16 + b % 16 % 16 ≡ b = omega arith in
    rw (value_back (b / 16) i, value_back (b % 16) j) e

digits_back : (s : List ℕ) → ((i : ℕ) → get_or s i 0 < 256) → bytes_of (digits_of s) ≡ s
unfolding bytes_of digits_of
digits_back [] h = refl
digits_back (b ∷ bs) h = rw (byte_back b (h 0)) (ap (λ (x : List ℕ). b ∷ x) (digits_back bs (λ i. h (suc i))))

pairs_back : (s : List ℕ) → ((i : ℕ) → get_or s i 0 < 256) → all_pairs (digits_of s) ≡ true
unfolding all_pairs digits_of
pairs_back [] h = refl
pairs_back (b ∷ bs) h =
    let k : b < 256 = h 0 in
    let i : b / 16 < 16 = omega arith in
    let j : b % 16 < 16 = omega arith in
    simp (digit_back (b / 16) i, digit_back (b % 16) j, pairs_back bs (λ i. h (suc i)))

some-text : (b : ℕ) (bs : List ℕ) → text_of (b ∷ bs) ≡ digits_of (b ∷ bs)
unfolding text_of
some-text b bs =
    let n : suc (length bs) ≡ 0 → ⊥ = λ e. omega arith in
    simp (ne_eqb (suc (length bs)) 0 n)

-- the text of bytes gives them back
pub text_back : (s : List ℕ) → ((i : ℕ) → get_or s i 0 < 256) → bytes_of (text_of s) ≡ s
unfolding text_of bytes_of
text_back [] h = refl
text_back (b ∷ bs) h = ap bytes_of (some-text b bs) ∙ digits_back (b ∷ bs) h

-- and is a field of bytes
pub text_is_bytes : (s : List ℕ) → ((i : ℕ) → get_or s i 0 < 256) → is_bytes (text_of s) ≡ true
unfolding text_of is_bytes digits_of
text_is_bytes [] h = refl
text_is_bytes (b ∷ bs) h =
    ap is_bytes (some-text b bs) ∙ bytes_more (digits_of (b ∷ bs)) (λ e. omega arith) (λ e. omega arith) ∙ pairs_back (b ∷ bs) h
