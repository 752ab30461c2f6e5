-- The bytes that numbers and kinds were read from. Assumes nothing.
use mathlib.Core.Path.{◌≡◌, refl, sym, ap, ◌∙◌}
use mathlib.Core.List.{List, ◌∷◌, ◌++◌}
use mathlib.Core.Bool.{Bool, true, false, cond}
use Prim.Native.Nat.{ℕ, ◌+◌, ◌*◌, ◌/◌, ◌%◌, ◌<◌, ◌≤◌}
use native.Mathlib.Omega.{arith}
use native.Mathlib.Numerals.{add-one}
use borrow.Author.Tests.{eqb-true}
use lib.ListN.{length, drop}
use lib.Seq.{drop-cons}
use lib.Dec.{eqb}
use Rattle.std.proofs.lemmas.Option.{none-some, same_Some}
use Rattle.std.specs.Prelude.{Some, None}
use Rattle.wire.specs.octets.Octets.{byte_at, word16, word32}
use Rattle.trace.specs.records.Numbers.{word64, without, bytes16, bytes64}
use Rattle.trace.specs.records.Records.{kind_of}
use Rattle.trace.specs.declared.records.Kind.{Kind}
use Rattle.trace.specs.declared.records.Kind.TheVariants as kind

-- every element is a byte
abbrev pub Bytes : List ℕ → Type 0
Bytes p = (i : ℕ) → byte_at p i < 256

-- the last byte of a number, and the number without it
digit : (m q b : ℕ) → m ≡ q * 256 + b → b < 256 → (m / 256 ≡ q) × (b ≡ m % 256)
digit m q b e h = (omega arith, omega arith)

module _ (p : List ℕ) where
  pub next_byte : (i j : ℕ) → i + 1 ≡ j → i < length p → drop i p ≡ byte_at p i ∷ drop j p
  next_byte i j e h = drop-cons p i 0 h ∙ ap (λ (k : ℕ). byte_at p i ∷ drop k p) (sym (add-one i) ∙ e)

  module _ (b : Bytes p) where
    pub pair : (i : ℕ) → i + 2 ≤ length p → drop i p ≡ bytes16 (word16 p i) ++ drop (i + 2) p
    pair i h =
        let b0 = b i in
        let b1 = b (i + 1) in
        let high : byte_at p i ≡ word16 p i / 256 = omega arith in
        let low : byte_at p (i + 1) ≡ word16 p i % 256 = omega arith in
        next_byte i (i + 1) refl (omega arith) ∙ ap (λ (l : List ℕ). byte_at p i ∷ l) (next_byte (i + 1) (i + 2) (omega arith) (omega arith))
        ∙ (λ k. high k ∷ low k ∷ drop (i + 2) p)

    pub eight : (i : ℕ) → i + 8 ≤ length p → drop i p ≡ bytes64 (word64 p i) ++ drop (i + 8) p
    unfolding bytes64
    eight i h =
        let n = word64 p i in
        let b0 = b i in
        let b1 = b (i + 1) in
        let b2 = b (i + 2) in
        let b3 = b (i + 2 + 1) in
        let b4 = b (i + 4) in
        let b5 = b (i + 4 + 1) in
        let b6 = b (i + 4 + 2) in
        let b7 = b (i + 4 + 2 + 1) in
        let w0 = word32 p i in
        let w = word16 p i in
        let w2 = word16 p (i + 4) in
        let d7 = digit n (w0 * 16777216 + w2 * 256 + byte_at p (i + 4 + 2)) (byte_at p (i + 4 + 2 + 1)) (omega arith) b7 in
        let d6 = digit (without 1 n) (w0 * 65536 + w2) (byte_at p (i + 4 + 2)) (d7.0 ∙ omega arith) b6 in
        let d5 = digit (without 2 n) (w0 * 256 + byte_at p (i + 4)) (byte_at p (i + 4 + 1)) (d6.0 ∙ omega arith) b5 in
        let d4 = digit (without 3 n) w0 (byte_at p (i + 4)) (d5.0 ∙ omega arith) b4 in
        let d3 = digit (without 4 n) (w * 256 + byte_at p (i + 2)) (byte_at p (i + 2 + 1)) (d4.0 ∙ omega arith) b3 in
        let d2 = digit (without 5 n) w (byte_at p (i + 2)) (d3.0 ∙ omega arith) b2 in
        let d1 = digit (without 6 n) (byte_at p i) (byte_at p (i + 1)) (d2.0 ∙ omega arith) b1 in
        let d0 = digit (without 7 n) 0 (byte_at p i) (d1.0 ∙ omega arith) b0 in
        next_byte i (i + 1) refl (omega arith)
        ∙ ap (λ (l : List ℕ). byte_at p i ∷ l) (next_byte (i + 1) (i + 2) (omega arith) (omega arith))
        ∙ ap (λ (l : List ℕ). byte_at p i ∷ byte_at p (i + 1) ∷ l) (next_byte (i + 2) (i + 2 + 1) (omega arith) (omega arith))
        ∙ ap (λ (l : List ℕ). byte_at p i ∷ byte_at p (i + 1) ∷ byte_at p (i + 2) ∷ l) (next_byte (i + 2 + 1) (i + 4) (omega arith) (omega arith))
        ∙ ap (λ (l : List ℕ). byte_at p i ∷ byte_at p (i + 1) ∷ byte_at p (i + 2) ∷ byte_at p (i + 2 + 1) ∷ l)
        (next_byte (i + 4) (i + 4 + 1) (omega arith) (omega arith))
        ∙ ap (λ (l : List ℕ). byte_at p i ∷ byte_at p (i + 1) ∷ byte_at p (i + 2) ∷ byte_at p (i + 2 + 1) ∷ byte_at p (i + 4) ∷ l)
        (next_byte (i + 4 + 1) (i + 4 + 2) (omega arith) (omega arith))
        ∙ ap (λ (l : List ℕ). byte_at p i ∷ byte_at p (i + 1) ∷ byte_at p (i + 2) ∷ byte_at p (i + 2 + 1) ∷ byte_at p (i + 4) ∷ byte_at p (i + 4 + 1) ∷ l)
        (next_byte (i + 4 + 2) (i + 4 + 2 + 1) (omega arith) (omega arith))
        ∙ ap (λ (l : List ℕ).
        byte_at p i ∷ byte_at p (i + 1) ∷ byte_at p (i + 2) ∷ byte_at p (i + 2 + 1) ∷ byte_at p (i + 4) ∷ byte_at p (i + 4 + 1) ∷ byte_at p (i + 4 + 2) ∷ l)
        (next_byte (i + 4 + 2 + 1) (i + 8) (omega arith) (omega arith))
        ∙ (λ k. d0.1 k ∷ d1.1 k ∷ d2.1 k ∷ d3.1 k ∷ d4.1 k ∷ d5.1 k ∷ d6.1 k ∷ d7.1 k ∷ drop (i + 8) p)

    pub word_wide : (i : ℕ) → word64 p i < 18446744073709551616
    word_wide i =
        let b0 = b i in
        let b1 = b (i + 1) in
        let b2 = b (i + 2) in
        let b3 = b (i + 2 + 1) in
        let b4 = b (i + 4) in
        let b5 = b (i + 4 + 1) in
        let b6 = b (i + 4 + 2) in
        let b7 = b (i + 4 + 2 + 1) in
        omega arith

    pub word_small : (i : ℕ) → word16 p i ≤ 65535
    word_small i = let b0 = b i in let b1 = b (i + 1) in omega arith

-- the byte of a kind
abbrev pub kind_byte : Kind → ℕ
kind_byte kind.Tick = 1
kind_byte kind.Packet = 2
kind_byte kind.Piece = 3
kind_byte kind.Claim = 4
kind_byte kind.Source = 5
kind_byte kind.Stop = 6
kind_byte kind.Port = 7
kind_byte kind.Txt = 8

by_tests : (b : ℕ) (t1 : Bool) → eqb b 1 ≡ t1 → (t2 : Bool) → eqb b 2 ≡ t2 → (t3 : Bool) → eqb b 3 ≡ t3 → (t4 : Bool) → eqb b 4 ≡ t4
    → (t5 : Bool) → eqb b 5 ≡ t5 → (t6 : Bool) → eqb b 6 ≡ t6 → (t7 : Bool) → eqb b 7 ≡ t7 → (t8 : Bool) → eqb b 8 ≡ t8 → (k : Kind)
    → cond t1 (Some kind.Tick) (cond t2 (Some kind.Packet) (cond t3 (Some kind.Piece) (cond t4 (Some kind.Claim)
    (cond t5 (Some kind.Source) (cond t6 (Some kind.Stop) (cond t7 (Some kind.Port) (cond t8 (Some kind.Txt) None))))))) ≡ Some k
    → b ≡ kind_byte k
by_tests b true e1 t2 e2 t3 e3 t4 e4 t5 e5 t6 e6 t7 e7 t8 e8 k e = eqb-true b 1 e1 ∙ ap kind_byte (same_Some _ _ e)
by_tests b false e1 true e2 t3 e3 t4 e4 t5 e5 t6 e6 t7 e7 t8 e8 k e = eqb-true b 2 e2 ∙ ap kind_byte (same_Some _ _ e)
by_tests b false e1 false e2 true e3 t4 e4 t5 e5 t6 e6 t7 e7 t8 e8 k e = eqb-true b 3 e3 ∙ ap kind_byte (same_Some _ _ e)
by_tests b false e1 false e2 false e3 true e4 t5 e5 t6 e6 t7 e7 t8 e8 k e = eqb-true b 4 e4 ∙ ap kind_byte (same_Some _ _ e)
by_tests b false e1 false e2 false e3 false e4 true e5 t6 e6 t7 e7 t8 e8 k e = eqb-true b 5 e5 ∙ ap kind_byte (same_Some _ _ e)
by_tests b false e1 false e2 false e3 false e4 false e5 true e6 t7 e7 t8 e8 k e = eqb-true b 6 e6 ∙ ap kind_byte (same_Some _ _ e)
by_tests b false e1 false e2 false e3 false e4 false e5 false e6 true e7 t8 e8 k e = eqb-true b 7 e7 ∙ ap kind_byte (same_Some _ _ e)
by_tests b false e1 false e2 false e3 false e4 false e5 false e6 false e7 true e8 k e = eqb-true b 8 e8 ∙ ap kind_byte (same_Some _ _ e)
by_tests b false e1 false e2 false e3 false e4 false e5 false e6 false e7 false e8 k e = absurd (none-some k e)

pub byte_of-kind : (b : ℕ) (k : Kind) → kind_of b ≡ Some k → b ≡ kind_byte k
byte_of-kind b k e =
    by_tests b (eqb b 1) refl (eqb b 2) refl (eqb b 3) refl (eqb b 4) refl (eqb b 5) refl (eqb b 6) refl (eqb b 7) refl (eqb b 8) refl k e
