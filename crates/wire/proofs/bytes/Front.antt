-- Eight bytes that are one number are the same bytes. Assumes nothing.
use mathlib.Core.Path.{◌≡◌, refl, sym, ap₂, subst, ◌∙◌}
use mathlib.Core.List.{List, [], ◌∷◌, ◌++◌}
use Prim.Native.Nat.{ℕ, ◌+◌, ◌*◌, ◌<◌, ◌≤◌}
use native.Mathlib.Numerals.{add-one}
use native.Mathlib.Omega.{arith}
use lib.ListN.{length, get_or, take}
use lib.Seq.{take-suc}
use Rattle.wire.specs.bytes.Eight.{eight_at}

-- the lowest byte of a number, and the rest
digit : (x y m n : ℕ) → x < 256 → y < 256 → x + m * 256 ≡ y + n * 256 → (x ≡ y) × (m ≡ n)
digit x y m n h k e = (omega arith, omega arith)

module _ (a b : List ℕ) (fa : (k : ℕ) → get_or a k 0 < 256) (fb : (k : ℕ) → get_or b k 0 < 256) where
  -- one more byte is the same
  step : (i j : ℕ) → i < length a → i < length b → get_or a i 0 ≡ get_or b i 0 → i + 1 ≡ j → take i a ≡ take i b → take j a ≡ take j b
  step i j h k e n same =
      subst (λ (m : ℕ). take m a ≡ take m b) (sym (add-one i) ∙ n)
      (take-suc a i 0 h ∙ ap₂ (λ (l : List ℕ) (x : ℕ). l ++ (x ∷ [])) same e ∙ sym (take-suc b i 0 k))

  pub past8 : (i : ℕ) → i + 8 ≤ length a → i + 8 ≤ length b → eight_at a i ≡ eight_at b i → take i a ≡ take i b → take (i + 8) a ≡ take (i + 8) b
  past8 i h k e same =
      let d0 = digit _ _ _ _ (fa i) (fb i) e in
      let d1 = digit _ _ _ _ (fa (i + 1)) (fb (i + 1)) d0.1 in
      let d2 = digit _ _ _ _ (fa (i + 2)) (fb (i + 2)) d1.1 in
      let d3 = digit _ _ _ _ (fa (i + 3)) (fb (i + 3)) d2.1 in
      let d4 = digit _ _ _ _ (fa (i + 4)) (fb (i + 4)) d3.1 in
      let d5 = digit _ _ _ _ (fa (i + 5)) (fb (i + 5)) d4.1 in
      let d6 = digit _ _ _ _ (fa (i + 6)) (fb (i + 6)) d5.1 in
      let s0 = step i (i + 1) (omega arith) (omega arith) d0.0 refl same in
      let s1 = step (i + 1) (i + 2) (omega arith) (omega arith) d1.0 (omega arith) s0 in
      let s2 = step (i + 2) (i + 3) (omega arith) (omega arith) d2.0 (omega arith) s1 in
      let s3 = step (i + 3) (i + 4) (omega arith) (omega arith) d3.0 (omega arith) s2 in
      let s4 = step (i + 4) (i + 5) (omega arith) (omega arith) d4.0 (omega arith) s3 in
      let s5 = step (i + 5) (i + 6) (omega arith) (omega arith) d5.0 (omega arith) s4 in
      let s6 = step (i + 6) (i + 7) (omega arith) (omega arith) d6.0 (omega arith) s5 in
      let s7 = step (i + 7) (i + 8) (omega arith) (omega arith) d6.1 (omega arith) s6 in
      s7
