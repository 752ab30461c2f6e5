-- Numbers and cases as they stand in a state's bytes: the bytes of the number that is read are those that stand there. Assumes nothing.
use mathlib.Core.Path.{◌≡◌, refl, sym, ap, ◌∙◌}
use mathlib.Core.List.{List, [], ◌∷◌, ◌++◌}
use Prim.Native.Nat.{ℕ, ◌+◌, ◌*◌, ◌/◌, ◌%◌, ◌<◌, ◌≤◌}
use native.Mathlib.Omega.{arith}
use lib.ListN.{length, drop, get_or}
use Rattle.wire.specs.octets.Octets.{byte_at}
use Rattle.claims.proofs.records.Searched.{rest}
use Rattle.capi_responder.specs.codec.Numbers.{word64, without, bytes64}
use Rattle.capi_responder.specs.codec.Codec.{case_bytes}
use Rattle.capi_responder.proofs.codec.Stands.{word64-from}

-- every element is a byte
abbrev pub Bytes : List ℕ → Type 0
Bytes b = (i : ℕ) → get_or b i 0 < 256

-- a number by its last byte and the rest
last_byte : (q a : ℕ) → a < 256 → ((q * 256 + a) / 256 ≡ q) × ((q * 256 + a) % 256 ≡ a)
last_byte q a h = (omega arith, omega arith)

-- the bytes of the number that eight bytes read as
module _ (a₀ a₁ a₂ a₃ a₄ a₅ a₆ a₇ : ℕ) (r : List ℕ) where
  abbrev pub eight : List ℕ
  eight = a₀ ∷ a₁ ∷ a₂ ∷ a₃ ∷ a₄ ∷ a₅ ∷ a₆ ∷ a₇ ∷ r

  abbrev q₁ : ℕ
  q₁ = a₀ * 256 + a₁

  abbrev q₂ : ℕ
  q₂ = q₁ * 256 + a₂

  abbrev q₃ : ℕ
  q₃ = q₂ * 256 + a₃

  abbrev q₄ : ℕ
  q₄ = q₃ * 256 + a₄

  abbrev q₅ : ℕ
  q₅ = q₄ * 256 + a₅

  abbrev pub q₆ : ℕ
  q₆ = q₅ * 256 + a₆

  pub in_turn_lem : word64 eight 0 ≡ q₆ * 256 + a₇
  in_turn_lem = omega arith

  module _ (h₀ : a₀ < 256) (h₁ : a₁ < 256) (h₂ : a₂ < 256) (h₃ : a₃ < 256) (h₄ : a₄ < 256) (h₅ : a₅ < 256) (h₆ : a₆ < 256) (h₇ : a₇ < 256) where
    digits : bytes64 (word64 eight 0) ≡ a₀ ∷ a₁ ∷ a₂ ∷ a₃ ∷ a₄ ∷ a₅ ∷ a₆ ∷ a₇ ∷ []
    unfolding bytes64
    digits =
        let w₁ : without 1 (word64 eight 0) ≡ q₆ = ap (λ (n : ℕ). n / 256) in_turn_lem ∙ (last_byte q₆ a₇ h₇).0 in
        let w₂ : without 2 (word64 eight 0) ≡ q₅ = ap (λ (n : ℕ). n / 256) w₁ ∙ (last_byte q₅ a₆ h₆).0 in
        let w₃ : without 3 (word64 eight 0) ≡ q₄ = ap (λ (n : ℕ). n / 256) w₂ ∙ (last_byte q₄ a₅ h₅).0 in
        let w₄ : without 4 (word64 eight 0) ≡ q₃ = ap (λ (n : ℕ). n / 256) w₃ ∙ (last_byte q₃ a₄ h₄).0 in
        let w₅ : without 5 (word64 eight 0) ≡ q₂ = ap (λ (n : ℕ). n / 256) w₄ ∙ (last_byte q₂ a₃ h₃).0 in
        let w₆ : without 6 (word64 eight 0) ≡ q₁ = ap (λ (n : ℕ). n / 256) w₅ ∙ (last_byte q₁ a₂ h₂).0 in
        let w₇ : without 7 (word64 eight 0) ≡ a₀ = ap (λ (n : ℕ). n / 256) w₆ ∙ (last_byte a₀ a₁ h₁).0 in
        let z : a₀ % 256 ≡ a₀ = omega arith in
        let d₀ : without 7 (word64 eight 0) % 256 ≡ a₀ = ap (λ (n : ℕ). n % 256) w₇ ∙ z in
        let d₁ : without 6 (word64 eight 0) % 256 ≡ a₁ = ap (λ (n : ℕ). n % 256) w₆ ∙ (last_byte a₀ a₁ h₁).1 in
        let d₂ : without 5 (word64 eight 0) % 256 ≡ a₂ = ap (λ (n : ℕ). n % 256) w₅ ∙ (last_byte q₁ a₂ h₂).1 in
        let d₃ : without 4 (word64 eight 0) % 256 ≡ a₃ = ap (λ (n : ℕ). n % 256) w₄ ∙ (last_byte q₂ a₃ h₃).1 in
        let d₄ : without 3 (word64 eight 0) % 256 ≡ a₄ = ap (λ (n : ℕ). n % 256) w₃ ∙ (last_byte q₃ a₄ h₄).1 in
        let d₅ : without 2 (word64 eight 0) % 256 ≡ a₅ = ap (λ (n : ℕ). n % 256) w₂ ∙ (last_byte q₄ a₅ h₅).1 in
        let d₆ : without 1 (word64 eight 0) % 256 ≡ a₆ = ap (λ (n : ℕ). n % 256) w₁ ∙ (last_byte q₅ a₆ h₆).1 in
        let d₇ : word64 eight 0 % 256 ≡ a₇ = ap (λ (n : ℕ). n % 256) in_turn_lem ∙ (last_byte q₆ a₇ h₇).1 in
        λ i. d₀ i ∷ d₁ i ∷ d₂ i ∷ d₃ i ∷ d₄ i ∷ d₅ i ∷ d₆ i ∷ d₇ i ∷ []

module _ (b : List ℕ) where
  next : (i j : ℕ) → j ≡ i + 1 → i < length b → drop i b ≡ get_or b i 0 ∷ drop j b
  next i j e h = rest b i 0 h ∙ ap (λ (k : ℕ). get_or b i 0 ∷ drop k b) (sym e)

  module _ (at : ℕ) (h : at + 8 ≤ length b) where
    abbrev pub a : ℕ → ℕ
    a k = get_or b (at + k) 0

    pub spelled : drop at b ≡ a 0 ∷ a 1 ∷ a 2 ∷ a 3 ∷ a 4 ∷ a 5 ∷ a 6 ∷ a 7 ∷ drop (at + 8) b
    spelled =
        let z : at ≡ at + 0 = omega arith in
        ap (λ (k : ℕ). drop k b) z
        ∙ next (at + 0) (at + 1) (omega arith) (omega arith)
        ∙ ap (λ (l : List ℕ). a 0 ∷ l) (next (at + 1) (at + 2) (omega arith) (omega arith)
        ∙ ap (λ (l : List ℕ). a 1 ∷ l) (next (at + 2) (at + 3) (omega arith) (omega arith)
        ∙ ap (λ (l : List ℕ). a 2 ∷ l) (next (at + 3) (at + 4) (omega arith) (omega arith)
        ∙ ap (λ (l : List ℕ). a 3 ∷ l) (next (at + 4) (at + 5) (omega arith) (omega arith)
        ∙ ap (λ (l : List ℕ). a 4 ∷ l) (next (at + 5) (at + 6) (omega arith) (omega arith)
        ∙ ap (λ (l : List ℕ). a 5 ∷ l) (next (at + 6) (at + 7) (omega arith) (omega arith)
        ∙ ap (λ (l : List ℕ). a 6 ∷ l) (next (at + 7) (at + 8) (omega arith) (omega arith))))))))

    abbrev spelt : List ℕ
    spelt = eight (a 0) (a 1) (a 2) (a 3) (a 4) (a 5) (a 6) (a 7) (drop (at + 8) b)

    pub read_spelt : word64 b at ≡ word64 spelt 0
    read_spelt = word64-from b at ∙ ap (λ (l : List ℕ). word64 l 0) spelled

    pub number-stands : Bytes b → drop at b ≡ bytes64 (word64 b at) ++ drop (at + 8) b
    number-stands bytes =
        let r = drop (at + 8) b in
        let same : _ = digits (a 0) (a 1) (a 2) (a 3) (a 4) (a 5) (a 6) (a 7) r (bytes (at + 0)) (bytes (at + 1)) (bytes (at + 2)) (bytes (at + 3)) (bytes (at + 4))
        (bytes (at + 5)) (bytes (at + 6)) (bytes (at + 7)) in
        spelled ∙ ap (λ (l : List ℕ). l ++ r) (sym same ∙ ap bytes64 (sym read_spelt))

  -- a case byte and its number, by what they are
  pub case_stands : Bytes b → (at tag n : ℕ) → at + 9 ≤ length b → byte_at b at ≡ tag → word64 b (at + 1) ≡ n → drop at b ≡ case_bytes tag n ++ drop (at + 9) b
  case_stands bytes at tag n h t w =
      let k : (at + 1) + 8 ≡ at + 9 = omega arith in
      next at (at + 1) refl (omega arith)
      ∙ ap (λ (l : List ℕ). get_or b at 0 ∷ l) (number-stands (at + 1) (omega arith) bytes ∙ ap (λ (j : ℕ). bytes64 (word64 b (at + 1)) ++ drop j b) k)
      ∙ (λ i. (t i ∷ bytes64 (w i)) ++ drop (at + 9) b)
