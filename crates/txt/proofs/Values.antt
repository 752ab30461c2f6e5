-- What a string gives, by the length of its key. Assumes nothing.
use mathlib.Core.Path.{◌≡◌, refl, sym, ap, ◌∙◌}
use mathlib.Core.List.{List, [], ◌∷◌}
use mathlib.Core.Option.{some}
use Prim.Native.Nat.{ℕ, suc, ◌+◌, ◌-◌, ◌≤◌}
use native.Mathlib.Omega.{arith}
use lib.ListN.{length, take, drop, length-take, length-drop}
use Rattle.txt.specs.Txt.{key_of, value_of}
use Rattle.txt.specs.Lookup.{valued, given_by}
use Rattle.txt.specs.declared.Buffer.{Buffer}
use Rattle.txt.specs.declared.Answer.TheVariants.{Present, Empty, Value}
use Rattle.txt.proofs.Pairs.{key_fits, no_value, value_part}

-- a value of no bytes, and one of some
valued-empty : (b : Buffer) (at : ℕ) (v : List ℕ) → length v ≡ 0 → valued b at (some v) ≡ Empty
valued-empty b at [] e = refl
valued-empty b at (x ∷ xs) e = absurd (omega arith)

valued-some : (b : Buffer) (at : ℕ) (v : List ℕ) → (length v ≡ 0 → ⊥) → valued b at (some v) ≡ Value (record { buffer = b; at = at; len = length v })
valued-some b at [] ne = absurd (ne refl)
valued-some b at (x ∷ xs) ne = refl

-- a string from `start` to `end` of a TXT, whose key has `n` bytes
module _ (txt : List ℕ) (start end n : ℕ) (lo : start ≤ end) (hi : end ≤ length txt) (is : n ≡ length (key_of (take (end - start) (drop start txt)))) where
  abbrev here : List ℕ
  here = take (end - start) (drop start txt)

  len_here : length here ≡ end - start
  len_here = simp (length-take, length-drop) (omega arith)

  pub key_in : n ≤ end - start
  key_in = let h = key_fits here in let k = len_here in omega arith

  after : (end - start ≡ n → ⊥) → value_of here ≡ some (drop (suc n) here)
  after ne = value_part here (let k = len_here in let h = key_in in omega arith) ∙ ap (λ (m : ℕ). some (drop (suc m) here)) (sym is)

  left : length (drop (suc n) here) ≡ end - (start + n + 1)
  left = simp length-drop (let k = len_here in omega arith)

  module _ (b : Buffer) where
    pub is-present : end - start ≡ n → Present ≡ given_by b start here
    unfolding given_by
    is-present e = sym (simp (no_value here (sym is ∙ sym e ∙ sym len_here)))

    spot : (end - start ≡ n → ⊥) → given_by b start here ≡ valued b (start + n + 1) (some (drop (suc n) here))
    unfolding given_by
    spot ne = simp (after ne, sym is)

    pub is-empty : (end - start ≡ n → ⊥) → end - (start + n + 1) ≡ 0 → Empty ≡ given_by b start here
    is-empty ne e = sym (spot ne ∙ valued-empty b (start + n + 1) (drop (suc n) here) (left ∙ e))

    pub is-value : (end - start ≡ n → ⊥) → (end - (start + n + 1) ≡ 0 → ⊥) → Value (record { buffer = b; at = start + n + 1; len = end - (start + n + 1) }) ≡ given_by b start here
    is-value ne more = sym (spot ne ∙ valued-some b (start + n + 1) (drop (suc n) here) (λ z. more (sym left ∙ z)) ∙ simp left)
