-- The key and the value of a string, by the length of the key. Assumes nothing.
use mathlib.Core.Path.{◌≡◌, refl, sym, ap, ◌∙◌}
use mathlib.Core.List.{List, [], ◌∷◌}
use mathlib.Core.Option.{none, some}
use mathlib.Core.Bool.{Bool, true, false, cond}
use Prim.Native.Nat.{ℕ, suc, ◌+◌, ◌<◌, ◌≤◌}
use native.Mathlib.Omega.{arith}
use borrow.Author.Tests.{eq-eqb, ne_eqb, ltb-false}
use lib.ListN.{length, take, drop}
use lib.Dec.{eqb, ltb, eqb-suc-zero}
use Rattle.std.specs.Prelude.{Some, None}
use Rattle.std.specs.List.{position_or_len, position}
use Rattle.std.specs.Option.{unwrap_or}
use Rattle.std.proofs.lemmas.List.Recursion.{is_position_or_len}
use Rattle.wire.specs.case_folding.Fold.{same_name}
use Rattle.txt.specs.Txt.{key_of, value_of, skipped, has_key}

-- the key ends where the first "=" stands, or with the string
len_step : (b : ℕ) (bs : List ℕ) (t : Bool) → length (cond t [] (b ∷ key_of bs)) ≡ cond t 0 (1 + length (key_of bs))
len_step b bs true = refl
len_step b bs false = omega arith

key_len_is : (s : List ℕ) → length (key_of s) ≡ position_or_len (λ b. eqb b 61) s
unfolding key_of
key_len_is = is_position_or_len (λ s. length (key_of s)) (λ b. eqb b 61) refl (λ b bs. len_step b bs (eqb b 61))

pub key_fits : (s : List ℕ) → length (key_of s) ≤ length s
unfolding key_of
key_fits [] = omega arith
key_fits (b ∷ bs) = go (eqb b 61) (key_fits bs)
  where
    go : (t : Bool) → length (key_of bs) ≤ length bs → length (cond t [] (b ∷ key_of bs)) ≤ suc (length bs)
    go true ih = omega arith
    go false ih = omega arith

pub key_found : (s : List ℕ) → unwrap_or (position (λ b. eqb b 61) s) (length s) ≡ length (key_of s)
key_found s = go (ltb (position_or_len (λ b. eqb b 61) s) (length s)) refl
  where
    go : (t : Bool) → ltb (position_or_len (λ b. eqb b 61) s) (length s) ≡ t
        → unwrap_or (cond t (Some (position_or_len (λ b. eqb b 61) s)) None) (length s) ≡ length (key_of s)
    go true e = sym (key_len_is s)
    go false e = omega (arith, key_fits s, key_len_is s, ltb-false _ _ e)

-- the key is the first bytes of the string
pub key_part : (s : List ℕ) → take (length (key_of s)) s ≡ key_of s
unfolding key_of
key_part [] = refl
key_part (b ∷ bs) = go (eqb b 61) (key_part bs)
  where
    go : (t : Bool) → take (length (key_of bs)) bs ≡ key_of bs → take (length (cond t [] (b ∷ key_of bs))) (b ∷ bs) ≡ cond t [] (b ∷ key_of bs)
    go true ih = refl
    go false ih = ap (λ (l : List ℕ). b ∷ l) ih

-- a string that is all key has no value
pub no_value : (s : List ℕ) → length (key_of s) ≡ length s → value_of s ≡ none
unfolding key_of value_of
no_value [] e = refl
no_value (b ∷ bs) e = go (eqb b 61) e (no_value bs)
  where
    go : (t : Bool) → length (cond t [] (b ∷ key_of bs)) ≡ suc (length bs) → (length (key_of bs) ≡ length bs → value_of bs ≡ none) → cond t (some bs) (value_of bs) ≡ none
    go true e ih = absurd (omega arith)
    go false e ih = ih (omega arith)

-- the value of any other is what stands after its key and the "="
pub value_part : (s : List ℕ) → length (key_of s) < length s → value_of s ≡ some (drop (suc (length (key_of s))) s)
unfolding key_of value_of
value_part [] h = absurd (omega arith)
value_part (b ∷ bs) h = go (eqb b 61) h (value_part bs)
  where
    go : (t : Bool) → length (cond t [] (b ∷ key_of bs)) < suc (length bs) → (length (key_of bs) < length bs → value_of bs ≡ some (drop (suc (length (key_of bs))) bs)) → cond t (some bs) (value_of bs) ≡ some (drop (suc (length (cond t [] (b ∷ key_of bs)))) (b ∷ bs))
    go true h ih = refl
    go false h ih = ih (omega arith)

-- a string is skipped when its key has no byte
skipped-key : (s : List ℕ) → skipped s ≡ eqb (length (key_of s)) 0
unfolding key_of
skipped-key [] = refl
skipped-key (b ∷ bs) = go (eqb b 61)
  where
    go : (t : Bool) → t ≡ eqb (length (cond t [] (b ∷ key_of bs))) 0
    go true = refl
    go false = sym (eqb-suc-zero (length (key_of bs)))

module _ (key s : List ℕ) (n : ℕ) (is : n ≡ length (key_of s)) where
  pub no_key : n ≡ 0 → false ≡ has_key key s
  unfolding has_key
  no_key e = simp (skipped-key s, eq-eqb (length (key_of s)) 0 (sym is ∙ e))

  pub some_key : (n ≡ 0 → ⊥) → same_name (take n s) key ≡ has_key key s
  unfolding has_key
  some_key ne = simp (skipped-key s, ne_eqb (length (key_of s)) 0 (λ e. ne (is ∙ e)), is, key_part s)
