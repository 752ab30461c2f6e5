-- Bytes, two digits at a time. Assumes nothing.
use Rattle.std.proofs.Common.{◌≡◌, ◌∙◌, ℕ, suc, ◌%◌, ◌<◌, List, [], ◌∷◌, Bool, true, false, ◌&&◌, ◌||◌, length, get_or, eqb, refl, ap, arith, lt-ltb}
use borrow.Author.Tests.{ne_eqb}
use Rattle.std.specs.Char.{is_ascii_hexdigit}
use Rattle.std.specs.List.{list_all}
use Rattle.console_text.specs.hex.Bytes.{is_hex, all_pairs, is_bytes}
use Rattle.console_text.proofs.hex.Hex.{hex_told}

-- whether a field is bytes, by its length
pub bytes_none : (l : List ℕ) → length l ≡ 0 → false ≡ is_bytes l
unfolding is_bytes
bytes_none l e = simp e

pub bytes_one : (l : List ℕ) → length l ≡ 1 → eqb (get_or l 0 0) 45 ≡ is_bytes l
unfolding is_bytes all_pairs
bytes_one [] e = absurd (omega arith)
bytes_one (a ∷ []) e = go (eqb a 45)
  where
    go : (t : Bool) → t ≡ (t || false)
    go true = refl
    go false = refl
bytes_one (a ∷ (b ∷ bs)) e = absurd (omega arith)

pub bytes_more : (l : List ℕ) → (length l ≡ 0 → ⊥) → (length l ≡ 1 → ⊥) → is_bytes l ≡ all_pairs l
unfolding is_bytes
bytes_more l n m = let h : 0 < length l = omega arith in simp (ne_eqb (length l) 1 m, lt-ltb 0 (length l) h)

-- pairs of digits are digits, an even number of them
pub pairs_told : (l : List ℕ) → (eqb (length l % 2) 0 && list_all is_ascii_hexdigit l) ≡ all_pairs l
unfolding all_pairs
pairs_told [] = refl
pairs_told (a ∷ []) = refl
pairs_told (a ∷ (b ∷ bs)) =
    let e : suc (suc (length bs)) % 2 ≡ length bs % 2 = omega arith in
    rw (e, hex_told a, hex_told b) (moved (is_hex a) (is_hex b) (eqb (length bs % 2) 0) (list_all is_ascii_hexdigit bs))
    ∙ ap (λ (t : Bool). is_hex a && (is_hex b && t)) (pairs_told bs)
  where
    moved : (x y u v : Bool) → (u && (x && (y && v))) ≡ (x && (y && (u && v)))
    moved true true u v = refl
    moved true false true v = refl
    moved true false false v = refl
    moved false y true v = refl
    moved false y false v = refl
