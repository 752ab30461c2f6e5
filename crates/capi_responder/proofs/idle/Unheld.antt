-- The places of held queries where no query is held: zeros, which read as free places. Assumes nothing.
use mathlib.Core.Path.{◌≡◌, refl, sym, ap, subst, ◌∙◌}
use mathlib.Core.Bool.{Bool, true, false, ◌&&◌, and_assoc, and-true, and-false}
use mathlib.Core.List.{List, [], ◌∷◌, ◌++◌}
use mathlib.Mathlib.Data.Bool.Basic.{and-eq-true-eq-eq-true-and-eq-true as both}
use Prim.Native.Nat.{ℕ, zero, suc, ◌+◌, ◌*◌, ◌-◌, ◌<◌, ◌≤◌}
use native.Mathlib.Omega.{arith}
use borrow.Author.Tests.{eqb-true, eqb-false, eq-eqb, ne_eqb}
use lib.Dec.{eqb}
use lib.ListN.{length, take, drop, get_or}
use lib.Seq.{drop_at, drop-drop}
use Rattle.claims.specs.Time.{last_kept}
use Rattle.claims.proofs.records.Searched.{rest}
use Rattle.claims.specs.Refusals.{holds_kept}
use Rattle.claims.specs.records.Sets.{every_of}
use Rattle.claims.specs.holds.Holds.{no_holds}
use Rattle.claims.specs.declared.holds.Holds.{Holds}
use Rattle.capi_responder.specs.codec.Numbers.{word64, bytes64}
use Rattle.capi_responder.specs.codec.Layout as layout
use Rattle.capi_responder.specs.codec.Parts.{holds_at}
use Rattle.capi_responder.specs.codec.Codec.{set_bytes, hold_bytes, holds_bytes, HoldFits, HoldsFit}
use Rattle.capi_responder.specs.idle.Idle.{zeros_from, none_held}
use Rattle.capi_responder.proofs.codec.Held.{holds_read}
use Rattle.capi_responder.proofs.idle.Bytes.{Bytes, a, eight, in_turn_lem, spelled, read_spelt, number-stands}

-- so many bytes are 0, one after the other
unfoldable pub clear : ℕ → List ℕ → Bool
clear zero l = true
clear (suc n) [] = true
clear (suc n) (x ∷ l) = eqb x 0 && clear n l

-- so many numbers have so many bytes
eightfold : ℕ → ℕ
eightfold zero = 0
eightfold (suc n) = suc (suc (suc (suc (suc (suc (suc (suc (eightfold n))))))))

-- a number is 0 if its last byte and the rest are
last-zero : (q a : ℕ) → eqb (q * 256 + a) 0 ≡ (eqb q 0 && eqb a 0)
last-zero q a = go (eqb q 0) (eqb a 0) refl refl
  where
    go : (v w : Bool) → eqb q 0 ≡ v → eqb a 0 ≡ w → eqb (q * 256 + a) 0 ≡ (v && w)
    go true true e f =
        let x : q ≡ 0 = eqb-true _ _ e in
        let y : a ≡ 0 = eqb-true _ _ f in
        let z : q * 256 + a ≡ 0 = omega arith in
        eq-eqb _ 0 z
    go true false e f = let y : a ≡ 0 → ⊥ = eqb-false _ _ f in ne_eqb (q * 256 + a) 0 (λ z. y (omega arith))
    go false w e f = let x : q ≡ 0 → ⊥ = eqb-false _ _ e in ne_eqb (q * 256 + a) 0 (λ z. x (omega arith))

module _ (a₀ a₁ a₂ a₃ a₄ a₅ a₆ a₇ n : ℕ) (r : List ℕ) where
  zero-bytes : (eqb (word64 (eight a₀ a₁ a₂ a₃ a₄ a₅ a₆ a₇ r) 0) 0 && clear n r) ≡ clear (suc (suc (suc (suc (suc (suc (suc (suc n)))))))) (eight a₀ a₁ a₂ a₃ a₄ a₅ a₆ a₇ r)
  unfolding clear
  zero-bytes = rw (in_turn_lem a₀ a₁ a₂ a₃ a₄ a₅ a₆ a₇ r) (simp (last-zero, and_assoc))

-- numbers that are tested byte by byte
numbers-clear : (b : List ℕ) (n at : ℕ) → at + n * 8 ≤ length b → zeros_from b at n ≡ clear (eightfold n) (drop at b)
unfolding zeros_from clear eightfold
numbers-clear b zero at h = refl
numbers-clear b (suc n) at h =
    let k : at + 8 ≤ length b = omega arith in
    let d : ℕ → ℕ = a b at k in
    ap (λ (v : Bool). eqb (word64 b at) 0 && v) (numbers-clear b n (at + 8) (omega arith))
    ∙ ap (λ (w : ℕ). eqb w 0 && clear (eightfold n) (drop (at + 8) b)) (read_spelt b at k)
    ∙ zero-bytes (d 0) (d 1) (d 2) (d 3) (d 4) (d 5) (d 6) (d 7) (eightfold n) (drop (at + 8) b)
    ∙ ap (clear (eightfold (suc n))) (sym (spelled b at k))

-- only so many bytes count
clear_front : (n : ℕ) (l : List ℕ) → clear n l ≡ clear n (take n l)
unfolding clear
clear_front zero l = refl
clear_front (suc n) [] = refl
clear_front (suc n) (x ∷ l) = ap (λ (v : Bool). eqb x 0 && v) (clear_front n l)

-- the loop over the bytes of the places, and the four of the draw
module _ (b : List ℕ) where
  abbrev pub places : List ℕ
  places = take 160 (drop layout.holds b)

  -- nothing before `i` decides but what `p` says
  abbrev pub Clear : ℕ → Bool → Type 0
  Clear i p = none_held b ≡ (p && clear (160 - i) (drop i places))

  pub clear_begin : length b ≡ layout.state_size → Clear 0 true
  unfolding none_held eightfold
  clear_begin h = numbers-clear b 20 layout.holds (omega arith) ∙ clear_front 160 (drop layout.holds b)

  module _ (i : ℕ) (h : i < 160) (k : i < length places) (p : Bool) (inv : Clear i p) where
    clear_turn : none_held b ≡ (p && (eqb (get_or places i 0) 0 && clear (160 - (i + 1)) (drop (i + 1) places)))
    unfolding clear
    clear_turn = let e : 160 - i ≡ suc (160 - (i + 1)) = omega arith in inv ∙ rw (rest places i 0 k, e)

    pub clear_on : get_or places i 0 ≡ 0 → (w : Bool) → w ≡ p → Clear (i + 1) w
    clear_on z w e = clear_turn ∙ simp (eq-eqb _ 0 z, e)

    pub clear_lost : (get_or places i 0 ≡ 0 → ⊥) → (w : Bool) → w ≡ false → Clear (i + 1) w
    clear_lost z w e = clear_turn ∙ simp (ne_eqb _ 0 z, e, and-false)

  pub clear_end : (i : ℕ) (p : Bool) → 160 ≤ i → Clear i p → p ≡ none_held b
  unfolding clear
  clear_end i p h inv = let e : 160 - i ≡ 0 = omega arith in sym (inv ∙ rw e (and-true p))

-- the bytes of so many zeros
eights : ℕ → List ℕ
eights zero = []
eights (suc n) = 0 ∷ 0 ∷ 0 ∷ 0 ∷ 0 ∷ 0 ∷ 0 ∷ 0 ∷ eights n

none-fits : HoldsFit no_holds
none-fits = let free : HoldFits no_holds.first = record { high = omega arith; low = omega arith; due = omega arith } in record { first = free; second = free; third = free; fourth = free }

-- what is known of places where no query is held
pub record Unheld (b : List ℕ) : Type 0 where
  pub none : holds_at b ≡ no_holds
  pub same : drop layout.holds b ≡ holds_bytes (holds_at b) ++ drop layout.draw b
  pub fits : HoldsFit (holds_at b)
  pub kept : holds_kept last_kept (holds_at b) ≡ true

module _ (b : List ℕ) (bytes : Bytes b) where
  zeros : (at n : ℕ) → at + n * 8 ≤ length b → zeros_from b at n ≡ true → drop at b ≡ eights n ++ drop (at + n * 8) b
  unfolding zeros_from eights bytes64
  zeros at zero h z = let k : at ≡ at + 0 * 8 = omega arith in ap (λ (j : ℕ). drop j b) k
  zeros at (suc n) h z =
      let p = (both (eqb (word64 b at) 0) (zeros_from b (at + 8) n)).0 z in
      let w : word64 b at ≡ 0 = eqb-true _ _ p.0 in
      let k : (at + 8) + n * 8 ≡ at + suc n * 8 = omega arith in
      number-stands b at (omega arith) bytes ∙ ap (λ (v : ℕ). bytes64 v ++ drop (at + 8) b) w
      ∙ ap (λ (l : List ℕ). 0 ∷ 0 ∷ 0 ∷ 0 ∷ 0 ∷ 0 ∷ 0 ∷ 0 ∷ l) (zeros (at + 8) n (omega arith) p.1 ∙ ap (λ (j : ℕ). eights n ++ drop j b) k)

  module _ (long : length b ≡ layout.state_size) (h : none_held b ≡ true) where
    -- the first bytes of the draw
    abbrev behind : List ℕ
    behind = 0 ∷ 0 ∷ 0 ∷ 0 ∷ drop 838 b

    all-zeros : drop layout.holds b ≡ holds_bytes no_holds ++ behind
    unfolding none_held eights holds_bytes hold_bytes set_bytes bytes64
    all-zeros = zeros 678 20 (omega arith) h

    sized : length (holds_bytes no_holds) ≡ layout.holds_size
    unfolding holds_bytes hold_bytes set_bytes bytes64
    sized = refl

    draw : drop layout.draw b ≡ behind
    draw = sym (drop-drop layout.holds_size layout.holds b) ∙ ap (drop layout.holds_size) all-zeros ∙ drop_at (holds_bytes no_holds) behind layout.holds_size sized

    free : holds_at b ≡ no_holds
    free = holds_read no_holds none-fits (record { rest = behind; is = all-zeros })

    pub unheld : Unheld b
    unfolding holds_kept every_of
    unheld = record {
      none = free;
      same = all-zeros ∙ ap (λ (l : List ℕ). holds_bytes no_holds ++ l) (sym draw) ∙ ap (λ (x : Holds). holds_bytes x ++ drop layout.draw b) (sym free);
      fits = subst HoldsFit (sym free) none-fits;
      kept = ap (holds_kept last_kept) free;
    }
