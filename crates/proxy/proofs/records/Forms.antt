-- The form of rdata that fits its type. Assumes nothing.
use mathlib.Core.Path.{◌≡◌, refl, sym, ap, ◌∙◌}
use mathlib.Core.List.{List}
use mathlib.Core.Bool.{Bool, true, false, cond, ◌&&◌}
use Prim.Native.Nat.{ℕ, ◌≤◌}
use native.Mathlib.Omega.{arith}
use lib.ListN.{length, drop}
use lib.Dec.{leb, eqb}
use borrow.Author.Tests.{leb-true, eqb-true}
use mathlib.Mathlib.Data.Bool.Basic.{and-eq-true-eq-eq-true-and-eq-true as both}
use Rattle.wire.specs.names.Names.{is_name}
use Rattle.wire.specs.rdata.Rdata.{strings_fill, form_of}
use Rattle.proxy.specs.records.Records.{fits_type}

-- the bytes before a name are there
pub room-before : (rtype : ℕ) (d : List ℕ) → fits_type rtype d ≡ true → (form_of rtype).named ≡ true → (form_of rtype).before ≤ length d
unfolding fits_type
room-before rtype d h n = go (eqb rtype 1) refl (eqb rtype 28) refl (eqb rtype 16) refl h
  where
    not_named : (k : ℕ) → rtype ≡ k → (form_of k).named ≡ false → ⊥
    not_named k e f = let g : true ≡ false = sym n ∙ ap (λ (t : ℕ). (form_of t).named) e ∙ f in let z : ◌≡◌ {A = ℕ} 0 1 = cc in omega arith

    go : (a : Bool) → eqb rtype 1 ≡ a → (b : Bool) → eqb rtype 28 ≡ b → (c : Bool) → eqb rtype 16 ≡ c
        → cond a (eqb (length d) 4) (cond b (eqb (length d) 16)
        (cond c (strings_fill 0 d) ((form_of rtype).named && (leb (form_of rtype).before (length d) && is_name (drop (form_of rtype).before d))))) ≡ true
        → (form_of rtype).before ≤ length d
    go true e b f c g k = absurd (not_named 1 (eqb-true rtype 1 e) refl)
    go false e true f c g k = absurd (not_named 28 (eqb-true rtype 28 f) refl)
    go false e false f true g k = absurd (not_named 16 (eqb-true rtype 16 g) refl)
    go false e false f false g k =
        let m = (both (form_of rtype).named (leb (form_of rtype).before (length d) && is_name (drop (form_of rtype).before d))).0 k in
        leb-true _ _ ((both (leb (form_of rtype).before (length d)) (is_name (drop (form_of rtype).before d))).0 m.1).0
