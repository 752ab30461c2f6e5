-- The tests on one entry for a record: what may not hold it does not. Assumes nothing.
use mathlib.Core.Path.{◌≡◌, refl, sym}
use mathlib.Core.List.{List}
use mathlib.Core.Bool.{Bool, true, false, ◌&&◌, and-true, and-false}
use Prim.Native.Nat.{ℕ}
use native.Mathlib.Omega.{arith}
use lib.Dec.{eqb}
use borrow.Author.Tests.{ne_eqb, eqb-false}
use Rattle.wire.specs.case_folding.Fold.{same_name}
use Rattle.wire.specs.expansion.Equal.{same_bytes}
use Rattle.cache.specs.entries.Entries.{owner_held, rdata_held, is_live}
use Rattle.cache.specs.declared.entries.Entry.{Entry}
use Rattle.cache.specs.declared.records.Heard.{Heard}
use Rattle.cache.specs.records.Heard.{owner_in, rdata_in, is_alike, may_hold, has_bytes, is_of_heard, live_heard, holds_heard}

module _ (now : ℕ) (h : Heard) (e : Entry) where
  -- it may hold a record that it is alike to, of as many bytes
  pub may_not : is_alike now h e ≡ false → false ≡ may_hold now h e
  unfolding may_hold
  may_not n = sym (simp n)

  pub alike-type : (e.rtype ≡ h.at.rtype → ⊥) → false ≡ is_alike now h e
  unfolding is_alike
  alike-type n = sym (simp (ne_eqb _ _ n) (and-false (is_live now e)))

module _ (now : ℕ) (store slot : List ℕ) (h : Heard) (i : ℕ) (e : Entry) where
  pub live_not : is_alike now h e ≡ false → false ≡ live_heard now store slot h i e
  unfolding live_heard is_of_heard is_alike
  live_not n = go (is_live now e) (eqb e.rtype h.at.rtype) (eqb e.owner h.at.span.len) (same_name (owner_held store i e) (owner_in slot h)) n
    where
      go : (a b c d : Bool) → (a && (b && c)) ≡ false → false ≡ (a && (b && (c && d)))
      go true true true d k = let z : ◌≡◌ {A = ℕ} 0 1 = cc in absurd (omega arith)
      go true true false d k = refl
      go true false c d k = refl
      go false b c d k = refl

  pub holds-length : (e.rdata ≡ h.len → ⊥) → false ≡ holds_heard now store slot h i e
  unfolding holds_heard
  holds-length n = sym (simp (ne_eqb _ _ n) (and-false (live_heard now store slot h i e)))

  pub holds_not : live_heard now store slot h i e ≡ false → false ≡ holds_heard now store slot h i e
  unfolding holds_heard
  holds_not n = sym (simp n)

  -- what may not hold it does not
  pub holds-may : may_hold now h e ≡ false → false ≡ holds_heard now store slot h i e
  unfolding may_hold
  holds-may n = go (is_alike now h e) refl (eqb e.rdata h.len) refl n
    where
      go : (a : Bool) → is_alike now h e ≡ a → (b : Bool) → eqb e.rdata h.len ≡ b → (a && b) ≡ false → false ≡ holds_heard now store slot h i e
      go false p b q k = holds_not (sym (live_not p))
      go true p false q k = holds-length (eqb-false _ _ q)
      go true p true q k = let z : ◌≡◌ {A = ℕ} 0 1 = cc in absurd (omega arith)

  -- what may hold it and has its bytes holds it
  pub holds-bytes : may_hold now h e ≡ true → has_bytes store slot h i e ≡ holds_heard now store slot h i e
  unfolding has_bytes holds_heard live_heard is_of_heard may_hold is_alike
  holds-bytes k = go (is_live now e) (eqb e.rtype h.at.rtype) (eqb e.owner h.at.span.len) (eqb e.rdata h.len) (same_bytes (rdata_held store i e) (rdata_in slot h)) (same_name (owner_held store i e) (owner_in slot h)) k
    where
      swap : (a b : Bool) → (a && b) ≡ (b && a)
      swap true b = sym (and-true b)
      swap false b = sym (and-false b)

      go : (a b c d x y : Bool) → ((a && (b && c)) && d) ≡ true → (x && y) ≡ ((a && (b && (c && y))) && (d && x))
      go true true true true x y q = swap x y
      go true true true false x y q = let z : ◌≡◌ {A = ℕ} 0 1 = cc in absurd (omega arith)
      go true true false d x y q = let z : ◌≡◌ {A = ℕ} 0 1 = cc in absurd (omega arith)
      go true false c d x y q = let z : ◌≡◌ {A = ℕ} 0 1 = cc in absurd (omega arith)
      go false b c d x y q = let z : ◌≡◌ {A = ℕ} 0 1 = cc in absurd (omega arith)
