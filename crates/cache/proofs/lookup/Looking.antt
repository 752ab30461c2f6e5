-- A lookup's refusal, from what the code has tested. Assumes nothing.
use mathlib.Core.Path.{◌≡◌, sym}
use mathlib.Core.List.{List}
use mathlib.Core.Bool.{true, false}
use Prim.Native.Nat.{ℕ}
use lib.ListN.{length}
use borrow.Author.Tests.{eq-eqb, ne_eqb}
use Rattle.wire.specs.names.Names.{is_name}
use Rattle.cache.specs.entries.Cache.{is_store_of}
use Rattle.cache.specs.lookup.Answers.{looked_refusal}

-- the refusals of a lookup
module _ (r n : ℕ) (store name : List ℕ) where
  pub look-entries : (r ≡ 0 → ⊥) → r ≡ looked_refusal r n store name
  look-entries z = sym (simp (ne_eqb r 0 z))

  module _ (z : r ≡ 0) where
    pub look-store : is_store_of n (length store) ≡ false → 8 ≡ looked_refusal r n store name
    look-store h = sym (simp (eq-eqb r 0 z, h))

    pub look-name : is_store_of n (length store) ≡ true → is_name name ≡ false → 6 ≡ looked_refusal r n store name
    look-name h k = sym (simp (eq-eqb r 0 z, h, k))

    pub look-passes : is_store_of n (length store) ≡ true → is_name name ≡ true → 0 ≡ looked_refusal r n store name
    look-passes h k = sym (simp (eq-eqb r 0 z, h, k))
