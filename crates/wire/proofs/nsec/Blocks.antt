-- A window block: what its test asks, and its bits. Assumes nothing.
use mathlib.Core.Path.{◌≡◌, refl, sym, ap, ◌∙◌}
use mathlib.Core.List.{List}
use mathlib.Core.Bool.{Bool, true, false, not}
use Prim.Native.Nat.{ℕ, zero, suc, ◌+◌, ◌/◌, ◌%◌, ◌-◌, ◌^◌, ◌<◌, ◌≤◌}
use native.Mathlib.Omega.{arith}
use borrow.Author.Tests.{eq-eqb, ne_eqb, lt-leb, le-leb, eqb-true, leb-true}
use mathlib.Mathlib.Data.Bool.Basic.{and-eq-true-eq-eq-true-and-eq-true as both}
use lib.ListN.{length, take, drop, length-take}
use lib.Dec.{leb, eqb}
use Rattle.wire.specs.octets.Octets.{byte_at}
use Rattle.wire.specs.case_folding.Fold.{same_name}
use Rattle.wire.specs.nsec.Nsec.{bit_of, names, is_block, is_nsec}
use Rattle.wire.specs.rdata.Restricted.{Block}
use Rattle.wire.proofs.case_folding.Equal.{same_lengths, same_length}

-- the value of a bit is a power of two: from the least bit, the last, by as many places as there are bits behind it
pub bit_power : (k : ℕ) → k < 8 → 2 ^ (7 - k) ≡ bit_of k
bit_power zero h = refl
bit_power (suc zero) h = refl
bit_power (suc (suc zero)) h = refl
bit_power (suc (suc (suc zero))) h = refl
bit_power (suc (suc (suc (suc zero)))) h = refl
bit_power (suc (suc (suc (suc (suc zero))))) h = refl
bit_power (suc (suc (suc (suc (suc (suc zero)))))) h = refl
bit_power (suc (suc (suc (suc (suc (suc (suc zero))))))) h = refl
bit_power (suc (suc (suc (suc (suc (suc (suc (suc k)))))))) h = absurd (omega arith)

-- a shift that brings the bit of a type to the last place
pub bit_shifted : (block : List ℕ) (rtype n : ℕ) → n ≡ byte_at block (rtype / 8 + 2) → eqb (n / 2 ^ (7 - rtype % 8) % 2) 1 ≡ names rtype block
unfolding names
bit_shifted block rtype n is = rw (is, bit_power (rtype % 8) (omega arith))

-- what the test of a block asks
not-clear : (x : Bool) → not x ≡ true → x ≡ false
not-clear true h = let z : ◌≡◌ {A = ℕ} 0 1 = cc in absurd (omega arith)
not-clear false h = refl

pub is_block_lem : (b : List ℕ) → is_block b ≡ true → Block b
unfolding is_block
is_block_lem b h =
    let f₁ = (both (eqb (byte_at b 0) 0) _).0 h in
    let f₂ = (both (leb 1 (byte_at b 1)) _).0 f₁.1 in
    let f₃ = (both (leb (byte_at b 1) 32) _).0 f₂.1 in
    let f₄ = (both (eqb (length b) (byte_at b 1 + 2)) _).0 f₃.1 in record {
      number = eqb-true _ _ f₁.0;
      some = leb-true _ _ f₂.0;
      most = leb-true _ _ f₃.0;
      filled = eqb-true _ _ f₄.0;
      clear = not-clear (names 47 b) f₄.1;
    }

pub block-is : (b : List ℕ) → Block b → is_block b ≡ true
unfolding is_block
block-is b k = simp (eq-eqb _ _ k.number, le-leb _ _ k.some, le-leb _ _ k.most, eq-eqb _ _ k.filled, k.clear)

pub block-long : (b : List ℕ) → is_block b ≡ true → (3 ≤ length b) × (length b ≤ 34)
block-long b h = let k = is_block_lem b h in (omega (arith, k.filled, k.some), omega (arith, k.filled, k.most))

-- each test in turn
module _ (b : List ℕ) where
  pub other-number : (byte_at b 0 ≡ 0 → ⊥) → false ≡ is_block b
  unfolding is_block
  other-number h = simp (ne_eqb _ _ h)

  module _ (zero : byte_at b 0 ≡ 0) where
    pub no_bits : byte_at b 1 < 1 → false ≡ is_block b
    unfolding is_block
    no_bits h = simp (eq-eqb _ _ zero, lt-leb _ _ h)

    module _ (some : 1 ≤ byte_at b 1) where
      pub many-bits : 32 < byte_at b 1 → false ≡ is_block b
      unfolding is_block
      many-bits h = simp (eq-eqb _ _ zero, le-leb _ _ some, lt-leb _ _ h)

      module _ (most : byte_at b 1 ≤ 32) where
        pub not-filled : (length b ≡ byte_at b 1 + 2 → ⊥) → false ≡ is_block b
        unfolding is_block
        not-filled h = simp (eq-eqb _ _ zero, le-leb _ _ some, le-leb _ _ most, ne_eqb _ _ h)

        pub by_bit : length b ≡ byte_at b 1 + 2 → (v : Bool) → v ≡ names 47 b → not v ≡ is_block b
        unfolding is_block
        by_bit h v is = simp (eq-eqb _ _ zero, le-leb _ _ some, le-leb _ _ most, eq-eqb _ _ h) (ap not is)

-- rdata of the restricted kind, for an owner
module _ (owner d : List ℕ) where
  pub nsec_short : length d < length owner → false ≡ is_nsec owner d
  unfolding is_nsec
  nsec_short h =
      simp (same_lengths owner (take (length owner) d) (λ e. omega (arith, length-take (length owner) d)))

  pub nsec_other : (v : Bool) → v ≡ same_name owner (take (length owner) d) → v ≡ false → false ≡ is_nsec owner d
  unfolding is_nsec
  nsec_other v is e = simp (sym is ∙ e)

  pub nsec_by_block : (v : Bool) → v ≡ same_name owner (take (length owner) d) → v ≡ true → (l : List ℕ) → l ≡ drop (length owner) d
      → (w : Bool) → w ≡ is_block l → w ≡ is_nsec owner d
  unfolding is_nsec
  nsec_by_block v is e l from w isw = simp (sym is ∙ e) (isw ∙ ap is_block from)

  pub nsec_long : is_nsec owner d ≡ true → length owner ≤ length d
  unfolding is_nsec
  nsec_long h =
      let t = (both (same_name owner (take (length owner) d)) (is_block (drop (length owner) d))).0 h in
      omega (arith, same_length owner (take (length owner) d) t.0, length-take (length owner) d)
