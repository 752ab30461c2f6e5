-- No two own records have the same owner and type: the types differ, or the names do by their labels. Assumes nothing.
use mathlib.Core.Path.{◌≡◌, refl, sym, ap, subst, ◌∙◌}
use mathlib.Core.Bool.{Bool, true, false, not, ◌&&◌, ◌||◌, and-false}
use Prim.Native.Nat.{ℕ}
use native.Mathlib.Omega.{arith}
use lib.Dec.{eqb}
use lib.ListN.{length}
use borrow.Author.Tests.{eq-eqb, eqb-true, not-true}
use Rattle.wire.specs.case_folding.Fold.{same_name}
use Rattle.wire.proofs.case_folding.Equal.{same_refl}
use Rattle.wire.proofs.labels.Encoded.{same_count}
use Rattle.claims.specs.records.Own.{all, index_of, record_at, own_type}
use Rattle.claims.specs.records.Sets.{every_of}
use Rattle.claims.specs.declared.records.Own.{Own}
use Rattle.claims.proofs.records.Sets.{at-index, every-at}
use Rattle.own.specs.declared.records.Setup.{Setup}
use Rattle.own.specs.records.Setups.{service_labels, instance_labels, host_labels}
use Rattle.own.specs.records.Records.{own_labels, own_name}
use Rattle.own.proofs.records.Valid.{Valid, own_labels_lem}

clash : {A : Type 0} → ◌≡◌ {A = Bool} false true → A
clash h = let z : ◌≡◌ {A = ℕ} 0 1 = cc in absurd (omega arith)

-- one record by its index
same_index : (p o : Own) → eqb (index_of p) (index_of o) ≡ true → p ≡ o
same_index p o e = sym (at-index p) ∙ ap record_at (eqb-true (index_of p) (index_of o) e) ∙ at-index o

-- two records of one type have names with different numbers of labels
abbrev differ : Setup → Own → Own → Bool
differ s p o = not (eqb (own_type p) (own_type o)) || (eqb (index_of p) (index_of o) || not (eqb (length (own_labels s p)) (length (own_labels s o))))

all-differ : (s : Setup) → every_of (λ p. every_of (λ o. differ s p o) all) all ≡ true
unfolding every_of own_labels instance_labels service_labels host_labels
all-differ s = refl

two_differ : (s : Setup) (p o : Own) → differ s p o ≡ true
two_differ s p o = every-at (λ q. differ s p q) o (every-at (λ q. every_of (λ r. differ s q r) all) p (all-differ s))

module _ (s : Setup) (ok : Valid s) (p o : Own) where
  labels-differ : eqb (length (own_labels s p)) (length (own_labels s o)) ≡ false → same_name (own_name s p) (own_name s o) ≡ false
  unfolding own_name
  labels-differ d = go (same_name (own_name s p) (own_name s o)) refl
    where
      go : (b : Bool) → same_name (own_name s p) (own_name s o) ≡ b → b ≡ false
      go false e = refl
      go true e = clash (sym d ∙ eq-eqb _ _ (same_count (own_labels_lem s ok p).labels (own_labels_lem s ok o).labels e))

  abbrev same_owner : Bool
  same_owner = same_name (own_name s p) (own_name s o)

  pub apart : (same_owner && eqb (own_type p) (own_type o)) ≡ eqb (index_of p) (index_of o)
  apart = go (eqb (own_type p) (own_type o)) (eqb (index_of p) (index_of o)) refl refl (two_differ s p o)
    where
      itself : (q : Own) → p ≡ q → (same_name (own_name s p) (own_name s q) && eqb (own_type p) (own_type q)) ≡ true
      itself q e =
          subst (λ (r : Own). (same_name (own_name s p) (own_name s r) && eqb (own_type p) (own_type r)) ≡ true) e
          (simp (same_refl (own_name s p), eq-eqb (own_type p) (own_type p) refl))

      go : (b c : Bool) → eqb (own_type p) (own_type o) ≡ b → eqb (index_of p) (index_of o) ≡ c
          → (not b || (c || not (eqb (length (own_labels s p)) (length (own_labels s o))))) ≡ true → (same_owner && b) ≡ c
      go b true e f d = rw e at (itself o (same_index p o f))
      go false false e f d = and-false same_owner
      go true false e f d = simp (labels-differ (not-true (eqb (length (own_labels s p)) (length (own_labels s o))) d))
