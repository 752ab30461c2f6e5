-- A claim's records: the type says which of the own records it is, and all stand under the claim's name. Assumes nothing.
use mathlib.Core.Path.{◌≡◌, refl, sym, subst}
use mathlib.Core.Bool.{Bool, true, false, cond}
use mathlib.Core.Logic.{inl, inr}
use mathlib.Core.Option.{Option, none, some}
use mathlib.Core.List.{List}
use Prim.Native.Nat.{ℕ}
use native.Mathlib.Omega.{arith}
use lib.Dec.{eqb}
use borrow.Author.Tests.{eqb-true}
use Rattle.own.specs.declared.records.Setup.{Setup}
use Rattle.own.specs.records.Records.{has_record, own_labels, own_name, own_rdata}
use Rattle.claims.specs.records.Own.{own_type, claim_for, claimed, present, carries_data, goes_at_once}
use Rattle.claims.specs.declared.records.Own.{Own}
use Rattle.claims.specs.declared.records.Own.TheVariants.{Srv, Txt, A, Aaaa}
use Rattle.link.specs.Responder.{Claim, instance, host}
use Rattle.link.specs.Premises.{Among}
use Rattle.uniqueness.specs.Responder.{own_claim, of_type, claim_record, data_of, rdata, name, is_data}
use Rattle.uniqueness.proofs.Lists.{clash}

pub data Owned : Claim → ℕ → Own → Type 0 where
  srv : {type : ℕ} → type ≡ 33 → Owned instance type Srv
  txt : {type : ℕ} → type ≡ 16 → Owned instance type Txt
  a : {type : ℕ} → type ≡ 1 → Owned host type A
  aaaa : {type : ℕ} → type ≡ 28 → Owned host type Aaaa

pub owned : (k : Claim) (type : ℕ) (r : Own) → claim_record k type ≡ some r → Owned k type r
unfolding claim_record of_type
owned instance type r e = go (eqb type 16) (eqb type 33) refl refl e
  where
    go : (b c : Bool) → eqb type 16 ≡ b → eqb type 33 ≡ c → cond b (some Txt) (cond c (some Srv) none) ≡ some r → Owned instance type r
    go true c p q e = let z : Txt ≡ r = cc in subst (λ (o : Own). Owned instance type o) z (txt (eqb-true type 16 p))
    go false true p q e = let z : Srv ≡ r = cc in subst (λ (o : Own). Owned instance type o) z (srv (eqb-true type 33 q))
    go false false p q e = clash (cc)
owned host type r e = go (eqb type 1) (eqb type 28) refl refl e
  where
    go : (b c : Bool) → eqb type 1 ≡ b → eqb type 28 ≡ c → cond b (some A) (cond c (some Aaaa) none) ≡ some r → Owned host type r
    go true c p q e = let z : A ≡ r = cc in subst (λ (o : Own). Owned host type o) z (a (eqb-true type 1 p))
    go false true p q e = let z : Aaaa ≡ r = cc in subst (λ (o : Own). Owned host type o) z (aaaa (eqb-true type 28 q))
    go false false p q e = clash (cc)

-- a record that the set-up has of a claim and type
pub record Has (s : Setup) (k : Claim) (type : ℕ) (d : List ℕ) : Type 0 where
  pub own : Own
  pub is : claim_record k type ≡ some own
  pub there : has_record s own ≡ true
  pub is-data : own_rdata s own ≡ d

pub has-data : (s : Setup) (k : Claim) (type : ℕ) (d : List ℕ) → rdata s k type ≡ some d → Has s k type d
has-data s k type d e = go (claim_record k type) refl e
  where
    by : (r : Own) → claim_record k type ≡ some r → (b : Bool) → has_record s r ≡ b → cond b (some (own_rdata s r)) none ≡ some d → Has s k type d
    by r p true q f = record { own = r; is = p; there = q; is-data = cc }
    by r p false q f = clash (cc)

    go : (o : Option Own) → claim_record k type ≡ o → data_of s o ≡ some d → Has s k type d
    go none p f = clash (cc)
    go (some r) p f = by r p (has_record s r) refl f

pub one-claim : (k l : Claim) (type : ℕ) (r q : Own) → Owned k type r → Owned l type q → k ≡ l
one-claim k l type r q (srv e) (srv f) = refl
one-claim k l type r q (srv e) (txt f) = refl
one-claim k l type r q (srv e) (a f) = absurd (omega arith)
one-claim k l type r q (srv e) (aaaa f) = absurd (omega arith)
one-claim k l type r q (txt e) (srv f) = refl
one-claim k l type r q (txt e) (txt f) = refl
one-claim k l type r q (txt e) (a f) = absurd (omega arith)
one-claim k l type r q (txt e) (aaaa f) = absurd (omega arith)
one-claim k l type r q (a e) (srv f) = absurd (omega arith)
one-claim k l type r q (a e) (txt f) = absurd (omega arith)
one-claim k l type r q (a e) (a f) = refl
one-claim k l type r q (a e) (aaaa f) = refl
one-claim k l type r q (aaaa e) (srv f) = absurd (omega arith)
one-claim k l type r q (aaaa e) (txt f) = absurd (omega arith)
one-claim k l type r q (aaaa e) (a f) = refl
one-claim k l type r q (aaaa e) (aaaa f) = refl

-- the record's claim, its type and its owner; it is one of the claim's, and goes out at once
pub own_claim_lem : (k : Claim) (type : ℕ) (r : Own) → Owned k type r → claim_for r ≡ own_claim k
own_claim_lem k type r (srv e) = refl
own_claim_lem k type r (txt e) = refl
own_claim_lem k type r (a e) = refl
own_claim_lem k type r (aaaa e) = refl

pub own_type_lem : (k : Claim) (type : ℕ) (r : Own) → Owned k type r → own_type r ≡ type
own_type_lem k type r (srv e) = sym e
own_type_lem k type r (txt e) = sym e
own_type_lem k type r (a e) = sym e
own_type_lem k type r (aaaa e) = sym e

pub own_owner : (s : Setup) (k : Claim) (type : ℕ) (r : Own) → Owned k type r → own_name s r ≡ name s k
unfolding own_name own_labels
own_owner s k type r (srv e) = refl
own_owner s k type r (txt e) = refl
own_owner s k type r (a e) = refl
own_owner s k type r (aaaa e) = refl

pub among_claimed : (k : Claim) (type : ℕ) (r : Own) → Owned k type r → Among r (claimed (own_claim k))
among_claimed k type r (srv e) = inr (inl refl)
among_claimed k type r (txt e) = inl refl
among_claimed k type r (a e) = inl refl
among_claimed k type r (aaaa e) = inr (inl refl)

pub own_at_once : (k : Claim) (type : ℕ) (r : Own) → Owned k type r → goes_at_once r ≡ true
own_at_once k type r (srv e) = refl
own_at_once k type r (txt e) = refl
own_at_once k type r (a e) = refl
own_at_once k type r (aaaa e) = refl

-- it carries data, and is of a type that demand 3 speaks of
pub own_carries : (k : Claim) (type : ℕ) (r : Own) → Owned k type r → carries_data r ≡ true
own_carries k type r (srv e) = refl
own_carries k type r (txt e) = refl
own_carries k type r (a e) = refl
own_carries k type r (aaaa e) = refl

pub own_data : (k : Claim) (type : ℕ) (r : Own) → Owned k type r → is_data (own_type r) ≡ true
own_data k type r (srv e) = refl
own_data k type r (txt e) = refl
own_data k type r (a e) = refl
own_data k type r (aaaa e) = refl

pub is-present : (s : Setup) (r : Own) → has_record s r ≡ present r s.hasaaaa
unfolding has_record
is-present s r = refl
