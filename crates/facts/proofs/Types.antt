-- Where no record has the type of a claimed record, none conflicts. Assumes nothing.
use mathlib.Core.Path.{◌≡◌, refl, sym, ap, ◌∙◌}
use mathlib.Core.List.{List, [], ◌∷◌, ◌++◌}
use mathlib.Core.Bool.{Bool, true, false, ◌&&◌, ◌||◌, and-false}
use mathlib.Mathlib.Data.Bool.Basic.{or-eq-false-eq-eq-false-and-eq-false as neither}
use Prim.Native.Nat.{ℕ}
use borrow.Author.Tests.{eqb-true}
use lib.Dec.{eqb}
use Rattle.wire.specs.Lists.{some}
use Rattle.wire.specs.message.Message.{Record, all_records}
use Rattle.wire.specs.message.Layout.{record_at}
use Rattle.wire.specs.message.Readable.{readable, message_in}
use Rattle.wire.specs.declared.message.Section.{Section}
use Rattle.wire.specs.declared.message.Layout.{Layout}
use Rattle.claims.specs.records.Own.{own_type, first_of, second_of}
use Rattle.claims.specs.declared.answers.Heard.{Heard}
use Rattle.claims.specs.declared.records.Claim.{Claim}
use Rattle.claims.specs.declared.records.Claim.TheVariants.{Instance, Host}
use Rattle.claims.specs.declared.records.Own.{Own}
use Rattle.own.specs.declared.records.Setup.{Setup}
use Rattle.own.specs.records.Records.{has_record, own_name, own_rdata}
use Rattle.facts.specs.Facts.{conflicts, conflicted, in_conflict, response_to}
use Rattle.facts.specs.Types.{can_conflict, type_conflicts, some_type, may_conflict}
use Rattle.facts.proofs.Responses.{some_append}

-- a record of another type does not conflict
module _ (name own : List ℕ) (rtype : ℕ) (can : can_conflict rtype ≡ true) where
  other-type : (n : ℕ) → can_conflict n ≡ false → eqb n rtype ≡ false
  other-type n f = go (eqb n rtype) refl
    where
      go : (v : Bool) → eqb n rtype ≡ v → v ≡ false
      go false e = refl
      go true e = sym (sym f ∙ ap can_conflict (eqb-true n rtype e) ∙ can)

  no_conflict_lem : (x : Record) → type_conflicts x ≡ false → conflicts name rtype own x ≡ false
  no_conflict_lem x t =
      let e : eqb x.rtype rtype ≡ false = other-type x.rtype t in
      simp (e, and-false)

  abbrev none : List Record → Type 0
  none rs = some (conflicts name rtype own) rs ≡ false

  none_of : (rs : List Record) → some type_conflicts rs ≡ false → none rs
  unfolding some
  none_of [] h = refl
  none_of (x ∷ rs) h =
      let k = (neither (type_conflicts x) (some type_conflicts rs)).0 h in
      ap (λ (v : Bool). v || some (conflicts name rtype own) rs) (no_conflict_lem x k.0) ∙ none_of rs k.1

  module _ (p : List ℕ) where
    none_in : (s : Section) → some_type p s ≡ false → none (readable (record_at p) s.count s.at)
    unfolding some_type
    none_in s h = none_of (readable (record_at p) s.count s.at) h

    none-conflicts : (l : Layout) → may_conflict p l ≡ false → none (all_records (message_in p l))
    unfolding may_conflict message_in
    none-conflicts l h =
        let x = (neither (some_type p l.answers) (some_type p l.authorities || some_type p l.additionals)).0 h in
        let y = (neither (some_type p l.authorities) (some_type p l.additionals)).0 x.1 in
        let test = conflicts name rtype own in
        let xs = readable (record_at p) l.answers.count l.answers.at in
        let ys = readable (record_at p) l.authorities.count l.authorities.at in
        let zs = readable (record_at p) l.additionals.count l.additionals.at in
        some_append test xs (ys ++ zs) ∙ ap (λ (b : Bool). b || some test (ys ++ zs)) (none_in l.answers x.0)
        ∙ some_append test ys zs ∙ ap (λ (b : Bool). b || some test zs) (none_in l.authorities y.0) ∙ none_in l.additionals y.1

module _ (s : Setup) (p : List ℕ) (l : Layout) (h : may_conflict p l ≡ false) where
  not-conflicted : (o : Own) → can_conflict (own_type o) ≡ true → conflicted s o (message_in p l) ≡ false
  unfolding conflicted
  not-conflicted o can =
      ap (λ (v : Bool). has_record s o && v) (none-conflicts (own_name s o) (own_rdata s o) (own_type o) can p l h) ∙ and-false (has_record s o)

  quiet : (c : Claim) → conflicted s (first_of c) (message_in p l) ≡ false → conflicted s (second_of c) (message_in p l) ≡ false
      → ◌≡◌ {A = Heard} (record { probe = false; later = false; conflict = false }) (response_to s c (message_in p l))
  unfolding some
  quiet c a b = λ j. record { probe = false; later = false; conflict = so j }
    where
      so : false ≡ in_conflict s c (message_in p l)
      so = sym (λ j. a j || (b j || false))

  pub quiet_claim : (c : Claim) → ◌≡◌ {A = Heard} (record { probe = false; later = false; conflict = false }) (response_to s c (message_in p l))
  unfolding can_conflict
  quiet_claim Instance = quiet Instance (not-conflicted (first_of Instance) refl) (not-conflicted (second_of Instance) refl)
  quiet_claim Host = quiet Host (not-conflicted (first_of Host) refl) (not-conflicted (second_of Host) refl)
