-- The theorems of specs/laws/Passing.antt. Assumes nothing.
use Rattle.std.specs.Prelude.{Some, None, Result, Ok, Err}
use mathlib.Core.Path.{◌≡◌, refl, sym, ap, ◌∙◌}
use mathlib.Core.List.{List, ◌++◌}
use mathlib.Core.Bool.{Bool, true, false, cond}
use Prim.Native.Nat.{ℕ, ◌<◌, ◌≤◌}
use native.Mathlib.Omega.{arith}
use borrow.Author.Tests.{ltb-true, ltb-false}
use mathlib.Mathlib.Data.Bool.Basic.{and-eq-true-eq-eq-true-and-eq-true as both}
use lib.ListN.{length, take}
use lib.Seq.{take_at, length-take-le}
use lib.Dec.{ltb, eqb}
use Rattle.wire.specs.refusals.Numbers.{refused_by}
use Rattle.wire.specs.declared.refusals.Refusal.{Refusal}
use Rattle.wire.specs.names.Names.{is_name}
use Rattle.proxy.specs.domains.Under.{moved_name}
use Rattle.wire.specs.rdata.Rdata.{form_of}
use Rattle.wire.specs.message.Message.{class_of}
use Rattle.cache.specs.entries.Entries.{is_live}
use Rattle.proxy.specs.domains.Domains.{Domains, are_domains, setup_tests, unless_refused}
use Rattle.proxy.specs.questions.Questions.{is_below, is_apex_type, inward, is_negative, question_tests, question_of}
use Rattle.proxy.specs.records.Records.{fits_type, is_whole, target_out, rdata_out, capped, mapped, record_tests, passed_record, record_out, none_out}
use Rattle.proxy.specs.records.Held.{held_record, held_tests, held_out}
use Rattle.proxy.specs.declared.records.Passed.{Passed}
use Rattle.proxy.specs.laws.Passing.{is_five, OnlyWhole, AllWhole, HeldOn, OnlyLive, DataKept, NegativeExactly}
use Rattle.proxy.proofs.laws.Mapping.{at-apex}

-- what fits a type is of the five
fits-five : (rtype : ℕ) (d : List ℕ) → fits_type rtype d ≡ true → is_five rtype ≡ true
unfolding fits_type is_five
fits-five rtype d h = go (eqb rtype 1) refl (eqb rtype 28) refl (eqb rtype 16) refl (eqb rtype 12) refl (eqb rtype 33) refl h
  where
    go : (b : Bool) → eqb rtype 1 ≡ b → (c : Bool) → eqb rtype 28 ≡ c → (e : Bool) → eqb rtype 16 ≡ e → (f : Bool) → eqb rtype 12 ≡ f → (g : Bool) → eqb
        rtype 33 ≡ g
        → fits_type rtype d ≡ true → is_five rtype ≡ true
    go true p c q e r f s g t k = simp p
    go false p true q e r true s g t k = simp (p, s)
    go false p true q true r false s g t k = simp (p, s, r)
    go false p true q false r false s g t k = simp (p, s, r, q)
    go false p false q e r true s g t k = simp (p, s)
    go false p false q true r false s g t k = simp (p, s, r)
    go false p false q false r false s true t k = simp (p, s, r, q, t)
    go false p false q false r false s false t k =
        let w : fits_type rtype d ≡ false = simp (p, q, r, s, t) in
        let z : true ≡ false = sym k ∙ w in
        let o : ◌≡◌ {A = ℕ} 0 1 = cc in absurd (omega arith)

-- a TTL that is capped
capped-most : (n : ℕ) → capped n ≤ 10
capped-most n = go (ltb 10 n) refl
  where
    go : (b : Bool) → ltb 10 n ≡ b → cond (ltb 10 n) 10 n ≤ 10
    go true e = rw e (omega arith)
    go false e = rw e (ltb-false 10 n e)

capped_left : (n : ℕ) → capped n ≤ n
capped_left n = go (ltb 10 n) refl
  where
    go : (b : Bool) → ltb 10 n ≡ b → cond (ltb 10 n) 10 n ≤ n
    go true e = rw e (omega (arith, ltb-true 10 n e))
    go false e = rw e (omega arith)

-- the answer by its tests: a record is passed on only where none of them refuses it and it is whole
passes : (t : Result (Unit {0}) Refusal) (w : Bool) (y x : Passed) → unless_refused t (Ok (cond w (Some y) None)) ≡ Ok (Some x) → (w ≡ true) × (x ≡ y)
passes (Ok u) true y x h = (refl, cc)
passes (Ok u) false y x h = let z : ◌≡◌ {A = ℕ} 0 1 = cc in absurd (omega arith)
passes (Err refusal) w y x h = let z : ◌≡◌ {A = ℕ} 0 1 = cc in absurd (omega arith)

pub only-whole : OnlyWhole
unfolding record_out mapped
only-whole d r x h =
    let q = passes (refused_by (record_tests d r)) (is_whole r.owner r.rtype r.rdata) (passed_record (mapped d r)) x h in
    let ttl : x.fields.ttl ≡ capped r.ttl = ap (λ (y : Passed). y.fields.ttl) q.1 in
    let class : x.fields.class ≡ class_of r.class = ap (λ (y : Passed). y.fields.class) q.1 in
    record {
      whole = q.0;
      five = fits-five r.rtype r.rdata ((both (is_name r.owner) (fits_type r.rtype r.rdata)).0 q.0).1;
      type_kept = ap (λ (y : Passed). y.fields.rtype) q.1;
      ttl_most = rw ttl (capped-most r.ttl);
      ttl_left = rw ttl (capped_left r.ttl);
      class_clear = omega (arith, class);
      class_kept = class;
    }

pub all_whole : AllWhole
unfolding record_out
all_whole d r h w l = simp (h, w, l)

-- no record is passed on of none
none_passes : (d : Domains) (x : Passed) → none_out d ≡ Ok (Some x) → ⊥
unfolding none_out
none_passes d x h = go (refused_by (setup_tests d)) h
  where
    go : (t : Result (Unit {0}) Refusal) → unless_refused t (Ok None) ≡ Ok (Some x) → ⊥
    go (Ok u) k = let z : ◌≡◌ {A = ℕ} 0 1 = cc in omega arith
    go (Err refusal) k = let z : ◌≡◌ {A = ℕ} 0 1 = cc in omega arith

pub only-live : OnlyLive
unfolding held_out
only-live d now e slot x h = go (refused_by (held_tests now e slot)) (is_live now e) refl h
  where
    go : (t : Result (Unit {0}) Refusal) (l : Bool) → is_live now e ≡ l
        → unless_refused t (cond l (record_out d (held_record now e slot)) (none_out d)) ≡ Ok (Some x) → HeldOn now e x.fields
    go (Ok u) true t k =
        let q = only-whole d (held_record now e slot) x k in
        let live : now < e.expiry = ltb-true now e.expiry t in
        record {
          live = live;
          type_kept = q.type_kept;
          ttl_most = q.ttl_most;
          ttl_left = omega (arith, q.ttl_left);
          class_one = q.class_kept;
        }
    go (Ok u) false t k = absurd (none_passes d x k)
    go (Err refusal) l t k = let z : ◌≡◌ {A = ℕ} 0 1 = cc in absurd (omega arith)

kept-plain : (d : Domains) (rtype : ℕ) (rdata : List ℕ) → (form_of rtype).named ≡ false → rdata_out d rtype rdata ≡ rdata
unfolding rdata_out
kept-plain d rtype rdata n = simp n

kept-before : (d : Domains) (rtype : ℕ) (rdata : List ℕ) → (form_of rtype).before ≤ length rdata
    → take (form_of rtype).before (rdata_out d rtype rdata) ≡ take (form_of rtype).before rdata
unfolding rdata_out
kept-before d rtype rdata l = go (form_of rtype).named refl
  where
    go : (b : Bool) → (form_of rtype).named ≡ b → take (form_of rtype).before (rdata_out d rtype rdata) ≡ take (form_of rtype).before rdata
    go false e = ap (take (form_of rtype).before) (kept-plain d rtype rdata e)
    go true e =
        let w : rdata_out d rtype rdata ≡ take (form_of rtype).before rdata ++ target_out d rtype rdata = simp e in
        ap (take (form_of rtype).before) w
        ∙ take_at (take (form_of rtype).before rdata) (target_out d rtype rdata) (form_of rtype).before (length-take-le (form_of rtype).before rdata l)

pub data_kept : DataKept
data_kept = record { plain = plain; before = before }
  where
    plain : (d : Domains) (rtype : ℕ) (rdata : List ℕ) → (form_of rtype).named ≡ false → rdata_out d rtype rdata ≡ rdata
    plain d rtype rdata n = kept-plain d rtype rdata n

    before : (d : Domains) (rtype : ℕ) (rdata : List ℕ) → (form_of rtype).before ≤ length rdata → take (form_of rtype).before (rdata_out d rtype rdata) ≡ take
        (form_of rtype).before rdata
    before d rtype rdata l = kept-before d rtype rdata l

-- a negative answer
differ : true ≡ false → ⊥
differ h = let z : ◌≡◌ {A = ℕ} 0 1 = cc in omega arith

negative_is : (d : Domains) (name : List ℕ) (rtype : ℕ) → is_apex_type rtype ≡ true → is_below d name ≡ true → is_negative d name rtype ≡ true
unfolding is_negative
negative_is d name rtype t b = simp (t, b)

negative_only : (d : Domains) (name : List ℕ) (rtype : ℕ) → question_of d name rtype ≡ Ok None → (is_apex_type rtype ≡ true) × (is_below d name ≡ true)
unfolding question_of is_negative
negative_only d name rtype h = go (refused_by (question_tests d name rtype)) (is_negative d name rtype) refl h
  where
    go : (t : Result (Unit {0}) Refusal) (n : Bool) → is_negative d name rtype ≡ n
        → unless_refused t (Ok (cond n None (Some (moved_name (inward d name))))) ≡ Ok None → (is_apex_type rtype ≡ true) × (is_below d name ≡ true)
    go (Ok u) true e k = (both (is_apex_type rtype) (is_below d name)).0 e
    go (Ok u) false e k = let z : ◌≡◌ {A = ℕ} 0 1 = cc in absurd (omega arith)
    go (Err refusal) n e k = let z : ◌≡◌ {A = ℕ} 0 1 = cc in absurd (omega arith)

negative_all : (d : Domains) (name : List ℕ) (rtype : ℕ) → is_name name ≡ true → are_domains d ≡ true → is_negative d name rtype ≡ true
    → question_of d name rtype ≡ Ok None
unfolding question_of
negative_all d name rtype n h k = simp (n, h, k)

pub negative_exactly : NegativeExactly
negative_exactly = record { only = only; all = all; apex = apex }
  where
    only : (d : Domains) (name : List ℕ) (rtype : ℕ) → question_of d name rtype ≡ Ok None → (is_apex_type rtype ≡ true) × (is_below d name ≡ true)
    only d name rtype h = negative_only d name rtype h

    all : (d : Domains) (name : List ℕ) (rtype : ℕ) → is_name name ≡ true → are_domains d ≡ true → is_apex_type rtype ≡ true → is_below d name ≡ true
        → question_of d name rtype ≡ Ok None
    all d name rtype n h t b = negative_all d name rtype n h (negative_is d name rtype t b)

    apex : (d : Domains) (rtype : ℕ) → are_domains d ≡ true → (question_of d d.rich rtype ≡ Ok None → ⊥) × (question_of d d.ldh rtype ≡ Ok None → ⊥)
    apex d rtype h =
        let k = at-apex d h in (
          λ g. differ (sym (negative_only d d.rich rtype g).1 ∙ k.0),
          λ g. differ (sym (negative_only d d.ldh rtype g).1 ∙ k.1),
        )
