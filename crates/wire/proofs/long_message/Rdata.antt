-- Whether rdata is as its type asks, by where the name in it ends; and what is past a question and a record. Assumes nothing.
use Rattle.std.specs.Option.{option_eq}
use Rattle.std.specs.Prelude.{None, Option, Some}
use mathlib.Core.Path.{◌≡◌, refl, sym, ap, ◌∙◌}
use mathlib.Core.List.{List, ◌++◌}
use mathlib.Core.Bool.{Bool, true, false, cond}
use Prim.Native.Nat.{ℕ, ◌+◌, ◌-◌, ◌<◌, ◌≤◌}
use native.Mathlib.Omega.{arith}
use borrow.Author.Tests.{le-leb, lt-leb, ne_eqb, eqb-true}
use lib.Dec.{eqb}
use lib.ListN.{length, take, drop, length-drop}
use lib.Seq.{length-take-le}
use Rattle.wire.specs.octets.Octets.{word16, word32}
use Rattle.wire.specs.names.Names.{Reading, name, malformed, name_at}
use Rattle.wire.specs.rdata.Rdata.{rdata, unfit, strings_fill, ending_name, with_name, form_in, rdata_in, rdata_at}
use Rattle.wire.specs.rdata.Answers.{fits}
use Rattle.wire.specs.message.Layout.{question_read, record_read, question_at, record_at}
use Rattle.wire.specs.names.Answers.{span_of}
use Rattle.wire.specs.message.Message.{ttl_of}
use Rattle.wire.specs.message.Places.{past_item}
use Rattle.wire.specs.long_message.Noted.{past_name, ends_at}
use Rattle.wire.specs.declared.message.RecordAt.{RecordAt}
use Rattle.wire.proofs.rdata.Fits.{in_a, in_txt_lem, in_aaaa, in_other}
use Rattle.wire.proofs.rdata.Restricted.{never_unfit}
use Rattle.wire.proofs.message.Fields.{past_record_fits, past_record_unfit}

-- a name that was passed
pub as_past : (x : Reading) (r : (Option ℕ)) (e : ℕ) → r ≡ past_name x → r ≡ Some e → (bs : List ℕ) × (x ≡ name bs e)
as_past (name bs d) r e h k = let g : d ≡ e = cc in (bs, ap (name bs) g)
as_past malformed r e h k = let z : ◌≡◌ {A = ℕ} 0 1 = cc in absurd (omega arith)

pub as_none : (x : Reading) (r : (Option ℕ)) → r ≡ past_name x → r ≡ None → x ≡ malformed
as_none (name bs d) r h k = let z : ◌≡◌ {A = ℕ} 0 1 = cc in absurd (omega arith)
as_none malformed r h k = refl

pub ends_as : (p : List ℕ) (at : ℕ) (r : Option ℕ) (end : ℕ) → r ≡ past_name (name_at p at) → option_eq eqb r (Some end) ≡ ends_at end (name_at p at)
ends_as p at r end h = ap (λ (x : Option ℕ). option_eq eqb x (Some end)) h ∙ go (name_at p at)
  where
    go : (x : Reading) → option_eq eqb (past_name x) (Some end) ≡ ends_at end x
    go (name bs e) = refl
    go malformed = refl

fits-cond : (b : Bool) (d : List ℕ) → fits (cond b (rdata d) unfit) ≡ b
fits-cond true d = refl
fits-cond false d = refl

fits-ending : (front back : List ℕ) (end stop : ℕ) → end ≡ stop → (x : Reading) → ends_at end x ≡ fits (ending_name front back stop x)
fits-ending front back end stop e (name bs d) = ap (eqb d) e ∙ sym (fits-cond (eqb d stop) (front ++ (bs ++ back)))
fits-ending front back end stop e malformed = refl

fits-named : (p d : List ℕ) (at before : ℕ) → before ≤ length d → ends_at (at + length d) (name_at p (at + before)) ≡ fits (with_name p at d before 0)
fits-named p d at before h =
    let h' : before + 0 ≤ length d = omega arith in
    let e : at + length d ≡ at + (length d - 0) = omega arith in
    simp (le-leb _ _ h') (fits-ending (take before d) (drop (length d - 0) d) (at + length d) (at + (length d - 0)) e (name_at p (at + before)))

module _ (p : List ℕ) (f : RecordAt) (inside : f.rdata + f.rdlength ≤ length p) where
  abbrev part : List ℕ
  part = take f.rdlength (drop f.rdata p)

  part_long : length part ≡ f.rdlength
  part_long = length-take-le f.rdlength (drop f.rdata p) (omega (arith, length-drop f.rdata p))

  whole : rdata_at p f ≡ rdata_in p f part
  unfolding rdata_at
  whole = simp (le-leb _ _ inside)

  pub fits_ptr : f.rtype ≡ 12 → ends_at (f.rdata + f.rdlength) (name_at p f.rdata) ≡ fits (rdata_at p f)
  unfolding rdata_in form_in
  fits_ptr e =
      let z : f.rdata ≡ f.rdata + 0 = omega arith in
      ap (λ (n : ℕ). ends_at (f.rdata + f.rdlength) (name_at p n)) z
      ∙ ap (λ (n : ℕ). ends_at (f.rdata + n) (name_at p (f.rdata + 0))) (sym part_long)
      ∙ fits-named p part f.rdata 0 (omega arith)
      ∙ sym (ap fits whole ∙ rw e)

  pub fits-srv : f.rtype ≡ 33 → 6 ≤ f.rdlength → ends_at (f.rdata + f.rdlength) (name_at p (f.rdata + 6)) ≡ fits (rdata_at p f)
  unfolding rdata_in form_in
  fits-srv e long =
      ap (λ (n : ℕ). ends_at (f.rdata + n) (name_at p (f.rdata + 6))) (sym part_long)
      ∙ fits-named p part f.rdata 6 (omega (arith, part_long))
      ∙ sym (ap fits whole ∙ rw e)

  pub srv_short : f.rtype ≡ 33 → f.rdlength < 6 → false ≡ fits (rdata_at p f)
  unfolding rdata_in form_in
  srv_short e short =
      let h : length part < 6 + 0 = omega (arith, part_long) in
      sym (ap fits whole ∙ rw e (simp (lt-leb _ _ h)))

  pub fits-a : f.rtype ≡ 1 → eqb f.rdlength 4 ≡ fits (rdata_at p f)
  fits-a e = ap (λ (n : ℕ). eqb n 4) (sym part_long) ∙ in_a p part f e ∙ sym (ap fits whole)

  pub fits-aaaa : f.rtype ≡ 28 → eqb f.rdlength 16 ≡ fits (rdata_at p f)
  fits-aaaa e = ap (λ (n : ℕ). eqb n 16) (sym part_long) ∙ in_aaaa p part f e ∙ sym (ap fits whole)

  pub fits-txt : f.rtype ≡ 16 → (v : Bool) → v ≡ strings_fill 0 (take (f.rdata + f.rdlength - f.rdata) (drop f.rdata p)) → v ≡ fits (rdata_at p f)
  fits-txt e v h =
      let n : f.rdata + f.rdlength - f.rdata ≡ f.rdlength = omega arith in
      in_txt_lem p part f e v (h ∙ ap (λ (k : ℕ). strings_fill 0 (take k (drop f.rdata p))) n) ∙ sym (ap fits whole)

  -- of an NSEC and of other types nothing is asked
  pub fits-other : (f.rtype ≡ 1 → ⊥) → (f.rtype ≡ 16 → ⊥) → (f.rtype ≡ 28 → ⊥) → (f.rtype ≡ 12 → ⊥) → (f.rtype ≡ 33 → ⊥) → true ≡ fits (rdata_at p f)
  unfolding form_in
  fits-other a t q n s = go (eqb f.rtype 47) refl
    where
      go : (b : Bool) → eqb f.rtype 47 ≡ b → true ≡ fits (rdata_at p f)
      go true k = sym (never_unfit p f (eqb-true f.rtype 47 k) inside)
      go false k =
          let none : (form_in p f part).named ≡ false = simp (k, ne_eqb _ _ n, ne_eqb _ _ s) in
          in_other p part f (form_in p f part) refl a t q none ∙ sym (ap fits whole)

-- rdata is read from these fields of a record alone
same_rdata : (p : List ℕ) (f g : RecordAt) → f.owner ≡ g.owner → f.rtype ≡ g.rtype → f.rdata ≡ g.rdata → f.rdlength ≡ g.rdlength → rdata_at p f ≡ rdata_at p g
unfolding rdata_at rdata_in form_in
same_rdata p f g owner type starts long = λ i.
    rdata_at p (record {
      owner = owner i;
      span = f.span;
      rtype = type i;
      class = f.class;
      ttl = f.ttl;
      rdata = starts i;
      rdlength = long i;
      next = f.next;
    })

-- past a question, and past a record whose rdata fits
module _ (p : List ℕ) (at : ℕ) (r : (Option ℕ)) (h : r ≡ past_name (name_at p at)) where
  module _ (k : r ≡ None) where
    none : name_at p at ≡ malformed
    none = as_none (name_at p at) r h k

    pub no_question : None ≡ past_item (question_at p at)
    unfolding question_at question_read
    no_question = simp none

    pub no_record_lem : None ≡ past_item (record_at p at)
    unfolding record_at record_read
    no_record_lem = simp none

  module _ (e : ℕ) (k : r ≡ Some e) where
    is : name_at p at ≡ name (as_past (name_at p at) r e h k).0 e
    is = (as_past (name_at p at) r e h k).1

    pub question-short : length p < e + 4 → None ≡ past_item (question_at p at)
    unfolding question_at question_read
    question-short l = simp (is, lt-leb _ _ l)

    pub question-past : e + 4 ≤ length p → Some (e + 4) ≡ past_item (question_at p at)
    unfolding question_at question_read
    question-past l = simp (is, le-leb _ _ l)

    pub record_short : length p < e + 10 → None ≡ past_item (record_at p at)
    unfolding record_at record_read
    record_short l = simp (is, lt-leb _ _ l)

    pub record_over_lem : e + 10 ≤ length p → length p < e + 10 + word16 p (e + 8) → None ≡ past_item (record_at p at)
    unfolding record_at record_read
    record_over_lem l o = simp (is, le-leb _ _ l, lt-leb _ _ o)

    -- the code's record differs from the one that was read in its owner's span, its class and its TTL
    module _ (l : e + 10 ≤ length p) (f : RecordAt) (owner : f.owner ≡ at) (type : f.rtype ≡ word16 p e) (starts : f.rdata ≡ e + 10) (long : f.rdlength ≡ word16 p (e + 8))
        (o : f.rdata + f.rdlength ≤ length p) (v : Bool) (fit : v ≡ fits (rdata_at p f)) where
      abbrev lies : RecordAt
      lies = record {
        owner = at;
        span = span_of (as_past (name_at p at) r e h k).0 e;
        rtype = word16 p e;
        class = word16 p (e + 2);
        ttl = ttl_of (word32 p (e + 4));
        rdata = e + 10;
        rdlength = word16 p (e + 8);
        next = e + 10 + word16 p (e + 8);
      }

      read : record_read p at ≡ Some lies
      unfolding record_read
      read = let o' : e + 10 + word16 p (e + 8) ≤ length p = omega arith in simp (is, le-leb _ _ l, le-leb _ _ o')

      same : v ≡ fits (rdata_at p lies)
      same = fit ∙ ap fits (same_rdata p f lies owner type starts long)

      next_is : Some (f.rdata + f.rdlength) ≡ Some lies.next
      next_is = let n : f.rdata + f.rdlength ≡ e + 10 + word16 p (e + 8) = omega arith in ap Some n

      pub record_fits_lem : v ≡ true → Some (f.rdata + f.rdlength) ≡ past_item (record_at p at)
      record_fits_lem t = next_is ∙ past_record_fits p at (record_read p at) lies refl read v same t

      pub record_unfit : v ≡ false → None ≡ past_item (record_at p at)
      record_unfit t = past_record_unfit p at (record_read p at) lies refl read v same t
