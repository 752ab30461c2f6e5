-- A slot that a record was heard into shows it. Assumes nothing.
use Rattle.std.proofs.Common.{None, Option, Some}
use mathlib.Core.Path.{◌≡◌, refl, sym, ap, ap₂, subst, ◌∙◌}
use Rattle.std.proofs.lemmas.Option.{same_Some}
use mathlib.Core.List.{List, ◌++◌, append_assoc}
use mathlib.Core.Bool.{Bool, true, false, cond}
use mathlib.Core.Logic.{inr}
use Prim.Native.Nat.{ℕ, ◌+◌, ◌-◌, ◌≤◌}
use native.Mathlib.Omega.{arith}
use lib.ListN.{length, take, drop, length-append, length-drop}
use lib.Seq.{sets, length-sets, take-take, drop-drop, length-take-le}
use lib.Dec.{leb, eqb}
use borrow.Author.Tests.{leb-true}
use Rattle.wire.proofs.octets.Sets.{sets-append}
use Rattle.wire.specs.names.Names.{Reading, name, malformed, name_at}
use Rattle.wire.proofs.names.Use.{at_most-255}
use Rattle.wire.specs.rdata.Rdata.{Rdata, rdata, unfit, ending_name, form_at, rdata_at}
use Rattle.wire.specs.rdata.Answers.{fits, data_of}
use Rattle.wire.proofs.rdata.Fits.{at-within, in_named}
use Rattle.wire.proofs.rdata.Forms.{drop-take}
use Rattle.wire.proofs.expansion.Views.{within, plain-is}
use Rattle.wire.specs.declared.rdata.Form.{Form}
use Rattle.wire.specs.message.Layout.{record_read}
use Rattle.wire.specs.message.Readable.{whole_from, whole_read, record_shown}
use Rattle.wire.specs.declared.message.RecordAt.{RecordAt}
use Rattle.wire.proofs.message.Walk.{RecordMet, record_found}
use Rattle.cache.specs.records.Heard.{heard_as}
use Rattle.cache.specs.records.Taking.{Shows}
use Rattle.cache.proofs.laws.Slots.{read_back, part_sets}
use Rattle.capi_cache.specs.hearing.Hearing.{name_over, named_over, rdata_over, record_over, owner_over, heard_in}

-- ---- the rdata of a record
module _ (p : List ℕ) (f : RecordAt) where
  abbrev pub part : List ℕ
  part = take f.rdlength (drop f.rdata p)

  abbrev pub form : Form
  form = form_at p f

  abbrev pub to : ℕ
  to = f.rdata + (f.rdlength - form.behind)

  abbrev pub front : List ℕ
  front = take form.before (drop f.rdata p)

  abbrev pub back : List ℕ
  back = take form.behind (drop to p)

  abbrev pub ends : Rdata
  ends = ending_name front back to (name_at p (f.rdata + form.before))

  -- where it holds a name, by the packet's bytes
  pub named-rdata : f.rdata + f.rdlength ≤ length p → form.named ≡ true → rdata_at p f ≡ cond (leb (form.before + form.behind) f.rdlength) ends unfit
  named-rdata room t = at-within p f room ∙ in_named p part f t ∙ ap (λ (n : ℕ). within_of n) long ∙ go (leb (form.before + form.behind) f.rdlength) refl
    where
      within_of : ℕ → Rdata
      within_of n = cond (leb (form.before + form.behind) n) (ending_name (take form.before part) (drop (n - form.behind) part) (f.rdata + (n - form.behind)) (name_at p (f.rdata + form.before))) unfit

      long : length part ≡ f.rdlength
      long = length-take-le f.rdlength (drop f.rdata p) (omega (arith, length-drop f.rdata p, room))

      first : form.before ≤ f.rdlength → take form.before part ≡ front
      first l = take-take form.before f.rdlength (drop f.rdata p) l

      last : form.behind ≤ f.rdlength → drop (f.rdlength - form.behind) part ≡ back
      last l =
          let n : ℕ = f.rdlength - form.behind in
          let left : f.rdlength - n ≡ form.behind = omega (arith, l) in
          drop-take n f.rdlength (drop f.rdata p) ∙ ap₂ take left (drop-drop n f.rdata p)

      go : (b : Bool) → leb (form.before + form.behind) f.rdlength ≡ b
          → cond b (ending_name (take form.before part) (drop (f.rdlength - form.behind) part) to (name_at p (f.rdata + form.before))) unfit ≡ cond b ends unfit
      go true e =
          let l = leb-true (form.before + form.behind) f.rdlength e in
          ap₂ (λ (a c : List ℕ). ending_name a c to (name_at p (f.rdata + form.before))) (first (omega (arith, l))) (last (omega (arith, l)))
      go false e = refl

  -- rdata as its type asks lies over a slot as it is
  pub rdata-over : (slot : List ℕ) → fits (rdata_at p f) ≡ true → rdata_over p f slot ≡ sets slot 256 (data_of (rdata_at p f))
  unfolding rdata_over
  rdata-over slot h = go form.named refl
    where
      room : f.rdata + f.rdlength ≤ length p
      room = within p f h

      front_long : form.before ≤ f.rdlength → length front ≡ form.before
      front_long l = length-take-le form.before (drop f.rdata p) (omega (arith, length-drop f.rdata p, room, l))

      one_by_one : (bs : List ℕ) → form.before ≤ f.rdlength → sets (sets (sets slot 256 front) (256 + form.before) bs) (256 + form.before + length bs) back ≡ sets slot 256 (front ++ (bs ++ back))
      one_by_one bs l =
          let a : 256 + form.before ≡ 256 + length front = ap (λ (n : ℕ). 256 + n) (sym (front_long l)) in
          let b : 256 + form.before + length bs ≡ 256 + length (front ++ bs) = omega (arith, front_long l, length-append front bs) in
          ap (λ (n : ℕ). sets (sets (sets slot 256 front) n bs) (256 + form.before + length bs) back) a
          ∙ ap (λ (l : List ℕ). sets l (256 + form.before + length bs) back) (sets-append slot 256 front bs)
          ∙ ap (λ (n : ℕ). sets (sets slot 256 (front ++ bs)) n back) b
          ∙ sets-append slot 256 (front ++ bs) back ∙ ap (sets slot 256) (append_assoc front bs back)

      by_name : (x : Reading) → form.before ≤ f.rdlength → fits (ending_name front back to x) ≡ true
          → name_over (256 + form.before) back x (sets slot 256 front) ≡ sets slot 256 (data_of (ending_name front back to x))
      by_name (name bs e) l k = at-end (eqb e to) k
        where
          at-end : (b : Bool) → fits (cond b (rdata (front ++ (bs ++ back))) unfit) ≡ true
              → sets (sets (sets slot 256 front) (256 + form.before) bs) (256 + form.before + length bs) back ≡ sets slot 256 (data_of (cond b (rdata (front ++ (bs ++ back))) unfit))
          at-end true k = one_by_one bs l
          at-end false k = let z : ◌≡◌ {A = ℕ} 0 1 = cc in absurd (omega arith)
      by_name malformed l k = let z : ◌≡◌ {A = ℕ} 0 1 = cc in absurd (omega arith)

      by_length : (b : Bool) → leb (form.before + form.behind) f.rdlength ≡ b → fits (cond b ends unfit) ≡ true
          → cond b (name_over (256 + form.before) back (name_at p (f.rdata + form.before)) (sets slot 256 front)) slot ≡ sets slot 256 (data_of (cond b ends unfit))
      by_length true e k = by_name (name_at p (f.rdata + form.before)) (omega (arith, leb-true (form.before + form.behind) f.rdlength e)) k
      by_length false e k = let z : ◌≡◌ {A = ℕ} 0 1 = cc in absurd (omega arith)

      go : (b : Bool) → form.named ≡ b → cond b (named_over p f form slot) (sets slot 256 part) ≡ sets slot 256 (data_of (rdata_at p f))
      go true t =
          let is = named-rdata room t in
          by_length (leb (form.before + form.behind) f.rdlength) refl (sym (ap fits is) ∙ h) ∙ ap (λ (x : Rdata). sets slot 256 (data_of x)) (sym is)
      go false t = ap (λ (x : Rdata). sets slot 256 (data_of x)) (sym (plain-is p f t h))

  -- the owner's bytes stay
  pub owner_stays : (slot : List ℕ) (k : ℕ) → k ≤ 256 → take k (rdata_over p f slot) ≡ take k slot
  unfolding rdata_over
  owner_stays slot k l = go form.named
    where
      stays : (s : List ℕ) (i : ℕ) (bs : List ℕ) → 256 ≤ i → take k (sets s i bs) ≡ take k s
      stays s i bs m = part_sets s i bs 0 k (inr (omega (arith, l, m)))

      by_name : (x : Reading) (s : List ℕ) → take k (name_over (256 + form.before) back x s) ≡ take k s
      by_name (name bs e) s =
          stays (sets s (256 + form.before) bs) (256 + form.before + length bs) back (omega arith) ∙ stays s (256 + form.before) bs (omega arith)
      by_name malformed s = refl

      by_length : (b : Bool) → take k (cond b (name_over (256 + form.before) back (name_at p (f.rdata + form.before)) (sets slot 256 front)) slot) ≡ take k slot
      by_length true = by_name (name_at p (f.rdata + form.before)) (sets slot 256 front) ∙ stays slot 256 front (omega arith)
      by_length false = refl

      go : (b : Bool) → take k (cond b (named_over p f form slot) (sets slot 256 part)) ≡ take k slot
      go true = by_length (leb (form.before + form.behind) f.rdlength)
      go false = stays slot 256 part (omega arith)

  pub rdata-length : (slot : List ℕ) → length (rdata_over p f slot) ≡ length slot
  unfolding rdata_over
  rdata-length slot = go form.named
    where
      by_name : (x : Reading) (s : List ℕ) → length (name_over (256 + form.before) back x s) ≡ length s
      by_name (name bs e) s = length-sets (sets s (256 + form.before) bs) (256 + form.before + length bs) back ∙ length-sets s (256 + form.before) bs
      by_name malformed s = refl

      by_length : (b : Bool) → length (cond b (name_over (256 + form.before) back (name_at p (f.rdata + form.before)) (sets slot 256 front)) slot) ≡ length slot
      by_length true = by_name (name_at p (f.rdata + form.before)) (sets slot 256 front) ∙ length-sets slot 256 front
      by_length false = refl

      go : (b : Bool) → length (cond b (named_over p f form slot) (sets slot 256 part)) ≡ length slot
      go true = by_length (leb (form.before + form.behind) f.rdlength)
      go false = length-sets slot 256 part

-- ---- the record at an offset
owner_length : (x : Reading) (slot : List ℕ) → length (owner_over x slot) ≡ length slot
owner_length (name bs e) slot = length-sets slot 0 bs
owner_length malformed slot = refl

-- the record at an offset is shown by the slot that it was heard into
module _ (p : List ℕ) (at : ℕ) (slot : List ℕ) (size : length slot ≡ 1024) where
  heard_there : (f : RecordAt) → record_read p at ≡ Some f → fits (rdata_at p f) ≡ true → Shows p (heard_as p f) (rdata_over p f (owner_over (name_at p at) slot))
  unfolding whole_read
  heard_there f e fit =
      let whole : ◌≡◌ {A = Option RecordAt} (Some f) (whole_from p (record_read p at)) = sym (ap (λ (b : Bool). cond b (Some f) None) fit) ∙ ap (whole_from p) (sym e) in
      let met : RecordMet p at f = record_found p at (Some f) whole f refl in
      let there : name_at p at ≡ name (record_shown p f).owner met.end = ap (name_at p) (sym met.place) ∙ met.owner in
      let short = at_most-255 p f.owner (record_shown p f).owner met.end met.owner in
      let laid : owner_over (name_at p at) slot ≡ sets slot 0 (record_shown p f).owner = ap (λ (x : Reading). owner_over x slot) there in
      let long : length (owner_over (name_at p at) slot) ≡ 1024 = owner_length (name_at p at) slot ∙ size in
      record {
        owner = λ t. owner_stays p f (owner_over (name_at p at) slot) f.span.len (omega (arith, short, met.span)) ∙ ap₂ take met.span laid
            ∙ read_back slot 0 (record_shown p f).owner (omega (arith, short, size));
        content = λ t l. ap (λ (s : List ℕ). take (length (data_of (rdata_at p f))) (drop 256 s)) (rdata-over p f (owner_over (name_at p at) slot) fit)
            ∙ read_back (owner_over (name_at p at) slot) 256 (data_of (rdata_at p f)) (omega (arith, l, long));
      }

  pub heard-shows : (f : RecordAt) → Some f ≡ whole_read p at → Shows p (heard_as p f) (heard_in p at slot)
  unfolding heard_in whole_read
  heard-shows f is = go (record_read p at) refl is
    where
      by-fit : (g : RecordAt) → record_read p at ≡ Some g → (b : Bool) → fits (rdata_at p g) ≡ b → Some f ≡ cond b (Some g) None → Shows p (heard_as p f) (rdata_over p g (owner_over (name_at p at) slot))
      by-fit g e true k same = subst (λ (x : RecordAt). Shows p (heard_as p x) (rdata_over p g (owner_over (name_at p at) slot))) (sym (same_Some f g same)) (heard_there g e k)
      by-fit g e false k same = let z : ◌≡◌ {A = ℕ} 0 1 = cc in absurd (omega arith)

      go : (y : Option RecordAt) → record_read p at ≡ y → Some f ≡ whole_from p y → Shows p (heard_as p f) (record_over p y (owner_over (name_at p at) slot))
      go (Some g) e same = by-fit g e (fits (rdata_at p g)) refl same
      go None e same = let z : ◌≡◌ {A = ℕ} 0 1 = cc in absurd (omega arith)
