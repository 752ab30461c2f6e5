-- A packet is composed in its buffers, a known answer at a time. Assumes nothing.
use Rattle.std.proofs.Common.{Err, None, Ok, Result, Some}
use mathlib.Core.Path.{◌≡◌, refl, sym, ap, ap₂, subst, ◌∙◌}
use mathlib.Core.List.{List, ◌++◌, append_assoc}
use mathlib.Core.Bool.{Bool, true, false, cond, ◌&&◌}
use Prim.Native.Nat.{ℕ, ◌+◌, ◌-◌, ◌≤◌, ◌<◌}
use native.Mathlib.Omega.{arith}
use lib.ListN.{length, take, drop, length-append, length-drop}
use lib.Seq.{take_at, length-take-le, take_all}
use lib.Dec.{leb}
use borrow.Author.Tests.{le-leb, lt-leb, leb-true}
use mathlib.Mathlib.Data.Bool.Basic.{and-eq-true-eq-eq-true-and-eq-true as both}
use Rattle.wire.specs.labels.Counted.{labels_in}
use Rattle.wire.specs.names.Names.{labels_fill, is_name}
use Rattle.wire.proofs.labels.Numbers.{at_most-127}
use Rattle.wire.specs.message.Message.{Record, record_of}
use Rattle.wire.specs.rdata.Rdata.{form_of}
use Rattle.writer.specs.Fit.{form_for, is_shaped, fit_record}
use Rattle.writer.specs.Items.{Writing, put_name, put_fields, put_record}
use Rattle.writer.specs.compression.Compression.{name_places}
use Rattle.writer.specs.Writer.{held_in, room_in, spot_of, labels_for, name_fits, record_fits, placed_of, bytes_after, places_after, Placing, Grown}
use Rattle.writer.specs.compression.Sentence.{Rising, empty, next}
use Rattle.writer.specs.declared.Spot.{Spot}
use Rattle.writer.specs.declared.Misfit.{Misfit}
use Rattle.writer.specs.declared.Misfit.TheVariants.{Unfit}
use Rattle.writer.proofs.Fitting.{fit_parts}
use Rattle.writer.proofs.Use.{is-done, is-grown, record_size, record_count, held-so}
use Rattle.roundtrip.proofs.Lists.{record_more}
use Rattle.roundtrip.proofs.Sound.{record_sound}
use Rattle.cache.specs.entries.Entries.{slot_of}
use Rattle.browser.specs.declared.known_answers.Known.{Known}
use Rattle.browser.specs.query.Drafts.{goes_behind, record_in, Composing, Puts}

-- rising offsets are no more than there is room for
few : {m n : ℕ} {os : List ℕ} → Rising m n os → m + length os ≤ n
few (empty l) = omega arith
few (next l rest) = let h = few rest in omega arith

-- a packet that is held ends where it is said to
module _ (spot : Spot) (out places : List ℕ) (c : Composing spot out places) where
  pub held-end : length (take spot.end out) ≡ spot.end
  held-end = let l : spot.end ≤ length out = omega (arith, c.ended, c.sized) in length-take-le spot.end out l

  pub held-count : spot.count ≤ 1440
  held-count =
      let l : length (take spot.count places) ≡ spot.count = length-take-le spot.count places (omega (arith, c.counted, c.noted)) in
      let f = few c.rising in omega (arith, c.ended)

  pub held-sound : Rising 12 (length (take spot.end out)) (take spot.count places)
  held-sound = rw held-end c.rising

pub name-few : (bs : List ℕ) → is_name bs ≡ true → (length bs ≤ 255) × (labels_in bs ≤ 127)
name-few bs h = (leb-true (length bs) 255 ((both (labels_fill 0 bs) (leb (length bs) 255)).0 h).1, at_most-127 bs h)

-- places are only added
more_places : (whole : Bool) (w : Writing) (r : Record) → (m : List ℕ) × ((put_record whole w r).places ≡ w.places ++ m)
unfolding put_name put_fields
more_places whole w r = (_, append_assoc w.places (name_places w.bytes w.places (length w.bytes) r.owner) _)

-- PTR rdata is one name
ptr_form : (owner d : List ℕ) → form_for owner 12 d ≡ form_of 12
unfolding form_for
ptr_form owner d = refl

module _ (spot : Spot) (out places : List ℕ) (c : Composing spot out places) (r : Record) (ptr : r.rtype ≡ 12)
    (fit : fit_record r.owner r.rtype r.ttl r.rdata ≡ true) where
  fit_ptr : fit_record r.owner 12 r.ttl r.rdata ≡ true
  fit_ptr = ap (λ (k : ℕ). fit_record r.owner k r.ttl r.rdata) (sym ptr) ∙ fit

  target-named : is_name r.rdata ≡ true
  unfolding is_shaped form_for
  target-named =
      let s = (fit_parts r.owner 12 r.ttl r.rdata fit_ptr).1 in
      let h = ((both (leb (0 + 0) (length r.rdata)) (is_name (take (length r.rdata - 0 - 0) (drop 0 r.rdata)))).0 s).1 in
      let e : length r.rdata - 0 - 0 ≡ length r.rdata = omega arith in
      ap is_name (sym (ap (λ (n : ℕ). take n r.rdata) e ∙ take_all (length r.rdata) r.rdata (omega arith))) ∙ h

  labels-few : labels_for (form_for r.owner 12 r.rdata) r.rdata ≤ 127
  unfolding labels_for form_for
  labels-few =
      let e : length r.rdata - 0 - 0 ≡ length r.rdata = omega arith in
      let s : take (length r.rdata - 0 - 0) r.rdata ≡ r.rdata = ap (λ (n : ℕ). take n r.rdata) e
      ∙ take_all (length r.rdata) r.rdata (omega arith) in
      rw s (name-few r.rdata target-named).1

  -- there is room for every record that is fit
  always_fits : record_fits (room_in out places spot.end spot.count) r.owner r.rtype r.rdata ≡ true
  unfolding record_fits name_fits
  always_fits =
      let o = name-few r.owner (fit_parts r.owner 12 r.ttl r.rdata fit_ptr).0 in
      let d = name-few r.rdata target-named in
      let l = labels-few in
      let k = held-count spot out places c in
      let a : spot.end + length r.owner + (10 + length r.rdata) ≤ length out = omega (arith, c.ended, c.sized, o.0, d.0) in
      let b : spot.end + length r.owner ≤ 16384 = omega (arith, c.ended, o.0) in
      let e : spot.count + labels_in r.owner + labels_for (form_for r.owner 12 r.rdata) r.rdata ≤ length places = omega (arith, c.noted, o.1) in
      rw ptr (simp (le-leb _ _ a, le-leb _ _ b, le-leb _ _ e))

module _ (spot : Spot) (out places : List ℕ) (c : Composing spot out places) (r : Record) (ptr : r.rtype ≡ 12) (placed : Result Spot Misfit) (out' places' : List ℕ)
    (p : Placing (fit_record r.owner r.rtype r.ttl r.rdata) (record_fits (room_in out places spot.end spot.count) r.owner r.rtype
    r.rdata)
    (put_record false (held_in out places spot.end spot.count) r) out places placed out' places') where
  abbrev fit : Bool
  fit = fit_record r.owner r.rtype r.ttl r.rdata

  abbrev w : Writing
  w = held_in out places spot.end spot.count

  abbrev v : Writing
  v = put_record false w r

  -- nothing is put of what is unfit
  module _ (f : fit ≡ false) where
    unfit_answer : placed ≡ Err Unfit
    unfit_answer = p.answer ∙ ap (λ (t : Bool). placed_of t (record_fits (room_in out places spot.end spot.count) r.owner r.rtype r.rdata) v) f

    unfit_out : out' ≡ out
    unfit_out = p.bytes ∙ ap (λ (t : Bool). bytes_after (t && record_fits (room_in out places spot.end spot.count) r.owner r.rtype r.rdata) v
        out) f

    unfit_places : places' ≡ places
    unfit_places = p.places ∙ ap (λ (t : Bool). places_after (t && record_fits (room_in out places spot.end spot.count) r.owner r.rtype
        r.rdata) v places) f

    unfit_puts : Puts w r spot None out' places'
    unfit_puts =
        let no_more : goes_behind w r ≡ false = ap (λ (t : Bool). t && leb (length v.bytes) 1452) f in record {
          put = sym no_more;
          holds = record {
            here = ap₂ (λ (o q : List ℕ). held_in o q spot.end spot.count) unfit_out unfit_places ∙ sym (ap (λ (t : Bool). cond t v w) no_more);
            room = record {
              sized = ap length unfit_out ∙ c.sized;
              noted = ap length unfit_places ∙ c.noted;
              ended = c.ended;
              counted = c.counted;
              rising = rw unfit_places c.rising;
            };
          };
        }

  -- all that is fit is written
  module _ (f : fit ≡ true) where
    done-answer : placed ≡ Ok (spot_of (length v.bytes) (length v.places))
    done-answer = is-done _ _ v out places placed out' places' p f (always_fits spot out places c r ptr f)

    grown : Grown v out places (spot_of (length v.bytes) (length v.places)) out' places'
    grown = is-grown _ _ v out places placed out' places' p f (always_fits spot out places c r ptr f)

    sizes : (length v.bytes ≤ 2048) × (length v.places ≤ 2048)
    sizes =
        let parts = fit_parts r.owner r.rtype r.ttl r.rdata f in
        let o = name-few r.owner parts.0 in
        let d = name-few r.rdata (target-named spot out places c r ptr f) in
        let e = held-end spot out places c in
        let k = held-count spot out places c in
        let a = record_size false w r parts.0 parts.1 in
        let n = record_count false w r parts.0 parts.1 in
        let l : labels_for (form_for r.owner r.rtype r.rdata) r.rdata ≤ 127 = rw ptr (labels-few spot out places c r ptr f) in
        let t : length (take spot.count places) ≡ spot.count = length-take-le spot.count places (omega (arith, c.counted, c.noted)) in
        (omega (arith, c.ended, o.0, d.0), omega (arith, o.1))

    sized' : length out' ≡ 2048
    sized' = let s = sizes.0 in ap length grown.bytes ∙ length-append v.bytes (drop (length v.bytes) out)
        ∙ (let d = length-drop (length v.bytes) out in omega (arith, c.sized))

    noted' : length places' ≡ 2048
    noted' = let s = sizes.1 in ap length grown.places ∙ length-append v.places (drop (length v.places) places)
        ∙ (let d = length-drop (length v.places) places in omega (arith, c.noted))

    -- the packet before it stands still
    front : take spot.end out' ≡ take spot.end out
    front =
        let m = record_more false w r in
        let e = held-end spot out places c in
        ap (take spot.end) (grown.bytes ∙ ap (λ (l : List ℕ). l ++ drop (length v.bytes) out) m.1
        ∙ append_assoc w.bytes m.0 (drop (length v.bytes) out))
        ∙ take_at w.bytes (m.0 ++ drop (length v.bytes) out) spot.end e

    front_places : take spot.count places' ≡ take spot.count places
    front_places =
        let m = more_places false w r in
        let e : length (take spot.count places) ≡ spot.count = length-take-le spot.count places (omega (arith, c.counted, c.noted)) in
        ap (take spot.count) (grown.places ∙ ap (λ (l : List ℕ). l ++ drop (length v.places) places) m.1
        ∙ append_assoc w.places m.0 (drop (length v.places) places))
        ∙ take_at w.places (m.0 ++ drop (length v.places) places) spot.count e

    over_puts : 1452 < length v.bytes → Puts w r spot None out' places'
    over_puts l =
        let no_more : goes_behind w r ≡ false = ap (λ (t : Bool). t && leb (length v.bytes) 1452) f ∙ lt-leb _ _ l in record {
          put = sym no_more;
          holds = record {
            here = ap₂ (λ (o q : List ℕ). record { bytes = o; places = q }) front front_places ∙ sym (ap (λ (t : Bool). cond t v w) no_more);
            room = record { sized = sized'; noted = noted'; ended = c.ended; counted = c.counted; rising = rw front_places c.rising };
          };
        }

    done-puts : length v.bytes ≤ 1452 → Puts w r spot (Some (spot_of (length v.bytes) (length v.places))) out' places'
    done-puts l =
        let yes-more : goes_behind w r ≡ true = ap (λ (t : Bool). t && leb (length v.bytes) 1452) f ∙ le-leb _ _ l in
        let here : held_in out' places' (length v.bytes) (length v.places) ≡ v = held-so v out places
        (spot_of (length v.bytes) (length v.places)) out' places' grown in record {
          put = sym yes-more;
          holds = record {
            here = here ∙ sym (ap (λ (t : Bool). cond t v w) yes-more);
            room = record {
              sized = sized';
              noted = noted';
              ended = l;
              counted = sizes.1;
              rising = rw (ap (λ (x : Writing). x.places) here) (record_sound false w (held-sound spot out places c) r f);
            };
          };
        }

  pub is-put : (s : Spot) → placed ≡ Ok s → s.end ≤ 1452 → Puts w r spot (Some s) out' places'
  is-put s told l = go fit refl
    where
      go : (t : Bool) → fit ≡ t → Puts w r spot (Some s) out' places'
      go true f =
          let same : spot_of (length v.bytes) (length v.places) ≡ s = cc (done-answer f) in
          let m : length v.bytes ≤ 1452 = rw (ap (λ (x : Spot). x.end) same) l in
          subst (λ (x : Spot). Puts w r spot (Some x) out' places') same (done-puts f m)
      go false f = let z : ◌≡◌ {A = ℕ} 0 1 = cc (unfit_answer f) in absurd (omega arith)

  pub is-over : (s : Spot) → placed ≡ Ok s → 1452 < s.end → Puts w r spot None out' places'
  is-over s told l = go fit refl
    where
      go : (t : Bool) → fit ≡ t → Puts w r spot None out' places'
      go true f =
          let same : spot_of (length v.bytes) (length v.places) ≡ s = cc (done-answer f) in
          over_puts f (rw (ap (λ (x : Spot). x.end) same) l)
      go false f = let z : ◌≡◌ {A = ℕ} 0 1 = cc (unfit_answer f) in absurd (omega arith)

  pub is-misfit : (m : Misfit) → placed ≡ Err m → Puts w r spot None out' places'
  is-misfit m told = go fit refl
    where
      go : (t : Bool) → fit ≡ t → Puts w r spot None out' places'
      go true f = let z : ◌≡◌ {A = ℕ} 0 1 = cc (done-answer f) in absurd (omega arith)
      go false f = unfit_puts f

-- the same of a known answer, whose owner and target are parts of its slot
module _ (store : List ℕ) (len : ℕ) (k : Known) (at : Spot) (out places : List ℕ) (c : Composing at out places) (slot owner target : List ℕ)
    (s-is : slot ≡ slot_of store k.slot) (o_is : owner ≡ take len slot) (t-is : target ≡ take k.len (drop 256 slot)) (placed : Result Spot Misfit)
    (out' places' : List ℕ)
    (p : Placing (fit_record owner 12 k.ttl target) (record_fits (room_in out places at.end at.count) owner 12 target)
    (put_record false (held_in out places at.end at.count) (record_of owner 12 1 k.ttl target)) out places placed out' places') where
  abbrev x : Record
  x = record_of owner 12 1 k.ttl target

  same : record_of owner 12 1 k.ttl target ≡ record_in store len k
  same = ap₂ (λ (a d : List ℕ). record_of a 12 1 k.ttl d) (o_is ∙ ap (take len) s-is) (t-is ∙ ap (λ (l : List ℕ). take k.len (drop 256 l)) s-is)

  pub known-put : (s : Spot) → placed ≡ Ok s → s.end ≤ 1452
      → Puts (held_in out places at.end at.count) (record_in store len k) at (Some s) out' places'
  known-put s told l =
      subst (λ (r : Record). Puts (held_in out places at.end at.count) r at (Some s) out' places') same
      (is-put at out places c x refl placed out' places' p s told l)

  pub known_over : (s : Spot) → placed ≡ Ok s → 1452 < s.end
      → Puts (held_in out places at.end at.count) (record_in store len k) at None out' places'
  known_over s told l =
      subst (λ (r : Record). Puts (held_in out places at.end at.count) r at None out' places') same
      (is-over at out places c x refl placed out' places' p s told l)

  pub known-misfit : (m : Misfit) → placed ≡ Err m → Puts (held_in out places at.end at.count) (record_in store len k) at None out' places'
  known-misfit m told =
      subst (λ (r : Record). Puts (held_in out places at.end at.count) r at None out' places') same
      (is-misfit at out places c x refl placed out' places' p m told)
