-- Own records into a packet: one of them, and a list of them one after the other. Assumes nothing.
use mathlib.Core.Path.{◌≡◌, refl, sym, ap, ap₂, ◌∙◌, subst}
use mathlib.Core.List.{List, [], ◌∷◌, ◌++◌, map}
use mathlib.Core.Bool.{Bool, true}
use Prim.Native.Nat.{ℕ, ◌+◌, ◌-◌, ◌<◌, ◌≤◌}
use native.Mathlib.Numerals.{add-one}
use native.Mathlib.Omega.{arith}
use borrow.Author.Tests.{le-leb, eq-eqb}
use lib.ListN.{length, get_or, take, drop, replicate, take-append-drop, drop_of_length-le, get_or-map}
use lib.Seq.{sets, take_at, drop_at, drop-cons, length-take-le, drop-drop}
use Rattle.wire.specs.labels.Labels.{encode}
use Rattle.wire.specs.names.Names.{is_name}
use Rattle.wire.proofs.labels.Encoded.{is_name_lem}
use Rattle.wire.specs.labels.Counted.{labels_in}
use Rattle.wire.specs.message.Message.{Record}
use Rattle.own.specs.declared.records.Setup.{Setup}
use Rattle.claims.specs.records.Own.{record_at, own_type}
use Rattle.claims.specs.declared.records.Own.{Own}
use Rattle.claims.specs.declared.records.Own.TheVariants.{Ptr, Srv, Txt, A, Aaaa, InstanceNsec, HostNsec}
use Rattle.claims.proofs.records.Sets.{by-record}
use Rattle.own.specs.declared.records.OwnBytes.{OwnBytes}
use Rattle.own.specs.records.Setups.{valid_setup, instance_labels, host_labels}
use Rattle.own.specs.records.Records.{own_of, own_labels, own_name, own_rdata, srv_rdata, instance_types, host_types}
use Rattle.own.proofs.records.Valid.{Valid, valid, instance-name, host-name, own_is_name}
use Rattle.writer.specs.declared.Spot.{Spot}
use Rattle.writer.specs.Items.{Writing, u16, put_record}
use Rattle.wire.specs.message.Message.{record_of}
use Rattle.writer.specs.Writer.{held_in, spot_of, room_in, labels_for, name_fits, record_fits, Placing, Grown}
use Rattle.wire.specs.rdata.Rdata.{form_of}
use Rattle.writer.specs.Fit.{form_for, is_shaped, fit_record}
use Rattle.writer.proofs.Rdata.{held-rest}
use Rattle.writer.proofs.Fitting.{fit_of, again-shaped}
use Rattle.writer.proofs.own_packets.Room.{instance-block, host-block}
use Rattle.writer.proofs.Use.{is-done, is-grown, record_size, record_count, record_low, places-low, held-so}
use Rattle.writer.specs.own_packets.Packets.{header_bytes, put_all}
use Rattle.writer.specs.own_packets.Styles.{class_in, ttl_in, own_record}
use Rattle.writer.specs.own_packets.Ready.{spot_after, size_of, labels_of, sizes, label_counts, TtlSmall, each, fixed, OwnReady, ListReady}
use Rattle.writer.specs.declared.own_packets.Style.{Style}
use Rattle.std.specs.Prelude.{Result, Option, None}
use Rattle.writer.specs.declared.Misfit.{Misfit}

-- six runs of two bytes
pub six : (o : List ℕ) (a b c d e f : ℕ) (o₁ o₂ o₃ o₄ o₅ o₆ : List ℕ) → o₁ ≡ sets o 0 (u16 a) → o₂ ≡ sets o₁ 2 (u16 b) → o₃ ≡ sets o₂ 4 (u16 c) → o₄ ≡ sets o₃ 6
    (u16 d) → o₅ ≡ sets o₄ 8 (u16 e) → o₆ ≡ sets o₅ 10 (u16 f)
    → o₆ ≡ sets o 0 (header_bytes a b c d e f)
six o a b c d e f o₁ o₂ o₃ o₄ o₅ o₆ h₁ h₂ h₃ h₄ h₅ h₆ =
    let s₂ : o₂ ≡ sets o 0 (u16 a ++ u16 b) = h₂ ∙ ap (λ (m : List ℕ). sets m 2 (u16 b)) h₁ in
    let s₃ : o₃ ≡ sets o 0 (u16 a ++ u16 b ++ u16 c) = h₃ ∙ ap (λ (m : List ℕ). sets m 4 (u16 c)) s₂ in
    let s₄ : o₄ ≡ sets o 0 (u16 a ++ u16 b ++ u16 c ++ u16 d) = h₄ ∙ ap (λ (m : List ℕ). sets m 6 (u16 d)) s₃ in
    let s₅ : o₅ ≡ sets o 0 (u16 a ++ u16 b ++ u16 c ++ u16 d ++ u16 e) = h₅ ∙ ap (λ (m : List ℕ). sets m 8 (u16 e)) s₄ in
    h₆ ∙ ap (λ (m : List ℕ). sets m 10 (u16 f)) s₅

-- the front of own bytes
module _ (bs : List ℕ) (r : OwnBytes) (e : r ≡ own_of bs) where
  pub own_front : take r.len r.bytes ≡ bs
  own_front = ap (λ (x : OwnBytes). take x.len x.bytes) e ∙ take_at bs (replicate (400 - length bs) 0) (length bs) refl

  pub own_long : r.len ≡ length (take r.len r.bytes)
  own_long = ap (λ (x : OwnBytes). x.len) e ∙ ap length (sym own_front)

-- what is fit and has room is put, so the packet ends behind it
pub placed-grown : (fit fits : Bool) (v : Writing) (o pl : List ℕ) (placed : Result Spot Misfit) (o' pl' : List ℕ) → Placing fit fits v o pl placed o' pl'
    → fit ≡ true → fits ≡ true → (at count : ℕ) (r : Spot) → r ≡ spot_after placed at count → Grown v o pl r o' pl'
placed-grown fit fits v o pl placed o' pl' p u t at count r e =
    subst (λ (x : Spot). Grown v o pl x o' pl')
    (sym (e ∙ ap (λ (x : Result Spot Misfit). spot_after x at count) (is-done fit fits v o pl placed o' pl' p u t))) (is-grown fit fits v o pl placed o' pl' p u t)

-- an NSEC says its owner again, and then types of its name
instance-nsec_shaped : (s : Setup) → Valid s → is_shaped (own_name s InstanceNsec) 47 (own_rdata s InstanceNsec) ≡ true
unfolding own_name own_labels own_rdata
instance-nsec_shaped s ok = again-shaped (encode (instance_labels s)) instance_types (is_name_lem (instance-name s ok)) instance-block

host-nsec_shaped : (s : Setup) → Valid s → is_shaped (own_name s HostNsec) 47 (own_rdata s HostNsec) ≡ true
unfolding own_name own_labels own_rdata
host-nsec_shaped s ok = again-shaped (encode (host_labels s)) (host_types s.hasaaaa) (is_name_lem (host-name s ok)) (host-block s.hasaaaa)

-- an own record has rdata as its type asks, and a TTL that counts
pub own_shaped : (s : Setup) → Valid s → (o : Own) → is_shaped (own_name s o) (own_type o) (own_rdata s o) ≡ true
unfolding is_shaped form_for own_rdata srv_rdata
own_shaped s ok Ptr =
    let k : 0 ≤ length (encode (instance_labels s)) = omega arith in
    simp (le-leb 0 (length (encode (instance_labels s))) k) (ap is_name (held-rest (form_of 12) (encode (instance_labels s)) refl) ∙ is_name_lem (instance-name s ok))
own_shaped s ok Srv =
    let k : 6 ≤ length (srv_rdata s) = omega arith in
    simp (le-leb 6 (length (srv_rdata s)) k) (ap is_name (held-rest (form_of 33) (srv_rdata s) refl) ∙ is_name_lem (host-name s ok))
own_shaped s ok Txt = ok.strings
own_shaped s ok A = eq-eqb _ _ ok.four
own_shaped s ok Aaaa = eq-eqb _ _ ok.sixteen
own_shaped s ok InstanceNsec = instance-nsec_shaped s ok
own_shaped s ok HostNsec = host-nsec_shaped s ok

pub own_counts : {rule : Option ℕ} → TtlSmall rule → (o : Own) → ttl_in rule o < 2147483648
own_counts each o =
    by-record (λ o. ttl_in None o < 2147483648) (omega arith) (omega arith) (omega arith) (omega arith) (omega arith) (omega arith) (omega arith) o
own_counts (fixed h) o = h

module _ (s : Setup) (style : Style) (i : Own) (at count : ℕ) (o pl : List ℕ) (ready : OwnReady s style i at count o pl) where
  fit : fit_record (own_name s i) (own_type i) (ttl_in style.ttl i) (own_rdata s i) ≡ true
  fit =
      let ok : Valid s = valid s ready.ok in
      fit_of _ _ _ _ (own_is_name s ok i) (own_shaped s ok i) (omega (arith, ready.small)) (own_counts ready.counts i)

  fits : record_fits (room_in o pl at count) (own_name s i) (own_type i) (own_rdata s i) ≡ true
  unfolding record_fits name_fits
  fits =
      let b : at + length (own_name s i) + (10 + length (own_rdata s i)) ≤ length o = omega (arith, ready.room) in
      let c : at + length (own_name s i) ≤ 16384 = omega (arith, ready.small) in
      let d : count + labels_in (own_name s i) + labels_for (form_for (own_name s i) (own_type i) (own_rdata s i)) (own_rdata s i) ≤ length pl =
      omega (arith, ready.slots) in
      simp (le-leb _ _ b, le-leb _ _ c, le-leb _ _ d)

  module _ (n d : OwnBytes) (en : n ≡ own_of (own_name s i)) (ed : d ≡ own_of (own_rdata s i)) (k : ℕ) (ek : k ≡ own_type i) where
    record_fits_lem : record_fits (room_in o pl at count) (take n.len n.bytes) k (take d.len d.bytes) ≡ true
    record_fits_lem = (λ j. record_fits (room_in o pl at count) (own_front (own_name s i) n en j) (ek j) (own_front (own_rdata s i) d ed j)) ∙ fits

    record_fit : (t : ℕ) → t ≡ ttl_in style.ttl i → fit_record (take n.len n.bytes) k t (take d.len d.bytes) ≡ true
    record_fit t et = (λ j. fit_record (own_front (own_name s i) n en j) (ek j) (et j) (own_front (own_rdata s i) d ed j)) ∙ fit

    pub own_grown : (c t : ℕ) → c ≡ class_in style i → t ≡ ttl_in style.ttl i → (placed : Result Spot Misfit) (o' pl' : List ℕ)
        → Placing (fit_record (take n.len n.bytes) k t (take d.len d.bytes))
        (record_fits (room_in o pl at count) (take n.len n.bytes) k (take d.len d.bytes))
        (put_record style.whole (held_in o pl at count) (record_of (take n.len n.bytes) k c t (take d.len d.bytes))) o pl placed o' pl'
        → (r : Spot) → r ≡ spot_after placed at count → Grown (put_record style.whole (held_in o pl at count) (own_record s style i)) o pl r o' pl'
    unfolding own_record
    own_grown c t ec et placed o' pl' p r er =
        let e : record_of (take n.len n.bytes) k c t (take d.len d.bytes)
        ≡ record_of (own_name s i) (own_type i) (class_in style i) (ttl_in style.ttl i) (own_rdata s i) =
        λ j. record_of (own_front (own_name s i) n en j) (ek j) (ec j) (et j) (own_front (own_rdata s i) d ed j) in
        subst (λ (x : Record). Grown (put_record style.whole (held_in o pl at count) x) o pl r o' pl') e
        (placed-grown _ _ _ o pl placed o' pl' p (record_fit t et) record_fits_lem at count r er)

-- The list from `j` on is still to be written: then the packet is `v`. What stands behind the packet is as it was.
pub record Going (s : Setup) (style : Style) (is : List Own) (v : Writing) (o₀ pl₀ o pl : List ℕ) (at count j : ℕ) : Type 0 where
  pub rest : put_all (put_record style.whole) (held_in o pl at count) (map (own_record s style) (drop j is)) ≡ v
  pub kept : drop at o ≡ drop at o₀
  pub noted : drop count pl ≡ drop count pl₀
  pub same : length o ≡ length o₀
  pub table : length pl ≡ length pl₀
  pub room : at + sizes s (drop j is) ≤ length o₀
  pub small : at + sizes s (drop j is) ≤ 16384
  pub slots : count + label_counts s (drop j is) ≤ length pl₀

pub going : (s : Setup) (style : Style) (is : List Own) (o pl : List ℕ) (at count : ℕ) → ListReady s style is at count o pl
    → Going s style is (put_all (put_record style.whole) (held_in o pl at count) (map (own_record s style) is)) o pl o pl at count 0
going s style is o pl at count ready =
    record { rest = refl; kept = refl; noted = refl; same = refl; table = refl; room = ready.room; small = ready.small; slots = ready.slots }

module _ (s : Setup) (style : Style) (is : List Own) (v : Writing) (o₀ pl₀ o pl : List ℕ) (at count j : ℕ) (g : Going s style is v o₀ pl₀ o pl at count j) where
  -- nothing is left
  pub gone : length is ≤ j → Grown v o₀ pl₀ (spot_of at count) o pl
  unfolding sizes label_counts
  gone h =
      let none : drop j is ≡ [] = drop_of_length-le is h in
      let held : held_in o pl at count ≡ v = ap (λ (l : List Own). put_all (put_record style.whole) (held_in o pl at count) (map (own_record s style) l))
      (sym none) ∙ g.rest in
      let a : take at o ≡ v.bytes = ap (λ (w : Writing). w.bytes) held in
      let b : take count pl ≡ v.places = ap (λ (w : Writing). w.places) held in
      let la : length (take at o) ≡ at = length-take-le at o (omega (arith, g.room, g.same)) in
      let lb : length (take count pl) ≡ count = length-take-le count pl (omega (arith, g.slots, g.table)) in
      let ea : at ≡ length v.bytes = sym la ∙ ap length a in
      let eb : count ≡ length v.places = sym lb ∙ ap length b in
      record {
        bytes = sym (take-append-drop at o) ∙ ap₂ (λ (x y : List ℕ). x ++ y) a (g.kept ∙ ap (λ (k : ℕ). drop k o₀) ea);
        places = sym (take-append-drop count pl) ∙ ap₂ (λ (x y : List ℕ). x ++ y) b (g.noted ∙ ap (λ (k : ℕ). drop k pl₀) eb);
        ended = ea;
        counted = eb;
      }

  module _ (ok : valid_setup s ≡ true) (ttls : TtlSmall style.ttl) (h : j < length is) where
    front : drop j is ≡ get_or is j Ptr ∷ drop (j + 1) is
    front = drop-cons is j Ptr h ∙ ap (λ (k : ℕ). get_or is j Ptr ∷ drop k is) (sym (add-one j))

    size_front : sizes s (drop j is) ≡ size_of s (get_or is j Ptr) + sizes s (drop (j + 1) is)
    unfolding sizes
    size_front = ap (sizes s) front

    count_front : label_counts s (drop j is) ≡ labels_of s (get_or is j Ptr) + label_counts s (drop (j + 1) is)
    unfolding label_counts
    count_front = ap (label_counts s) front

    module _ (x : Own) (ex : x ≡ get_or is j Ptr) where
      pub own_ready : OwnReady s style x at count o pl
      own_ready = rw ex (record {
        ok = ok;
        counts = ttls;
        room = omega (arith, g.room, g.same, size_front);
        small = omega (arith, g.small, size_front);
        slots = omega (arith, g.slots, g.table, count_front);
      })

      -- one more is written
      pub step : (r : Spot) (o' pl' : List ℕ) → Grown (put_record style.whole (held_in o pl at count) (own_record s style x)) o pl r o' pl' → length o' ≡ length
          o → length pl' ≡ length pl
          → Going s style is v o₀ pl₀ o' pl' r.end r.count (j + 1)
      unfolding own_record
      step r o' pl' w lo lp = record {
        rest =
            ap (λ (u : Writing). put_all (put_record style.whole) u (map (own_record s style) (drop (j + 1) is)))
            (held-so v₁ o pl r o' pl' w ∙ ap (λ (k : Own). put_record style.whole (held_in o pl at count) (own_record s style k)) ex) ∙ ap
            (λ (l : List Own). put_all (put_record style.whole) (held_in o pl at count) (map (own_record s style) l)) (sym front) ∙ g.rest;
        kept = behind at o o₀ v₁.bytes o' r.end w.bytes w.ended low g.kept;
        noted = behind count pl pl₀ v₁.places pl' r.count w.places w.counted low-places g.noted;
        same = lo ∙ g.same;
        table = lp ∙ g.table;
        room = omega (arith, g.room, size_front, w.ended, size, la, same_size);
        small = omega (arith, g.small, size_front, w.ended, size, la, same_size);
        slots = omega (arith, g.slots, count_front, w.counted, counts, lb, same_count);
      }
        where
          v₁ : Writing
          v₁ = put_record style.whole (held_in o pl at count) (own_record s style x)

          la : length (take at o) ≡ at
          la = length-take-le at o (omega (arith, g.room, g.same))

          lb : length (take count pl) ≡ count
          lb = length-take-le count pl (omega (arith, g.slots, g.table))

          ok' : Valid s
          ok' = valid s ok

          size : length v₁.bytes ≤ length (take at o) + size_of s x
          size = record_size style.whole (held_in o pl at count) (own_record s style x) (own_is_name s ok' x) (own_shaped s ok' x)

          counts : length v₁.places ≤ length (take count pl) + labels_of s x
          counts = record_count style.whole (held_in o pl at count) (own_record s style x) (own_is_name s ok' x) (own_shaped s ok' x)

          same_size : size_of s x ≡ size_of s (get_or is j Ptr)
          same_size = ap (size_of s) ex

          same_count : labels_of s x ≡ labels_of s (get_or is j Ptr)
          same_count = ap (labels_of s) ex

          low : at ≤ length v₁.bytes
          low = omega (arith, la, record_low style.whole (held_in o pl at count) (own_record s style x) (own_is_name s ok' x) (own_shaped s ok' x))

          low-places : count ≤ length v₁.places
          low-places = omega (arith, lb, places-low style.whole (held_in o pl at count) (own_record s style x))

          behind : (n : ℕ) (l l₀ b l' : List ℕ) (e : ℕ) → l' ≡ b ++ drop (length b) l → e ≡ length b → n ≤ length b → drop n l ≡ drop n l₀ → drop e l' ≡ drop e
              l₀
          behind n l l₀ b l' e w ee low k =
              let m : ℕ = length b - n in
              let t : length b ≡ n + m = omega arith in
              ap₂ drop ee w ∙ drop_at b (drop (length b) l) (length b) refl ∙ ap (λ (q : ℕ). drop q l) t ∙ sym (drop-drop m n l) ∙ ap (drop m) k ∙ drop-drop m n
              l₀ ∙ ap (λ (q : ℕ). drop q l₀) (sym t ∙ sym ee)

-- the record of the index at a place of the order
pub listed_at : (is : List ℕ) (j : ℕ) (x : Own) → x ≡ record_at (get_or is j 0) → x ≡ get_or (map record_at is) j Ptr
unfolding record_at
listed_at is j x e = e ∙ sym (get_or-map record_at is j 0)
