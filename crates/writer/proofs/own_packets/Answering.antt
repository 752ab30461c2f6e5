-- A packet in a style: the header, the question, the records, and what the buffer then is; a response and a probe. Assumes nothing.
use mathlib.Core.Path.{◌≡◌, refl, sym, ap, ◌∙◌, subst}
use mathlib.Core.List.{List, [], ◌∷◌, ◌++◌, map}
use mathlib.Core.Bool.{Bool, true, false, cond, not}
use Prim.Native.Nat.{ℕ, ◌+◌, ◌-◌, ◌<◌, ◌≤◌}
use native.Mathlib.Omega.{arith}
use borrow.Author.Tests.{le-leb, eq-eqb, ne_eqb, ltb-false}
use lib.ListN.{length, take, drop, take-append-drop, length-map}
use lib.Seq.{sets, sets-eq, length-sets, length-take-le, drop_at, drop-drop}
use lib.Dec.{eqb, ltb}
use Rattle.wire.specs.names.Names.{is_name}
use Rattle.wire.specs.message.Message.{Question, Record}
use Rattle.wire.specs.labels.Counted.{labels_in}
use Rattle.own.specs.declared.records.Setup.{Setup}
use Rattle.claims.specs.records.Own.{records, record_at, first_of}
use Rattle.claims.specs.declared.records.Claim.{Claim}
use Rattle.claims.specs.declared.records.Own.{Own}
use Rattle.claims.specs.declared.records.Set.{Set}
use Rattle.own.specs.declared.records.OwnBytes.{OwnBytes}
use Rattle.own.specs.records.Setups.{valid_setup}
use Rattle.own.specs.records.Records.{own_of, own_name}
use Rattle.own.proofs.records.Valid.{Valid, valid, own_is_name}
use Rattle.writer.specs.declared.Spot.{Spot}
use Rattle.writer.specs.Items.{Writing, put_question, put_record}
use Rattle.writer.specs.Writer.{held_in, spot_of, room_in, question_of, name_fits, question_fits, Placing, Grown}
use Rattle.writer.proofs.Use.{question-size, question-count, question-low, record_low, held-so}
use Rattle.writer.specs.declared.own_packets.Picked.{Picked}
use Rattle.writer.specs.declared.own_packets.Asked.{Asked}
use Rattle.writer.specs.declared.own_packets.Style.{Style}
use Rattle.writer.specs.own_packets.Packets.{header_bytes, header, put_all, packet_of}
use Rattle.writer.specs.own_packets.Styles.{probe_style, own_record, questions_of, asked, styled_message, packet_in}
use Rattle.writer.specs.own_packets.Own.{refusal_of, length_of, response_records, probe_records, none_if_empty, chosen_packet, probe_packet}
use Rattle.writer.specs.own_packets.Own.{write_tests, refusal, unless_refused, sent_of, written_of, answer_to, laid_over}
use Rattle.writer.specs.own_packets.Ready.{spot_after, AnswerStyle, each, ListReady, listed, Picks, asked_size, asked_labels, AskReady, most_places, PacketReady}
use Rattle.writer.proofs.own_packets.Owned.{own_front, placed-grown, own_shaped}
use Rattle.writer.proofs.own_packets.Room.{response_size, response_labels, probe-size, probe-labels, claim_size_lem, claim_labels}
use Rattle.std.specs.Prelude.{Option, Some, None, is_some, Result, Ok, Err}
use Rattle.wire.specs.declared.refusals.Refusal.{Refusal}
use Rattle.wire.specs.declared.refusals.Refusal.TheVariants.{Buffer}
use Rattle.wire.specs.declared.refusals.Refusal.TheVariants as cause
use Rattle.wire.specs.refusals.Numbers.{number_of, number_in, refused_by}
use Rattle.wire.proofs.refusals.Tests.{numbers_from-1, number_by}
use Rattle.writer.specs.declared.Misfit.{Misfit}

-- the answer and the buffer
abbrev pub Answered : Setup → List ℕ → List ℕ → Result (Option ℕ) Refusal → List ℕ → Type 0
Answered s packet o r o' =
    (r ≡ answer_to s o packet)
    × ((o' ≡ laid_over (unless_refused (refusal s o) packet) o) × ((refusal_of r ≡ refusal s o) × (length_of r ≡ length (unless_refused (refusal s o) packet))))

-- what the tests of a call come to
module _ (s : Setup) (o : List ℕ) (v : Result (Unit {0}) Refusal) (is : v ≡ refused_by (write_tests s (length o))) where
  tested : number_in v ≡ refusal s o
  unfolding refusal
  tested = ap number_in is ∙ number_by (write_tests s (length o))

  pub refused : (packet : List ℕ) (cause : Refusal) → v ≡ Err cause → (r : Result (Option ℕ) Refusal) → r ≡ Err cause → Answered s packet o r o
  refused packet cause e r k =
      let n : number_of cause ≡ refusal s o = sym (ap number_in e) ∙ tested in
      let z : eqb (refusal s o) 0 ≡ false = ne_eqb (refusal s o) 0 (λ q. absurd (omega (arith, numbers_from-1 cause))) in
      (k ∙ ap (λ (x : Result (Unit {0}) Refusal). written_of x packet) (sym e ∙ is), (simp z, (ap refusal_of k ∙ n, ap length_of k ∙ simp z)))

  module _ (t : v ≡ Ok tt) where
    accepted : refusal s o ≡ 0
    accepted = sym tested ∙ ap number_in t

    -- there is room, and the set-up keeps the rules
    passed : (ltb (length o) 1452 ≡ false) × (valid_setup s ≡ true)
    passed = go (ltb (length o) 1452) (valid_setup s) (sym is ∙ t)
      where
        go : (a b : Bool) → ◌≡◌ {A = Result (Unit {0}) Refusal} (cond a (Err Buffer) (cond (not b) (Err cause.Setup) (Ok tt))) (Ok tt) → (a ≡ false) × (b ≡ true)
        go true b e = cc
        go false true e = (refl, refl)
        go false false e = cc

    pub room : 1452 ≤ length o
    room = ltb-false _ _ passed.0

    pub fine : valid_setup s ≡ true
    fine = passed.1

    answered : (packet : List ℕ) (r : Option ℕ) (o' : List ℕ) → r ≡ sent_of packet → o' ≡ laid_over packet o → Answered s packet o (Ok r) o'
    answered packet r o' e w =
        let z : eqb (refusal s o) 0 ≡ true = eq-eqb (refusal s o) 0 accepted in
        (ap Ok e ∙ ap (λ (x : Result (Unit {0}) Refusal). written_of x packet) (sym t ∙ is), (simp z w, (sym accepted, simp z (ap (λ (x : Option ℕ). length_of (Ok x)) e ∙ long packet))))
      where
        long : (bs : List ℕ) → length_of (Ok (sent_of bs)) ≡ length bs
        long [] = refl
        long (b ∷ bs) = refl

    pub nothing : (packet : List ℕ) → packet ≡ [] → Answered s packet o (Ok None) o
    nothing packet e = answered packet None o (sym (ap sent_of e)) (sym (ap (λ (l : List ℕ). laid_over l o) e))

    pub sent : (packet : List ℕ) (n : ℕ) (o' : List ℕ) → 1 ≤ length packet → n ≡ length packet → o' ≡ laid_over packet o → Answered s packet o (Ok (Some n)) o'
    sent packet n o' h e w = answered packet (Some n) o' (go packet h e) w
      where
        go : (bs : List ℕ) → 1 ≤ length bs → n ≡ length bs → Some n ≡ sent_of bs
        go [] h e = absurd (omega arith)
        go (b ∷ bs) h e = ap Some e

-- what stands behind a packet is as it was
laid_on : (v o o₀ o' : List ℕ) (n : ℕ) → o' ≡ v ++ drop (length v) o → n ≤ length v → drop n o ≡ drop n o₀ → o' ≡ v ++ drop (length v) o₀
laid_on v o o₀ o' n w low k =
    let m : ℕ = length v - n in
    let t : length v ≡ n + m = omega arith in
    w ∙ ap (λ (l : List ℕ). v ++ l) (ap (λ (q : ℕ). drop q o) t ∙ sym (drop-drop m n o) ∙ ap (drop m) k ∙ drop-drop m n o₀ ∙ ap (λ (q : ℕ). drop q o₀) (sym t))

-- records are only added
all-low : (s : Setup) (ok : Valid s) (style : Style) (w : Writing) (is : List Own)
    → length w.bytes ≤ length (put_all (put_record style.whole) w (map (own_record s style) is)).bytes
unfolding own_record
all-low s ok style w [] = omega arith
all-low s ok style w (i ∷ is) =
    omega (
      arith,
      record_low style.whole w (own_record s style i) (own_is_name s ok i) (own_shaped s ok i),
      all-low s ok style
          (put_record style.whole w (own_record s style i)) is,
    )

-- the question, if the style asks one
module _ (style : Style) (name o pl : List ℕ) (ready : AskReady style name o pl) where
  pub asked-not : style.asks ≡ None → Grown (put_all put_question (held_in o pl 12 0) (asked style name)) o pl (spot_of 12 0) o pl
  asked-not t =
      subst (λ (b : Option Asked). Grown (put_all put_question (held_in o pl 12 0) (questions_of b name)) o pl (spot_of 12 0) o pl) (sym t) none
    where
      long : length (take 12 o) ≡ 12
      long = length-take-le 12 o (omega (arith, ready.room))

      none : Grown (held_in o pl 12 0) o pl (spot_of 12 0) o pl
      none = record {
        bytes = sym (take-append-drop 12 o) ∙ ap (λ (k : ℕ). take 12 o ++ drop k o) (sym long);
        places = refl;
        ended = sym long;
        counted = refl;
      }

  module _ (one : Asked) (t : style.asks ≡ Some one) where
    size : 12 + (length name + 4) ≤ length o
    size = let e : asked_size style name ≡ length name + 4 = ap (λ (b : Option Asked). cond (is_some b) (length name + 4) 0) t in omega (arith, ready.room)

    labels : labels_in name ≤ length pl
    labels = let e : asked_labels style name ≡ labels_in name = ap (λ (b : Option Asked). cond (is_some b) (labels_in name) 0) t in omega (arith, ready.slots)

    few : length name + 4 ≤ 16372
    few = let e : asked_size style name ≡ length name + 4 = ap (λ (b : Option Asked). cond (is_some b) (length name + 4) 0) t in omega (arith, ready.small)

    question-fits : question_fits (room_in o pl 12 0) name ≡ true
    unfolding name_fits
    question-fits =
        let a : 12 + length name + 4 ≤ length o = omega (arith, size) in
        let b : 12 + length name ≤ 16384 = omega (arith, few) in
        let c : 0 + labels_in name + 0 ≤ length pl = omega (arith, labels) in
        simp (le-leb _ _ a, le-leb _ _ b, le-leb _ _ c)

    pub asked-grown : (placed : Result Spot Misfit) (o' pl' : List ℕ)
        → Placing (is_name name) (question_fits (room_in o pl 12 0) name) (put_question (held_in o pl 12 0) (question_of name one.qtype one.qclass)) o pl
        placed o' pl'
        → (r : Spot) → r ≡ spot_after placed 12 0 → Grown (put_all put_question (held_in o pl 12 0) (asked style name)) o pl r o' pl'
    asked-grown placed o' pl' p r e =
        subst (λ (b : Option Asked). Grown (put_all put_question (held_in o pl 12 0) (questions_of b name)) o pl r o' pl')
        (sym t) (placed-grown _ _ _ o pl placed o' pl' p (ready.named (ap is_some t)) question-fits 12 0 r e)

-- the header and the question take so much at most
pub asked-size : (style : Style) (name : List ℕ) → (is_some style.asks ≡ true → is_name name ≡ true) → (w : Writing)
    → (length w.bytes ≤ length (put_all put_question w (asked style name)).bytes)
    × (length (put_all put_question w (asked style name)).bytes ≤ length w.bytes + asked_size style name)
    × (length (put_all put_question w (asked style name)).places ≤ length w.places + asked_labels style name)
asked-size style name named w = go style.asks refl
  where
    go : (b : Option Asked) → style.asks ≡ b
        → (length w.bytes ≤ length (put_all put_question w (questions_of b name)).bytes)
        × (length (put_all put_question w (questions_of b name)).bytes ≤ length w.bytes + cond (is_some b) (length name + 4) 0)
        × (length (put_all put_question w (questions_of b name)).places ≤ length w.places + cond (is_some b) (labels_in name) 0)
    go (Some one) t =
        let q : Question = question_of name one.qtype one.qclass in
        (question-low w q, omega (arith, question-size w q (named (ap is_some t))), question-count w q)
    go None t = (omega arith, omega arith, omega arith)

-- the counts of the header
count_asked : (b : Option Asked) (name : List ℕ) → cond (is_some b) 1 0 ≡ length (questions_of b name)
count_asked (Some one) name = refl
count_asked None name = refl

count_answers : (b : Bool) (rs : List Record) (n : ℕ) → n ≡ length rs → cond b 0 n ≡ length (cond b [] rs)
count_answers true rs n e = refl
count_answers false rs n e = e

count_authorities : (b : Bool) (rs : List Record) (n : ℕ) → n ≡ length rs → cond b n 0 ≡ length (cond b rs [])
count_authorities true rs n e = e
count_authorities false rs n e = refl

-- records in one of two sections
pub one-section : (b whole : Bool) (w : Writing) (rs : List Record)
    → put_all (put_record whole) (put_all (put_record whole) w (cond b [] rs)) (cond b rs []) ≡ put_all (put_record whole) w rs
one-section true whole w rs = refl
one-section false whole w rs = refl

module _ (s : Setup) (style : Style) (name : List ℕ) (list : Picked) (o : List ℕ) (ready : PacketReady s style name (listed list) o)
    (sized : (list.n ≤ records) × (length list.order ≡ records)) where
  abbrev os : List Own
  os = listed list

  abbrev rs : List Record
  rs = map (own_record s style) os

  good : Valid s
  good = valid s ready.ok

  number : list.n ≡ length rs
  number =
      sym
      (length-map os (own_record s style) ∙ length-map (take list.n list.order) record_at
      ∙ length-take-le list.n list.order (omega (arith, sized.0, sized.1)))

  module _ (nq na nn : ℕ) (eq : nq ≡ cond (is_some style.asks) 1 0) (ea : na ≡ cond style.authority 0 list.n)
      (en : nn ≡ cond style.authority list.n 0) where
    abbrev H : List ℕ
    H = header_bytes style.id style.flags nq na nn 0

    abbrev w₀ : Writing
    w₀ = record { bytes = H; places = [] }

    header_is : w₀ ≡ header (styled_message s style name os)
    header_is =
        let x : nq ≡ length (asked style name) = eq ∙ count_asked style.asks name in
        let y : na ≡ length (cond style.authority [] rs) = ea ∙ count_answers style.authority rs list.n number in
        let z : nn ≡ length (cond style.authority rs []) = en ∙ count_authorities style.authority rs list.n number in
        λ i. record { bytes = header_bytes style.id style.flags (x i) (y i) (z i) 0; places = [] }

    pub counts_small : (nq < 65536) × (na < 65536) × (nn < 65536)
    counts_small = (go₁ (is_some style.asks) eq, go₂ style.authority ea, go₃ style.authority en)
      where
        go₁ : (b : Bool) → nq ≡ cond b 1 0 → nq < 65536
        go₁ true e = omega arith
        go₁ false e = omega arith

        go₂ : (b : Bool) → na ≡ cond b 0 list.n → na < 65536
        go₂ true e = omega arith
        go₂ false e = omega (arith, sized.0)

        go₃ : (b : Bool) → nn ≡ cond b list.n 0 → nn < 65536
        go₃ true e = omega (arith, sized.0)
        go₃ false e = omega arith

    -- the header
    module _ (o₁ : List ℕ) (w₁ : o₁ ≡ sets o 0 H) (pl : List ℕ) (table : length pl ≡ most_places) where
      laid : o₁ ≡ H ++ drop 12 o
      laid = w₁ ∙ sets-eq H o 0 (omega (arith, ready.room))

      same : length o₁ ≡ length o
      same = ap length w₁ ∙ length-sets o 0 H

      behind : drop 12 o₁ ≡ drop 12 o
      behind = ap (drop 12) laid

      held : held_in o₁ pl 12 0 ≡ w₀
      held = let e : take 12 o₁ ≡ H = ap (take 12) laid in λ i. record { bytes = e i; places = [] }

      pub ask_ready : AskReady style name o₁ pl
      ask_ready = record {
        named = ready.named;
        room = omega (arith, ready.room, same);
        small = omega (arith, ready.small);
        slots = omega (arith, ready.slots);
      }

      -- the question
      module _ (q : Spot) (o₂ pl₂ : List ℕ) (g : Grown (put_all put_question (held_in o₁ pl 12 0) (asked style name)) o₁ pl q o₂ pl₂)
          (lo : length o₂ ≡ length o₁) (lp : length pl₂ ≡ length pl) where
        abbrev w₂ : Writing
        w₂ = put_all put_question w₀ (asked style name)

        first : Grown w₂ o₁ pl q o₂ pl₂
        first = subst (λ (w : Writing). Grown (put_all put_question w (asked style name)) o₁ pl q o₂ pl₂) held g

        sizes-are : (12 ≤ length w₂.bytes) × (length w₂.bytes ≤ 12 + asked_size style name) × (length w₂.places ≤ asked_labels style name)
        sizes-are =
            let f = asked-size style name ready.named w₀ in
            (omega (arith, f.0), omega (arith, f.1), omega (arith, f.2))

        pub list_ready : ListReady s style os q.end q.count o₂ pl₂
        list_ready = record {
          ok = ready.ok;
          counts = ready.counts;
          room = omega (arith, first.ended, sizes-are.1, ready.room, same);
          small = omega (arith, first.ended, sizes-are.1, ready.small);
          slots = omega (arith, first.counted, sizes-are.2, ready.slots);
        }

        -- the records
        module _ (r : Spot) (o₃ pl₃ : List ℕ) (k : Grown (put_all (put_record style.whole) (held_in o₂ pl₂ q.end q.count) rs) o₂ pl₂ r o₃ pl₃) where
          abbrev w₃ : Writing
          w₃ = put_all (put_record style.whole) w₂ rs

          last : Grown w₃ o₂ pl₂ r o₃ pl₃
          last = subst (λ (w : Writing). Grown (put_all (put_record style.whole) w rs) o₂ pl₂ r o₃ pl₃) (held-so w₂ o₁ pl q o₂ pl₂ first) k

          packet : w₃.bytes ≡ packet_in s style name os
          unfolding packet_of
          packet =
              ap (λ (w : Writing). (put_all (put_record style.whole) (put_all put_question w (asked style name)) rs).bytes) header_is
              ∙ ap (λ (w : Writing). w.bytes)
              (sym (one-section style.authority style.whole (put_all put_question (header (styled_message s style name os)) (asked style name)) rs))

          low : length w₂.bytes ≤ length w₃.bytes
          low = all-low s good style w₂ os

          after : drop (length w₂.bytes) o₂ ≡ drop (length w₂.bytes) o
          after =
              ap (drop (length w₂.bytes)) (laid_on w₂.bytes o₁ o o₂ 12 first.bytes sizes-are.0 behind)
              ∙ drop_at w₂.bytes (drop (length w₂.bytes) o) (length w₂.bytes) refl

          pub packet_written : (r.end ≡ length (packet_in s style name os)) × (o₃ ≡ laid_over (packet_in s style name os) o)
          packet_written = (
            last.ended ∙ ap length packet,
            laid_on w₃.bytes o₂ o o₃ (length w₂.bytes) last.bytes low after ∙ ap (λ (l : List ℕ). laid_over l o) packet,
          )

-- the packet is longer than nothing
pub packet_some : (s : Setup) (ok : Valid s) (style : Style) (name : List ℕ) (os : List Own) → (is_some style.asks ≡ true → is_name name ≡ true) → 1 ≤ length
    (packet_in s style name os)
unfolding packet_of
packet_some s ok style name os named =
    let w : Writing = put_all put_question (header (styled_message s style name os)) (asked style name) in
    let rs : List Record = map (own_record s style) os in
    let e = one-section style.authority style.whole w rs in
    omega (arith, ap (λ (x : Writing). length x.bytes) e, all-low s ok style w os, (asked-size style name named (header (styled_message s style name os))).0)

module _ (s : Setup) (o : List ℕ) (v : Result (Unit {0}) Refusal) (is : v ≡ refused_by (write_tests s (length o))) (t : v ≡ Ok tt) where
  h : 1452 ≤ length o
  h = room s o v is t

  ok : Valid s
  ok = valid s (fine s o v is t)

  -- own records in a style that asks nothing
  module _ (st : Style) (quiet : AnswerStyle st) (chosen : Set) (list : Picked) (p : Picks (response_records s chosen) list) where
    abbrev those : List ℕ
    those = chosen_packet s st chosen

    unasked : is_some st.asks ≡ true → is_name [] ≡ true
    unasked f = let e : ◌≡◌ {A = Bool} false true = sym (ap is_some quiet.unasked) ∙ f in let z : ◌≡◌ {A = ℕ} 0 1 = cc in absurd (omega arith)

    no_question : asked_size st [] ≡ 0
    no_question = ap (λ (b : Option Asked). cond (is_some b) (length {A = ℕ} [] + 4) 0) quiet.unasked

    no_labels : asked_labels st [] ≡ 0
    no_labels = ap (λ (b : Option Asked). cond (is_some b) (labels_in []) 0) quiet.unasked

    pub empty-nothing : list.n ≡ 0 → Answered s those o (Ok None) o
    empty-nothing z =
        let e : response_records s chosen ≡ [] = sym p.those ∙ ap (λ (k : ℕ). map record_at (take k list.order)) z in
        nothing s o v is t those (ap (λ (l : List Own). none_if_empty l (packet_in s st [] (response_records s chosen))) e)

    pub response_ready : PacketReady s st [] (listed list) o
    response_ready = rw p.those (record {
      ok = fine s o v is t;
      named = unasked;
      counts = quiet.counts;
      room = omega (arith, h, no_question, response_size s ok chosen);
      small = omega (arith, h, no_question, response_size s ok chosen);
      slots = omega (arith, h, no_labels, response_labels s ok chosen);
    })

    pub response_sent : (list.n ≡ 0 → ⊥) → (n : ℕ) (o₁ : List ℕ) → n ≡ length (packet_in s st [] (listed list))
        → o₁ ≡ laid_over (packet_in s st [] (listed list)) o → Answered s those o (Ok (Some n)) o₁
    response_sent nz n o₁ en w =
        sent s o v is t those n o₁ (omega (arith, ap length packet, packet_some s ok st [] (response_records s chosen) unasked))
        (en ∙ ap length (as_listed ∙ sym packet)) (w ∙ ap (λ (l : List ℕ). laid_over l o) (as_listed ∙ sym packet))
      where
        as_listed : packet_in s st [] (listed list) ≡ packet_in s st [] (response_records s chosen)
        as_listed = ap (packet_in s st []) p.those

        some : (l : List Own) → (length l ≡ 0 → ⊥) → (b : List ℕ) → none_if_empty l b ≡ b
        some [] z b = absurd (z refl)
        some (x ∷ xs) z b = refl

        many : length (response_records s chosen) ≡ list.n
        many =
            ap length (sym p.those) ∙ length-map (take list.n list.order) record_at
            ∙ length-take-le list.n list.order (omega (arith, p.few, p.sized))

        packet : those ≡ packet_in s st [] (response_records s chosen)
        packet = some (response_records s chosen) (λ z. nz (sym many ∙ z)) _

  module _ (claim : Claim) (list : Picked) (p : Picks (probe_records s claim) list) (k : Own) (ek : k ≡ first_of claim) (n : OwnBytes)
      (en : n ≡ own_of (own_name s k)) where
    name-is : take n.len n.bytes ≡ own_name s (first_of claim)
    name-is = own_front (own_name s k) n en ∙ ap (own_name s) ek

    pub probe-ready : (style : Style) → style ≡ probe_style → PacketReady s style (take n.len n.bytes) (listed list) o
    probe-ready style e = rw (e, name-is, p.those) (record {
      ok = fine s o v is t;
      named = λ f. own_is_name s ok (first_of claim);
      counts = each;
      room = omega (arith, h, claim_size_lem s ok claim, probe-size s ok claim);
      small = omega (arith, h, claim_size_lem s ok claim, probe-size s ok claim);
      slots = omega (arith, claim_labels s ok claim, probe-labels s ok claim);
    })

    pub probe-sent : (style : Style) → style ≡ probe_style → (m : ℕ) (o₁ : List ℕ) → m ≡ length (packet_in s style (take n.len n.bytes) (listed list))
        → o₁ ≡ laid_over (packet_in s style (take n.len n.bytes) (listed list)) o → Answered s (probe_packet s claim) o (Ok (Some m)) o₁
    unfolding probe_packet
    probe-sent style e m o₁ em w =
        sent s o v is t (probe_packet s claim) m o₁
        (packet_some s ok probe_style (own_name s (first_of claim)) (probe_records s claim) (λ f. own_is_name s ok (first_of claim))) (em ∙ ap length packet)
        (w ∙ ap (λ (l : List ℕ). laid_over l o) packet)
      where
        packet : packet_in s style (take n.len n.bytes) (listed list) ≡ packet_in s probe_style (own_name s (first_of claim)) (probe_records s claim)
        packet = λ i. packet_in s (e i) (name-is i) (p.those i)
