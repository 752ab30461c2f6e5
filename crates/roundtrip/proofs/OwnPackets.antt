-- The theorems on own packets: an own record is fit in any style, and what it takes is bounded; the rest is the general theorems. Assumes nothing.
use Prim.Native.Nat.{ℕ, ◌+◌, ◌≤◌}
use mathlib.Core.Path.{◌≡◌, refl, sym, ap, ◌∙◌}
use mathlib.Core.List.{List, [], ◌∷◌, append-nil, map}
use mathlib.Core.Bool.{Bool, true, false, cond}
use native.Mathlib.Omega.{arith}
use lib.ListN.{length}
use Rattle.std.specs.Prelude.{is_some}
use Rattle.std.specs.Prelude.{Option, Some, None}
use Rattle.writer.specs.declared.own_packets.Asked.{Asked}
use Rattle.wire.specs.names.Names.{is_name}
use Rattle.wire.specs.message.Message.{Question, Record}
use Rattle.wire.specs.message.Layout.{plain_header, message_at}
use Rattle.claims.specs.records.Own.{first_of}
use Rattle.claims.specs.declared.records.Claim.{Claim}
use Rattle.claims.specs.declared.records.Own.{Own}
use Rattle.claims.specs.declared.records.Set.{Set}
use Rattle.own.specs.declared.records.Setup.{Setup}
use Rattle.own.specs.records.Setups.{valid_setup}
use Rattle.own.specs.records.Records.{own_name}
use Rattle.own.proofs.records.Valid.{Valid, valid, own_is_name}
use Rattle.writer.specs.Items.{Writing, put_record, put_question}
use Rattle.writer.specs.declared.own_packets.Style.{Style}
use Rattle.writer.specs.own_packets.Packets.{header, put_all, packet_of}
use Rattle.writer.specs.own_packets.Styles.{response_style, probe_style, plain_style, questions_of, asked, own_record, styled_message, packet_in}
use Rattle.writer.specs.own_packets.Own.{response_records, probe_records, response_of, probe_of, none_if_empty, response_packet, probe_packet, plain_records, plain_reply_of, plain_packet}
use Rattle.writer.specs.own_packets.Ready.{sizes, asked_size, TtlSmall, each, fixed}
use Rattle.writer.proofs.Fitting.{fit_of}
use Rattle.writer.proofs.Use.{record_size}
use Rattle.writer.proofs.own_packets.Owned.{own_shaped, own_counts}
use Rattle.writer.proofs.own_packets.Room.{own_size, response_size, probe-size, claim_size_lem, plain_size}
use Rattle.writer.proofs.own_packets.Answering.{asked-size, one-section}
use Rattle.writer.proofs.own_packets.Plain.{name-most}
use Rattle.roundtrip.specs.Writable.{IsQuestion, IsRecord, Each, none, one, Writable}
use Rattle.roundtrip.specs.Statements.{StyleBack, ResponseBack, ProbeBack, PacketsFit, OwnComposed, PlainBack, PlainFits, PlainComposed}
use Rattle.roundtrip.proofs.Composed.{composed}
use Rattle.roundtrip.proofs.Whole.{message_back}

module _ (s : Setup) (ok : Valid s) (style : Style) where
  -- what a list of own records takes at most
  all-size : (w : Writing) (os : List Own) → length (put_all (put_record style.whole) w (map (own_record s style) os)).bytes ≤ length w.bytes + sizes s os
  unfolding sizes own_record
  all-size w [] = omega arith
  all-size w (o ∷ os) =
      omega (
        arith,
        record_size style.whole w (own_record s style o) (own_is_name s ok o) (own_shaped s ok o),
        all-size
            (put_record style.whole w (own_record s style o)) os,
      )

  module _ (name : List ℕ) (named : is_some style.asks ≡ true → is_name name ≡ true) (os : List Own) where
    pub style_long : length (packet_in s style name os) ≤ 12 + asked_size style name + sizes s os
    unfolding packet_of
    style_long =
        let h : Writing = header (styled_message s style name os) in
        let w : Writing = put_all put_question h (asked style name) in
        let rs : List Record = map (own_record s style) os in
        omega
        (arith, ap (λ (x : Writing). length x.bytes) (one-section style.authority style.whole w rs), all-size w os, (asked-size style name named h).1)

    -- a packet in a style can be written
    pub style_writable : TtlSmall style.ttl → plain_header style.flags ≡ true → Writable (styled_message s style name os)
    unfolding own_record
    style_writable ttls plain = record {
      plain = plain;
      questions = ask style.asks refl;
      answers = answers style.authority;
      authorities = authorities style.authority;
      additionals = none;
    }
      where
        ask : (b : Option Asked) → style.asks ≡ b → Each IsQuestion (questions_of b name)
        ask (Some a) t = one (named (ap is_some t)) none
        ask None t = none

        records : (os : List Own) → Each IsRecord (map (own_record s style) os)
        records [] = none
        records (o ∷ os) =
            one (fit_of _ _ _ _ (own_is_name s ok o) (own_shaped s ok o) (omega (arith, own_size s ok o)) (own_counts ttls o)) (records os)

        answers : (b : Bool) → Each IsRecord (cond b [] (map (own_record s style) os))
        answers true = none
        answers false = records os

        authorities : (b : Bool) → Each IsRecord (cond b (map (own_record s style) os) [])
        authorities true = records os
        authorities false = none

-- a response has no question
pub unasked : false ≡ true → is_name [] ≡ true
unasked e = let z : ◌≡◌ {A = ℕ} 0 1 = cc in absurd (omega arith)

response_long : (s : Setup) → Valid s → (id : ℕ) (chosen : Set) → length (packet_in s (response_style id) [] (response_records s chosen)) ≤ 1370
response_long s ok id chosen = omega (arith, style_long s ok (response_style id) [] unasked (response_records s chosen), response_size s ok chosen)

probe-long : (s : Setup) → Valid s → (claim : Claim) → length (packet_in s probe_style (own_name s (first_of claim)) (probe_records s claim)) ≤ 1370
probe-long s ok claim =
    omega (
      arith,
      style_long s ok probe_style (own_name s (first_of claim)) (λ e. own_is_name s ok (first_of claim)) (probe_records s claim),
      claim_size_lem s ok claim,
      probe-size s ok claim,
    )

pub some : (os : List Own) (packet : List ℕ) → (os ≡ [] → ⊥) → none_if_empty os packet ≡ packet
some [] packet h = absurd (h refl)
some (o ∷ os) packet h = refl

pub packets_fit : PacketsFit
unfolding response_packet probe_packet
packets_fit s h id chosen claim = (go (response_records s chosen), probe-long s (valid s h) claim)
  where
    go : (os : List Own) → length (none_if_empty os (packet_in s (response_style id) [] (response_records s chosen))) ≤ 1370
    go [] = omega arith
    go (o ∷ os) = response_long s (valid s h) id chosen

pub style_back : StyleBack
style_back s h style ttls plain name named os most =
    ap message_at (sym (append-nil (packet_in s style name os)))
    ∙ message_back style.whole (styled_message s style name os) (style_writable s (valid s h) style name named os ttls plain) []
    (omega (arith, most, ap length (append-nil (packet_in s style name os))))

pub response_back : ResponseBack
unfolding response_packet response_of
response_back s h id chosen nz =
    ap message_at (some (response_records s chosen) (packet_in s (response_style id) [] (response_records s chosen)) nz)
    ∙ style_back s h (response_style id) each refl [] unasked (response_records s chosen) (omega (arith, response_long s (valid s h) id chosen))

pub probe-back : ProbeBack
unfolding probe_packet probe_of
probe-back s h claim =
    style_back s h probe_style each refl (own_name s (first_of claim)) (λ e. own_is_name s (valid s h) (first_of claim)) (probe_records s claim)
    (omega (arith, probe-long s (valid s h) claim))

pub own_composed : OwnComposed
unfolding response_of probe_of
own_composed s h id chosen claim = (
  (composed false _ (style_writable s (valid s h) (response_style id) [] unasked (response_records s chosen) each refl)).0,
  (composed false _
      (style_writable s (valid s h) probe_style (own_name s (first_of claim)) (λ e. own_is_name s (valid s h) (first_of claim))
      (probe_records s claim) each refl)).0,
)

-- ---- a reply to a plain resolver

module _ (s : Setup) (h : valid_setup s ≡ true) (chosen : Set) (id : ℕ) (q : Question) (named : is_name q.name ≡ true) where
  abbrev style : Style
  style = plain_style id q.rtype q.class

  abbrev packet : List ℕ
  packet = packet_in s style q.name (plain_records s chosen)

  plain-long : length packet ≤ 1268
  plain-long =
      omega (
        arith,
        style_long s (valid s h) style q.name (λ e. named) (plain_records s chosen),
        plain_size s (valid s h) chosen,
        name-most q.name named,
      )

  plain-is : plain_packet s chosen id q ≡ none_if_empty (plain_records s chosen) packet
  unfolding plain_packet
  plain-is = simp named

  plain-named : length (plain_packet s chosen id q) ≤ 1268
  plain-named = rw plain-is (go (plain_records s chosen))
    where
      go : (os : List Own) → length (none_if_empty os packet) ≤ 1268
      go [] = omega arith
      go (o ∷ os) = plain-long

pub plain_fits : PlainFits
unfolding plain_packet
plain_fits s h chosen id q = go (is_name q.name) refl
  where
    go : (b : Bool) → is_name q.name ≡ b
        → length (cond b (none_if_empty (plain_records s chosen) (packet_in s (plain_style id q.rtype q.class) q.name (plain_records s chosen))) []) ≤ 1268
    go true e = rw (sym (plain-is s h chosen id q e)) (plain-named s h chosen id q e)
    go false e = omega arith

pub plain_back : PlainBack
unfolding plain_reply_of
plain_back s h chosen id q named nz =
    ap message_at (plain-is s h chosen id q named ∙ some (plain_records s chosen) (packet s h chosen id q named) nz)
    ∙ style_back s h (plain_style id q.rtype q.class) (fixed {ttl = 10} (omega arith)) refl q.name (λ e. named) (plain_records s chosen)
    (omega (arith, plain-long s h chosen id q named))

pub plain-composed : PlainComposed
unfolding plain_reply_of
plain-composed s h chosen id q named =
    (composed true _
    (style_writable s (valid s h) (plain_style id q.rtype q.class) q.name (λ e. named) (plain_records s chosen) (fixed {ttl = 10} (omega arith)) refl)).0
