-- What is promised of written packets (specification, 'Writing a packet' and 'Reading a message'), as statements. Each is proved in proofs/ under the name
-- that its comment gives: Whole, Puts, Composed, OwnPackets. Assumes nothing.
use Rattle.std.specs.Prelude.{ℕ, ◌≤◌, ◌≡◌, List, [], ◌++◌, Bool, true, false, length, take, Ok}
use Rattle.std.specs.Prelude.{is_some}
use Rattle.wire.specs.names.Names.{is_name}
use Rattle.wire.specs.message.Message.{Question, Record, Message}
use Rattle.wire.specs.message.Layout.{item, question_at, record_at, read, plain_header, message_at}
use Rattle.claims.specs.declared.records.Claim.{Claim}
use Rattle.claims.specs.declared.records.Own.{Own}
use Rattle.claims.specs.declared.records.Set.{Set}
use Rattle.own.specs.declared.records.Setup.{Setup}
use Rattle.own.specs.records.Setups.{valid_setup}
use Rattle.writer.specs.compression.Sentence.{Rising}
use Rattle.writer.specs.declared.Spot.{Spot}
use Rattle.writer.specs.declared.own_packets.Style.{Style}
use Rattle.writer.specs.Fit.{fit_record}
use Rattle.writer.specs.Items.{Writing, put_question, put_record}
use Rattle.writer.specs.Writer.{held_in, room_in, question_fits, record_fits, Placing}
use Rattle.writer.specs.own_packets.Packets.{packet_of, written}
use Rattle.writer.specs.own_packets.Ready.{TtlSmall}
use Rattle.writer.specs.own_packets.Styles.{styled_message, packet_in}
use Rattle.writer.specs.own_packets.Own.{response_records, response_of, probe_of, response_packet, probe_packet, plain_records, plain_reply_of, plain_packet}
use Rattle.roundtrip.specs.Writable.{Writable, layout_of}
use Rattle.roundtrip.specs.Puts.{Buffers, MessagePut}
use Rattle.roundtrip.specs.Composed.{MessageLaid}

-- ---- every message that can be written

-- `message-back`: its packet, with any bytes behind it and at most 8,972 in all, is read as the same message: the header, each question and each record in
-- its section, in order, every name and every rdata byte for byte, and where each part lies. "bytes after the last record are ignored"
abbrev pub MessageBack : Type 0
MessageBack =
    (whole : Bool) (m : Message) → Writable m → (post : List ℕ) → length (packet_of whole m ++ post) ≤ 8972
    → message_at (packet_of whole m ++ post) ≡ read (layout_of whole m) m

-- `question-put-back`, `record-put-back`: what `writer::put_question` or `put_record` says that it has put is read where it was put, if the places handed in
-- rise and lie in the packet behind the header
abbrev pub QuestionPutBack : Type 0
QuestionPutBack =
    (o pl : List ℕ) (at count : ℕ) (q : Question) (spot : Spot) (o' pl' : List ℕ) → Rising 12 at (take count pl)
    → Placing (is_name q.name) (question_fits (room_in o pl at count) q.name) (put_question (held_in o pl at count) q) o pl (Ok spot) o' pl'
    → question_at o' at ≡ item q spot.end

abbrev pub RecordPutBack : Type 0
RecordPutBack =
    (whole : Bool) (o pl : List ℕ) (at count : ℕ) (r : Record) (spot : Spot) (o' pl' : List ℕ) → Rising 12 at (take count pl)
    → Placing (fit_record r.owner r.rtype r.ttl r.rdata) (record_fits (room_in o pl at count) r.owner r.rtype r.rdata)
    (put_record whole (held_in o pl at count) r) o pl (Ok spot) o' pl'
    → record_at o' at ≡ item r spot.end

-- `message-put-back`: a message whose questions and records were put so one after the other behind its header, in whatever buffers, is read as that message
abbrev pub MessagePutBack : Type 0
MessagePutBack =
    (whole : Bool) (m : Message) (b e : Buffers) → MessagePut whole m b e → plain_header m.flags ≡ true → e.at ≤ 8972
    → message_at (take e.at e.out) ≡ read (layout_of whole m) m

-- `composed`: its packet is laid out for it, each name of the message cut as the sentence says in its place: "Every name, SRV and PTR rdata too, is cut at its
-- longest suffix of whole labels that stands earlier"; and no other packet is
abbrev pub MessageComposed : Type 0
MessageComposed =
    (whole : Bool) (m : Message) → Writable m → MessageLaid whole m (written whole m) × ((w : Writing) → MessageLaid whole m w → w ≡ written whole m)

-- ---- own packets, of every set-up that keeps the rules

-- `style-back`: own records in any style, behind a question for any name where the style asks one, are read as that message, if they take at most 8,972 bytes
abbrev pub StyleBack : Type 0
StyleBack =
    (s : Setup) → valid_setup s ≡ true → (style : Style) → TtlSmall style.ttl → plain_header style.flags ≡ true → (name : List ℕ)
    → (is_some style.asks ≡ true → is_name name ≡ true) → (os : List Own) → length (packet_in s style name os) ≤ 8972
    → message_at (packet_in s style name os) ≡ read (layout_of style.whole (styled_message s style name os)) (styled_message s style name os)

-- `response-back`: a response with any ID of any records that the set-up has, at least one, is read as that ID and exactly those, "in the order PTR, SRV, TXT,
-- A, AAAA" and then NSEC
abbrev pub ResponseBack : Type 0
ResponseBack =
    (s : Setup) → valid_setup s ≡ true → (id : ℕ) (chosen : Set) → (response_records s chosen ≡ [] → ⊥)
    → message_at (response_packet s id chosen) ≡ read (layout_of false (response_of s id chosen)) (response_of s id chosen)

-- `probe-back`: a claim's probe is read as "one question (type 255, ..) with the claim's records in Authority, by rising type", its class 0x8001
abbrev pub ProbeBack : Type 0
ProbeBack = (s : Setup) → valid_setup s ≡ true → (claim : Claim) → message_at (probe_packet s claim) ≡ read (layout_of false (probe_of s claim)) (probe_of s claim)

-- `packets-fit`: "The largest packet must still fit 1,452 bytes"; any response and any probe has at most 1,370
abbrev pub PacketsFit : Type 0
PacketsFit =
    (s : Setup) → valid_setup s ≡ true → (id : ℕ) (chosen : Set) (claim : Claim)
    → (length (response_packet s id chosen) ≤ 1370) × (length (probe_packet s claim) ≤ 1370)

-- `own-composed`: their names are cut as the sentence says
abbrev pub OwnComposed : Type 0
OwnComposed =
    (s : Setup) → valid_setup s ≡ true → (id : ℕ) (chosen : Set) (claim : Claim)
    → MessageLaid false (response_of s id chosen) (written false (response_of s id chosen))
    × MessageLaid false (probe_of s claim) (written false (probe_of s claim))

-- ---- replies to plain resolvers

-- `Plain-back`: a reply to a question for a name, with at least one record, is read as the ID and the question that were handed in, and the records, each with TTL 10 and
-- class 1
abbrev pub PlainBack : Type 0
PlainBack =
    (s : Setup) → valid_setup s ≡ true → (chosen : Set) (id : ℕ) (q : Question) → is_name q.name ≡ true → (plain_records s chosen ≡ [] → ⊥)
    → message_at (plain_packet s chosen id q) ≡ read (layout_of true (plain_reply_of s chosen id q)) (plain_reply_of s chosen id q)

-- `plain_fits`: it has at most 1,268 bytes, whatever is asked
abbrev pub PlainFits : Type 0
PlainFits = (s : Setup) → valid_setup s ≡ true → (chosen : Set) (id : ℕ) (q : Question) → length (plain_packet s chosen id q) ≤ 1268

-- `plain-composed`: its names are cut as the sentence says, but for the target of the SRV, which is whole
abbrev pub PlainComposed : Type 0
PlainComposed =
    (s : Setup) → valid_setup s ≡ true → (chosen : Set) (id : ℕ) (q : Question) → is_name q.name ≡ true
    → MessageLaid true (plain_reply_of s chosen id q) (written true (plain_reply_of s chosen id q))
