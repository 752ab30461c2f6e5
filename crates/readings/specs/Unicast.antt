-- Questions that want unicast (RFC 6762, section 5.4), and the own probe, which wants it: evaluated over the definitions that the contracts of `claims`, `responder`
-- and `writer` cite. Assumes nothing.
use Rattle.std.specs.Prelude.{ℕ, ◌≡◌, refl, true, false, List, [], ◌∷◌, ◌++◌, Some, None}
use Rattle.wire.specs.name_pieces.Pieces.{piece_at}
use Rattle.wire.specs.names.Names.{read_from, from_run, name_at}
use Rattle.wire.specs.rdata.Rdata.{form_in, strings_fill, rdata_in, rdata_at}
use Rattle.wire.specs.expansion.Equal.{same_bytes}
use Rattle.wire.specs.case_folding.Fold.{same_name}
use Rattle.wire.specs.message.Layout.{question_read, question_at, record_read, record_at, list_from, and_then, message_at}
use Rattle.wire.specs.Lists.{some}
use Rattle.wire.specs.labels.Counted.{starts}
use Rattle.own.specs.utf8.Utf8 as utf8
use Rattle.own.specs.records.Setups.{label_fits, instance_fits, is_letter, is_name_byte, all_name_bytes, some_letter, hyphens_apart, service_rule, service_fits, protocol_fits, domain_fits, txt_fits, valid_setup, service_labels, instance_labels, host_labels}
use Rattle.own.specs.records.Records.{has_record, own_labels, own_name, srv_rdata, own_rdata}
use Rattle.claims.specs.Refusals.{multicasts_kept, holds_kept, kept, wrong_time}
use Rattle.claims.specs.Time.{after_ms, marked_all}
use Rattle.claims.specs.records.Own.{has}
use Rattle.claims.specs.records.Sets.{picked, only, some_of, every_of, at_once, records_of}
use Rattle.claims.specs.answers.Answers as answers
use Rattle.claims.specs.answers.Held as holds
use Rattle.claims.specs.holds.Holds as queries
use Rattle.claims.specs.holds.Holds.{no_holds}
use Rattle.claims.specs.declared.records.Claim.TheVariants.{Host}
use Rattle.claims.specs.declared.records.Own.TheVariants.{A, Ptr}
use Rattle.claims.specs.declared.ClaimState.TheVariants.{Held}
use Rattle.facts.specs.probe.Probe.{is_probe}
use Rattle.facts.specs.tiebreak.Lists.{list_under}
use Rattle.facts.specs.Facts.{is_asked, is_asked_as, is_known, theirs_later, query_facts, facts_of}
use Rattle.responder.specs.declared.State.{State}
use Rattle.responder.specs.Handed.{Arrival}
use Rattle.responder.specs.Refusals.{wrong_state, receive_refusal}
use Rattle.responder.specs.Calls.{packet_for, received_packet, unicast_packet}
use Rattle.writer.specs.compression.Compression.{stands_at, place_of, cut_from, name_bytes, name_places}
use Rattle.writer.specs.Fit.{form_for}
use Rattle.writer.specs.Items.{put_name, data_bytes, data_places, put_fields}
use Rattle.writer.specs.own_packets.Packets.{packet_of}
use Rattle.writer.specs.own_packets.Styles as styles
use Rattle.writer.specs.own_packets.Own.{response_packet, response_records, probe_packet, probe_records}
use Rattle.readings.specs.Examples.{example, somewhere, host_name}
use Rattle.readings.specs.States.{lived, handed, asks_a, wants_a, coming}

-- "Its probe, 44 bytes", with "00 ff 80 01"
abbrev pub probe : List ℕ
probe =
    (0 ∷ 0 ∷ 0 ∷ 0 ∷ 0 ∷ 1 ∷ 0 ∷ 0 ∷ 0 ∷ 1 ∷ 0 ∷ 0 ∷ [])
    ++ (host_name ++ (0 ∷ 0xff ∷ 0x80 ∷ 1 ∷ 0xc0 ∷ 0x0c ∷ 0 ∷ 1 ∷ 0 ∷ 1 ∷ 0 ∷ 0 ∷ 0 ∷ 120 ∷ 0 ∷ 4 ∷ 10 ∷ 0 ∷ 0 ∷ 7 ∷ []))

-- a query with an ID for the address of "dock.local", of class 1, with the unicast bit (0x80) or without (0)
abbrev pub query : ℕ → List ℕ
query bit = (0x12 ∷ 0x34 ∷ 0 ∷ 0 ∷ 0 ∷ 1 ∷ 0 ∷ 0 ∷ 0 ∷ 0 ∷ 0 ∷ 0 ∷ []) ++ (host_name ++ (0 ∷ 1 ∷ bit ∷ 1 ∷ []))

-- it comes at a time to a responder that multicast its address at 5,000
abbrev pub told : State
told = handed Held (Some 5000) None 0 0

abbrev pub at : ℕ → ℕ → Arrival
at time bit = record {
  time = time;
  from = somewhere;
  port = 5353;
  draw = 20;
  hold = 400;
  packet = query bit;
  room = 1452;
  unicastroom = 1452;
}

-- the address, announced or in an answer to one, by the first bytes of the packet
abbrev pub address : ℕ → ℕ → List ℕ
address first second =
    (first ∷ second ∷ 0x84 ∷ 0 ∷ 0 ∷ 0 ∷ 0 ∷ 1 ∷ 0 ∷ 0 ∷ 0 ∷ 0 ∷ [])
    ++ (host_name ++ (0 ∷ 1 ∷ 0x80 ∷ 1 ∷ 0 ∷ 0 ∷ 0 ∷ 120 ∷ 0 ∷ 4 ∷ 10 ∷ 0 ∷ 0 ∷ 7 ∷ []))

abbrev pub Unicast : Type 0
Unicast =
    -- "Our own probes now set the bit, 00 ff 80 01 in the 44-byte case"
    (probe_packet example Host ≡ probe)
    -- "the 249 ms case is for a probe without the bit": omitted, and at 250 ms sent; one with the bit is answered at once, to the asker
    × (has A (holds.receive_of (lived Held (Some 5000) None 0 0) (coming 5249) (asks_a true) false).answers ≡ false)
    × (has A (holds.receive_of (lived Held (Some 5000) None 0 0) (coming 5249) (asks_a true) false).unicast ≡ false)
    × (has A (holds.receive_of (lived Held (Some 5000) None 0 0) (coming 5250) (asks_a true) false).answers ≡ true)
    × (has A (holds.receive_of (lived Held (Some 5000) None 0 0) (coming 5249) (wants_a true) false).answers ≡ false)
    × (has A (holds.receive_of (lived Held (Some 5000) None 0 0) (coming 5249) (wants_a true) false).unicast ≡ true)
    -- "goes to the asker by unicast if it was multicast less than a quarter of its TTL ago, else by multicast", and one never multicast by multicast
    × (has A (holds.receive_of (lived Held (Some 5000) None 0 0) (coming 34999) (wants_a false) false).unicast ≡ true)
    × (has A (holds.receive_of (lived Held (Some 5000) None 0 0) (coming 34999) (wants_a false) false).answers ≡ false)
    × (has A (holds.receive_of (lived Held (Some 5000) None 0 0) (coming 35000) (wants_a false) false).unicast ≡ false)
    × (has A (holds.receive_of (lived Held (Some 5000) None 0 0) (coming 35000) (wants_a false) false).answers ≡ true)
    × (has A (holds.receive_of (lived Held None None 0 0) (coming 5000) (wants_a false) false).unicast ≡ false)
    × (has A (holds.receive_of (lived Held None None 0 0) (coming 5000) (wants_a false) false).answers ≡ true)
    × (answers.quarter_ttl Ptr ≡ 1125000)
    -- "Unicast answers carry the query's ID": to the asker with its ID, or to all with 0
    × (unicast_packet told (at 5001 0x80) ≡ address 0x12 0x34)
    × (received_packet told (at 5001 0x80) ≡ [])
    × (unicast_packet told (at 35000 0x80) ≡ [])
    × (received_packet told (at 35000 0x80) ≡ address 0 0)
    × (unicast_packet told (at 6000 0) ≡ [])
    × (received_packet told (at 6000 0) ≡ address 0 0)

pub unicast : Unicast
unfolding example some is_probe list_under is_asked is_asked_as is_known theirs_later query_facts facts_of same_name same_bytes has_record own_labels own_name srv_rdata own_rdata service_labels instance_labels host_labels strings_fill message_at and_then list_from question_at question_read record_at record_read name_at from_run read_from piece_at rdata_at rdata_in response_packet response_records probe_packet probe_records picked styles.own_record received_packet unicast_packet packet_for receive_refusal wrong_state wrong_time kept multicasts_kept holds_kept every_of some_of only valid_setup label_fits instance_fits utf8.is_shown utf8.shown_from utf8.may_stand utf8.behind utf8.starts utf8.following utf8.within is_letter is_name_byte all_name_bytes some_letter hyphens_apart service_rule service_fits protocol_fits domain_fits txt_fits answers.asks_of answers.wanted_of answers.multicast_asks answers.unicast_asks answers.asked_by answers.joined answers.judged_of holds.to_hold holds.held_back holds.receive_of queries.some_from queries.some_free queries.union queries.knowing queries.knowing_all queries.queued answers.heard_of at_once marked_all after_ms packet_of put_name data_bytes data_places put_fields name_bytes name_places starts cut_from place_of stands_at form_in form_for records_of
unicast = (refl, refl, refl, refl, refl, refl, refl, refl, refl, refl, refl, refl, refl, refl, refl, refl, refl, refl, refl)
