-- Specification, 'Corner readings': the twelve starred ones as one table, evaluated by a single statement. Each row is about the definitions that the
-- contracts cite. Assumes nothing.
use Rattle.std.specs.Prelude.{◌≡◌, refl, [], ◌∷◌, true, pos, negsuc, replicate, Some, None}
use Rattle.wire.specs.case_folding.Fold.{same_name}
use Rattle.wire.specs.name_pieces.Pieces.{piece_at}
use Rattle.wire.specs.names.Names.{read_from, from_run, name_at}
use Rattle.wire.specs.rdata.Rdata.{form_in, strings_fill, rdata_in, rdata_at}
use Rattle.wire.specs.expansion.Equal.{same_bytes}
use Rattle.wire.specs.refusals.Numbers as refusals
use Rattle.wire.specs.declared.refusals.Refusal.TheVariants.{Malformed}
use Rattle.wire.specs.message.Layout.{question_read, question_at, record_read, record_at, list_from, refused, and_then, message_at}
use Rattle.txt.specs.Txt.{strings_from, key_of, value_of, has_key, first_with}
use Rattle.txt.specs.Lookup.{bad_key, refusal_of, given_by, in_txt, lookup_of}
use Rattle.txt.specs.declared.Answer.TheVariants.{Present}
use Rattle.own.specs.utf8.Utf8 as utf8
use Rattle.own.specs.records.Setups.{label_fits, instance_fits, is_letter, is_name_byte, all_name_bytes, some_letter, hyphens_apart, service_rule, service_fits, protocol_fits, domain_fits, txt_fits, valid_setup, service_labels, instance_labels, host_labels}
use Rattle.own.specs.records.Records.{has_record, own_labels, own_name, srv_rdata, own_rdata}
use Rattle.facts.specs.tiebreak.Later.{number_of, compare_numbers, in_turn, compare_records, insert_by, sort_by, tie}
use Rattle.wire.specs.Lists.{some}
use Rattle.facts.specs.probe.Probe.{is_probe}
use Rattle.facts.specs.tiebreak.Lists.{own_record, list_under}
use Rattle.claims.specs.records.Sets.{picked, some_of, every_of, at_once, records_of}
use Rattle.claims.specs.declared.records.Claim.TheVariants.{Host}
use Rattle.claims.specs.declared.records.Own.TheVariants.{Ptr, A}
use Rattle.claims.specs.Refusals.{multicasts_kept, holds_kept, kept, wrong_time}
use Rattle.claims.specs.Time.{after_ms, marked_all}
use Rattle.claims.specs.answers.Answers as answers
use Rattle.claims.specs.answers.Held as holds
use Rattle.claims.specs.holds.Holds as queries
use Rattle.responder.specs.Refusals.{wrong_state, receive_refusal}
use Rattle.responder.specs.Calls.{packet_for, received_packet, receive_of}
use Rattle.facts.specs.Facts.{is_asked, is_asked_as, is_known, theirs_later, query_facts, facts_of}
use Rattle.cache.specs.entries.Tables.{each}
use Rattle.cache.specs.entries.Entries.{is_of, live_of, soon, flushed}
use Rattle.cache.specs.entries.Cache.{rule1}
use Rattle.writer.specs.compression.Compression.{stands_at, place_of, cut_from, name_bytes, name_places}
use Rattle.wire.specs.labels.Counted.{starts}
use Rattle.writer.specs.Fit.{form_for}
use Rattle.writer.specs.Items.{put_name, data_bytes, data_places, put_fields}
use Rattle.writer.specs.own_packets.Packets.{packet_of}
use Rattle.writer.specs.own_packets.Styles as styles
use Rattle.writer.specs.own_packets.Own.{response_packet, response_records, response_of}
use Rattle.readings.specs.Examples.{address, example, holding, asking, holder, asked, cached, announced, self_pointing, announcement}

abbrev pub Starred : Type 0
Starred =
    -- "169.254.200.50 is later than 169.254.99.200."
    (number_of (tie (own_record 1 (169 ∷ (254 ∷ (200 ∷ (50 ∷ [])))) ∷ []) (own_record 1 (169 ∷ (254 ∷ (99 ∷ (200 ∷ [])))) ∷ [])) ≡ pos 1)
    -- "Equal lists give 0."
    × (number_of (tie (own_record 1 address ∷ []) (own_record 1 address ∷ [])) ≡ pos 0)
    -- "{A} before {A, AAAA} with the same A."
    × (number_of (tie (own_record 1 address ∷ []) (own_record 1 address ∷ (own_record 28 (replicate 16 0) ∷ []))) ≡ negsuc 0)
    -- "Known PTR TTL 2250 omits, 2249 doesn't.": no reply is set, or one at now plus the draw
    × ((receive_of holder (asked Ptr 2250)).state.progress.reply ≡ None)
    × ((receive_of holder (asked Ptr 2249)).state.progress.reply ≡ Some 20)
    -- "A at 60 omits, at 59 doesn't.": nothing is sent, or the record goes out at once
    × (received_packet holder (asked A 60) ≡ [])
    × (received_packet holder (asked A 59) ≡ announcement)
    -- "At 5000, a flush leaves an entry received at 4000, and sets one received at 3999 to expire by 6000."
    × ((rule1 5000 announced (cached 4000)).entries ≡ (cached 4000).entries)
    × ((rule1 5000 announced (cached 3999)).entries ≡ record { rtype = 1; owner = 12; rdata = 4; received = 3999; expiry = 6000; ttl = 100 } ∷ [])
    -- "Strings "PassReq", "PASSREQ=1": present without value."
    × (lookup_of (112 ∷ (97 ∷ (115 ∷ (115 ∷ (114 ∷ (101 ∷ (113 ∷ [])))))))
    (7 ∷ (80 ∷ (97 ∷ (115 ∷ (115 ∷ (82 ∷ (101 ∷ (113 ∷ (9 ∷ (80 ∷ (65 ∷ (83 ∷ (83 ∷ (82 ∷ (69 ∷ (81 ∷ (61 ∷ (49 ∷ [])))))))))))))))))) []
    ≡ Present)
    -- "Pointer at 12 to 12: refusal 6."
    × (message_at self_pointing ≡ refused Malformed)
    × (refusals.number_of Malformed ≡ 6)
    -- "dock.local, 10.0.0.7 announced, 38 bytes"
    × (response_packet example 0 (records_of Host true) ≡ announcement)

pub starred : Starred
unfolding example asking cached announced tie sort_by insert_by compare_records in_turn compare_numbers some is_probe list_under is_asked is_asked_as is_known theirs_later query_facts facts_of holding same_name same_bytes has_record own_labels own_name srv_rdata own_rdata service_labels instance_labels host_labels rule1 each flushed live_of is_of soon lookup_of refusal_of bad_key strings_fill in_txt first_with strings_from has_key key_of value_of given_by message_at and_then list_from question_at question_read record_at record_read name_at from_run read_from piece_at rdata_at rdata_in response_packet response_records picked response_of styles.own_record receive_of received_packet packet_for receive_refusal wrong_state wrong_time kept multicasts_kept holds_kept every_of some_of valid_setup label_fits instance_fits utf8.is_shown utf8.shown_from utf8.may_stand utf8.behind utf8.starts utf8.following utf8.within is_letter is_name_byte all_name_bytes some_letter hyphens_apart service_rule service_fits protocol_fits domain_fits txt_fits answers.asks_of answers.asked_by answers.multicast_asks answers.unicast_asks answers.wanted_of answers.joined answers.judged_of holds.to_hold holds.held_back holds.receive_of queries.some_from queries.some_free queries.union queries.knowing queries.knowing_all queries.queued answers.heard_of at_once marked_all after_ms packet_of put_name data_bytes data_places put_fields name_bytes name_places starts cut_from place_of stands_at form_in form_for records_of
starred = (refl, refl, refl, refl, refl, refl, refl, refl, refl, refl, refl, refl, refl)
