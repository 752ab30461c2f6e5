-- The list of specs/Joining.antt, evaluated: it meets the premises from the joining on; at the joining both hold the name with different data; the second hears
-- the first, does not hold it after that call, and never again both hold it. Assumes nothing.
use mathlib.Core.Path.{◌≡◌, refl, sym, subst}
use mathlib.Core.Logic.{inl}
use mathlib.Core.Bool.{true, false}
use mathlib.Core.Option.{some}
use mathlib.Core.List.{List, [], ◌∷◌}
use native.Mathlib.Omega.{arith}
use lib.ListN.{length}
use Rattle.wire.specs.case_folding.Fold.{same_name}
use Rattle.wire.specs.name_pieces.Pieces.{piece_at}
use Rattle.wire.specs.names.Names.{name_at, from_run, read_from, labels_fill}
use Rattle.wire.specs.rdata.Rdata.{form_in, strings_fill, rdata_in, rdata_at}
use Rattle.wire.specs.expansion.Equal.{same_bytes}
use Rattle.wire.specs.message.Layout.{question_read, record_read, question_at, record_at, list_from, and_then, message_at}
use Rattle.writer.specs.compression.Compression.{stands_at, place_of, cut_from, name_bytes, name_places}
use Rattle.wire.specs.labels.Counted.{starts}
use Rattle.own.specs.utf8.Utf8 as utf8
use Rattle.own.specs.records.Setups.{label_fits, instance_fits, is_letter, is_name_byte, all_name_bytes, some_letter, hyphens_apart, service_rule, service_fits, protocol_fits, domain_fits, txt_fits, valid_setup, service_labels, instance_labels, host_labels}
use Rattle.own.specs.records.Records.{has_record, own_labels, own_name, srv_rdata, own_rdata}
use Rattle.claims.specs.Time.{after_ms, marked_all}
use Rattle.claims.specs.Claims as claims
use Rattle.claims.specs.records.Sets as sets
use Rattle.claims.specs.records.Sets.{only}
use Rattle.claims.specs.declared.records.Own.TheVariants.{Srv}
use Rattle.claims.specs.Refusals.{multicasts_kept, holds_kept, kept, wrong_time}
use Rattle.claims.specs.steps.Steps.{more_due, action_of, unsent_of}
use Rattle.claims.specs.steps.Tick as steps
use Rattle.facts.specs.tiebreak.Later.{compare_numbers, in_turn, compare_records, insert_by, sort_by, tie}
use Rattle.wire.specs.Lists.{some as some_of}
use Rattle.facts.specs.probe.Probe.{is_probe}
use Rattle.facts.specs.tiebreak.Lists.{list_under}
use Rattle.claims.specs.answers.Answers as answers
use Rattle.claims.specs.answers.Held as held
use Rattle.claims.specs.holds.Holds as queries
use Rattle.facts.specs.Facts.{is_asked, is_asked_as, is_known, conflicted, theirs_later, response_facts, query_facts, facts_of}
use Rattle.writer.specs.Fit.{form_for}
use Rattle.writer.specs.Items.{put_name, data_bytes, data_places, put_fields}
use Rattle.writer.specs.own_packets.Packets.{packet_of}
use Rattle.writer.specs.own_packets.Styles.{own_record}
use Rattle.writer.specs.own_packets.Own.{response_records, probe_records, response_of, probe_of, response_packet, probe_packet, plain_records, plain_packet}
use Rattle.responder.specs.Refusals.{wrong_state, start_refusal, receive_refusal, tick_refusal}
use Rattle.responder.specs.Calls.{blank, start_of, packet_for, received_packet, unicast_packet, receive_of, ticked_packet, tick_of}
use Rattle.responder.specs.changes.Changes as calls
use Rattle.responder.specs.changes.Changes.{Update, stopped_packet}
use Rattle.claims.specs.changes.Changes as changes
use Rattle.writer.specs.own_packets.Goodbye.{goodbye_packet}
use Rattle.link.specs.Responder.{instance, everyone, Parcel}
use Rattle.link.specs.Entries.{entry, clock_of, owner_of, setup_in, reply, returned, unless_stopped, called, after, is_accepted, parcels_of, sent_at, heard_in, heard_at, source_in, revised as link_revised, data_at, update_in}
use Rattle.link.specs.Premises.{Among}
use Rattle.link.specs.Holding.{is_and, any_of, responds_for, conflicts_with, defeats_of, writes, hears, holds}
use Rattle.link.specs.Joined.{PremisesFrom, Unchanged, Two, Hearing, Parted, Joined}
use Rattle.link.specs.Witness.{every, some_below, all_of, same_bytes as same_packets, reaches, address_in, owed, takes, taken, delivered_to, starts_at, ordered_from, at_rates, delivered_from, on_time_from, meets_from, unchanged_from}
use Rattle.link.proofs.JoinedWitness.{met_from, unchanged}
use Rattle.uniqueness.specs.Responder.{start, tick, receive, stop, update, due_times, due, responds, conflicts, defeats, responder}
use Rattle.uniqueness.specs.Example.{setup_of, one, other}
use Rattle.uniqueness.specs.Joining.{joined_at, no_shift, srv_query, joined}
use Rattle.uniqueness.proofs.Example.{lost_by}
use Rattle.uniqueness.proofs.Lawful.{links_joined}

abbrev SeenJoined : Type 0
SeenJoined =
    (meets_from responder joined joined_at no_shift 22 2000 ≡ true)
    × (unchanged_from responder joined 22 ≡ true)
    × (holds responder joined 0 instance 22 ≡ true)
    × (holds responder joined 1 instance 22 ≡ true)
    × (sent_at responder joined 22 ≡ record { to = everyone; bytes = response_packet one 0 (only Srv) } ∷ [])
    × (heard_at responder joined 23 ≡ some (response_packet one 0 (only Srv)))
    × (data_at responder joined 0 22 ≡ some one)
    × (data_at responder joined 1 23 ≡ some other)
    × (responds_for responder one instance (response_packet one 0 (only Srv)) ≡ true)
    × (conflicts_with responder other instance (response_packet one 0 (only Srv)) ≡ true)
    × (holds responder joined 0 instance (length joined) ≡ true)
    × (holds responder joined 1 instance (length joined) ≡ false)
    × (is_and lost_by (after responder joined 1 (length joined)) ≡ true)

seen_joined : SeenJoined
unfolding setup_of joined srv_query plain_packet plain_records answers.plain_of answers.due_to sets.with_data labels_fill holds writes hears any_of responds_for conflicts_with defeats_of responds conflicts defeats meets_from ordered_from at_rates delivered_from on_time_from starts_at unchanged_from reaches address_in owed takes taken delivered_to every some_below all_of same_packets entry clock_of owner_of setup_in reply returned unless_stopped called after is_accepted parcels_of heard_in source_in link_revised data_at update_in start tick receive due_times due blank start_of packet_for received_packet unicast_packet receive_of ticked_packet tick_of wrong_state start_refusal receive_refusal tick_refusal own_record response_records probe_records response_of probe_of response_packet probe_packet put_name data_bytes data_places put_fields packet_of is_asked is_asked_as is_known conflicted theirs_later response_facts query_facts facts_of answers.heard_of answers.asks_of answers.wanted_of answers.asked_by answers.multicast_asks answers.unicast_asks answers.joined answers.judged_of held.to_hold held.held_back held.receive_of queries.some_from queries.some_free queries.union queries.knowing queries.knowing_all queries.queued list_under some_of is_probe compare_numbers in_turn compare_records insert_by sort_by tie steps.sends steps.action_turn steps.claim_turn steps.ptr_reply steps.reply_turn steps.hold_answers steps.hold_turn steps.step_turn steps.walked steps.ended_of steps.tick_of more_due action_of unsent_of sets.some_of sets.every_of sets.picked sets.only sets.any_of sets.at_once sets.records_of multicasts_kept holds_kept kept wrong_time claims.begun_at after_ms marked_all has_record own_labels own_name srv_rdata own_rdata label_fits instance_fits utf8.is_shown utf8.shown_from utf8.may_stand utf8.behind utf8.starts utf8.following utf8.within is_letter is_name_byte all_name_bytes some_letter hyphens_apart service_rule service_fits protocol_fits domain_fits txt_fits valid_setup service_labels instance_labels host_labels stands_at place_of cut_from name_bytes starts name_places question_read record_read question_at record_at list_from message_at and_then same_bytes strings_fill name_at from_run read_from piece_at same_name rdata_at rdata_in form_for form_in stop update stopped_packet calls.stop_of calls.refusal_to calls.packet_to calls.update_to calls.update_refusal calls.updated_packet calls.update_of changes.goodbye_of changes.stop_of changes.announced_of changes.without changes.forgetting_all changes.update_of goodbye_packet
seen_joined = (refl, refl, refl, refl, refl, refl, refl, refl, refl, refl, refl, refl, refl)

pub joined-premises : PremisesFrom responder joined 22 2000
joined-premises = met_from responder joined no_shift 22 2000 joined_at seen_joined.0

pub joined-unchanged : Unchanged responder joined 22
joined-unchanged = unchanged responder joined no_shift 22 2000 seen_joined.1

-- at the joining both hold the name, with ports 515 and 516
pub both_hold : (holds responder joined 0 instance 22 ≡ true) × (holds responder joined 1 instance 22 ≡ true)
both_hold = (seen_joined.2, seen_joined.3)

-- the second hears the first
abbrev pub pair : Two responder
pair = record { one = 1; other = 0; two = λ e. absurd (omega (arith, e)); one_claim = instance; other_claim = instance }

pub hears_it : Hearing responder joined 22 pair
unfolding setup_of joined entry owner_of
hears_it = record {
  sent = 22;
  taken = 23;
  since = omega arith;
  later = omega arith;
  sender = refl;
  taker = refl;
  packet = response_packet one 0 (only Srv);
  sends = subst (λ (ps : List Parcel). Among (record { to = everyone; bytes = response_packet one 0 (only Srv) }) ps) (sym seen_joined.4) (inl refl);
  takes = seen_joined.5;
  other_setup = one;
  other_has = seen_joined.6;
  responds = seen_joined.8;
  one_setup = other;
  one_has = seen_joined.7;
  differs = seen_joined.9;
}

-- so it does not hold after that call, and they never hold together again
pub parted : Parted responder joined 22 pair hears_it
unfolding Joined
parted = links_joined joined 22 2000 joined-premises joined-unchanged pair hears_it

-- at the end one holds, and the other has lost the name
pub one-is_left :
    (holds responder joined 0 instance (length joined) ≡ true)
    × (holds responder joined 1 instance (length joined) ≡ false)
    × (is_and lost_by (after responder joined 1 (length joined)) ≡ true)
one-is_left = (seen_joined.10, seen_joined.11, seen_joined.12)
