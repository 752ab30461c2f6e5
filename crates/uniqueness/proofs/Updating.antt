-- The lists of specs/Updating.antt, evaluated: they meet the premises; after an update two hold one name with different data, as demand 3 allows, until one of
-- them hears it; a stop ends a holding; and the 1,200 ms run from an update. Assumes nothing.
use mathlib.Core.Path.{◌≡◌, refl, ap, ◌∙◌}
use mathlib.Core.Logic.{◌⊎◌, inr}
use mathlib.Core.Bool.{true, false}
use mathlib.Core.Option.{some}
use mathlib.Core.List.{List}
use Prim.Native.Nat.{ℕ, ◌≤◌}
use native.Mathlib.Omega.{arith}
use lib.ListN.{length, get_or}
use Rattle.wire.specs.case_folding.Fold.{same_name}
use Rattle.wire.specs.name_pieces.Pieces.{piece_at}
use Rattle.wire.specs.names.Names.{name_at, from_run, read_from, labels_fill}
use Rattle.wire.specs.rdata.Rdata.{form_in, strings_fill, rdata_in, rdata_at}
use Rattle.wire.specs.expansion.Equal.{same_bytes}
use Rattle.wire.specs.message.Layout.{question_read, record_read, question_at, record_at, list_from, and_then, message_at}
use Rattle.writer.specs.compression.Compression.{stands_at, place_of, cut_from, name_bytes, name_places}
use Rattle.wire.specs.labels.Counted.{starts}
use Rattle.own.specs.utf8.Utf8 as utf8
use Rattle.own.specs.records.Setups.{label_fits, instance_fits, is_letter, is_name_byte, all_name_bytes, some_letter, hyphens_apart, service_rule, service_fits, protocol_fits, domain_fits, txt_fits, valid_setup, service_labels, instance_labels, host_labels}
use Rattle.own.specs.records.Records.{has_record, own_labels, own_name, srv_rdata, own_rdata}
use Rattle.claims.specs.Time.{after_ms, marked_all}
use Rattle.claims.specs.Claims as claims
use Rattle.claims.specs.records.Sets as sets
use Rattle.claims.specs.records.Sets.{only}
use Rattle.claims.specs.declared.records.Own.TheVariants.{Srv}
use Rattle.claims.specs.Refusals.{multicasts_kept, holds_kept, kept, wrong_time}
use Rattle.claims.specs.steps.Steps.{more_due, action_of, unsent_of}
use Rattle.claims.specs.steps.Tick as steps
use Rattle.facts.specs.tiebreak.Later.{compare_numbers, in_turn, compare_records, insert_by, sort_by, tie}
use Rattle.wire.specs.Lists.{some as some_of}
use Rattle.facts.specs.probe.Probe.{is_probe}
use Rattle.facts.specs.tiebreak.Lists.{list_under}
use Rattle.claims.specs.answers.Answers as answers
use Rattle.claims.specs.answers.Held as held
use Rattle.claims.specs.holds.Holds as queries
use Rattle.facts.specs.Facts.{is_asked, is_asked_as, is_known, conflicted, theirs_later, response_facts, query_facts, facts_of}
use Rattle.writer.specs.Fit.{form_for}
use Rattle.writer.specs.Items.{put_name, data_bytes, data_places, put_fields}
use Rattle.writer.specs.own_packets.Packets.{packet_of}
use Rattle.writer.specs.own_packets.Styles.{own_record}
use Rattle.writer.specs.own_packets.Own.{response_records, probe_records, response_of, probe_of, response_packet, probe_packet, plain_records, plain_packet}
use Rattle.responder.specs.Refusals.{wrong_state, start_refusal, receive_refusal, tick_refusal}
use Rattle.responder.specs.Calls.{blank, start_of, packet_for, received_packet, unicast_packet, receive_of, ticked_packet, tick_of}
use Rattle.responder.specs.changes.Changes as calls
use Rattle.responder.specs.changes.Changes.{Update, stopped_packet}
use Rattle.claims.specs.changes.Changes as changes
use Rattle.writer.specs.own_packets.Goodbye.{goodbye_packet}
use Rattle.own.specs.changes.Changes.{new_port}
use Rattle.own.proofs.changes.Revised.{name-stays}
use Rattle.wire.proofs.case_folding.Equal.{same_refl}
use Rattle.claims.specs.records.Own.{first_of}
use Rattle.claims.specs.declared.records.Claim.TheVariants.{Instance}
use Rattle.link.specs.Responder.{instance, everyone}
use Rattle.link.specs.Entries.{entry, clock_of, owner_of, setup_in, reply, returned, unless_stopped, called, after, runs, is_accepted, accepted_at, parcels_of, sent_at, heard_in, source_in, revised as link_revised, data_at, update_in, update_at}
use Rattle.link.specs.Premises.{Premises}
use Rattle.link.specs.Holding.{any_of, responds_for, conflicts_with, defeats_of, writes, hears, holds}
use Rattle.link.specs.Demand3.{TwoHolders, JustUpdated, Unopposed, Demand3}
use Rattle.link.specs.Witness.{every, some_below, all_of, same_bytes as same_packets, reaches, address_in, ordered, at_one_rate, owed, takes, taken, delivered_to, all_delivered, all_on_time, meets}
use Rattle.link.proofs.Witness.{met}
use Rattle.uniqueness.specs.Responder.{sends, claim_record, of_type, name, start, tick, receive, stop, update, due_times, due, responds, conflicts, defeats, responder}
use Rattle.uniqueness.specs.Example.{setup_of, one}
use Rattle.uniqueness.specs.Updating.{renewed, overlap_at, overlap, stopped_at, stopped, revised_at, revised}
use Rattle.uniqueness.proofs.Example.{Asked, Holds, unopposed}
use Rattle.uniqueness.proofs.Lawful.{demand_3}

-- ---- two hold for 100 ms

abbrev SeenOverlap : Type 0
SeenOverlap =
    (meets responder overlap overlap_at ≡ true)
    × (holds responder overlap 0 instance 35 ≡ true)
    × (holds responder overlap 1 instance 35 ≡ true)
    × (holds responder overlap 0 instance 36 ≡ true)
    × (holds responder overlap 1 instance 36 ≡ false)
    × (data_at responder overlap 0 35 ≡ some renewed)
    × (data_at responder overlap 1 35 ≡ some one)
    × (sent_at responder overlap 34 ≡ sends everyone (response_packet renewed 0 (only Srv)))

seen_overlap : SeenOverlap
unfolding setup_of overlap plain_packet plain_records answers.plain_of answers.due_to sets.with_data labels_fill holds writes hears any_of responds_for conflicts_with defeats_of responds conflicts defeats meets ordered at_one_rate reaches address_in owed takes taken delivered_to all_delivered all_on_time every some_below all_of same_packets entry clock_of owner_of setup_in reply returned unless_stopped called after is_accepted parcels_of heard_in source_in link_revised data_at update_in start tick receive due_times due blank start_of packet_for received_packet unicast_packet receive_of ticked_packet tick_of wrong_state start_refusal receive_refusal tick_refusal own_record response_records probe_records response_of probe_of response_packet probe_packet put_name data_bytes data_places put_fields packet_of is_asked is_asked_as is_known conflicted theirs_later response_facts query_facts facts_of answers.heard_of answers.asks_of answers.wanted_of answers.asked_by answers.multicast_asks answers.unicast_asks answers.joined answers.judged_of held.to_hold held.held_back held.receive_of queries.some_from queries.some_free queries.union queries.knowing queries.knowing_all queries.queued list_under some_of is_probe compare_numbers in_turn compare_records insert_by sort_by tie steps.sends steps.action_turn steps.claim_turn steps.ptr_reply steps.reply_turn steps.hold_answers steps.hold_turn steps.step_turn steps.walked steps.ended_of steps.tick_of more_due action_of unsent_of sets.some_of sets.every_of sets.picked sets.only sets.any_of sets.at_once sets.records_of multicasts_kept holds_kept kept wrong_time claims.begun_at after_ms marked_all has_record own_labels own_name srv_rdata own_rdata label_fits instance_fits utf8.is_shown utf8.shown_from utf8.may_stand utf8.behind utf8.starts utf8.following utf8.within is_letter is_name_byte all_name_bytes some_letter hyphens_apart service_rule service_fits protocol_fits domain_fits txt_fits valid_setup service_labels instance_labels host_labels stands_at place_of cut_from name_bytes starts name_places question_read record_read question_at record_at list_from message_at and_then same_bytes strings_fill name_at from_run read_from piece_at same_name rdata_at rdata_in form_for form_in stop update stopped_packet calls.stop_of calls.refusal_to calls.packet_to calls.update_to calls.update_refusal calls.updated_packet calls.update_of changes.goodbye_of changes.stop_of changes.announced_of changes.without changes.forgetting_all changes.update_of goodbye_packet
seen_overlap = (refl, refl, refl, refl, refl, refl, refl, refl)

pub overlap-premises : Premises responder overlap
overlap-premises = met responder overlap overlap_at seen_overlap.0

-- the ports, 515 and 600
srv_data : (responder.rdata renewed instance 33 ≡ some (own_rdata renewed Srv)) × (responder.rdata one instance 33 ≡ some (own_rdata one Srv))
unfolding claim_record of_type has_record
srv_data = (refl, refl)

apart : own_rdata renewed Srv ≡ own_rdata one Srv → ⊥
unfolding setup_of own_rdata srv_rdata
apart e = absurd (omega (arith, ap (λ (l : List ℕ). get_or l 5 0) e))

seen_length : 35 ≤ length overlap
unfolding overlap
seen_length = omega arith

-- after the update both hold the name, with different SRV data
pub two_hold : TwoHolders responder overlap 35
two_hold = record {
  one = record { responder = 0; setup = renewed; has = seen_overlap.5; claim = instance; holding = seen_overlap.1 };
  other = record { responder = 1; setup = one; has = seen_overlap.6; claim = instance; holding = seen_overlap.2 };
  two = λ e. absurd (omega (arith, e));
  same_name = ap (λ (n : List ℕ). same_name n (name one instance)) (name-stays one (new_port 600) (first_of Instance)) ∙ same_refl (name one instance);
  type = 33;
  one_data = own_rdata renewed Srv;
  other_data = own_rdata one Srv;
  one_carries = srv_data.0;
  other_carries = srv_data.1;
  different = apart;
}

-- which demand 3 allows, as one of them has just been updated
pub excused : JustUpdated responder overlap 0 instance 33 35 ⊎ JustUpdated responder overlap 1 instance 33 35
unfolding Demand3 two_hold
excused = (demand_3 overlap overlap-premises).unique 35 seen_length two_hold

-- and when the other has heard it, it no longer holds
pub one_holds_lem : (holds responder overlap 0 instance 36 ≡ true) × (holds responder overlap 1 instance 36 ≡ false)
one_holds_lem = (seen_overlap.3, seen_overlap.4)

-- ---- a stop

abbrev SeenStopped : Type 0
SeenStopped =
    (meets responder stopped stopped_at ≡ true)
    × (holds responder stopped 0 instance 9 ≡ true)
    × (holds responder stopped 0 instance 10 ≡ false)
    × (runs responder stopped 0 10 ≡ false)
    × (holds responder stopped 10 instance 19 ≡ true)
    × (accepted_at responder stopped 19 ≡ false)

seen_stopped : SeenStopped
unfolding setup_of stopped plain_packet plain_records answers.plain_of answers.due_to sets.with_data labels_fill holds writes hears any_of responds_for conflicts_with defeats_of responds conflicts defeats meets ordered at_one_rate reaches address_in owed takes taken delivered_to all_delivered all_on_time every some_below all_of same_packets entry clock_of owner_of setup_in reply returned unless_stopped called after is_accepted parcels_of heard_in source_in link_revised data_at update_in start tick receive due_times due blank start_of packet_for received_packet unicast_packet receive_of ticked_packet tick_of wrong_state start_refusal receive_refusal tick_refusal own_record response_records probe_records response_of probe_of response_packet probe_packet put_name data_bytes data_places put_fields packet_of is_asked is_asked_as is_known conflicted theirs_later response_facts query_facts facts_of answers.heard_of answers.asks_of answers.wanted_of answers.asked_by answers.multicast_asks answers.unicast_asks answers.joined answers.judged_of held.to_hold held.held_back held.receive_of queries.some_from queries.some_free queries.union queries.knowing queries.knowing_all queries.queued list_under some_of is_probe compare_numbers in_turn compare_records insert_by sort_by tie steps.sends steps.action_turn steps.claim_turn steps.ptr_reply steps.reply_turn steps.hold_answers steps.hold_turn steps.step_turn steps.walked steps.ended_of steps.tick_of more_due action_of unsent_of sets.some_of sets.every_of sets.picked sets.only sets.any_of sets.at_once sets.records_of multicasts_kept holds_kept kept wrong_time claims.begun_at after_ms marked_all has_record own_labels own_name srv_rdata own_rdata label_fits instance_fits utf8.is_shown utf8.shown_from utf8.may_stand utf8.behind utf8.starts utf8.following utf8.within is_letter is_name_byte all_name_bytes some_letter hyphens_apart service_rule service_fits protocol_fits domain_fits txt_fits valid_setup service_labels instance_labels host_labels stands_at place_of cut_from name_bytes starts name_places question_read record_read question_at record_at list_from message_at and_then same_bytes strings_fill name_at from_run read_from piece_at same_name rdata_at rdata_in form_for form_in stop update stopped_packet calls.stop_of calls.refusal_to calls.packet_to calls.update_to calls.update_refusal calls.updated_packet calls.update_of changes.goodbye_of changes.stop_of changes.announced_of changes.without changes.forgetting_all changes.update_of goodbye_packet
seen_stopped = (refl, refl, refl, refl, refl, refl)

pub stopped-premises : Premises responder stopped
stopped-premises = met responder stopped stopped_at seen_stopped.0

-- the stop ends the holding and the responder, and a new one at its address holds the name; a tick of the stopped one does nothing
pub stop-ends : (holds responder stopped 0 instance 9 ≡ true) × (holds responder stopped 0 instance 10 ≡ false) × (runs responder stopped 0 10 ≡ false)
stop-ends = (seen_stopped.1, seen_stopped.2, seen_stopped.3)

pub new_one_holds : holds responder stopped 10 instance 19 ≡ true
new_one_holds = seen_stopped.4

-- ---- an update while probing

abbrev SeenRevised : Type 0
SeenRevised =
    (meets responder revised revised_at ≡ true)
    × Asked revised 0 5 13
    × Holds revised 0 instance 13
    × (holds responder revised 0 instance 5 ≡ false)
    × (update_at responder revised 5 ≡ some (record { time = 300; room = 1452; new = new_port 600 }))
    × (accepted_at responder revised 7 ≡ false)
    × (data_at responder revised 0 13 ≡ some renewed)

seen_revised : SeenRevised
unfolding setup_of revised plain_packet plain_records answers.plain_of answers.due_to sets.with_data labels_fill holds writes hears any_of responds_for conflicts_with defeats_of responds conflicts defeats meets ordered at_one_rate reaches address_in owed takes taken delivered_to all_delivered all_on_time every some_below all_of same_packets entry clock_of owner_of setup_in reply returned unless_stopped called after is_accepted parcels_of heard_in source_in link_revised data_at update_in start tick receive due_times due blank start_of packet_for received_packet unicast_packet receive_of ticked_packet tick_of wrong_state start_refusal receive_refusal tick_refusal own_record response_records probe_records response_of probe_of response_packet probe_packet put_name data_bytes data_places put_fields packet_of is_asked is_asked_as is_known conflicted theirs_later response_facts query_facts facts_of answers.heard_of answers.asks_of answers.wanted_of answers.asked_by answers.multicast_asks answers.unicast_asks answers.joined answers.judged_of held.to_hold held.held_back held.receive_of queries.some_from queries.some_free queries.union queries.knowing queries.knowing_all queries.queued list_under some_of is_probe compare_numbers in_turn compare_records insert_by sort_by tie steps.sends steps.action_turn steps.claim_turn steps.ptr_reply steps.reply_turn steps.hold_answers steps.hold_turn steps.step_turn steps.walked steps.ended_of steps.tick_of more_due action_of unsent_of sets.some_of sets.every_of sets.picked sets.only sets.any_of sets.at_once sets.records_of multicasts_kept holds_kept kept wrong_time claims.begun_at after_ms marked_all has_record own_labels own_name srv_rdata own_rdata label_fits instance_fits utf8.is_shown utf8.shown_from utf8.may_stand utf8.behind utf8.starts utf8.following utf8.within is_letter is_name_byte all_name_bytes some_letter hyphens_apart service_rule service_fits protocol_fits domain_fits txt_fits valid_setup service_labels instance_labels host_labels stands_at place_of cut_from name_bytes starts name_places question_read record_read question_at record_at list_from message_at and_then same_bytes strings_fill name_at from_run read_from piece_at same_name rdata_at rdata_in form_for form_in stop update stopped_packet calls.stop_of calls.refusal_to calls.packet_to calls.update_to calls.update_refusal calls.updated_packet calls.update_of changes.goodbye_of changes.stop_of changes.announced_of changes.without changes.forgetting_all changes.update_of goodbye_packet
seen_revised = (refl, (refl, refl, refl, refl, refl, refl, refl), (refl, refl, refl), refl, refl, refl, refl)

pub revised-premises : Premises responder revised
revised-premises = met responder revised revised_at seen_revised.0

-- the 1,200 ms are asked from the update on, and it holds then, with the new data; a second update, 100 ms later, is refused
pub revised-unopposed : Unopposed responder revised 0 instance 5 13
revised-unopposed =
    unopposed revised 0 instance 5 13 seen_revised.1 seen_revised.2
    (inr (refl, (record { time = 300; room = 1452; new = new_port 600 }, seen_revised.4, seen_revised.3)))

pub revised-holds : (holds responder revised 0 instance 13 ≡ true) × (data_at responder revised 0 13 ≡ some renewed)
revised-holds = (seen_revised.2.2, seen_revised.6)

pub refused_again : accepted_at responder revised 7 ≡ false
refused_again = seen_revised.5
