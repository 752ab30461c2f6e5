-- The lists of specs/Contending.antt, evaluated: they meet the premises, and the theorems say of them who holds. Assumes nothing.
use mathlib.Core.Path.{◌≡◌, refl, sym, ◌∙◌}
use mathlib.Core.Logic.{◌⊎◌, ⊎_elim}
use mathlib.Core.Bool.{true, false}
use mathlib.Core.List.{List, [], ◌∷◌}
use Prim.Native.Nat.{ℕ, ◌+◌, ◌<◌}
use Rattle.wire.specs.case_folding.Fold.{same_name}
use Rattle.wire.specs.name_pieces.Pieces.{piece_at}
use Rattle.wire.specs.names.Names.{name_at, from_run, read_from, labels_fill}
use Rattle.wire.specs.rdata.Rdata.{form_in, strings_fill, rdata_in, rdata_at}
use Rattle.wire.specs.expansion.Equal.{same_bytes}
use Rattle.wire.specs.message.Layout.{question_read, record_read, question_at, record_at, list_from, and_then, message_at}
use Rattle.writer.specs.compression.Compression.{stands_at, place_of, cut_from, name_bytes, name_places}
use Rattle.wire.specs.labels.Counted.{starts}
use Rattle.own.specs.utf8.Utf8 as utf8
use Rattle.own.specs.records.Setups.{label_fits, instance_fits, is_letter, is_name_byte, all_name_bytes, some_letter, hyphens_apart, service_rule, service_fits, protocol_fits, domain_fits, txt_fits, valid_setup, service_labels, instance_labels, host_labels}
use Rattle.own.specs.records.Records.{has_record, own_labels, own_name, srv_rdata, own_rdata}
use Rattle.claims.specs.Time.{after_ms, marked_all}
use Rattle.claims.specs.Claims as claims
use Rattle.claims.specs.records.Sets as sets
use Rattle.claims.specs.Refusals.{multicasts_kept, holds_kept, kept, wrong_time}
use Rattle.claims.specs.steps.Steps.{more_due, action_of, unsent_of}
use Rattle.claims.specs.steps.Tick as steps
use Rattle.facts.specs.tiebreak.Later.{compare_numbers, in_turn, compare_records, insert_by, sort_by, tie}
use Rattle.wire.specs.Lists.{some as some_of}
use Rattle.facts.specs.probe.Probe.{is_probe}
use Rattle.facts.specs.tiebreak.Lists.{list_under}
use Rattle.claims.specs.answers.Answers as answers
use Rattle.claims.specs.answers.Held as held
use Rattle.claims.specs.holds.Holds as queries
use Rattle.facts.specs.Facts.{is_asked, is_asked_as, is_known, conflicted, theirs_later, response_facts, query_facts, facts_of}
use Rattle.writer.specs.Fit.{form_for}
use Rattle.writer.specs.Items.{put_name, data_bytes, data_places, put_fields}
use Rattle.writer.specs.own_packets.Packets.{packet_of}
use Rattle.writer.specs.own_packets.Styles.{own_record}
use Rattle.writer.specs.own_packets.Own.{response_records, probe_records, response_of, probe_of, response_packet, probe_packet, plain_records, plain_packet}
use Rattle.responder.specs.Refusals.{wrong_state, start_refusal, receive_refusal, tick_refusal}
use Rattle.responder.specs.Calls.{blank, start_of, packet_for, received_packet, unicast_packet, receive_of, ticked_packet, tick_of}
use Rattle.responder.specs.changes.Changes as calls
use Rattle.responder.specs.changes.Changes.{stopped_packet}
use Rattle.claims.specs.changes.Changes as changes
use Rattle.writer.specs.own_packets.Goodbye.{goodbye_packet}
use Rattle.link.specs.Responder.{instance, host, Claim}
use Rattle.link.specs.Entries.{entry, clock_of, owner_of, setup_in, reply, returned, unless_stopped, called, after, is_accepted, parcels_of, heard_in, source_in, revised as link_revised, data_at, update_in, Entry, time_at}
use Rattle.link.specs.Holding.{any_of, responds_for, conflicts_with, defeats_of, writes, hears, holds}
use Rattle.uniqueness.specs.Responder.{claim_record, of_type, name, start, tick, receive, stop, update, due_times, due, responds, conflicts, defeats, responder}
use Rattle.link.specs.Witness.{every, some_below, all_of, same_bytes as same_packets, reaches, address_in, ordered, at_one_rate, owed, takes, taken, delivered_to, all_delivered, all_on_time, meets}
use Rattle.link.specs.Contention.{wants, probes_for, begun, LeftAlone, Latest, HeldBefore, Last, SwitchedOn, OneHolder, Contention, ContentionEnds, OneIsLeft, LastExists}
use Rattle.link.specs.ContentionWitness.{hears_from, is_from_list, kept_on, not_updated, left_alone, other_data, apart, not_later, latest as is_latest, switched_on}
use Rattle.uniqueness.specs.Tiebreak.{later, tiebreak}
use Rattle.uniqueness.specs.Example.{setup_of, rivals, contest, plain_query, one, rivals_at, contest_at}
use Rattle.uniqueness.specs.Contending.{alike, early, at_once_at, at_once, rivals_on, contest_on}
use native.Mathlib.Omega.{arith}
use lib.ListN.{length}
use Rattle.link.specs.Premises.{Premises}
use Rattle.uniqueness.proofs.Lists.{never}
use Rattle.link.proofs.Witness.{met}
use Rattle.link.proofs.ContentionWitness.{left_alone_lem, is-latest, switched_on_lem}
use Rattle.uniqueness.proofs.Candid.{contention_ends, one-is_left, last-exists}
use Rattle.link.specs.Demand3.{holding_time}

-- the types of the claims' records
abbrev types : List ℕ
types = 33 ∷ 16 ∷ 1 ∷ 28 ∷ []

-- ---- three at once, with the same two names

abbrev pub instance_name : List ℕ
instance_name = name early instance

abbrev pub host_name : List ℕ
host_name = name early host

-- of the third, for a claim: it wants the name, has begun and has the latest records
abbrev Contends : List (Entry responder) → Claim → List ℕ → ℕ → Type 0
Contends es k n x = (wants responder es k n x ≡ true) × (begun responder es x ≡ true) × (is_latest responder tiebreak es k x ≡ true)

abbrev SeenAtOnce : Type 0
SeenAtOnce =
    (meets responder at_once at_once_at ≡ true)
    × (switched_on responder tiebreak types at_once instance instance_name 39 40 0 ≡ true)
    × (switched_on responder tiebreak types at_once host host_name 39 40 0 ≡ true)
    × Contends at_once instance instance_name 2
    × Contends at_once host host_name 2
    × ((holds responder at_once 0 instance 40 ≡ false)
    × (holds responder at_once 1 instance 40 ≡ false)
    × (holds responder at_once 2 instance 40 ≡ true))
    × ((holds responder at_once 0 host 40 ≡ false)
    × (holds responder at_once 1 host 40 ≡ false)
    × (holds responder at_once 2 host 40 ≡ true))
    × (length at_once ≡ 40)
    × (time_at responder at_once 39 ≡ 1201)
    × (time_at responder at_once 2 ≡ 0)

seen_at_once : SeenAtOnce
unfolding setup_of alike at_once rivals contest rivals_on contest_on plain_query meets ordered at_one_rate all_delivered all_on_time wants probes_for hears_from is_from_list kept_on not_updated left_alone other_data apart not_later is_latest switched_on later claim_record of_type plain_packet plain_records answers.plain_of answers.due_to sets.with_data labels_fill holds writes hears any_of responds_for conflicts_with defeats_of responds conflicts defeats reaches address_in owed takes taken delivered_to every some_below all_of same_packets entry clock_of owner_of setup_in reply returned unless_stopped called after is_accepted parcels_of heard_in source_in link_revised data_at update_in start tick receive due_times due blank start_of packet_for received_packet unicast_packet receive_of ticked_packet tick_of wrong_state start_refusal receive_refusal tick_refusal own_record response_records probe_records response_of probe_of response_packet probe_packet put_name data_bytes data_places put_fields packet_of is_asked is_asked_as is_known conflicted theirs_later response_facts query_facts facts_of answers.heard_of answers.asks_of answers.wanted_of answers.asked_by answers.multicast_asks answers.unicast_asks answers.joined answers.judged_of held.to_hold held.held_back held.receive_of queries.some_from queries.some_free queries.union queries.knowing queries.knowing_all queries.queued list_under some_of is_probe compare_numbers in_turn compare_records insert_by sort_by tie steps.sends steps.action_turn steps.claim_turn steps.ptr_reply steps.reply_turn steps.hold_answers steps.hold_turn steps.step_turn steps.walked steps.ended_of steps.tick_of more_due action_of unsent_of sets.some_of sets.every_of sets.picked sets.only sets.any_of sets.at_once sets.records_of multicasts_kept holds_kept kept wrong_time claims.begun_at after_ms marked_all has_record own_labels own_name srv_rdata own_rdata label_fits instance_fits utf8.is_shown utf8.shown_from utf8.may_stand utf8.behind utf8.starts utf8.following utf8.within is_letter is_name_byte all_name_bytes some_letter hyphens_apart service_rule service_fits protocol_fits domain_fits txt_fits valid_setup service_labels instance_labels host_labels stands_at place_of cut_from name_bytes starts name_places question_read record_read question_at record_at list_from message_at and_then same_bytes strings_fill name_at from_run read_from piece_at same_name rdata_at rdata_in form_for form_in stop update stopped_packet calls.stop_of calls.refusal_to calls.packet_to calls.update_to calls.update_refusal calls.updated_packet calls.update_of changes.goodbye_of changes.stop_of changes.announced_of changes.without changes.forgetting_all changes.update_of goodbye_packet
seen_at_once = (refl, refl, refl, (refl, refl, refl), (refl, refl, refl), (refl, refl, refl), (refl, refl, refl), refl, refl, refl)

pub at_once-premises : Premises responder at_once
at_once-premises = met responder at_once at_once_at seen_at_once.0

-- they are switched on and left alone, for both names, by the moment 39, more than 1,200 ms after their starts
pub instance-switched_on : SwitchedOn responder tiebreak at_once instance instance_name 39 40
instance-switched_on = switched_on_lem responder at_once tiebreak instance types instance_name 39 40 0 seen_at_once.1

pub host-switched_on : SwitchedOn responder tiebreak at_once host host_name 39 40
host-switched_on = switched_on_lem responder at_once tiebreak host types host_name 39 40 0 seen_at_once.2

-- so one holds each name from then on, and the others do not
pub instance-is_left : OneHolder responder at_once instance instance_name 39 40
unfolding OneIsLeft
instance-is_left = one-is_left at_once at_once-premises instance instance_name 39 40 instance-switched_on

pub host-is_left : OneHolder responder at_once host host_name 39 40
unfolding OneIsLeft
host-is_left = one-is_left at_once at_once-premises host host_name 39 40 host-switched_on

-- and the three conclusions hold of the whole list; the third has the latest records
pub instance-ends : Contention responder tiebreak at_once instance instance_name 0 40
unfolding ContentionEnds
instance-ends = contention_ends at_once at_once-premises instance instance_name 0 40 instance-switched_on.alone

pub host-ends : Contention responder tiebreak at_once host host_name 0 40
unfolding ContentionEnds
host-ends = contention_ends at_once at_once-premises host host_name 0 40 host-switched_on.alone

pub third-is_latest : Latest responder tiebreak at_once instance 2
third-is_latest = is-latest responder at_once tiebreak instance 2 seen_at_once.3.2

beyond : time_at responder at_once 2 + holding_time < time_at responder at_once 39
beyond = omega (arith, seen_at_once.8, seen_at_once.9)

in_at_once : 39 < length at_once
in_at_once = omega (arith, seen_at_once.7)

pub someone_holds : (holds responder at_once 2 instance 39 ≡ true) ⊎ HeldBefore responder at_once instance instance_name 2 39
someone_holds =
    instance-ends.someone 2 39 seen_at_once.3.0 (omega arith) seen_at_once.3.1 third-is_latest (omega arith) in_at_once beyond

pub someone_holds_host : (holds responder at_once 2 host 39 ≡ true) ⊎ HeldBefore responder at_once host host_name 2 39
someone_holds_host =
    host-ends.someone 2 39 seen_at_once.4.0 (omega arith) seen_at_once.4.1 (is-latest responder at_once tiebreak host 2 seen_at_once.4.2)
    (omega arith) in_at_once beyond

-- one of the three has the latest records
pub one-is_latest : Last responder tiebreak at_once instance instance_name 39
unfolding LastExists
one-is_latest = last-exists at_once instance instance_name 39 2 (omega arith) seen_at_once.3.0 seen_at_once.3.1

-- at the end just the third holds the names
pub third-holds :
    ((holds responder at_once 0 instance 40 ≡ false) × (holds responder at_once 1 instance 40 ≡ false) × (holds responder at_once 2 instance 40 ≡ true))
    × ((holds responder at_once 0 host 40 ≡ false) × (holds responder at_once 1 host 40 ≡ false) × (holds responder at_once 2 host 40 ≡ true))
third-holds = (seen_at_once.5, seen_at_once.6)

-- ---- two at once, with one instance name

abbrev SeenRivals : Type 0
SeenRivals =
    (meets responder rivals_on rivals_at ≡ true)
    × (switched_on responder tiebreak types rivals_on instance (name one instance) 29 30 0 ≡ true)
    × Contends rivals_on instance (name one instance) 1
    × (holds responder rivals_on 0 instance 30 ≡ false)
    × (holds responder rivals_on 1 instance 30 ≡ true)

seen_rivals : SeenRivals
unfolding setup_of alike at_once rivals contest rivals_on contest_on plain_query meets ordered at_one_rate all_delivered all_on_time wants probes_for hears_from is_from_list kept_on not_updated left_alone other_data apart not_later is_latest switched_on later claim_record of_type plain_packet plain_records answers.plain_of answers.due_to sets.with_data labels_fill holds writes hears any_of responds_for conflicts_with defeats_of responds conflicts defeats reaches address_in owed takes taken delivered_to every some_below all_of same_packets entry clock_of owner_of setup_in reply returned unless_stopped called after is_accepted parcels_of heard_in source_in link_revised data_at update_in start tick receive due_times due blank start_of packet_for received_packet unicast_packet receive_of ticked_packet tick_of wrong_state start_refusal receive_refusal tick_refusal own_record response_records probe_records response_of probe_of response_packet probe_packet put_name data_bytes data_places put_fields packet_of is_asked is_asked_as is_known conflicted theirs_later response_facts query_facts facts_of answers.heard_of answers.asks_of answers.wanted_of answers.asked_by answers.multicast_asks answers.unicast_asks answers.joined answers.judged_of held.to_hold held.held_back held.receive_of queries.some_from queries.some_free queries.union queries.knowing queries.knowing_all queries.queued list_under some_of is_probe compare_numbers in_turn compare_records insert_by sort_by tie steps.sends steps.action_turn steps.claim_turn steps.ptr_reply steps.reply_turn steps.hold_answers steps.hold_turn steps.step_turn steps.walked steps.ended_of steps.tick_of more_due action_of unsent_of sets.some_of sets.every_of sets.picked sets.only sets.any_of sets.at_once sets.records_of multicasts_kept holds_kept kept wrong_time claims.begun_at after_ms marked_all has_record own_labels own_name srv_rdata own_rdata label_fits instance_fits utf8.is_shown utf8.shown_from utf8.may_stand utf8.behind utf8.starts utf8.following utf8.within is_letter is_name_byte all_name_bytes some_letter hyphens_apart service_rule service_fits protocol_fits domain_fits txt_fits valid_setup service_labels instance_labels host_labels stands_at place_of cut_from name_bytes starts name_places question_read record_read question_at record_at list_from message_at and_then same_bytes strings_fill name_at from_run read_from piece_at same_name rdata_at rdata_in form_for form_in stop update stopped_packet calls.stop_of calls.refusal_to calls.packet_to calls.update_to calls.update_refusal calls.updated_packet calls.update_of changes.goodbye_of changes.stop_of changes.announced_of changes.without changes.forgetting_all changes.update_of goodbye_packet
seen_rivals = (refl, refl, (refl, refl, refl), refl, refl)

pub rivals-premises : Premises responder rivals_on
rivals-premises = met responder rivals_on rivals_at seen_rivals.0

pub rivals-switched_on : SwitchedOn responder tiebreak rivals_on instance (name one instance) 29 30
rivals-switched_on = switched_on_lem responder rivals_on tiebreak instance types (name one instance) 29 30 0 seen_rivals.1

pub rival_is_left : OneHolder responder rivals_on instance (name one instance) 29 30
unfolding OneIsLeft
rival_is_left = one-is_left rivals_on rivals-premises instance (name one instance) 29 30 rivals-switched_on

pub second_holds : (holds responder rivals_on 0 instance 30 ≡ false) × (holds responder rivals_on 1 instance 30 ≡ true)
second_holds = (seen_rivals.3, seen_rivals.4)

-- ---- a latest one that comes when another holds

abbrev SeenContest : Type 0
SeenContest =
    (meets responder contest_on contest_at ≡ true)
    × (left_alone responder contest_on instance (name one instance) 0 28 ≡ true)
    × Contends contest_on instance (name one instance) 9
    × (holds responder contest_on 9 instance 27 ≡ false)
    × (holds responder contest_on 0 instance 27 ≡ true)
    × (length contest_on ≡ 28)
    × (time_at responder contest_on 27 ≡ 2201)
    × (time_at responder contest_on 9 ≡ 1000)

seen_contest : SeenContest
unfolding setup_of alike at_once rivals contest rivals_on contest_on plain_query meets ordered at_one_rate all_delivered all_on_time wants probes_for hears_from is_from_list kept_on not_updated left_alone other_data apart not_later is_latest switched_on later claim_record of_type plain_packet plain_records answers.plain_of answers.due_to sets.with_data labels_fill holds writes hears any_of responds_for conflicts_with defeats_of responds conflicts defeats reaches address_in owed takes taken delivered_to every some_below all_of same_packets entry clock_of owner_of setup_in reply returned unless_stopped called after is_accepted parcels_of heard_in source_in link_revised data_at update_in start tick receive due_times due blank start_of packet_for received_packet unicast_packet receive_of ticked_packet tick_of wrong_state start_refusal receive_refusal tick_refusal own_record response_records probe_records response_of probe_of response_packet probe_packet put_name data_bytes data_places put_fields packet_of is_asked is_asked_as is_known conflicted theirs_later response_facts query_facts facts_of answers.heard_of answers.asks_of answers.wanted_of answers.asked_by answers.multicast_asks answers.unicast_asks answers.joined answers.judged_of held.to_hold held.held_back held.receive_of queries.some_from queries.some_free queries.union queries.knowing queries.knowing_all queries.queued list_under some_of is_probe compare_numbers in_turn compare_records insert_by sort_by tie steps.sends steps.action_turn steps.claim_turn steps.ptr_reply steps.reply_turn steps.hold_answers steps.hold_turn steps.step_turn steps.walked steps.ended_of steps.tick_of more_due action_of unsent_of sets.some_of sets.every_of sets.picked sets.only sets.any_of sets.at_once sets.records_of multicasts_kept holds_kept kept wrong_time claims.begun_at after_ms marked_all has_record own_labels own_name srv_rdata own_rdata label_fits instance_fits utf8.is_shown utf8.shown_from utf8.may_stand utf8.behind utf8.starts utf8.following utf8.within is_letter is_name_byte all_name_bytes some_letter hyphens_apart service_rule service_fits protocol_fits domain_fits txt_fits valid_setup service_labels instance_labels host_labels stands_at place_of cut_from name_bytes starts name_places question_read record_read question_at record_at list_from message_at and_then same_bytes strings_fill name_at from_run read_from piece_at same_name rdata_at rdata_in form_for form_in stop update stopped_packet calls.stop_of calls.refusal_to calls.packet_to calls.update_to calls.update_refusal calls.updated_packet calls.update_of changes.goodbye_of changes.stop_of changes.announced_of changes.without changes.forgetting_all changes.update_of goodbye_packet
seen_contest = (refl, refl, (refl, refl, refl), refl, refl, refl, refl, refl)

pub contest-premises : Premises responder contest_on
contest-premises = met responder contest_on contest_at seen_contest.0

pub contest-left_alone : LeftAlone responder contest_on instance (name one instance) 0 28
contest-left_alone = left_alone_lem responder contest_on instance (name one instance) 0 28 seen_contest.1

pub contest-ends : Contention responder tiebreak contest_on instance (name one instance) 0 28
unfolding ContentionEnds
contest-ends = contention_ends contest_on contest-premises instance (name one instance) 0 28 contest-left_alone

-- the second has the later records and does not hold, so one holds that held before
pub held-before : HeldBefore responder contest_on instance (name one instance) 9 27
held-before =
    ⊎_elim (λ (h : holds responder contest_on 9 instance 27 ≡ true). never (sym seen_contest.3 ∙ h)) (λ h. h)
    (contest-ends.someone 9 27 seen_contest.2.0 (omega arith) seen_contest.2.1
    (is-latest responder contest_on tiebreak instance 9 seen_contest.2.2) (omega arith) (omega (arith, seen_contest.5))
    (omega (arith, seen_contest.6, seen_contest.7)))

pub first-keeps : (holds responder contest_on 9 instance 27 ≡ false) × (holds responder contest_on 0 instance 27 ≡ true)
first-keeps = (seen_contest.3, seen_contest.4)
