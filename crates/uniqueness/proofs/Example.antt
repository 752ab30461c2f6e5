-- The lists of specs/Example.antt, evaluated: they meet the premises; alone, a responder holds both names 1,200 ms after its start and is one of whom the
-- 1,200 ms are asked; of two that want one name with different data, one holds it and the other has lost it; one that gives its name up to a stranger comes
-- to hold it again. Assumes nothing.
use mathlib.Core.Path.{◌≡◌, refl, sym, ap, ◌∙◌}
use mathlib.Core.Logic.{◌⊎◌, inl}
use mathlib.Core.Bool.{Bool, true, false, not, ◌||◌}
use mathlib.Core.Option.{Option, some}
use mathlib.Core.List.{List, [], ◌∷◌, ◌++◌}
use Prim.Native.Nat.{ℕ, ◌+◌, ◌<◌}
use native.Mathlib.Omega.{arith}
use lib.ListN.{length}
use lib.Dec.{leb, ltb}
use borrow.Author.Tests.{leb-true, ltb-true}
use Rattle.wire.specs.case_folding.Fold.{same_name}
use Rattle.wire.specs.name_pieces.Pieces.{piece_at}
use Rattle.wire.specs.names.Names.{name_at, from_run, read_from, labels_fill}
use Rattle.wire.specs.rdata.Rdata.{form_in, strings_fill, rdata_in, rdata_at}
use Rattle.wire.specs.expansion.Equal.{same_bytes}
use Rattle.wire.specs.message.Layout.{question_read, record_read, question_at, record_at, list_from, and_then, message_at}
use Rattle.writer.specs.compression.Compression.{stands_at, place_of, cut_from, name_bytes, name_places}
use Rattle.wire.specs.labels.Counted.{starts}
use Rattle.own.specs.utf8.Utf8 as utf8
use Rattle.own.specs.records.Setups.{label_fits, instance_fits, is_letter, is_name_byte, all_name_bytes, some_letter, hyphens_apart, service_rule, service_fits, protocol_fits, domain_fits, txt_fits, valid_setup, service_labels, instance_labels, host_labels}
use Rattle.own.specs.records.Records.{has_record, own_labels, own_name, srv_rdata, own_rdata}
use Rattle.claims.specs.Time.{after_ms, marked_all}
use Rattle.claims.specs.Claims as claims
use Rattle.claims.specs.records.Sets as sets
use Rattle.claims.specs.records.Sets.{only}
use Rattle.claims.specs.declared.records.Own.TheVariants.{Ptr, Srv, Txt}
use Rattle.claims.specs.declared.ClaimState.{ClaimState}
use Rattle.claims.specs.declared.ClaimState.TheVariants.{Waiting, Probing1, Probing2, Probing3, Deferred, Announced, Held, Lost}
use Rattle.claims.specs.Refusals.{multicasts_kept, holds_kept, kept, wrong_time}
use Rattle.claims.specs.steps.Steps.{more_due, action_of, unsent_of}
use Rattle.claims.specs.steps.Tick as steps
use Rattle.facts.specs.tiebreak.Later.{compare_numbers, in_turn, compare_records, insert_by, sort_by, tie}
use Rattle.wire.specs.Lists.{some as some_of}
use Rattle.facts.specs.probe.Probe.{is_probe}
use Rattle.facts.specs.tiebreak.Lists.{list_under}
use Rattle.claims.specs.answers.Answers as answers
use Rattle.claims.specs.answers.Held as held
use Rattle.claims.specs.holds.Holds as queries
use Rattle.facts.specs.Facts.{is_asked, is_asked_as, is_known, conflicted, theirs_later, response_facts, query_facts, facts_of}
use Rattle.writer.specs.Fit.{form_for}
use Rattle.writer.specs.Items.{put_name, data_bytes, data_places, put_fields}
use Rattle.writer.specs.own_packets.Packets.{packet_of}
use Rattle.writer.specs.own_packets.Styles.{own_record}
use Rattle.writer.specs.own_packets.Own.{response_records, probe_records, response_of, probe_of, response_packet, probe_packet, plain_records, plain_packet}
use Rattle.responder.specs.Refusals.{wrong_state, start_refusal, receive_refusal, tick_refusal}
use Rattle.responder.specs.Calls.{blank, start_of, packet_for, received_packet, unicast_packet, receive_of, ticked_packet, tick_of}
use Rattle.responder.specs.changes.Changes.{Update}
use Rattle.responder.specs.declared.State.{State}
use Rattle.link.specs.Responder.{Claim, instance, host, everyone, unicast}
use Rattle.link.specs.Entries.{entry, clock_of, owner_of, owner_at, setup_in, time_at, reply, returned, unless_stopped, called, after, is_some, runs, is_accepted, accepted_at, parcels_of, sent_at, heard_in, source_in, revised, data_at, update_in, update_at, Entry}
use Rattle.link.specs.Premises.{Premises}
use Rattle.link.specs.Holding.{is_and, any_of, responds_for, conflicts_with, defeats_of, writes, hears, holds}
use Rattle.link.specs.Demand3.{Unopposed, holding_time}
use Rattle.link.specs.Witness.{every, some_below, all_of, same_bytes as same_packets, reaches, address_in, ordered, at_one_rate, owed, takes, taken, delivered_to, all_delivered, all_on_time, meets}
use Rattle.link.proofs.Witness.{met, below}
use Rattle.uniqueness.specs.Responder.{sends, halves, start, tick, receive, due_times, due, responds, conflicts, defeats, responder}
use Rattle.uniqueness.proofs.Lists.{never}
use Rattle.uniqueness.specs.Example as example
use Rattle.uniqueness.specs.Example.{setup_of, one, other, srv_and_txt, somewhere, alone_at, contest_at, rivals_at, three_at, divided_at, alone, contest, rivals, ptr_query, truncated_query, plain_query, three, divided}

-- the claim is lost; the instance claim of a state is
abbrev pub is_lost : ClaimState → Bool
is_lost (Waiting u) = false
is_lost (Probing1 u) = false
is_lost (Probing2 u) = false
is_lost (Probing3 u) = false
is_lost (Deferred u) = false
is_lost (Announced u) = false
is_lost Held = false
is_lost Lost = true

abbrev pub lost_by : State → Bool
lost_by x = is_lost x.progress.instance

-- of responder d, for a claim: among the first n entries it hears nothing that contradicts it, and it holds the name after them
abbrev pub Holds : List (Entry responder) → ℕ → Claim → ℕ → Type 0
Holds es d k n =
    (every n (λ j. not (hears responder es d (λ s. conflicts_with responder s k) j)) ≡ true)
    × (every n (λ j. not (hears responder es d (λ s. defeats_of responder s k) j)) ≡ true)
    × (holds responder es d k n ≡ true)

-- entry b is a call of it, the first n entries are those at most 1,200 ms after that, one comes later, and it runs
abbrev pub Asked : List (Entry responder) → ℕ → ℕ → ℕ → Type 0
Asked es d b n =
    (owner_at responder es b ≡ d)
    × (every n (λ j. leb (time_at responder es j) (time_at responder es b + holding_time)) ≡ true)
    × (ltb n (length es) ≡ true)
    × (ltb (time_at responder es b + holding_time) (time_at responder es n) ≡ true)
    × (runs responder es d n ≡ true)
    × (ltb b n ≡ true)
    × (every n (λ j. leb j b || not (is_some (update_at responder es j))) ≡ true)

-- everything that the checker computes of the lists: of the first two, of the third, and of the last
abbrev Seen : Type 0
Seen =
    (meets responder alone alone_at ≡ true)
    × Asked alone 0 0 9
    × Holds alone 0 instance 9
    × Holds alone 0 host 9
    × (meets responder contest contest_at ≡ true)
    × (holds responder contest 0 instance (length contest) ≡ true)
    × (holds responder contest 9 instance (length contest) ≡ false)
    × (is_and lost_by (after responder contest 9 (length contest)) ≡ true)
    × (holds responder contest 9 host (length contest) ≡ true)

abbrev SeenRivals : Type 0
SeenRivals =
    (meets responder rivals rivals_at ≡ true)
    × Asked rivals 1 1 38
    × Holds rivals 1 instance 38
    × Holds rivals 1 host 38
    × (holds responder rivals 0 host 29 ≡ true)
    × (holds responder rivals 0 host 30 ≡ false)
    × (is_and lost_by (after responder rivals 0 29) ≡ true)
    × (is_and lost_by (after responder rivals 30 (length rivals)) ≡ true)
    × (accepted_at responder rivals 10 ≡ false)
    × (accepted_at responder rivals 35 ≡ false)

abbrev SeenThree : Type 0
SeenThree =
    (meets responder three three_at ≡ true)
    × (holds responder three 0 instance 17 ≡ true)
    × (holds responder three 0 instance 18 ≡ false)
    × (holds responder three 0 instance (length three) ≡ true)
    × (accepted_at responder three 3 ≡ true)
    × (accepted_at responder three 10 ≡ true)
    × (accepted_at responder three 15 ≡ true)
    × (is_and lost_by (after responder three 16 (length three)) ≡ true)
    × (runs responder three 0 (length three) ≡ true)
    × (runs responder three 16 (length three) ≡ true)
    × (runs responder three 30 (length three) ≡ true)

seen : Seen
unfolding setup_of alone contest rivals three ptr_query plain_query plain_packet plain_records answers.plain_of answers.due_to sets.with_data labels_fill holds writes hears any_of responds_for conflicts_with defeats_of responds conflicts defeats meets ordered at_one_rate reaches address_in owed takes taken delivered_to all_delivered all_on_time every some_below all_of same_packets entry clock_of owner_of setup_in reply returned unless_stopped called after is_accepted parcels_of heard_in source_in revised data_at update_in start tick receive due_times due blank start_of packet_for received_packet unicast_packet receive_of ticked_packet tick_of wrong_state start_refusal receive_refusal tick_refusal own_record response_records probe_records response_of probe_of response_packet probe_packet put_name data_bytes data_places put_fields packet_of is_asked is_asked_as is_known conflicted theirs_later response_facts query_facts facts_of answers.heard_of answers.asks_of answers.wanted_of answers.asked_by answers.multicast_asks answers.unicast_asks answers.joined answers.judged_of held.to_hold held.held_back held.receive_of queries.some_from queries.some_free queries.union queries.knowing queries.knowing_all queries.queued list_under some_of is_probe compare_numbers in_turn compare_records insert_by sort_by tie steps.sends steps.action_turn steps.claim_turn steps.ptr_reply steps.reply_turn steps.hold_answers steps.hold_turn steps.step_turn steps.walked steps.ended_of steps.tick_of more_due action_of unsent_of sets.some_of sets.every_of sets.picked sets.only sets.any_of sets.at_once sets.records_of multicasts_kept holds_kept kept wrong_time claims.begun_at after_ms marked_all has_record own_labels own_name srv_rdata own_rdata label_fits instance_fits utf8.is_shown utf8.shown_from utf8.may_stand utf8.behind utf8.starts utf8.following utf8.within is_letter is_name_byte all_name_bytes some_letter hyphens_apart service_rule service_fits protocol_fits domain_fits txt_fits valid_setup service_labels instance_labels host_labels stands_at place_of cut_from name_bytes starts name_places question_read record_read question_at record_at list_from message_at and_then same_bytes strings_fill name_at from_run read_from piece_at same_name rdata_at rdata_in form_for form_in
seen = (refl, (refl, refl, refl, refl, refl, refl, refl), (refl, refl, refl), (refl, refl, refl), refl, refl, refl, refl, refl)

seen_rivals : SeenRivals
unfolding setup_of alone contest rivals three ptr_query plain_query plain_packet plain_records answers.plain_of answers.due_to sets.with_data labels_fill holds writes hears any_of responds_for conflicts_with defeats_of responds conflicts defeats meets ordered at_one_rate reaches address_in owed takes taken delivered_to all_delivered all_on_time every some_below all_of same_packets entry clock_of owner_of setup_in reply returned unless_stopped called after is_accepted parcels_of heard_in source_in revised data_at update_in start tick receive due_times due blank start_of packet_for received_packet unicast_packet receive_of ticked_packet tick_of wrong_state start_refusal receive_refusal tick_refusal own_record response_records probe_records response_of probe_of response_packet probe_packet put_name data_bytes data_places put_fields packet_of is_asked is_asked_as is_known conflicted theirs_later response_facts query_facts facts_of answers.heard_of answers.asks_of answers.wanted_of answers.asked_by answers.multicast_asks answers.unicast_asks answers.joined answers.judged_of held.to_hold held.held_back held.receive_of queries.some_from queries.some_free queries.union queries.knowing queries.knowing_all queries.queued list_under some_of is_probe compare_numbers in_turn compare_records insert_by sort_by tie steps.sends steps.action_turn steps.claim_turn steps.ptr_reply steps.reply_turn steps.hold_answers steps.hold_turn steps.step_turn steps.walked steps.ended_of steps.tick_of more_due action_of unsent_of sets.some_of sets.every_of sets.picked sets.only sets.any_of sets.at_once sets.records_of multicasts_kept holds_kept kept wrong_time claims.begun_at after_ms marked_all has_record own_labels own_name srv_rdata own_rdata label_fits instance_fits utf8.is_shown utf8.shown_from utf8.may_stand utf8.behind utf8.starts utf8.following utf8.within is_letter is_name_byte all_name_bytes some_letter hyphens_apart service_rule service_fits protocol_fits domain_fits txt_fits valid_setup service_labels instance_labels host_labels stands_at place_of cut_from name_bytes starts name_places question_read record_read question_at record_at list_from message_at and_then same_bytes strings_fill name_at from_run read_from piece_at same_name rdata_at rdata_in form_for form_in
seen_rivals = (refl, (refl, refl, refl, refl, refl, refl, refl), (refl, refl, refl), (refl, refl, refl), refl, refl, refl, refl, refl, refl)

seen_three : SeenThree
unfolding setup_of alone contest rivals three ptr_query plain_query plain_packet plain_records answers.plain_of answers.due_to sets.with_data labels_fill holds writes hears any_of responds_for conflicts_with defeats_of responds conflicts defeats meets ordered at_one_rate reaches address_in owed takes taken delivered_to all_delivered all_on_time every some_below all_of same_packets entry clock_of owner_of setup_in reply returned unless_stopped called after is_accepted parcels_of heard_in source_in revised data_at update_in start tick receive due_times due blank start_of packet_for received_packet unicast_packet receive_of ticked_packet tick_of wrong_state start_refusal receive_refusal tick_refusal own_record response_records probe_records response_of probe_of response_packet probe_packet put_name data_bytes data_places put_fields packet_of is_asked is_asked_as is_known conflicted theirs_later response_facts query_facts facts_of answers.heard_of answers.asks_of answers.wanted_of answers.asked_by answers.multicast_asks answers.unicast_asks answers.joined answers.judged_of held.to_hold held.held_back held.receive_of queries.some_from queries.some_free queries.union queries.knowing queries.knowing_all queries.queued list_under some_of is_probe compare_numbers in_turn compare_records insert_by sort_by tie steps.sends steps.action_turn steps.claim_turn steps.ptr_reply steps.reply_turn steps.hold_answers steps.hold_turn steps.step_turn steps.walked steps.ended_of steps.tick_of more_due action_of unsent_of sets.some_of sets.every_of sets.picked sets.only sets.any_of sets.at_once sets.records_of multicasts_kept holds_kept kept wrong_time claims.begun_at after_ms marked_all has_record own_labels own_name srv_rdata own_rdata label_fits instance_fits utf8.is_shown utf8.shown_from utf8.may_stand utf8.behind utf8.starts utf8.following utf8.within is_letter is_name_byte all_name_bytes some_letter hyphens_apart service_rule service_fits protocol_fits domain_fits txt_fits valid_setup service_labels instance_labels host_labels stands_at place_of cut_from name_bytes starts name_places question_read record_read question_at record_at list_from message_at and_then same_bytes strings_fill name_at from_run read_from piece_at same_name rdata_at rdata_in form_for form_in
seen_three = (refl, refl, refl, refl, refl, refl, refl, refl, refl, refl, refl)

not-true : (b : Bool) → not b ≡ true → b ≡ false
not-true false e = refl
not-true true e = sym e

pub unopposed :
    (es : List (Entry responder)) (d : ℕ) (k : Claim) (b n : ℕ) → Asked es d b n → Holds es d k n
    → (b ≡ d) ⊎ ((k ≡ instance) × ((u : Update) × (update_at responder es b ≡ some u) × (holds responder es d k b ≡ false)))
    → Unopposed responder es d k b n
unopposed es d k b n a h from = record {
  whose = a.0;
  before = ltb-true b n a.5;
  from = from;
  last = λ j u e l m o t. absurd (no_update j l m u t);
  within = λ j l. leb-true (time_at responder es j) (time_at responder es b + holding_time) (below n (λ i. leb (time_at responder es i) (time_at responder es b + holding_time)) a.1 j l);
  in_list = ltb-true n (length es) a.2;
  beyond = ltb-true (time_at responder es b + holding_time) (time_at responder es n) a.3;
  running = a.4;
  no_conflict = λ j g l.
      not-true (hears responder es d (λ s. conflicts_with responder s k) j) (below n (λ i. not (hears responder es d (λ s. conflicts_with responder s k) i)) h.0 j l);
  no_later = λ j g l.
      not-true (hears responder es d (λ s. defeats_of responder s k) j) (below n (λ i. not (hears responder es d (λ s. defeats_of responder s k) i)) h.1 j l);
}
  where
    no_update : (j : ℕ) → b < j → j < n → (u : Update) → update_at responder es j ≡ some u → ⊥
    no_update j l m u t = go (leb j b) (is_some (update_at responder es j)) refl refl (below n (λ i. leb i b || not (is_some (update_at responder es i))) a.6 j m)
      where
        go : (x y : Bool) → leb j b ≡ x → is_some (update_at responder es j) ≡ y → (x || not y) ≡ true → ⊥
        go true y e f g = omega (arith, leb-true j b e)
        go false true e f g = never g
        go false false e f g = never (sym f ∙ ap (λ (o : Option Update). is_some o) t)

-- ---- a responder alone

pub alone-premises : Premises responder alone
alone-premises = met responder alone alone_at seen.0

-- the 1,200 ms are asked of it, for both names, and it holds them then
pub alone-unopposed : (k : Claim) → Unopposed responder alone 0 k 0 9
alone-unopposed instance = unopposed alone 0 instance 0 9 seen.1 seen.2 (inl refl)
alone-unopposed host = unopposed alone 0 host 0 9 seen.1 seen.3 (inl refl)

pub alone-holds : (k : Claim) → holds responder alone 0 k 9 ≡ true
alone-holds instance = seen.2.2
alone-holds host = seen.3.2

-- ---- two that want one name, one after the other

pub contest-premises : Premises responder contest
contest-premises = met responder contest contest_at seen.4

pub first_holds : holds responder contest 0 instance (length contest) ≡ true
first_holds = seen.5

pub second_does_not : holds responder contest 9 instance (length contest) ≡ false
second_does_not = seen.6

pub second_lost : is_and lost_by (after responder contest 9 (length contest)) ≡ true
second_lost = seen.7

pub second_holds_host : holds responder contest 9 host (length contest) ≡ true
second_holds_host = seen.8

-- ---- two at once, refused calls, a power cut and a new start

pub rivals-premises : Premises responder rivals
rivals-premises = met responder rivals rivals_at seen_rivals.0

-- the 1,200 ms are asked of the second, which is never contradicted, and it holds both names then
pub winner_unopposed : (k : Claim) → Unopposed responder rivals 1 k 1 38
winner_unopposed instance = unopposed rivals 1 instance 1 38 seen_rivals.1 seen_rivals.2 (inl refl)
winner_unopposed host = unopposed rivals 1 host 1 38 seen_rivals.1 seen_rivals.3 (inl refl)

pub winner_holds : (k : Claim) → holds responder rivals 1 k 38 ≡ true
winner_holds instance = seen_rivals.2.2
winner_holds host = seen_rivals.3.2

-- the first holds its host name up to its cut, and has lost the instance name; started anew, it has lost it again
pub cut-ends : (holds responder rivals 0 host 29 ≡ true) × (holds responder rivals 0 host 30 ≡ false)
cut-ends = (seen_rivals.4, seen_rivals.5)

pub loser_lost : (is_and lost_by (after responder rivals 0 29) ≡ true) × (is_and lost_by (after responder rivals 30 (length rivals)) ≡ true)
loser_lost = (seen_rivals.6, seen_rivals.7)

-- the two refused calls
pub refused_calls : (accepted_at responder rivals 10 ≡ false) × (accepted_at responder rivals 35 ≡ false)
refused_calls = (seen_rivals.8, seen_rivals.9)

-- ---- three responders, and a stranger

pub three-premises : Premises responder three
three-premises = met responder three three_at seen_three.0

-- the first holds its instance name until it hears the stranger's response, then no more, and at the end again
pub gives_up : (holds responder three 0 instance 17 ≡ true) × (holds responder three 0 instance 18 ≡ false)
gives_up = (seen_three.1, seen_three.2)

pub holds-again : holds responder three 0 instance (length three) ≡ true
holds-again = seen_three.3

-- it takes its own probe, its own announcement and its own answer, and goes on
pub hears_itself : (accepted_at responder three 3 ≡ true) × (accepted_at responder three 10 ≡ true) × (accepted_at responder three 15 ≡ true)
hears_itself = (seen_three.4, seen_three.5, seen_three.6)

-- the question for its service is answered by the tick that comes 20 ms later: both are this packet
abbrev pub ptr_packet : List ℕ
ptr_packet =
    0x00 ∷ 0x00 ∷ 0x84 ∷ 0x00 ∷ 0x00 ∷ 0x00 ∷ 0x00 ∷ 0x01 ∷ 0x00 ∷ 0x00 ∷ 0x00 ∷ 0x00
    ∷ 0x02 ∷ 0x5f ∷ 0x78 ∷ 0x04 ∷ 0x5f ∷ 0x75 ∷ 0x64 ∷ 0x70 ∷ 0x05 ∷ 0x6c ∷ 0x6f ∷ 0x63 ∷ 0x61 ∷ 0x6c ∷ 0x00
    ∷ 0x00 ∷ 0x0c ∷ 0x00 ∷ 0x01 ∷ 0x00 ∷ 0x00 ∷ 0x11 ∷ 0x94 ∷ 0x00 ∷ 0x04 ∷ 0x01 ∷ 0x41 ∷ 0xc0 ∷ 0x0c ∷ []

ptr_sent : sent_at responder three 14 ≡ sends everyone ptr_packet
unfolding setup_of alone contest rivals three ptr_query plain_query plain_packet plain_records answers.plain_of answers.due_to sets.with_data labels_fill holds writes hears any_of responds_for conflicts_with defeats_of responds conflicts defeats meets ordered at_one_rate reaches address_in owed takes taken delivered_to all_delivered all_on_time every some_below all_of same_packets entry clock_of owner_of setup_in reply returned unless_stopped called after is_accepted parcels_of heard_in source_in revised data_at update_in start tick receive due_times due blank start_of packet_for received_packet unicast_packet receive_of ticked_packet tick_of wrong_state start_refusal receive_refusal tick_refusal own_record response_records probe_records response_of probe_of response_packet probe_packet put_name data_bytes data_places put_fields packet_of is_asked is_asked_as is_known conflicted theirs_later response_facts query_facts facts_of answers.heard_of answers.asks_of answers.wanted_of answers.asked_by answers.multicast_asks answers.unicast_asks answers.joined answers.judged_of held.to_hold held.held_back held.receive_of queries.some_from queries.some_free queries.union queries.knowing queries.knowing_all queries.queued list_under some_of is_probe compare_numbers in_turn compare_records insert_by sort_by tie steps.sends steps.action_turn steps.claim_turn steps.ptr_reply steps.reply_turn steps.hold_answers steps.hold_turn steps.step_turn steps.walked steps.ended_of steps.tick_of more_due action_of unsent_of sets.some_of sets.every_of sets.picked sets.only sets.any_of sets.at_once sets.records_of multicasts_kept holds_kept kept wrong_time claims.begun_at after_ms marked_all has_record own_labels own_name srv_rdata own_rdata label_fits instance_fits utf8.is_shown utf8.shown_from utf8.may_stand utf8.behind utf8.starts utf8.following utf8.within is_letter is_name_byte all_name_bytes some_letter hyphens_apart service_rule service_fits protocol_fits domain_fits txt_fits valid_setup service_labels instance_labels host_labels stands_at place_of cut_from name_bytes starts name_places question_read record_read question_at record_at list_from message_at and_then same_bytes strings_fill name_at from_run read_from piece_at same_name rdata_at rdata_in form_for form_in
ptr_sent = refl

ptr_written : response_packet other 0 (only Ptr) ≡ ptr_packet
unfolding setup_of alone contest rivals three ptr_query plain_query plain_packet plain_records answers.plain_of answers.due_to sets.with_data labels_fill holds writes hears any_of responds_for conflicts_with defeats_of responds conflicts defeats meets ordered at_one_rate reaches address_in owed takes taken delivered_to all_delivered all_on_time every some_below all_of same_packets entry clock_of owner_of setup_in reply returned unless_stopped called after is_accepted parcels_of heard_in source_in revised data_at update_in start tick receive due_times due blank start_of packet_for received_packet unicast_packet receive_of ticked_packet tick_of wrong_state start_refusal receive_refusal tick_refusal own_record response_records probe_records response_of probe_of response_packet probe_packet put_name data_bytes data_places put_fields packet_of is_asked is_asked_as is_known conflicted theirs_later response_facts query_facts facts_of answers.heard_of answers.asks_of answers.wanted_of answers.asked_by answers.multicast_asks answers.unicast_asks answers.joined answers.judged_of held.to_hold held.held_back held.receive_of queries.some_from queries.some_free queries.union queries.knowing queries.knowing_all queries.queued list_under some_of is_probe compare_numbers in_turn compare_records insert_by sort_by tie steps.sends steps.action_turn steps.claim_turn steps.ptr_reply steps.reply_turn steps.hold_answers steps.hold_turn steps.step_turn steps.walked steps.ended_of steps.tick_of more_due action_of unsent_of sets.some_of sets.every_of sets.picked sets.only sets.any_of sets.at_once sets.records_of multicasts_kept holds_kept kept wrong_time claims.begun_at after_ms marked_all has_record own_labels own_name srv_rdata own_rdata label_fits instance_fits utf8.is_shown utf8.shown_from utf8.may_stand utf8.behind utf8.starts utf8.following utf8.within is_letter is_name_byte all_name_bytes some_letter hyphens_apart service_rule service_fits protocol_fits domain_fits txt_fits valid_setup service_labels instance_labels host_labels stands_at place_of cut_from name_bytes starts name_places question_read record_read question_at record_at list_from message_at and_then same_bytes strings_fill name_at from_run read_from piece_at same_name rdata_at rdata_in form_for form_in
ptr_written = refl

pub answers_question : sent_at responder three 14 ≡ sends everyone (response_packet other 0 (only Ptr))
answers_question = ptr_sent ∙ ap (sends everyone) (sym ptr_written)

-- a plain resolver is answered by unicast; the premises are met, though nobody hears the reply
abbrev plain_reply : List ℕ
plain_reply =
    0x12 ∷ 0x34 ∷ 0x84 ∷ 0x00 ∷ 0x00 ∷ 0x01 ∷ 0x00 ∷ 0x01 ∷ 0x00 ∷ 0x00 ∷ 0x00 ∷ 0x00
    ∷ 0x01 ∷ 0x68 ∷ 0x05 ∷ 0x6c ∷ 0x6f ∷ 0x63 ∷ 0x61 ∷ 0x6c ∷ 0x00 ∷ 0x00 ∷ 0x01 ∷ 0x00 ∷ 0x01
    ∷ 0xc0 ∷ 0x0c ∷ 0x00 ∷ 0x01 ∷ 0x00 ∷ 0x01 ∷ 0x00 ∷ 0x00 ∷ 0x00 ∷ 0x0a ∷ 0x00 ∷ 0x04 ∷ 0x0a ∷ 0x00 ∷ 0x00 ∷ 0x07 ∷ []

pub serves_resolver : sent_at responder contest 25 ≡ sends (unicast (halves (somewhere 9)) 1024) plain_reply
unfolding setup_of alone contest rivals three ptr_query plain_query plain_packet plain_records answers.plain_of answers.due_to sets.with_data labels_fill holds writes hears any_of responds_for conflicts_with defeats_of responds conflicts defeats meets ordered at_one_rate reaches address_in owed takes taken delivered_to all_delivered all_on_time every some_below all_of same_packets entry clock_of owner_of setup_in reply returned unless_stopped called after is_accepted parcels_of heard_in source_in revised data_at update_in start tick receive due_times due blank start_of packet_for received_packet unicast_packet receive_of ticked_packet tick_of wrong_state start_refusal receive_refusal tick_refusal own_record response_records probe_records response_of probe_of response_packet probe_packet put_name data_bytes data_places put_fields packet_of is_asked is_asked_as is_known conflicted theirs_later response_facts query_facts facts_of answers.heard_of answers.asks_of answers.wanted_of answers.asked_by answers.multicast_asks answers.unicast_asks answers.joined answers.judged_of held.to_hold held.held_back held.receive_of queries.some_from queries.some_free queries.union queries.knowing queries.knowing_all queries.queued list_under some_of is_probe compare_numbers in_turn compare_records insert_by sort_by tie steps.sends steps.action_turn steps.claim_turn steps.ptr_reply steps.reply_turn steps.hold_answers steps.hold_turn steps.step_turn steps.walked steps.ended_of steps.tick_of more_due action_of unsent_of sets.some_of sets.every_of sets.picked sets.only sets.any_of sets.at_once sets.records_of multicasts_kept holds_kept kept wrong_time claims.begun_at after_ms marked_all has_record own_labels own_name srv_rdata own_rdata label_fits instance_fits utf8.is_shown utf8.shown_from utf8.may_stand utf8.behind utf8.starts utf8.following utf8.within is_letter is_name_byte all_name_bytes some_letter hyphens_apart service_rule service_fits protocol_fits domain_fits txt_fits valid_setup service_labels instance_labels host_labels stands_at place_of cut_from name_bytes starts name_places question_read record_read question_at record_at list_from message_at and_then same_bytes strings_fill name_at from_run read_from piece_at same_name rdata_at rdata_in form_for form_in
serves_resolver = refl

-- a truncated query is held, and answered when it is due; the premises are met, the step of a held query among them
abbrev SeenHeld : Type 0
SeenHeld =
    (meets responder example.held alone_at ≡ true)
    × (sent_at responder example.held 11 ≡ [])
    × (sent_at responder example.held 12 ≡ sends everyone ptr_packet)
    × (accepted_at responder example.held 11 ≡ true)

seen_held : SeenHeld
unfolding setup_of alone contest rivals three ptr_query truncated_query example.held plain_query plain_packet plain_records answers.plain_of answers.due_to sets.with_data labels_fill holds writes hears any_of responds_for conflicts_with defeats_of responds conflicts defeats meets ordered at_one_rate reaches address_in owed takes taken delivered_to all_delivered all_on_time every some_below all_of same_packets entry clock_of owner_of setup_in reply returned unless_stopped called after is_accepted parcels_of heard_in source_in revised data_at update_in start tick receive due_times due blank start_of packet_for received_packet unicast_packet receive_of ticked_packet tick_of wrong_state start_refusal receive_refusal tick_refusal own_record response_records probe_records response_of probe_of response_packet probe_packet put_name data_bytes data_places put_fields packet_of is_asked is_asked_as is_known conflicted theirs_later response_facts query_facts facts_of answers.heard_of answers.asks_of answers.wanted_of answers.asked_by answers.multicast_asks answers.unicast_asks answers.joined answers.judged_of held.to_hold held.held_back held.receive_of queries.some_from queries.some_free queries.union queries.knowing queries.knowing_all queries.queued list_under some_of is_probe compare_numbers in_turn compare_records insert_by sort_by tie steps.sends steps.action_turn steps.claim_turn steps.ptr_reply steps.reply_turn steps.hold_answers steps.hold_turn steps.step_turn steps.walked steps.ended_of steps.tick_of more_due action_of unsent_of sets.some_of sets.every_of sets.picked sets.only sets.any_of sets.at_once sets.records_of multicasts_kept holds_kept kept wrong_time claims.begun_at after_ms marked_all has_record own_labels own_name srv_rdata own_rdata label_fits instance_fits utf8.is_shown utf8.shown_from utf8.may_stand utf8.behind utf8.starts utf8.following utf8.within is_letter is_name_byte all_name_bytes some_letter hyphens_apart service_rule service_fits protocol_fits domain_fits txt_fits valid_setup service_labels instance_labels host_labels stands_at place_of cut_from name_bytes starts name_places question_read record_read question_at record_at list_from message_at and_then same_bytes strings_fill name_at from_run read_from piece_at same_name rdata_at rdata_in form_for form_in
seen_held = (refl, refl, refl, refl)

pub held-premises : Premises responder example.held
held-premises = met responder example.held alone_at seen_held.0

pub answers_held : (sent_at responder example.held 11 ≡ []) × (sent_at responder example.held 12 ≡ sends everyone ptr_packet)
answers_held = (seen_held.1, seen_held.2)

-- ---- a name defended by unicast

-- in `contest` the first answers the probe to the second alone, and by that the second loses the name
abbrev SeenDefence : Type 0
SeenDefence =
    (sent_at responder contest 12 ≡ sends (unicast (halves (somewhere 2)) 5353) (response_packet one 0 srv_and_txt))
    × (sent_at responder rivals 33 ≡ sends (unicast (halves (somewhere 1)) 5353) (response_packet other 0 srv_and_txt))
    × (is_and lost_by (after responder contest 9 14) ≡ false)
    × (is_and lost_by (after responder contest 9 15) ≡ true)

seen_defence : SeenDefence
unfolding setup_of alone contest rivals three ptr_query truncated_query plain_query plain_packet plain_records answers.plain_of answers.due_to sets.with_data labels_fill holds writes hears any_of responds_for conflicts_with defeats_of responds conflicts defeats meets ordered at_one_rate reaches address_in owed takes taken delivered_to all_delivered all_on_time every some_below all_of same_packets entry clock_of owner_of setup_in reply returned unless_stopped called after is_accepted parcels_of heard_in source_in revised data_at update_in start tick receive due_times due blank start_of packet_for received_packet unicast_packet receive_of ticked_packet tick_of wrong_state start_refusal receive_refusal tick_refusal own_record response_records probe_records response_of probe_of response_packet probe_packet put_name data_bytes data_places put_fields packet_of is_asked is_asked_as is_known conflicted theirs_later response_facts query_facts facts_of answers.heard_of answers.asks_of answers.wanted_of answers.asked_by answers.multicast_asks answers.unicast_asks answers.joined answers.judged_of held.to_hold held.held_back held.receive_of queries.some_from queries.some_free queries.union queries.knowing queries.knowing_all queries.queued list_under some_of is_probe compare_numbers in_turn compare_records insert_by sort_by tie steps.sends steps.action_turn steps.claim_turn steps.ptr_reply steps.reply_turn steps.hold_answers steps.hold_turn steps.step_turn steps.walked steps.ended_of steps.tick_of more_due action_of unsent_of sets.some_of sets.every_of sets.picked sets.only sets.any_of sets.at_once sets.records_of multicasts_kept holds_kept kept wrong_time claims.begun_at after_ms marked_all has_record own_labels own_name srv_rdata own_rdata label_fits instance_fits utf8.is_shown utf8.shown_from utf8.may_stand utf8.behind utf8.starts utf8.following utf8.within is_letter is_name_byte all_name_bytes some_letter hyphens_apart service_rule service_fits protocol_fits domain_fits txt_fits valid_setup service_labels instance_labels host_labels stands_at place_of cut_from name_bytes starts name_places question_read record_read question_at record_at list_from message_at and_then same_bytes strings_fill name_at from_run read_from piece_at same_name rdata_at rdata_in form_for form_in
seen_defence = (refl, refl, refl, refl)

pub by-unicast_alone : sent_at responder contest 12 ≡ sends (unicast (halves (somewhere 2)) 5353) (response_packet one 0 srv_and_txt)
by-unicast_alone = seen_defence.0

pub unicast-ends_it : (is_and lost_by (after responder contest 9 14) ≡ false) × (is_and lost_by (after responder contest 9 15) ≡ true)
unicast-ends_it = (seen_defence.2, seen_defence.3)

-- in `rivals` the address of the one that was cut is the new one's, which is answered there
pub address-again : (rivals_at 0 ≡ rivals_at 30) × (sent_at responder rivals 33 ≡ sends (unicast (rivals_at 30) 5353) (response_packet other 0 srv_and_txt))
unfolding address_in
address-again = (refl, seen_defence.1)

-- in `divided` one answer goes to all and one to the asker, in one call, and the second loses the name
abbrev SeenDivided : Type 0
SeenDivided =
    (meets responder divided divided_at ≡ true)
    × (sent_at responder divided 14
    ≡ sends everyone (response_packet one 0 (only Srv)) ++ sends (unicast (halves (somewhere 2)) 5353) (response_packet one 0 (only Txt)))
    × (is_and lost_by (after responder divided 11 (length divided)) ≡ true)
    × (holds responder divided 0 instance (length divided) ≡ true)

seen_divided : SeenDivided
unfolding setup_of alone contest rivals three ptr_query truncated_query divided plain_query plain_packet plain_records answers.plain_of answers.due_to sets.with_data labels_fill holds writes hears any_of responds_for conflicts_with defeats_of responds conflicts defeats meets ordered at_one_rate reaches address_in owed takes taken delivered_to all_delivered all_on_time every some_below all_of same_packets entry clock_of owner_of setup_in reply returned unless_stopped called after is_accepted parcels_of heard_in source_in revised data_at update_in start tick receive due_times due blank start_of packet_for received_packet unicast_packet receive_of ticked_packet tick_of wrong_state start_refusal receive_refusal tick_refusal own_record response_records probe_records response_of probe_of response_packet probe_packet put_name data_bytes data_places put_fields packet_of is_asked is_asked_as is_known conflicted theirs_later response_facts query_facts facts_of answers.heard_of answers.asks_of answers.wanted_of answers.asked_by answers.multicast_asks answers.unicast_asks answers.joined answers.judged_of held.to_hold held.held_back held.receive_of queries.some_from queries.some_free queries.union queries.knowing queries.knowing_all queries.queued list_under some_of is_probe compare_numbers in_turn compare_records insert_by sort_by tie steps.sends steps.action_turn steps.claim_turn steps.ptr_reply steps.reply_turn steps.hold_answers steps.hold_turn steps.step_turn steps.walked steps.ended_of steps.tick_of more_due action_of unsent_of sets.some_of sets.every_of sets.picked sets.only sets.any_of sets.at_once sets.records_of multicasts_kept holds_kept kept wrong_time claims.begun_at after_ms marked_all has_record own_labels own_name srv_rdata own_rdata label_fits instance_fits utf8.is_shown utf8.shown_from utf8.may_stand utf8.behind utf8.starts utf8.following utf8.within is_letter is_name_byte all_name_bytes some_letter hyphens_apart service_rule service_fits protocol_fits domain_fits txt_fits valid_setup service_labels instance_labels host_labels stands_at place_of cut_from name_bytes starts name_places question_read record_read question_at record_at list_from message_at and_then same_bytes strings_fill name_at from_run read_from piece_at same_name rdata_at rdata_in form_for form_in
seen_divided = (refl, refl, refl, refl)

pub divided-premises : Premises responder divided
divided-premises = met responder divided divided_at seen_divided.0

pub answers_both :
    sent_at responder divided 14
    ≡ sends everyone (response_packet one 0 (only Srv)) ++ sends (unicast (halves (somewhere 2)) 5353) (response_packet one 0 (only Txt))
answers_both = seen_divided.1

pub divided-loses : is_and lost_by (after responder divided 11 (length divided)) ≡ true
divided-loses = seen_divided.2

-- ---- three responders: the second, which wanted the name meanwhile, has lost it
pub second_loses : is_and lost_by (after responder three 16 (length three)) ≡ true
second_loses = seen_three.7

pub three-run :
    (runs responder three 0 (length three) ≡ true) × (runs responder three 16 (length three) ≡ true) × (runs responder three 30 (length three) ≡ true)
three-run = (seen_three.8, seen_three.9, seen_three.10)
