-- Calls to which the theorems apply, by evaluation. Assumes nothing.
use mathlib.Core.Path.{refl}
use Rattle.wire.specs.case_folding.Fold.{same_name}
use Rattle.wire.specs.name_pieces.Pieces.{piece_at}
use Rattle.wire.specs.names.Names.{read_from, from_run, name_at}
use Rattle.wire.specs.rdata.Rdata.{form_in, strings_fill, rdata_in, rdata_at}
use Rattle.wire.specs.expansion.Equal.{same_bytes}
use Rattle.wire.specs.Lists.{some}
use Rattle.wire.specs.message.Layout.{question_read, question_at, record_read, record_at, list_from, and_then, message_at}
use Rattle.own.specs.utf8.Utf8 as utf8
use Rattle.own.specs.records.Setups.{label_fits, instance_fits, is_letter, is_name_byte, all_name_bytes, some_letter, hyphens_apart, service_rule, service_fits, protocol_fits, domain_fits, txt_fits, valid_setup, service_labels, instance_labels, host_labels}
use Rattle.own.specs.records.Records.{has_record, own_labels, own_name, own_rdata}
use Rattle.claims.specs.Time.{after_ms, marked_all}
use Rattle.claims.specs.answers.Answers as judging
use Rattle.claims.specs.answers.Held as keeping
use Rattle.claims.specs.holds.Holds as queries
use Rattle.claims.specs.records.Sets as sets
use Rattle.claims.specs.steps.Steps.{more_due, action_of, unsent_of}
use Rattle.claims.specs.steps.Tick as steps
use Rattle.facts.specs.tiebreak.Later.{compare_numbers, in_turn, compare_records, insert_by, sort_by, tie}
use Rattle.facts.specs.tiebreak.Lists.{list_under}
use Rattle.claims.specs.Refusals.{multicasts_kept, holds_kept, kept, wrong_time}
use Rattle.claims.specs.records.Sets.{every_of}
use Rattle.facts.specs.probe.Probe.{is_probe}
use Rattle.facts.specs.Facts.{is_asked, is_asked_as, is_known, conflicted, theirs_later, response_facts, query_facts, facts_of}
use Rattle.writer.specs.compression.Compression.{stands_at, place_of, cut_from, name_bytes, name_places}
use Rattle.wire.specs.labels.Counted.{starts}
use Rattle.writer.specs.Fit.{form_for}
use Rattle.writer.specs.Items.{put_name, data_bytes, data_places, put_fields}
use Rattle.writer.specs.own_packets.Packets.{packet_of}
use Rattle.responder.specs.Refusals.{wrong_state, receive_refusal, tick_refusal}
use Rattle.responder.specs.Calls.{receive_of, tick_of}
use Rattle.responder.specs.Causes.{is_due, has_cause, is_to_asker}
use Rattle.causes.specs.Witness.{query_of, Witness}
use Rattle.causes.specs.Statement.{is_held_back}
use Rattle.causes.specs.Plain.{is_replied}

pub witness : Witness
unfolding query_of is_replied is_to_asker is_asked_as judging.asked_by judging.multicast_asks judging.unicast_asks is_held_back receive_refusal tick_refusal receive_of tick_of facts_of response_facts query_facts judging.heard_of judging.asks_of judging.wanted_of judging.joined judging.judged_of keeping.to_hold keeping.held_back keeping.receive_of queries.some_from queries.some_free queries.union queries.knowing queries.knowing_all queries.queued steps.sends steps.action_turn steps.claim_turn steps.ptr_reply steps.reply_turn steps.hold_answers steps.hold_turn steps.step_turn steps.walked steps.ended_of steps.tick_of more_due action_of unsent_of sets.some_of sets.picked sets.only sets.any_of sets.at_once sets.records_of conflicted theirs_later compare_numbers in_turn compare_records insert_by sort_by tie list_under after_ms marked_all holds_kept wrong_state wrong_time kept multicasts_kept every_of valid_setup label_fits instance_fits utf8.is_shown utf8.shown_from utf8.may_stand utf8.behind utf8.starts utf8.following utf8.within is_letter is_name_byte all_name_bytes some_letter hyphens_apart service_rule service_fits protocol_fits domain_fits txt_fits strings_fill same_bytes message_at and_then list_from question_at question_read record_at record_read name_at from_run read_from piece_at rdata_at rdata_in is_due has_cause is_probe is_asked is_known some same_name has_record own_labels own_name own_rdata service_labels instance_labels host_labels packet_of put_name data_bytes data_places put_fields name_bytes name_places starts cut_from place_of stands_at form_in form_for
witness = record {
  known = record { accepted = refl; message = refl };
  left = refl;
  unknown = record { accepted = refl; message = refl };
  goes = refl;
  wants_unicast = record { accepted = refl; message = refl };
  to_asker = refl;
  not_to_all = refl;
  later = record { accepted = refl; message = refl };
  not_to_asker = refl;
  to_all = refl;
  plain = record { accepted = refl; message = refl };
  replied = refl;
  held = record { accepted = refl; message = refl };
  held_back = refl;
  accepted = refl;
  due = refl;
  answers = refl;
  gone = refl;
}
