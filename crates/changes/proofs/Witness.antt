-- Calls to which the theorems apply, by evaluation. Assumes nothing.
use mathlib.Core.Path.{refl}
use Rattle.wire.specs.name_pieces.Pieces.{piece_at}
use Rattle.wire.specs.names.Names.{read_from, from_run, name_at}
use Rattle.wire.specs.rdata.Rdata.{form_in, strings_fill}
use Rattle.wire.specs.expansion.Equal.{same_bytes}
use Rattle.wire.specs.Lists.{some}
use Rattle.own.specs.utf8.Utf8 as utf8
use Rattle.own.specs.records.Setups.{label_fits, instance_fits, is_letter, is_name_byte, all_name_bytes, some_letter, hyphens_apart, service_rule, service_fits, protocol_fits, domain_fits, txt_fits, valid_setup, service_labels, instance_labels, host_labels}
use Rattle.own.specs.records.Records.{has_record, own_labels, own_name, own_rdata}
use Rattle.claims.specs.Time.{after_ms, marked_all}
use Rattle.claims.specs.answers.Answers as judging
use Rattle.claims.specs.holds.Holds as queries
use Rattle.claims.specs.records.Sets as sets
use Rattle.claims.specs.steps.Steps.{more_due, action_of, unsent_of}
use Rattle.claims.specs.steps.Tick as steps
use Rattle.claims.specs.Refusals.{multicasts_kept, holds_kept, kept, wrong_time}
use Rattle.claims.specs.records.Sets.{every_of}
use Rattle.writer.specs.compression.Compression.{stands_at, place_of, cut_from, name_bytes, name_places}
use Rattle.wire.specs.labels.Counted.{starts}
use Rattle.writer.specs.Fit.{form_for}
use Rattle.writer.specs.Items.{put_name, data_bytes, data_places, put_fields}
use Rattle.writer.specs.own_packets.Packets.{packet_of}
use Rattle.responder.specs.Refusals.{wrong_state, tick_refusal}
use Rattle.responder.specs.Calls.{tick_of}
use Rattle.responder.specs.changes.Changes as calls
use Rattle.claims.specs.changes.Changes as changing
use Rattle.writer.specs.own_packets.Own.{response_records, response_packet}
use Rattle.writer.specs.own_packets.Styles.{own_record}
use Rattle.responder.specs.Calls.{packet_for, ticked_packet}
use Rattle.own.specs.records.Records.{srv_rdata}
use Rattle.changes.specs.Statement.{held_records}
use Rattle.changes.specs.Witness.{Witness}
use Rattle.roundtrip.specs.Writable.{none, one}

pub witness : Witness
unfolding tick_refusal tick_of judging.wanted_of queries.some_from queries.some_free queries.union queries.knowing queries.knowing_all queries.queued steps.sends steps.action_turn steps.claim_turn steps.ptr_reply steps.reply_turn steps.hold_answers steps.hold_turn steps.step_turn steps.walked steps.ended_of steps.tick_of more_due action_of unsent_of sets.some_of sets.picked sets.only sets.any_of sets.at_once sets.records_of after_ms marked_all holds_kept wrong_state wrong_time kept multicasts_kept every_of valid_setup label_fits instance_fits utf8.is_shown utf8.shown_from utf8.may_stand utf8.behind utf8.starts utf8.following utf8.within is_letter is_name_byte all_name_bytes some_letter hyphens_apart service_rule service_fits protocol_fits domain_fits txt_fits strings_fill same_bytes name_at from_run read_from piece_at some has_record own_labels own_name own_rdata service_labels instance_labels host_labels packet_of put_name data_bytes data_places put_fields name_bytes name_places starts cut_from place_of stands_at form_in form_for held_records calls.refusal_to calls.update_refusal calls.update_to calls.update_of changing.update_of changing.announced_of changing.without changing.forgetting_all response_records response_packet own_record packet_for ticked_packet srv_rdata
witness = record {
  stops = refl;
  held = refl;
  updates = refl;
  too_soon = refl;
  again = refl;
  other = one refl none;
  sends = refl;
  lost = refl;
  wrong = refl;
  anew = refl;
}
