-- The cases of specs/Cases.antt, computed. Assumes nothing.
use mathlib.Core.Path.{refl}
use Rattle.wire.specs.name_pieces.Pieces.{piece_at}
use Rattle.wire.specs.names.Names.{name_at, from_run, read_from}
use Rattle.wire.specs.rdata.Rdata.{strings_fill}
use Rattle.wire.specs.expansion.Equal.{same_bytes}
use Rattle.writer.specs.compression.Compression.{stands_at, place_of, cut_from, name_bytes, name_places}
use Rattle.wire.specs.labels.Counted.{starts}
use Rattle.own.specs.utf8.Utf8 as utf8
use Rattle.own.specs.records.Setups.{label_fits, instance_fits, is_letter, is_name_byte, all_name_bytes, some_letter, hyphens_apart, service_rule, service_fits, protocol_fits}
use Rattle.own.specs.records.Setups.{domain_fits, txt_fits, valid_setup, service_labels, instance_labels, host_labels}
use Rattle.own.specs.records.Records.{has_record, own_labels, own_name, srv_rdata, own_rdata}
use Rattle.claims.specs.records.Sets.{picked, records_of}
use Rattle.writer.specs.Fit.{form_for}
use Rattle.writer.specs.Items.{put_name, data_bytes, data_places, put_fields}
use Rattle.writer.specs.own_packets.Packets.{packet_of}
use Rattle.writer.specs.own_packets.Styles.{own_record}
use Rattle.writer.specs.own_packets.Own.{response_records, probe_records, response_of, probe_of, response_packet, probe_packet}
use Rattle.roundtrip.specs.Cases.{SampleValid, Announced, Probed, InstanceProbed}

pub sample-valid : SampleValid
unfolding label_fits instance_fits utf8.is_shown utf8.shown_from utf8.may_stand utf8.behind utf8.starts utf8.following utf8.within is_letter is_name_byte all_name_bytes some_letter hyphens_apart service_rule service_fits protocol_fits domain_fits txt_fits valid_setup
    strings_fill same_bytes
sample-valid = refl

packets : Announced × Probed × InstanceProbed
unfolding name_at from_run read_from piece_at same_bytes stands_at place_of cut_from name_bytes starts name_places service_labels instance_labels host_labels
    has_record own_labels own_name srv_rdata own_rdata put_name form_for data_bytes data_places put_fields packet_of own_record picked records_of response_records
    probe_records response_of probe_of response_packet probe_packet
packets = (refl, refl, refl)

pub announced : Announced
announced = packets.0

pub probed : Probed
probed = packets.1

pub instance-probed : InstanceProbed
instance-probed = packets.2
