-- Calls to which `message-put-back` applies, by evaluation. Assumes nothing.
use mathlib.Core.Path.{◌≡◌, refl}
use mathlib.Core.Bool.{false}
use native.Mathlib.Omega.{arith}
use Rattle.wire.specs.name_pieces.Pieces.{piece_at}
use Rattle.wire.specs.names.Names.{labels_fill, read_from, from_run, name_at}
use Rattle.writer.specs.compression.Compression.{stands_at, place_of, cut_from, name_bytes, name_places}
use Rattle.wire.specs.labels.Counted.{starts}
use Rattle.wire.specs.expansion.Equal.{same_bytes}
use Rattle.writer.specs.Fit.{form_for, is_shaped, fit_record}
use Rattle.writer.specs.Items.{put_name, data_bytes, data_places, put_fields}
use Rattle.writer.specs.own_packets.Packets.{header}
use Rattle.writer.specs.Writer.{name_fits, record_fits, labels_for}
use Rattle.roundtrip.specs.Puts.{held, QuestionPut, question_put, RecordPut, record_put, no_more, one_more}
use Rattle.roundtrip.specs.PutCase.{question, address, probe, headed, asked, whole, PutCase}

question-is_put : QuestionPut headed question asked
unfolding same_bytes labels_fill form_for is_shaped name_at from_run read_from piece_at stands_at place_of cut_from name_bytes starts name_places fit_record put_name data_bytes data_places put_fields name_fits record_fits labels_for
question-is_put = question_put (record { end = asked.at; count = asked.count }) asked.out asked.places (record { answer = refl; bytes = refl; places = refl })

record_is_put : RecordPut false asked address whole
unfolding same_bytes labels_fill form_for is_shaped name_at from_run read_from piece_at stands_at place_of cut_from name_bytes starts name_places fit_record put_name data_bytes data_places put_fields name_fits record_fits labels_for
record_is_put = record_put (record { end = whole.at; count = whole.count }) whole.out whole.places (record { answer = refl; bytes = refl; places = refl })

forty_four : whole.at ≡ 44
unfolding same_bytes labels_fill form_for is_shaped name_at from_run read_from piece_at stands_at place_of cut_from name_bytes starts name_places fit_record put_name data_bytes data_places put_fields name_fits record_fits labels_for
forty_four = refl

begun : held headed ≡ header probe
begun = refl

pub put_case : PutCase
put_case = record {
  put = record {
    asked = asked;
    answered = asked;
    authorized = whole;
    headed = begun;
    questions = one_more question-is_put no_more;
    answers = no_more;
    authorities = one_more record_is_put no_more;
    additionals = no_more;
  };
  plain = refl;
  most = omega (arith, forty_four);
}
