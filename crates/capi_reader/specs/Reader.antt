-- What the exported functions answer. Assumes nothing: these are definitions.
use Rattle.std.specs.Prelude.{ℕ, ◌-◌, ◌++◌, cond, length, replicate, leb, Result, Ok, Err}
use Rattle.wire.specs.labels.Counted.{labels_in, first_in}
use Rattle.wire.specs.names.Names.{Reading, name, malformed}
use Rattle.wire.specs.refusals.Numbers.{number_of}
use Rattle.wire.specs.declared.message.Layout.{Layout}
use Rattle.wire.specs.declared.refusals.Refusal.{Refusal}
use Rattle.capi_reader.specs.declared.Name.{Name}
use Rattle.capi_reader.specs.declared.NameSpan.{NameSpan}
use Rattle.capi_reader.specs.declared.Sections.{Sections}

-- for a name 0 stands for a malformed one, since no name ends at offset 0 or has no byte

abbrev pub end_of : Reading → ℕ
end_of (name bs e) = e
end_of malformed = 0

abbrev pub length_of : Reading → ℕ
length_of (name bs e) = length bs
length_of malformed = 0

abbrev pub name_of : Reading → Name
name_of (name bs e) =
    record { length = length bs; labels = labels_in bs; first_label = first_in bs; bytes = bs ++ replicate (255 - length bs) 0 }
name_of malformed = record { length = 0; labels = 0; first_label = 0; bytes = replicate 255 0 }

-- the span of a name that is written into so many bytes; all is 0 where it is malformed or longer
abbrev pub no_span : NameSpan
no_span = record { end = 0; length = 0; labels = 0; first_label = 0 }

abbrev pub span_within : ℕ → Reading → NameSpan
span_within room (name bs e) =
    cond (leb (length bs) room) (record { end = e; length = length bs; labels = labels_in bs; first_label = first_in bs }) no_span
span_within room malformed = no_span

-- where the parts of a message lie; all is 0 but the refusal where there is one
abbrev pub sections_of : Result Layout Refusal → Sections
sections_of (Ok l) = record {
  refusal = 0;
  id = l.id;
  flags = l.flags;
  questions = l.questions.count;
  answers = l.answers.count;
  authorities = l.authorities.count;
  additionals = l.additionals.count;
  questions_at = l.questions.at;
  answers_at = l.answers.at;
  authorities_at = l.authorities.at;
  additionals_at = l.additionals.at;
  end = l.end;
}
sections_of (Err refusal) = record {
  refusal = number_of refusal;
  id = 0;
  flags = 0;
  questions = 0;
  answers = 0;
  authorities = 0;
  additionals = 0;
  questions_at = 0;
  answers_at = 0;
  authorities_at = 0;
  additionals_at = 0;
  end = 0;
}
