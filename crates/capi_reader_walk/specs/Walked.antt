-- A question and a record of a message, in numbers. Assumes nothing: these are definitions.
use Rattle.std.specs.Prelude.{ℕ, ◌+◌, ◌≡◌, refl, List, Bool, true, false, cond, ◌&&◌, length, leb, Option, Some, None}
use Rattle.std.proofs.Common.{sym, ap, ◌∙◌}
use Rattle.wire.specs.octets.Octets.{word16, word32}
use Rattle.wire.specs.names.Names.{Reading, name, name_at}
use Rattle.wire.specs.names.Answers.{span_of}
use Rattle.wire.specs.declared.message.RecordAt.{RecordAt}
use Rattle.wire.specs.message.Message.{ttl_of}
use Rattle.wire.specs.message.Layout.{record_from, record_read}
use Rattle.wire.specs.declared.message.QuestionAt.{QuestionAt}
use Rattle.capi_reader_walk.specs.declared.Question.{Question}
use Rattle.capi_reader_walk.specs.declared.Record.{Record}
use Rattle.capi_reader_walk.specs.declared.Fields.{Fields}

-- a question and a record as they lie; all is 0 where none is found
abbrev pub walked_question : Option QuestionAt → Question
walked_question (Some x) = record {
  found = true;
  rtype = x.rtype;
  class = x.class;
  name = x.name;
  name_length = x.span.len;
  name_labels = x.span.labels;
  name_first_label = x.span.first;
  next = x.next;
}
walked_question None =
    record { found = false; rtype = 0; class = 0; name = 0; name_length = 0; name_labels = 0; name_first_label = 0; next = 0 }

abbrev pub walked_record : Option RecordAt → Record
walked_record (Some x) = record {
  found = true;
  rtype = x.rtype;
  class = x.class;
  ttl = x.ttl;
  owner = x.owner;
  owner_length = x.span.len;
  owner_labels = x.span.labels;
  owner_first_label = x.span.first;
  rdata = x.rdata;
  rdata_length = x.rdlength;
  next = x.next;
}
walked_record None = record {
  found = false;
  rtype = 0;
  class = 0;
  ttl = 0;
  owner = 0;
  owner_length = 0;
  owner_labels = 0;
  owner_first_label = 0;
  rdata = 0;
  rdata_length = 0;
  next = 0;
}

-- what stands behind an owner that ends at `e`: type, class, TTL and the length of the rdata, in ten bytes, and the rdata
abbrev pub no_fields : Fields
no_fields = record { found = false; rtype = 0; class = 0; ttl = 0; rdata = 0; rdata_length = 0; next = 0 }

unfoldable pub fields_at : List ℕ → ℕ → Fields
fields_at p e =
    cond (leb (e + 10) (length p) && leb (e + 10 + word16 p (e + 8)) (length p))
    (record {
      found = true;
      rtype = word16 p e;
      class = word16 p (e + 2);
      ttl = ttl_of (word32 p (e + 4));
      rdata = e + 10;
      rdata_length = word16 p (e + 8);
      next = e + 10 + word16 p (e + 8);
    })
    no_fields

-- a record without its owner
abbrev pub fields_of : Record → Fields
fields_of r = record {
  found = r.found;
  rtype = r.rtype;
  class = r.class;
  ttl = r.ttl;
  rdata = r.rdata;
  rdata_length = r.rdata_length;
  next = r.next;
}

-- it is what stands behind the owner
pub of_record : (p : List ℕ) (at : ℕ) (bs : List ℕ) (e : ℕ) → name_at p at ≡ name bs e → fields_at p e ≡ fields_of (walked_record (record_read p at))
unfolding record_read fields_at
of_record p at bs e h =
    go (leb (e + 10) (length p) && leb (e + 10 + word16 p (e + 8)) (length p)) ∙ sym (ap (λ (x : Reading). fields_of (walked_record (record_from p at x))) h)
  where
    found : RecordAt
    found = record {
      owner = at;
      span = span_of bs e;
      rtype = word16 p e;
      class = word16 p (e + 2);
      ttl = ttl_of (word32 p (e + 4));
      rdata = e + 10;
      rdlength = word16 p (e + 8);
      next = e + 10 + word16 p (e + 8);
    }

    go : (b : Bool) → cond b (fields_of (walked_record (Some found))) no_fields ≡ fields_of (walked_record (cond b (Some found) None))
    go true = refl
    go false = refl
