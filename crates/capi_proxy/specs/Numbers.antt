-- The answers of the proxy in numbers. Assumes nothing: these are definitions.
use Rattle.std.specs.Prelude.{ℕ, List, true, false, replicate, Option, Some, None, Result, Ok, Err}
use Rattle.wire.specs.refusals.Numbers.{number_of}
use Rattle.wire.specs.declared.refusals.Refusal.{Refusal}
use Rattle.wire.specs.rdata.Rdata.{form_of}
use Rattle.proxy.specs.declared.domains.Moved.{Moved}
use Rattle.proxy.specs.declared.records.Fields.{Fields}
use Rattle.proxy.specs.declared.records.Passed.{Passed}
use Rattle.capi_proxy.specs.declared.QuestionNumbers.{QuestionNumbers}
use Rattle.capi_proxy.specs.declared.RecordNumbers.{RecordNumbers}

-- what becomes of a question
abbrev pub question_numbers : Result (Option Moved) Refusal → QuestionNumbers
question_numbers (Ok (Some m)) = record { refusal = 0; negative = false; length = m.len; name = m.bytes }
question_numbers (Ok None) = record { refusal = 0; negative = true; length = 0; name = replicate 255 0 }
question_numbers (Err refusal) = record { refusal = number_of refusal; negative = false; length = 0; name = replicate 255 0 }

-- what becomes of a record: one that is left out is neither passed on nor refused
abbrev pub refused_numbers : ℕ → RecordNumbers
refused_numbers n = record {
  refusal = n;
  passed = false;
  named = false;
  rtype = 0;
  class = 0;
  ttl = 0;
  owner_length = 0;
  rdata_length = 0;
  owner = replicate 255 0;
  rdata = replicate 261 0;
}

abbrev pub field_numbers : Fields → List ℕ → List ℕ → RecordNumbers
field_numbers f owner rdata = record {
  refusal = 0;
  passed = true;
  named = (form_of f.rtype).named;
  rtype = f.rtype;
  class = f.class;
  ttl = f.ttl;
  owner_length = f.owner;
  rdata_length = f.rdata;
  owner = owner;
  rdata = rdata;
}

abbrev pub record_numbers : Result (Option Passed) Refusal → RecordNumbers
record_numbers (Ok (Some x)) = field_numbers x.fields x.owner x.rdata
record_numbers (Ok None) = refused_numbers 0
record_numbers (Err refusal) = refused_numbers (number_of refusal)
