-- The rdata of a record, as a part of a message that a caller names by its offset and length; what ends past the message is no part.
-- Assumes nothing: these are definitions.
use Rattle.std.specs.Prelude.{ℕ, ◌-◌, List, [], ◌++◌, true, false, cond, length, take, drop, replicate, eqb, Option, Some, None}
use Rattle.wire.specs.refusals.Numbers.{MALFORMED}
use Rattle.wire.specs.names.Names.{name_at}
use Rattle.wire.specs.declared.names.Span.{Span}
use Rattle.wire.specs.rdata.Rdata.{next_form}
use Rattle.wire.specs.rdata.Readers.{address_in, name_in, srv_in}
use Rattle.wire.specs.declared.rdata.Form.{Form}
use Rattle.wire.specs.declared.rdata.StringRead.{StringRead}
use Rattle.wire.specs.declared.rdata.StringRead.TheVariants as str
use Rattle.wire.specs.declared.rdata.SrvAt.{SrvAt}
use Rattle.capi_reader_walk.specs.declared.Address.{Address}
use Rattle.capi_reader_walk.specs.declared.Srv.{Srv}
use Rattle.capi_reader_walk.specs.declared.Nsec.{Nsec}
use Rattle.capi_reader_walk.specs.declared.Text.{Text}

abbrev pub part_of : List ℕ → ℕ → ℕ → List ℕ
part_of p at len = take len (drop at p)

-- the address in a part; no byte where there is none
abbrev pub address_at : List ℕ → ℕ → ℕ → ℕ → List ℕ
address_at p rtype at len = cond (eqb (length (part_of p at len)) len) (address_in rtype (part_of p at len)) []

abbrev pub address_of : List ℕ → Address
address_of a = record { length = length a; bytes = a ++ replicate (16 - length a) 0 }

-- the SRV in a part; all is 0 where there is none
abbrev pub srv_at : List ℕ → ℕ → ℕ → Option SrvAt
srv_at p at len = cond (eqb (length (part_of p at len)) len) (srv_in p at (part_of p at len)) None

abbrev pub srv_of : Option SrvAt → Srv
srv_of (Some s) = record {
  found = true;
  priority = s.priority;
  weight = s.weight;
  port = s.port;
  target = s.target;
  target_length = s.span.len;
  target_labels = s.span.labels;
  target_first_label = s.span.first;
}
srv_of None =
    record { found = false; priority = 0; weight = 0; port = 0; target = 0; target_length = 0; target_labels = 0; target_first_label = 0 }

-- the NSEC of the restricted kind in a part, for the owner at an offset: the next name, and the window block behind it; all is 0 where there is none
abbrev pub no_nsec : Nsec
no_nsec = record { found = false; next = 0; next_length = 0; next_labels = 0; next_first_label = 0; block = 0; block_length = 0 }

abbrev pub nsec_of : ℕ → ℕ → Option Span → Nsec
nsec_of at behind (Some s) = record {
  found = true;
  next = at;
  next_length = s.len;
  next_labels = s.labels;
  next_first_label = s.first;
  block = s.end;
  block_length = behind;
}
nsec_of at behind None = no_nsec

abbrev pub nsec_with : List ℕ → ℕ → List ℕ → Form → Nsec
nsec_with p at d g = cond g.named (nsec_of at g.behind (name_in p at d 0 g.behind)) no_nsec

abbrev pub nsec_at : List ℕ → ℕ → ℕ → ℕ → Nsec
nsec_at p owner at len =
    cond (eqb (length (part_of p at len)) len) (nsec_with p at (part_of p at len) (next_form p owner at (part_of p at len) (name_at p at))) no_nsec

-- a string of a TXT, with the specification's number for each answer; all else is 0 where there is none
abbrev pub string_of : StringRead → Text
string_of (str.Found s) = record { refusal = 0; found = true; text = s.text; length = s.len; next = s.next }
string_of str.End = record { refusal = 0; found = false; text = 0; length = 0; next = 0 }
string_of str.Malformed = record { refusal = MALFORMED; found = false; text = 0; length = 0; next = 0 }
