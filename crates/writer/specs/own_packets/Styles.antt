-- How packets of own records differ (specification, 'Writing a packet'): the header, a question in front, the section, TTLs, the class's top bit, and
-- whether the target of the SRV is cut. Assumes nothing: these are definitions.
use Rattle.std.specs.Prelude.{ℕ, List, [], ◌∷◌, map, true, false, cond, Option, Some, None}
use Rattle.claims.specs.records.Own.{own_type, own_class, own_ttl}
use Rattle.claims.specs.declared.records.Own.{Own}
use Rattle.wire.specs.message.Message.{Question, Record, Message}
use Rattle.own.specs.declared.records.Setup.{Setup}
use Rattle.own.specs.records.Records.{own_name, own_rdata}
use Rattle.writer.specs.Writer.{question_of}
use Rattle.writer.specs.own_packets.Packets.{packet_of}
use Rattle.writer.specs.declared.own_packets.Asked.{Asked}
use Rattle.writer.specs.declared.own_packets.Style.{Style}

-- "Responses have flags 0x8400"; the ID is 0 to all, and "Unicast answers carry the query's ID"
abbrev pub response_style : ℕ → Style
response_style id = record {
  id = id;
  flags = 0x8400;
  asks = None;
  authority = false;
  ttl = None;
  flush = true;
  whole = false;
}

-- "ID 0. .. probes 0."; "A probe is one question (type 255, ..) with the claim's records in Authority, .. class 1."; "Our own probes now set the bit" of the
-- question's class
abbrev pub probe_style : Style
probe_style = record {
  id = 0;
  flags = 0;
  asks = Some (record { qtype = 255; qclass = 0x8001 });
  authority = true;
  ttl = None;
  flush = false;
  whole = false;
}

-- A reply to a plain resolver: "its ID and question bytes repeated, TTL 10, the records' top class bit clear, an SRV target uncompressed".
abbrev pub plain_style : ℕ → ℕ → ℕ → Style
plain_style id qtype qclass = record {
  id = id;
  flags = 0x8400;
  asks = Some (record { qtype = qtype; qclass = qclass });
  authority = false;
  ttl = Some 10;
  flush = false;
  whole = true;
}

-- "class 0x8001, PTR 1", or 1 for all
abbrev pub class_in : Style → Own → ℕ
class_in style o = cond style.flush (own_class o) 1

-- each record's own TTL, or one for all
abbrev pub ttl_in : Option ℕ → Own → ℕ
ttl_in None o = own_ttl o
ttl_in (Some ttl) o = ttl

-- an own record in a style
unfoldable pub own_record : Setup → Style → Own → Record
own_record s style o = record { owner = own_name s o; rtype = own_type o; class = class_in style o; ttl = ttl_in style.ttl o; rdata = own_rdata s o }

-- the question for a name, where the style asks one
abbrev pub questions_of : Option Asked → List ℕ → List Question
questions_of None name = []
questions_of (Some a) name = question_of name a.qtype a.qclass ∷ []

abbrev pub asked : Style → List ℕ → List Question
asked style name = questions_of style.asks name

-- the message of own records in a style, and its packet
abbrev pub styled_message : Setup → Style → List ℕ → List Own → Message
styled_message s style name os = record {
  id = style.id;
  flags = style.flags;
  questions = asked style name;
  answers = cond style.authority [] (map (own_record s style) os);
  authorities = cond style.authority (map (own_record s style) os) [];
  additionals = [];
}

abbrev pub packet_in : Setup → Style → List ℕ → List Own → List ℕ
packet_in s style name os = packet_of style.whole (styled_message s style name os)
