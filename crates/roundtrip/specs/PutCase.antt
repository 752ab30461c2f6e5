-- Calls to which `message-put-back` applies, so that it is not about nothing: the question and the record of the sample's probe, put one after the other into 64
-- bytes. Proved in proofs/PutCase.antt. Assumes nothing: these are definitions.
use Rattle.std.specs.Prelude.{◌≤◌, ◌≡◌, true, false, [], ◌∷◌, ◌++◌, length, drop, replicate}
use Rattle.wire.specs.message.Message.{Question, Record, Message}
use Rattle.wire.specs.message.Layout.{plain_header}
use Rattle.writer.specs.Items.{Writing, put_question, put_record}
use Rattle.writer.specs.own_packets.Packets.{header}
use Rattle.roundtrip.specs.Puts.{Buffers, held, MessagePut}

-- "dock.local" with type 255 and class 0x8001, and its address
abbrev pub question : Question
question = record { name = 4 ∷ 100 ∷ 111 ∷ 99 ∷ 107 ∷ 5 ∷ 108 ∷ 111 ∷ 99 ∷ 97 ∷ 108 ∷ 0 ∷ []; rtype = 255; class = 0x8001 }

abbrev pub address : Record
address = record { owner = question.name; rtype = 1; class = 1; ttl = 120; rdata = 10 ∷ 0 ∷ 0 ∷ 7 ∷ [] }

abbrev pub probe : Message
probe = record { id = 0; flags = 0; questions = question ∷ []; answers = []; authorities = address ∷ []; additionals = [] }

-- the buffers after a call
abbrev pub after : Buffers → Writing → Buffers
after b v = record {
  out = v.bytes ++ drop (length v.bytes) b.out;
  places = v.places ++ drop (length v.places) b.places;
  at = length v.bytes;
  count = length v.places;
}

abbrev pub headed : Buffers
headed = record { out = (header probe).bytes ++ replicate 52 0; places = replicate 4 0; at = 12; count = 0 }

abbrev pub asked : Buffers
asked = after headed (put_question (held headed) question)

abbrev pub whole : Buffers
whole = after asked (put_record false (held asked) address)

-- `put-case`
pub record PutCase : Type 0 where
  pub put : MessagePut false probe headed whole
  pub plain : plain_header probe.flags ≡ true
  pub most : whole.at ≤ 8972
