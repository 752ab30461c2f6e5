-- Messages that can be written: those of which the general writer puts each question and each record; and where their parts lie in the packet.
-- Assumes nothing: these are definitions.
use Rattle.std.specs.Prelude.{◌≡◌, List, [], ◌∷◌, Bool, true, length}
use Rattle.wire.specs.names.Names.{is_name}
use Rattle.wire.specs.message.Message.{Question, Record, Message}
use Rattle.wire.specs.message.Layout.{plain_header}
use Rattle.wire.specs.declared.message.Layout.{Layout}
use Rattle.writer.specs.Fit.{fit_record}
use Rattle.writer.specs.Items.{Writing, put_question, put_record}
use Rattle.writer.specs.own_packets.Packets.{header, put_all, packet_of}

-- what the general writer puts: it answers `Unfit` to any other
abbrev pub IsQuestion : Question → Type 0
IsQuestion q = is_name q.name ≡ true

abbrev pub IsRecord : Record → Type 0
IsRecord r = fit_record r.owner r.rtype r.ttl r.rdata ≡ true

-- each of a list is so
pub data Each {A : Type 0} (Ok : A → Type 0) : List A → Type 0 where
  none : Each Ok []
  one : {x : A} {xs : List A} → Ok x → Each Ok xs → Each Ok (x ∷ xs)

pub record Writable (m : Message) : Type 0 where
  pub plain : plain_header m.flags ≡ true
  pub questions : Each IsQuestion m.questions
  pub answers : Each IsRecord m.answers
  pub authorities : Each IsRecord m.authorities
  pub additionals : Each IsRecord m.additionals

-- the packet up to the end of each section; with `whole` the targets of SRV records are not cut
abbrev pub to_questions : Message → Writing
to_questions m = put_all put_question (header m) m.questions

abbrev pub to_answers : Bool → Message → Writing
to_answers whole m = put_all (put_record whole) (to_questions m) m.answers

abbrev pub to_authorities : Bool → Message → Writing
to_authorities whole m = put_all (put_record whole) (to_answers whole m) m.authorities

-- where the parts of a message lie in its packet
abbrev pub layout_of : Bool → Message → Layout
layout_of whole m = record {
  id = m.id;
  flags = m.flags;
  questions = record { at = 12; count = length m.questions };
  answers = record { at = length (to_questions m).bytes; count = length m.answers };
  authorities = record { at = length (to_answers whole m).bytes; count = length m.authorities };
  additionals = record { at = length (to_authorities whole m).bytes; count = length m.additionals };
  end = length (packet_of whole m);
}
