-- A message written by calls of `writer::put_question` and `writer::put_record`, front to back behind a header, each of which says that it has put what it was
-- given (its contract, `Placing`). Assumes nothing: these are definitions.
use Rattle.std.specs.Prelude.{ℕ, ◌≡◌, List, [], ◌∷◌, Bool, Ok}
use Rattle.wire.specs.names.Names.{is_name}
use Rattle.wire.specs.message.Message.{Question, Record, Message}
use Rattle.writer.specs.declared.Spot.{Spot}
use Rattle.writer.specs.declared.Room.{Room}
use Rattle.writer.specs.Fit.{fit_record}
use Rattle.writer.specs.Items.{Writing, put_question, put_record}
use Rattle.writer.specs.Writer.{held_in, room_in, question_fits, record_fits, Placing}
use Rattle.writer.specs.own_packets.Packets.{header}

-- a lent buffer with `at` bytes of a packet in front, and its table with `count` places noted
pub record Buffers : Type 0 where
  pub out : List ℕ
  pub places : List ℕ
  pub at : ℕ
  pub count : ℕ

abbrev pub held : Buffers → Writing
held b = held_in b.out b.places b.at b.count

abbrev pub left : Buffers → Room
left b = room_in b.out b.places b.at b.count

-- a call that has put its question or its record
pub data QuestionPut (b : Buffers) (q : Question) : Buffers → Type 0 where
  question_put : (spot : Spot) (o pl : List ℕ)
      → Placing (is_name q.name) (question_fits (left b) q.name) (put_question (held b) q) b.out b.places (Ok spot) o pl
      → QuestionPut b q (record { out = o; places = pl; at = spot.end; count = spot.count })

pub data RecordPut (whole : Bool) (b : Buffers) (r : Record) : Buffers → Type 0 where
  record_put : (spot : Spot) (o pl : List ℕ)
      → Placing (fit_record r.owner r.rtype r.ttl r.rdata) (record_fits (left b) r.owner r.rtype r.rdata)
      (put_record whole (held b) r) b.out b.places (Ok spot) o pl
      → RecordPut whole b r (record { out = o; places = pl; at = spot.end; count = spot.count })

-- one after the other
pub data AllPut {A : Type 0} (Put : Buffers → A → Buffers → Type 0) : Buffers → List A → Buffers → Type 0 where
  no_more : {b : Buffers} → AllPut Put b [] b
  one_more : {b c e : Buffers} {x : A} {xs : List A} → Put b x c → AllPut Put c xs e → AllPut Put b (x ∷ xs) e

-- the four sections, behind a header that stands in front of the buffer
pub record MessagePut (whole : Bool) (m : Message) (b e : Buffers) : Type 0 where
  pub asked : Buffers
  pub answered : Buffers
  pub authorized : Buffers
  pub headed : held b ≡ header m
  pub questions : AllPut QuestionPut b m.questions asked
  pub answers : AllPut (RecordPut whole) asked m.answers answered
  pub authorities : AllPut (RecordPut whole) answered m.authorities authorized
  pub additionals : AllPut (RecordPut whole) authorized m.additionals e
