-- What a section shows, of any layout: "The four sections by their counts" (specification, 'Reading a message'), each as far as it is well formed. Who
-- walks a section of a layout, whatever that layout is, meets exactly these questions and records. Assumes nothing: these are definitions.
use Rattle.std.specs.Prelude.{ℕ, zero, suc, List, [], ◌∷◌, cond, None, Option, Some}
use Rattle.wire.specs.names.Names.{name_at}
use Rattle.wire.specs.rdata.Rdata.{rdata_at}
use Rattle.wire.specs.rdata.Answers.{fits, data_of}
use Rattle.wire.specs.message.Message.{Question, Record, record_of, Message}
use Rattle.wire.specs.message.Layout.{Item, item, broken, bytes_of, question_at, record_read, record_at}
use Rattle.wire.specs.declared.message.QuestionAt.{QuestionAt}
use Rattle.wire.specs.declared.message.RecordAt.{RecordAt}
use Rattle.wire.specs.declared.message.Layout.{Layout}

-- The items of a section as far as they are well formed.
abbrev pub and_more : {A : Type 0} → (ℕ → List A) → Item A → List A
and_more rest (item x next) = x ∷ rest next
and_more rest broken = []

unfoldable pub readable : {A : Type 0} → (ℕ → Item A) → ℕ → ℕ → List A
readable part zero at = []
readable part (suc n) at = and_more (readable part n) (part at)

-- The message that a layout shows in a packet. Of the layout that `read_message` gave it is the message that was read (`layout-shows` in
-- proofs/message/Walk.antt); a section of any other layout is as much of it as is well formed.
unfoldable pub message_in : List ℕ → Layout → Message
message_in p l = record {
  id = l.id;
  flags = l.flags;
  questions = readable (question_at p) l.questions.count l.questions.at;
  answers = readable (record_at p) l.answers.count l.answers.at;
  authorities = readable (record_at p) l.authorities.count l.authorities.at;
  additionals = readable (record_at p) l.additionals.count l.additionals.at;
}

-- the record at an offset as it lies, if its rdata is as its type asks
abbrev pub whole_from : List ℕ → (Option RecordAt) → Option RecordAt
whole_from p (Some f) = cond (fits (rdata_at p f)) (Some f) None
whole_from p None = None

unfoldable pub whole_read : List ℕ → ℕ → Option RecordAt
whole_read p at = whole_from p (record_read p at)

-- what a question and a record as they lie say: of those that were found at an offset, the question and the record there
abbrev pub question_shown : List ℕ → QuestionAt → Question
question_shown p f = record { name = bytes_of (name_at p f.name); rtype = f.rtype; class = f.class }

abbrev pub record_shown : List ℕ → RecordAt → Record
record_shown p f = record_of (bytes_of (name_at p f.owner)) f.rtype f.class f.ttl (data_of (rdata_at p f))
