-- What the private functions ask of a question and of a record as they lie: that a walk met them in the packet. Assumes nothing: these are definitions.
use Rattle.std.specs.Prelude.{ℕ, ◌≡◌, List, length, Option, Some, None, Bool}
use Rattle.wire.specs.case_folding.Fold.{same_name}
use Rattle.wire.specs.names.Names.{name, name_at}
use Rattle.wire.specs.names.Answers.{name_is}
use Rattle.wire.specs.rdata.Rdata.{rdata, rdata_at}
use Rattle.wire.specs.message.Layout.{item, broken, question_at, record_at}
use Rattle.wire.specs.Lists.{some}
use Rattle.wire.specs.message.Message.{Record}
use Rattle.wire.specs.declared.message.Section.{Section}
use Rattle.wire.specs.message.Readable.{readable, question_shown, record_shown}
use Rattle.wire.specs.declared.message.QuestionAt.{QuestionAt}
use Rattle.wire.specs.declared.message.RecordAt.{RecordAt}

-- the name at an offset has so many bytes
abbrev pub Long : List ℕ → ℕ → ℕ → Type 0
Long p at len = (bs : List ℕ) × ((e : ℕ) × ((name_at p at ≡ name bs e) × (len ≡ length bs)))

-- the same where the length is known; 0 is the length of no name
abbrev pub LongIfKnown : List ℕ → ℕ → ℕ → Type 0
LongIfKnown p at len = (len ≡ 0 → ⊥) → Long p at len

-- a question as it lies at an offset, and a record, its rdata as its type asks
pub record QuestionSeen (p : List ℕ) (at : ℕ) (f : QuestionAt) : Type 0 where
  pub here : question_at p at ≡ item (question_shown p f) f.next
  pub named : (other : List ℕ) → name_is p f.name other ≡ same_name (question_shown p f).name other
  pub long : LongIfKnown p f.name f.span.len

pub record RecordSeen (p : List ℕ) (at : ℕ) (f : RecordAt) : Type 0 where
  pub here : record_at p at ≡ item (record_shown p f) f.next
  pub named : (other : List ℕ) → name_is p f.owner other ≡ same_name (record_shown p f).owner other
  pub long : LongIfKnown p f.owner f.span.len
  pub content : rdata_at p f ≡ rdata (record_shown p f).rdata

abbrev pub QuestionFound : List ℕ → QuestionAt → Type 0
QuestionFound p f = (at : ℕ) × QuestionSeen p at f

abbrev pub RecordFound : List ℕ → RecordAt → Type 0
RecordFound p f = (at : ℕ) × RecordSeen p at f

-- what a step of a walk finds at an offset
abbrev pub QuestionStep : List ℕ → ℕ → Option QuestionAt → Type 0
QuestionStep p at (Some f) = QuestionSeen p at f
QuestionStep p at None = question_at p at ≡ broken

abbrev pub RecordStep : List ℕ → ℕ → Option RecordAt → Type 0
RecordStep p at (Some f) = RecordSeen p at f
RecordStep p at None = record_at p at ≡ broken

-- what the answer of a test on the records of a section says: it is that of each test of what they show that the one of the code comes to
abbrev pub RecordPassed : (RecordAt → Bool → Type 0) → List ℕ → Section → Bool → Type 0
RecordPassed post p s result =
    (passes : Record → Bool) → ((f : RecordAt) (b : Bool) → RecordFound p f → post f b → b ≡ passes (record_shown p f))
    → result ≡ some passes (readable (record_at p) s.count s.at)
