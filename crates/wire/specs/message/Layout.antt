-- How a message lies in a packet (specification, 'Reading a message'; RFC 1035, 4): "Header of 12 bytes, then the four sections by their counts; bytes
-- after the last record are ignored." Assumes nothing: these are definitions.
use Rattle.wire.specs.declared.message.QuestionAt.{QuestionAt}
use Rattle.wire.specs.declared.refusals.Refusal.{Refusal}
use Rattle.wire.specs.declared.refusals.Refusal.TheVariants.{Length, Header, Malformed}
use Rattle.std.specs.Prelude.{ℕ, zero, suc, ◌+◌, ◌/◌, ◌%◌, List, [], ◌∷◌, Bool, cond, not, ◌&&◌, ◌||◌, length, leb, ltb, eqb, Err, None, Ok, Option, Result, Some}
use Rattle.wire.specs.refusals.Numbers.{number_of}
use Rattle.wire.specs.octets.Octets.{word16, word32}
use Rattle.wire.specs.names.Names.{Reading, name, malformed, name_at}
use Rattle.wire.specs.names.Answers.{span_of}
use Rattle.wire.specs.rdata.Rdata.{Rdata, rdata, unfit, rdata_at}
use Rattle.wire.specs.message.Message.{Question, Record, record_of, Message, ttl_of}
use Rattle.wire.specs.declared.names.Span.{Span}
use Rattle.wire.specs.declared.message.RecordAt.{RecordAt}
use Rattle.wire.specs.declared.message.Layout.{Layout}

-- A question: a name, two bytes of type and two of class.
abbrev pub question_from : List ℕ → ℕ → Reading → Option QuestionAt
question_from p at (name bs e) =
    cond (leb (e + 4) (length p))
    (Some (record { name = at; span = span_of bs e; rtype = word16 p e; class = word16 p (e + 2); next = e + 4 }))
    None
question_from p at malformed = None

unfoldable pub question_read : List ℕ → ℕ → Option QuestionAt
question_read p at = question_from p at (name_at p at)

-- A record: a name, then type, class, TTL and the length of the rdata, in ten bytes, and the rdata "starting where the record's length field ends". First the
-- record whose owner lies at `at` and has a span that is known.
abbrev pub record_behind : List ℕ → ℕ → Span → Option RecordAt
record_behind p at s =
    cond (leb (s.end + 10) (length p) && leb (s.end + 10 + word16 p (s.end + 8)) (length p))
    (Some (record {
      owner = at;
      span = s;
      rtype = word16 p s.end;
      class = word16 p (s.end + 2);
      ttl = ttl_of (word32 p (s.end + 4));
      rdata = s.end + 10;
      rdlength = word16 p (s.end + 8);
      next = s.end + 10 + word16 p (s.end + 8);
    }))
    None

abbrev pub record_from : List ℕ → ℕ → Reading → Option RecordAt
record_from p at (name bs e) = record_behind p at (span_of bs e)
record_from p at malformed = None

unfoldable pub record_read : List ℕ → ℕ → Option RecordAt
record_read p at = record_from p at (name_at p at)

-- What stands at an offset of a section, with the offset past it; or what no well-formed message has there.
pub data Item (A : Type 0) : Type 0 where
  item : A → ℕ → Item A
  broken : Item A

-- the bytes of a name that was read
abbrev pub bytes_of : Reading → List ℕ
bytes_of (name bs e) = bs
bytes_of malformed = []

-- the question at an offset
abbrev pub question_meant : List ℕ → (Option QuestionAt) → Item Question
question_meant bs (Some f) = item (record { name = bs; rtype = f.rtype; class = f.class }) f.next
question_meant bs None = broken

unfoldable pub question_at : List ℕ → ℕ → Item Question
question_at p at = question_meant (bytes_of (name_at p at)) (question_read p at)

-- the record at an offset, its rdata as its type asks
abbrev pub with_rdata : List ℕ → RecordAt → Rdata → Item Record
with_rdata bs f (rdata d) = item (record_of bs f.rtype f.class f.ttl d) f.next
with_rdata bs f unfit = broken

abbrev pub record_meant : List ℕ → List ℕ → (Option RecordAt) → Item Record
record_meant p bs (Some f) = with_rdata bs f (rdata_at p f)
record_meant p bs None = broken

unfoldable pub record_at : List ℕ → ℕ → Item Record
record_at p at = record_meant p (bytes_of (name_at p at)) (record_read p at)

-- A section: so many items one after the other, and the offset past the last; or that one of them is broken.
pub data Listing (A : Type 0) : Type 0 where
  listing : List A → ℕ → Listing A
  cut : Listing A

abbrev pub first : {A : Type 0} → A → Listing A → Listing A
first x (listing xs e) = listing (x ∷ xs) e
first x cut = cut

abbrev pub and_on : {A : Type 0} → (ℕ → Listing A) → Item A → Listing A
and_on rest (item x next) = first x (rest next)
and_on rest broken = cut

unfoldable pub list_from : {A : Type 0} → (ℕ → Item A) → ℕ → ℕ → Listing A
list_from part zero at = listing [] at
list_from part (suc n) at = and_on (list_from part n) (part at)

-- the whole packet: what it says and where, or its refusal
pub data Reads : Type 0 where
  read : Layout → Message → Reads
  refused : Refusal → Reads

-- the header's opcode (4 bits) and RCODE (4 bits) are zero
abbrev pub plain_header : ℕ → Bool
plain_header flags = eqb (flags / 2048 % 16) 0 && eqb (flags % 16) 0

-- a section and what follows it, which begins where it ends; of a message that is cut there nothing more is read
unfoldable pub and_then : {A : Type 0} → Listing A → (List A → ℕ → Reads) → Reads
and_then (listing xs end) next = next xs end
and_then cut next = refused Malformed

-- the four sections by their counts: `a`, `b` and `c` are where the answers, the authorities and the additionals begin
abbrev pub sections_of : List ℕ → Reads
sections_of p =
    and_then (list_from (question_at p) (word16 p 4) 12) (λ qs a.
    and_then (list_from (record_at p) (word16 p 6) a) (λ an b.
    and_then (list_from (record_at p) (word16 p 8) b) (λ ns c.
    and_then (list_from (record_at p) (word16 p 10) c) (λ ar e. read
    (record {
      id = word16 p 0;
      flags = word16 p 2;
      questions = record { at = 12; count = word16 p 4 };
      answers = record { at = a; count = word16 p 6 };
      authorities = record { at = b; count = word16 p 8 };
      additionals = record { at = c; count = word16 p 10 };
      end = e;
    })
    (record { id = word16 p 0; flags = word16 p 2; questions = qs; answers = an; authorities = ns; additionals = ar })))))

-- 4: "message under 12 or over 8,972 bytes"
abbrev pub wrong_length : List ℕ → Bool
wrong_length p = ltb (length p) 12 || ltb 8972 (length p)

-- 5: "opcode or RCODE not zero"
abbrev pub wrong_header : List ℕ → Bool
wrong_header p = not (plain_header (word16 p 2))

-- the whole message, refused as 4, 5 or 6, in this order
unfoldable pub message_at : List ℕ → Reads
message_at p = cond (wrong_length p) (refused Length) (cond (wrong_header p) (refused Header) (sections_of p))

-- the answer of `read_message`
abbrev pub read_of : Reads → Result Layout Refusal
read_of (read l says) = Ok l
read_of (refused refusal) = Err refusal

-- The specification's number for each answer: 0 where nothing is refused
abbrev pub refusal_of : (Result Layout Refusal) → ℕ
refusal_of (Ok l) = 0
refusal_of (Err refusal) = number_of refusal
