-- What a message says: questions and records as lists, names and rdata expanded. Callers reason about these; where the bytes of each lie is in
-- Layout.antt. Assumes nothing: these are definitions.
use Rattle.std.specs.Prelude.{ℕ, ◌%◌, List, ◌++◌, Bool, cond, leb}

-- a question: the name asked for, uncompressed, its type, and its class as on the wire
pub record Question : Type 0 where
  pub name : List ℕ
  pub rtype : ℕ
  pub class : ℕ

-- a record: its owner, uncompressed; its type; its class as on the wire, the top bit with it; its TTL as it counts; its rdata, names expanded
pub record Record : Type 0 where
  pub owner : List ℕ
  pub rtype : ℕ
  pub class : ℕ
  pub ttl : ℕ
  pub rdata : List ℕ

-- a record from its fields
abbrev pub record_of : List ℕ → ℕ → ℕ → ℕ → List ℕ → Record
record_of owner rtype class ttl d = record { owner = owner; rtype = rtype; class = class; ttl = ttl; rdata = d }

-- a message: the header's ID and flags, and the four sections
pub record Message : Type 0 where
  pub id : ℕ
  pub flags : ℕ
  pub questions : List Question
  pub answers : List Record
  pub authorities : List Record
  pub additionals : List Record

-- "Class means the low 15 bits."
abbrev pub class_of : ℕ → ℕ
class_of class = class % 32768

-- the top bit of a class: in a record, the cache flush bit
abbrev pub top_bit : ℕ → Bool
top_bit class = leb 32768 (class % 65536)

-- "A TTL with its top bit set counts as 0 everywhere."
abbrev pub ttl_of : ℕ → ℕ
ttl_of ttl = cond (leb 2147483648 ttl) 0 ttl

-- the header's QR bit: a response, and no query
abbrev pub is_response : ℕ → Bool
is_response flags = leb 32768 flags

-- the records of all three record sections, in message order
abbrev pub all_records : Message → List Record
all_records m = m.answers ++ (m.authorities ++ m.additionals)
