-- A question and a record as bytes behind a packet (specification, 'Writing a packet': "Every name, SRV and PTR rdata too, is cut at its longest suffix of
-- whole labels that stands earlier byte for byte in a name of the packet (never in TXT or other data)"; RFC 1035, 4.1.2 and 4.1.3). Both are the
-- reader's own: names and rdata expanded. Assumes nothing: these are definitions.
use Rattle.std.specs.Prelude.{ℕ, ◌+◌, ◌/◌, ◌%◌, List, [], ◌∷◌, ◌++◌, Bool, cond, ◌&&◌, length, take, eqb}
use Rattle.wire.specs.declared.rdata.Form.{Form}
use Rattle.writer.specs.Fit.{form_for, held_name, held_behind}
use Rattle.writer.specs.compression.Compression.{name_bytes, name_places}
use Rattle.wire.specs.message.Message.{Question, Record}

-- A packet under construction: its bytes, and the offsets at which labels of its names start.
pub record Writing : Type 0 where
  pub bytes : List ℕ
  pub places : List ℕ

-- numbers, most significant byte first
abbrev pub u16 : ℕ → List ℕ
u16 n = (n / 256) ∷ (n % 256) ∷ []

abbrev pub u32 : ℕ → List ℕ
u32 n = u16 (n / 65536) ++ u16 (n % 65536)

-- a name, cut at its longest suffix that stands earlier
unfoldable pub put_name : Writing → List ℕ → Writing
put_name w name = record {
  bytes = w.bytes ++ name_bytes w.bytes w.places name;
  places = w.places ++ name_places w.bytes w.places (length w.bytes) name;
}

-- "Every name, SRV and PTR rdata too": rdata of a form in a packet `p` whose names have labels at the offsets `os`; in TXT and other data no name stands
unfoldable pub data_bytes : List ℕ → List ℕ → Form → List ℕ → List ℕ
data_bytes p os g d = cond g.named (take g.before d ++ (name_bytes p os (held_name g d) ++ held_behind g d)) d

unfoldable pub data_places : List ℕ → List ℕ → ℕ → Form → List ℕ → List ℕ
data_places p os at g d = cond g.named (name_places p os (at + g.before) (held_name g d)) []

-- type, class, TTL and the length of the rdata
abbrev pub fields : ℕ → ℕ → ℕ → ℕ → List ℕ
fields rtype class ttl n = u16 rtype ++ u16 class ++ u32 ttl ++ u16 n

-- the offsets at which the name in rdata is looked for: all, but none where the target of an SRV (33) is to be written whole
abbrev pub searched : Bool → ℕ → List ℕ → List ℕ
searched whole rtype os = cond (whole && eqb rtype 33) [] os

abbrev pub tried_for : Bool → ℕ → ℕ → ℕ
tried_for whole rtype count = cond (whole && eqb rtype 33) 0 count

-- what follows the owner's name: ten bytes, in which no name stands, and the rdata, whose name is cut by what stands up to the owner's name
unfoldable pub put_fields : Bool → Writing → Record → Writing
put_fields whole w r =
    let os : List ℕ = searched whole r.rtype w.places in
    let g : Form = form_for r.owner r.rtype r.rdata in
    let d : List ℕ = data_bytes w.bytes os g r.rdata in record {
      bytes = w.bytes ++ (fields r.rtype r.class r.ttl (length d) ++ d);
      places = w.places ++ data_places w.bytes os (length w.bytes + 10) g r.rdata;
    }

-- a record: every name in it is cut, or, with `whole`, every name but the target of an SRV
abbrev pub put_record : Bool → Writing → Record → Writing
put_record whole w r = put_fields whole (put_name w r.owner) r

abbrev pub put_bytes : Writing → List ℕ → Writing
put_bytes w bs = record { bytes = w.bytes ++ bs; places = w.places }

abbrev pub put_question : Writing → Question → Writing
put_question w q = put_bytes (put_name w q.name) (u16 q.rtype ++ u16 q.class)
