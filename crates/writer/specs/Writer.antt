-- The general writer (specification, 'Writing a packet', for any names): a question or a record, put into a lent buffer behind what was written before, or
-- the answer that there is no room for it or that no reader takes it. Assumes nothing: these are definitions.
use Rattle.std.specs.Prelude.{ℕ, ◌+◌, ◌≤◌, ◌≡◌, List, ◌++◌, Bool, true, cond, ◌&&◌, length, take, drop, leb, Result, Ok, Err}
use Rattle.std.proofs.lemmas.List.Edits.{sets}
use Rattle.wire.specs.names.Names.{is_name}
use Rattle.wire.specs.declared.rdata.Form.{Form}
use Rattle.wire.specs.labels.Counted.{labels_in}
use Rattle.wire.specs.message.Message.{Question}
use Rattle.writer.specs.Items.{Writing}
use Rattle.writer.specs.Fit.{form_for, held_name, holds_name, fit_record}
use Rattle.writer.specs.declared.Spot.{Spot}
use Rattle.writer.specs.declared.Room.{Room}
use Rattle.writer.specs.declared.Misfit.{Misfit}
use Rattle.writer.specs.declared.Misfit.TheVariants.{Full, Unfit}

-- the packet in the first `at` bytes of a buffer, with `count` places noted
abbrev pub held_in : List ℕ → List ℕ → ℕ → ℕ → Writing
held_in out places at count = record { bytes = take at out; places = take count places }

abbrev pub spot_of : ℕ → ℕ → Spot
spot_of e c = record { end = e; count = c }

abbrev pub question_of : List ℕ → ℕ → ℕ → Question
question_of name rtype class = record { name = name; rtype = rtype; class = class }

-- the labels of the name in rdata of a form
unfoldable pub labels_for : Form → List ℕ → ℕ
labels_for g d = cond g.named (labels_in (held_name g d)) 0

-- what is left of a buffer with `at` bytes written, and of its table with `count` places noted
abbrev pub room_in : List ℕ → List ℕ → ℕ → ℕ → Room
room_in out places at count = record { at = at; len = length out; count = count; slots = length places }

-- There is room for a name whole, with `more` bytes behind it; in the table for its labels and `also` others; and a pointer, of 14 bits, can name every
-- offset up to its end.
unfoldable pub name_fits : Room → List ℕ → ℕ → ℕ → Bool
name_fits room name more also =
    leb (room.at + length name + more) room.len
    && (leb (room.at + length name) 16384
    && leb (room.count + labels_in name + also) room.slots)

-- a question: its name and four bytes
abbrev pub question_fits : Room → List ℕ → Bool
question_fits room name = name_fits room name 4 0

-- a record: its owner, ten bytes and its rdata, the name in it whole
unfoldable pub record_fits : Room → List ℕ → ℕ → List ℕ → Bool
record_fits room owner rtype d = name_fits room owner (10 + length d) (labels_for (form_for owner rtype d) d)

-- the answer, and the two lent buffers then: the packet `v` in front and the rest as it was; or all as it was
abbrev pub placed_of : Bool → Bool → Writing → Result Spot Misfit
placed_of fit fits v = cond fit (cond fits (Ok (spot_of (length v.bytes) (length v.places))) (Err Full)) (Err Unfit)

abbrev pub bytes_after : Bool → Writing → List ℕ → List ℕ
bytes_after put v out = cond put (v.bytes ++ drop (length v.bytes) out) out

abbrev pub places_after : Bool → Writing → List ℕ → List ℕ
places_after put v places = cond put (v.places ++ drop (length v.places) places) places

-- all three together: what is `fit` for a message and `fits` into the room is put
pub record Placing (fit fits : Bool) (v : Writing) (o pl : List ℕ) (r : Result Spot Misfit) (o' pl' : List ℕ) : Type 0 where
  pub answer : r ≡ placed_of fit fits v
  pub bytes : o' ≡ bytes_after (fit && fits) v o
  pub places : pl' ≡ places_after (fit && fits) v pl

-- Bytes stand in a buffer from `at` on and offsets in a table from `count` on, and nothing else is changed.
pub record Wrote (bs ps : List ℕ) (at count : ℕ) (o pl : List ℕ) (r : Spot) (o' pl' : List ℕ) : Type 0 where
  pub bytes : o' ≡ sets o at bs
  pub places : pl' ≡ sets pl count ps
  pub ended : r.end ≡ at + length bs
  pub counted : r.count ≡ count + length ps

-- The buffer has the packet `v` in front and is else as it was, and the table its places.
pub record Grown (v : Writing) (o pl : List ℕ) (r : Spot) (o' pl' : List ℕ) : Type 0 where
  pub bytes : o' ≡ v.bytes ++ drop (length v.bytes) o
  pub places : pl' ≡ v.places ++ drop (length v.places) pl
  pub ended : r.end ≡ length v.bytes
  pub counted : r.count ≡ length v.places

-- what writing a name asks for: the packet before it ends at `known`, and the first `tried` places are looked at
pub record NameReady (known at count tried : ℕ) (name out places : List ℕ) : Type 0 where
  pub named : is_name name ≡ true
  pub known_before : known ≤ at
  pub known_small : known ≤ 16384
  pub tried_noted : tried ≤ count
  pub room : at + length name ≤ length out
  pub slots : count + labels_in name ≤ length places

-- what writing rdata asks for
pub record DataReady (known at count tried : ℕ) (g : Form) (d out places : List ℕ) : Type 0 where
  pub shaped : g.named ≡ true → holds_name g d ≡ true
  pub known_before : known ≤ at
  pub known_small : known ≤ 16384
  pub tried_noted : tried ≤ count
  pub room : at + length d ≤ length out
  pub slots : count + labels_for g d ≤ length places

-- what writing a question or a record asks for: it is fit, and there is room for it
pub record QuestionReady (room : Room) (name : List ℕ) : Type 0 where
  pub fit : is_name name ≡ true
  pub fits : question_fits room name ≡ true

pub record RecordReady (room : Room) (owner : List ℕ) (rtype ttl : ℕ) (d : List ℕ) : Type 0 where
  pub fit : fit_record owner rtype ttl d ≡ true
  pub fits : record_fits room owner rtype d ≡ true
