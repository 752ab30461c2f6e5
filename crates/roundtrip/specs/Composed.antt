-- The specification's sentence on compression for a whole packet: "Every name, SRV and PTR rdata too, is cut at its longest suffix of whole labels that
-- stands earlier byte for byte in a name of the packet (..), pointers there followed, and points to the smallest such offset; the root alone is never
-- pointed to." A packet is laid out for a message part by part: each name of the message stands in its place as the sentence says (`Cuts`,
-- writer/specs/compression/Sentence), by the names that stand before it, and every other byte is given. Assumes nothing: these are definitions.
use Rattle.std.specs.Prelude.{ℕ, ◌+◌, ◌≡◌, List, [], ◌∷◌, ◌++◌, Bool, true, false, length, take}
use Rattle.wire.specs.labels.Labels.{encode, Labels}
use Rattle.wire.specs.declared.rdata.Form.{Form}
use Rattle.writer.specs.Fit.{form_for, held_name, held_behind}
use Rattle.wire.specs.message.Message.{Question, Record, Message}
use Rattle.writer.specs.compression.Sentence.{Cuts}
use Rattle.writer.specs.Items.{Writing, u16, fields, searched, put_bytes}
use Rattle.writer.specs.own_packets.Packets.{header}

-- bytes behind a packet, and the places of the labels in them
abbrev pub behind : Writing → List ℕ → List ℕ → Writing
behind w bs ps = record { bytes = w.bytes ++ bs; places = w.places ++ ps }

-- A name in its place `at`, behind the packet `w`: its bytes are `bs` and its labels in place `ps`, cut as the sentence says by what stands at the
-- offsets `os`.
pub record NameLaid (w : Writing) (os : List ℕ) (at : ℕ) (name bs ps : List ℕ) : Type 0 where
  pub labels : List (List ℕ)
  pub made : Labels labels
  pub spelt : name ≡ encode labels
  pub cut : Cuts w.bytes os at labels bs ps

-- a question behind a packet: its name, type and class
pub data QuestionLaid (w : Writing) (q : Question) : Writing → Type 0 where
  question : {bs ps : List ℕ} → NameLaid w w.places (length w.bytes) q.name bs ps
      → QuestionLaid w q (put_bytes (behind w bs ps) (u16 q.rtype ++ u16 q.class))

-- rdata of a form, ten bytes behind a packet: as it is, or a name between bytes, cut too, but with `whole` not in an SRV
pub data DataLaid (whole : Bool) (w : Writing) (rtype : ℕ) (g : Form) (d : List ℕ) : List ℕ → List ℕ → Type 0 where
  plain : g.named ≡ false → DataLaid whole w rtype g d d []
  target : {bs ps : List ℕ} → g.named ≡ true
      → NameLaid w (searched whole rtype w.places) (length w.bytes + 10 + g.before) (held_name g d) bs ps
      → DataLaid whole w rtype g d (take g.before d ++ (bs ++ held_behind g d)) ps

-- a record behind a packet: its owner, the ten bytes with the length of the rdata, and the rdata
pub data RecordLaid (whole : Bool) (w : Writing) (r : Record) : Writing → Type 0 where
  laid : {bs ps ds es : List ℕ} → NameLaid w w.places (length w.bytes) r.owner bs ps
      → DataLaid whole (behind w bs ps) r.rtype (form_for r.owner r.rtype r.rdata) r.rdata ds es
      → RecordLaid whole w r (behind (behind w bs ps) (fields r.rtype r.class r.ttl (length ds) ++ ds) es)

-- one after the other
pub data AllLaid {A : Type 0} (Laid : Writing → A → Writing → Type 0) : Writing → List A → Writing → Type 0 where
  no_more : {w : Writing} → AllLaid Laid w [] w
  one_more : {w v u : Writing} {x : A} {xs : List A} → Laid w x v → AllLaid Laid v xs u → AllLaid Laid w (x ∷ xs) u

-- the header and the four sections
pub record MessageLaid (whole : Bool) (m : Message) (w : Writing) : Type 0 where
  pub asked : Writing
  pub answered : Writing
  pub authorized : Writing
  pub questions : AllLaid QuestionLaid (header m) m.questions asked
  pub answers : AllLaid (RecordLaid whole) asked m.answers answered
  pub authorities : AllLaid (RecordLaid whole) answered m.authorities authorized
  pub additionals : AllLaid (RecordLaid whole) authorized m.additionals w
