-- A message as the bytes of a packet (specification, 'Writing a packet'; RFC 1035, 4), written from front to back: a header, then questions and records as
-- the general writer puts them. The message is the reader's own: names and rdata expanded. Assumes nothing: these are definitions.
use Rattle.std.specs.Prelude.{ℕ, Bool, List, [], ◌∷◌, ◌++◌, length}
use Rattle.wire.specs.message.Message.{Record, Message}
use Rattle.writer.specs.Items.{Writing, u16, put_question, put_record}

-- one part after the other
abbrev pub put_all : {A : Type 0} → (Writing → A → Writing) → Writing → List A → Writing
put_all put w [] = w
put_all put w (x ∷ xs) = put_all put (put w x) xs

-- ID, flags, and the counts of questions, answers, authority records and additional records
abbrev pub header_bytes : ℕ → ℕ → ℕ → ℕ → ℕ → ℕ → List ℕ
header_bytes id flags nq na nn nr = u16 id ++ u16 flags ++ u16 nq ++ u16 na ++ u16 nn ++ u16 nr

abbrev pub header : Message → Writing
header m = record {
  bytes = header_bytes m.id m.flags (length m.questions) (length m.answers) (length m.authorities) (length m.additionals);
  places = [];
}

-- the four sections; with `whole` the targets of SRV records are not cut
abbrev pub written : Bool → Message → Writing
written whole m =
    let put : Writing → List Record → Writing = put_all (put_record whole) in
    put (put (put (put_all put_question (header m) m.questions) m.answers) m.authorities) m.additionals

-- a whole packet
unfoldable pub packet_of : Bool → Message → List ℕ
packet_of whole m = (written whole m).bytes
