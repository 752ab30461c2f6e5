-- What a record leaves in the bytes of a slot that it is heard into: the owner from the first byte on, the rdata, its name expanded, from byte 256 on. The other
-- bytes stay. Assumes nothing: these are definitions.
use Rattle.std.specs.Prelude.{ℕ, ◌+◌, ◌-◌, List, cond, length, take, drop, leb, None, Option, Some}
use Rattle.std.proofs.lemmas.List.Edits.{sets}
use Rattle.wire.specs.names.Names.{Reading, name, malformed, name_at}
use Rattle.wire.specs.rdata.Rdata.{form_at}
use Rattle.wire.specs.message.Layout.{record_read}
use Rattle.wire.specs.message.Readable.{whole_from}
use Rattle.wire.specs.declared.rdata.Form.{Form}
use Rattle.wire.specs.declared.message.RecordAt.{RecordAt}
use Rattle.cache.specs.records.Heard.{heard_of}
use Rattle.cache.specs.declared.records.Heard.{Heard}

-- a record as it lies, if its rdata is as its type asks
abbrev pub heard_with : List ℕ → RecordAt → Option Heard
heard_with p f = heard_of p (whole_from p (Some f))

-- a name over bytes from a place on, and more bytes behind it; as they were where it is malformed
abbrev pub name_over : ℕ → List ℕ → Reading → List ℕ → List ℕ
name_over at back (name bs e) slot = sets (sets slot at bs) (at + length bs) back
name_over at back malformed slot = slot

-- rdata that holds a name: the bytes before it, the name, and the bytes behind it, where there are as many
abbrev pub named_over : List ℕ → RecordAt → Form → List ℕ → List ℕ
named_over p f g slot =
    cond (leb (g.before + g.behind) f.rdlength)
    (name_over (256 + g.before) (take g.behind (drop (f.rdata + (f.rdlength - g.behind)) p)) (name_at p (f.rdata + g.before))
    (sets slot 256 (take g.before (drop f.rdata p))))
    slot

-- rdata of any form, as far as a slot has room for it
unfoldable pub rdata_over : List ℕ → RecordAt → List ℕ → List ℕ
rdata_over p f slot = cond (form_at p f).named (named_over p f (form_at p f) slot) (sets slot 256 (take f.rdlength (drop f.rdata p)))

abbrev pub record_over : List ℕ → Option RecordAt → List ℕ → List ℕ
record_over p (Some f) slot = rdata_over p f slot
record_over p None slot = slot

-- the owner of a record
abbrev pub owner_over : Reading → List ℕ → List ℕ
owner_over (name bs e) slot = sets slot 0 bs
owner_over malformed slot = slot

-- the record at an offset
unfoldable pub heard_in : List ℕ → ℕ → List ℕ → List ℕ
heard_in p at slot = record_over p (record_read p at) (owner_over (name_at p at) slot)
