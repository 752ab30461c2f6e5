-- What the rdata of a record is (specification, 'Reading a message'): "A needs 4 bytes, AAAA 16. PTR is one name, SRV is 6 bytes and one name, each
-- ending exactly at the rdata's end. TXT strings fill the rdata exactly; zero bytes of rdata is allowed. Other types are stepped over." An NSEC of the
-- restricted kind (RFC 6762, 6.1) holds a name too; any other NSEC is stepped over.
-- Assumes nothing: these are definitions.
use Rattle.std.specs.Prelude.{ℕ, zero, suc, ◌+◌, ◌-◌, List, [], ◌∷◌, ◌++◌, Bool, true, false, cond, ◌&&◌, ◌||◌, length, take, drop, leb, eqb}
use Rattle.wire.specs.names.Names.{Reading, name, malformed, name_at}
use Rattle.wire.specs.names.Answers.{name_is}
use Rattle.wire.specs.nsec.Nsec.{is_block}
use Rattle.wire.specs.declared.rdata.Form.{Form}
use Rattle.wire.specs.declared.message.RecordAt.{RecordAt}

-- Strings, each after its length byte, fill the bytes exactly; `k` bytes of a string are still to come.
unfoldable pub strings_fill : ℕ → List ℕ → Bool
strings_fill zero [] = true
strings_fill (suc k) [] = false
strings_fill zero (b ∷ bs) = strings_fill b bs
strings_fill (suc k) (b ∷ bs) = strings_fill k bs

-- The rdata of a record, with the name in PTR, SRV and NSEC expanded; or that it is not as its type asks.
pub data Rdata : Type 0 where
  rdata : List ℕ → Rdata
  unfit : Rdata

-- the bytes as they lie, where they pass a test
abbrev pub as_it_lies : Bool → List ℕ → Rdata
as_it_lies fits d = cond fits (rdata d) unfit

-- one name that ends exactly at an offset, between bytes that stand as they lie
abbrev pub ending_name : List ℕ → List ℕ → ℕ → Reading → Rdata
ending_name front back end (name bs e) = cond (eqb e end) (rdata (front ++ (bs ++ back))) unfit
ending_name front back end malformed = unfit

-- The form of rdata: whether it holds a name, and how many bytes stand before it and behind it. In most types no name stands.
abbrev pub plain_form : Form
plain_form = record { named = false; before = 0; behind = 0 }

-- By its type (12 PTR, 33 SRV): "PTR is one name, SRV is 6 bytes and one name"; no byte stands behind it.
abbrev pub form_of : ℕ → Form
form_of rtype = record { named = eqb rtype 12 || eqb rtype 33; before = cond (eqb rtype 33) 6 0; behind = 0 }

-- An NSEC (47) of the restricted kind is one name, equal to the owner, and a window block behind it; in any other no name is looked for.
abbrev pub block_form : Bool → List ℕ → Form
block_form same block = cond (same && is_block block) (record { named = true; before = 0; behind = length block }) plain_form

-- `next` is what stands at `at`, where the rdata starts, and the owner's name stands at `owner`
abbrev pub next_form : List ℕ → ℕ → ℕ → List ℕ → Reading → Form
next_form p owner at d (name bs e) = block_form (name_is p owner bs) (drop (e - at) d)
next_form p owner at d malformed = plain_form

-- the form of a record's rdata in `d`, the part of the packet `p` where it lies
unfoldable pub form_in : List ℕ → RecordAt → List ℕ → Form
form_in p f d = cond (eqb f.rtype 47) (next_form p f.owner f.rdata d (name_at p f.rdata)) (form_of f.rtype)

abbrev pub form_at : List ℕ → RecordAt → Form
form_at p f = form_in p f (take f.rdlength (drop f.rdata p))

-- rdata that holds a name between so many bytes, in `d`, the part of the packet `p` that starts at `at`
abbrev pub with_name : List ℕ → ℕ → List ℕ → ℕ → ℕ → Rdata
with_name p at d before behind =
    cond (leb (before + behind) (length d))
    (ending_name (take before d) (drop (length d - behind) d) (at + (length d - behind)) (name_at p (at + before)))
    unfit

-- The rdata of a record (1 A, 16 TXT, 28 AAAA, and what holds a name) in `d`, the part of the packet `p` where it lies.
unfoldable pub rdata_in : List ℕ → RecordAt → List ℕ → Rdata
rdata_in p f d =
    cond (eqb f.rtype 1) (as_it_lies (eqb (length d) 4) d)
    (cond (eqb f.rtype 16) (as_it_lies (strings_fill 0 d) d)
    (cond (eqb f.rtype 28) (as_it_lies (eqb (length d) 16) d)
    (cond (form_in p f d).named (with_name p f.rdata d (form_in p f d).before (form_in p f d).behind)
    (rdata d))))

-- the rdata of a record as it lies in a packet; bytes past the packet's end are none
unfoldable pub rdata_at : List ℕ → RecordAt → Rdata
rdata_at p f = cond (leb (f.rdata + f.rdlength) (length p)) (rdata_in p f (take f.rdlength (drop f.rdata p))) unfit
