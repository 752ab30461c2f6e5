-- What the general writer writes (specification, 'Reading a message'): only what a reader takes as it is written. Assumes nothing: these are definitions.
use Rattle.std.specs.Prelude.{ℕ, ◌+◌, ◌-◌, List, Bool, true, false, cond, ◌&&◌, length, take, drop, leb, ltb, eqb}
use Rattle.wire.specs.names.Names.{Reading, name, malformed, name_at, is_name}
use Rattle.wire.specs.nsec.Nsec.{is_nsec}
use Rattle.wire.specs.rdata.Rdata.{strings_fill, plain_form, form_of}
use Rattle.wire.specs.declared.rdata.Form.{Form}

-- The form of rdata that is given with its name expanded, for the owner of the record: an NSEC (47) of the restricted kind is a name as long as the owner and a
-- window block behind it, another holds no name.
unfoldable pub form_for : List ℕ → ℕ → List ℕ → Form
form_for owner rtype d =
    cond (eqb rtype 47)
    (cond (is_nsec owner d) (record { named = true; before = 0; behind = length d - length owner }) plain_form)
    (form_of rtype)

-- the name in rdata of a form, and the bytes behind it
abbrev pub held_name : Form → List ℕ → List ℕ
held_name g d = take (length d - g.behind - g.before) (drop g.before d)

abbrev pub held_behind : Form → List ℕ → List ℕ
held_behind g d = drop (length d - g.behind) d

-- one name between so many bytes
abbrev pub holds_name : Form → List ℕ → Bool
holds_name g d = leb (g.before + g.behind) (length d) && is_name (held_name g d)

-- bytes that begin with an uncompressed name: read alone, where no pointer leads anywhere
abbrev pub is_found : Reading → Bool
is_found (name bs e) = true
is_found malformed = false

-- Rdata as its type asks, the name in it expanded (PTR, SRV and NSEC, 1 A, 16 TXT, 28 AAAA): "A needs 4 bytes, AAAA 16. PTR is one name, SRV is 6 bytes and one
-- name, .. TXT strings fill the rdata exactly; .. Other types are stepped over." Another NSEC begins with an uncompressed name: a pointer in it would be
-- followed by who reads it, and so say what was not written.
unfoldable pub is_shaped : List ℕ → ℕ → List ℕ → Bool
is_shaped owner rtype d =
    cond (form_for owner rtype d).named (holds_name (form_for owner rtype d) d)
    (cond (eqb rtype 1) (eqb (length d) 4)
    (cond (eqb rtype 16) (strings_fill 0 d)
    (cond (eqb rtype 28) (eqb (length d) 16)
    (cond (eqb rtype 47) (is_found (name_at d 0))
    true))))

-- A record that is read as it is written: its owner is a name, its rdata as its type asks and its length a number of two bytes; and "A TTL with its top bit set
-- counts as 0 everywhere", so it has none.
unfoldable pub fit_record : List ℕ → ℕ → ℕ → List ℕ → Bool
fit_record owner rtype ttl d = is_name owner && (is_shaped owner rtype d && (leb (length d) 65535 && ltb ttl 2147483648))
