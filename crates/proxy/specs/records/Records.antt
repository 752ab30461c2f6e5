-- A record of the link at the proxy (specification, 'The proxy'; RFC 8766, 5.5.2 to 5.5.4). A record is as the reader gives it: owner and rdata with names
-- expanded, the TTL as it counts. Assumes nothing: these are definitions.
use Rattle.std.specs.Prelude.{ℕ, List, [], ◌∷◌, ◌++◌, Bool, cond, not, ◌&&◌, ◌||◌, length, take, drop, replicate, ltb, leb, eqb, Option, Some, None, Result, Ok}
use Rattle.wire.specs.names.Names.{is_name}
use Rattle.wire.specs.rdata.Rdata.{strings_fill, form_of}
use Rattle.wire.specs.message.Message.{Record, record_of, class_of}
use Rattle.wire.specs.message.Layout.{Item, item, broken}
use Rattle.wire.specs.refusals.Numbers.{first_refusal, refused_by}
use Rattle.wire.specs.declared.refusals.Refusal.{Refusal}
use Rattle.wire.specs.declared.refusals.Refusal.TheVariants.{Setup, TooLong}
use Rattle.proxy.specs.domains.Under.{moved, is_overlong, laid}
use Rattle.proxy.specs.domains.Domains.{Domains, are_domains, setup_tests, setup_refusal, local, unless_refused}
use Rattle.proxy.specs.declared.domains.Moved.{Moved}
use Rattle.proxy.specs.declared.records.Content.{Content}
use Rattle.proxy.specs.declared.records.Passed.{Passed}

-- A (1) and AAAA (28)
unfoldable pub is_address : ℕ → Bool
is_address rtype = eqb rtype 1 || eqb rtype 28

-- rdata as its type asks, names expanded: "A needs 4 bytes, AAAA 16. PTR is one name, SRV is 6 bytes and one name .. TXT strings fill the rdata exactly"; of
-- another type than the five nothing fits
unfoldable pub fits_type : ℕ → List ℕ → Bool
fits_type rtype d =
    cond (eqb rtype 1) (eqb (length d) 4)
    (cond (eqb rtype 28) (eqb (length d) 16)
    (cond (eqb rtype 16) (strings_fill 0 d)
    ((form_of rtype).named && (leb (form_of rtype).before (length d) && is_name (drop (form_of rtype).before d)))))

-- "only well-formed records of the five types are passed on"
abbrev pub is_whole : List ℕ → ℕ → List ℕ → Bool
is_whole owner rtype d = is_name owner && fits_type rtype d

-- a name under "local" goes under one of the domains, that of hosts or that of rich text; "others pass unmapped"
unfoldable pub outward : Domains → Bool → List ℕ → List ℕ
outward d host name = cond host (moved local d.ldh name) (moved local d.rich name)

-- "owners of PTR, SRV and TXT .. go under the rich-text domain, owners of A and AAAA .. under the letters-digits-hyphens one"
abbrev pub owner_out : Domains → ℕ → List ℕ → List ℕ
owner_out d rtype owner = outward d (is_address rtype) owner

-- "PTR targets go under the rich-text domain, .. SRV targets under the letters-digits-hyphens one": the name in rdata, behind the bytes that stand before it
unfoldable pub target_out : Domains → ℕ → List ℕ → List ℕ
target_out d rtype rdata = outward d (eqb rtype 33) (drop (form_of rtype).before rdata)

-- rdata with its name mapped; what holds no name stays as it lies
unfoldable pub rdata_out : Domains → ℕ → List ℕ → List ℕ
rdata_out d rtype rdata = cond (form_of rtype).named (take (form_of rtype).before rdata ++ target_out d rtype rdata) rdata

-- "TTLs .. are capped at 10"
abbrev pub capped : ℕ → ℕ
capped ttl = cond (ltb 10 ttl) 10 ttl

-- the record as it is passed on: "the top class bit is cleared"
unfoldable pub mapped : Domains → Record → Record
mapped d r = record_of (owner_out d r.rtype r.owner) r.rtype (class_of r.class) (capped r.ttl) (rdata_out d r.rtype r.rdata)

-- "A mapped name over 255 bytes": the owner, or the name in the rdata
abbrev pub is_too_long : Domains → Record → Bool
is_too_long d r = is_overlong (owner_out d r.rtype r.owner) || ((form_of r.rtype).named && is_overlong (target_out d r.rtype r.rdata))

-- the refusals of a record: 7, and 13 "tested last", of a record that is not left out
abbrev pub record_tests : Domains → Record → List (Refusal × Bool)
record_tests d r = (Setup, not (are_domains d)) ∷ ((TooLong, is_whole r.owner r.rtype r.rdata && is_too_long d r) ∷ [])

unfoldable pub record_refusal : Domains → Record → ℕ
record_refusal d r = first_refusal (record_tests d r)

-- a record that is passed on; its rdata is copied where it holds a name
abbrev pub passed_record : Record → Passed
passed_record r = record {
  fields = record { owner = length r.owner; rtype = r.rtype; class = r.class; ttl = r.ttl; rdata = length r.rdata };
  owner = laid 255 r.owner;
  rdata = cond (form_of r.rtype).named (laid 261 r.rdata) (replicate 261 0);
}

-- what becomes of a record: it is refused, left out (none), or passed on
unfoldable pub record_out : Domains → Record → Result (Option Passed) Refusal
record_out d r =
    unless_refused (refused_by (record_tests d r)) (Ok (cond (is_whole r.owner r.rtype r.rdata) (Some (passed_record (mapped d r))) None))

-- what becomes of no record
unfoldable pub none_out : Domains → Result (Option Passed) Refusal
none_out d = unless_refused (refused_by (setup_tests d)) (Ok None)

-- what becomes of a record as it lies in a message; a malformed one is none
abbrev pub item_out : Domains → Item Record → Result (Option Passed) Refusal
item_out d (item r next) = record_out d r
item_out d broken = none_out d

-- its refusal
abbrev pub item_refusal : Domains → Item Record → ℕ
item_refusal d (item r next) = record_refusal d r
item_refusal d broken = setup_refusal d

-- the answer of `content`
abbrev pub content_of : Domains → ℕ → List ℕ → Option Content
content_of d rtype rdata =
    cond (form_of rtype).named
    (cond (is_overlong (target_out d rtype rdata)) None
    (Some (record { len = length (rdata_out d rtype rdata); bytes = laid 261 (rdata_out d rtype rdata) })))
    (Some (record { len = length rdata; bytes = replicate 261 0 }))

-- the answer of `passed`
abbrev pub passed_with : Moved → ℕ → ℕ → ℕ → Content → Passed
passed_with owner rtype class ttl rdata = record {
  fields = record { owner = owner.len; rtype = rtype; class = class_of class; ttl = capped ttl; rdata = rdata.len };
  owner = owner.bytes;
  rdata = rdata.bytes;
}
