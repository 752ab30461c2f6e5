-- Which records are passed on, and how; which questions are answered at once (specification, 'The proxy'; RFC 8766, 5.4 and 5.5.4). Statements; proved in
-- proofs/laws/Passes.antt and proofs/laws/Wholes.antt. Assumes nothing.
use Rattle.std.specs.Prelude.{◌≡◌, List, Bool, true, false, ◌||◌, ℕ, ◌*◌, ◌-◌, ◌<◌, ◌≤◌, length, take, eqb, Some, None, Ok}
use Rattle.wire.specs.names.Names.{is_name}
use Rattle.wire.specs.rdata.Rdata.{form_of}
use Rattle.wire.specs.message.Message.{Record, class_of}
use Rattle.wire.specs.message.Layout.{item, record_at}
use Rattle.cache.specs.declared.entries.Entry.{Entry}
use Rattle.proxy.specs.domains.Domains.{Domains, are_domains}
use Rattle.proxy.specs.questions.Questions.{is_below, is_apex_type, question_of}
use Rattle.proxy.specs.records.Records.{is_whole, rdata_out, mapped, is_too_long, passed_record, record_out}
use Rattle.proxy.specs.records.Held.{held_out}
use Rattle.proxy.specs.declared.records.Fields.{Fields}
use Rattle.proxy.specs.declared.records.Passed.{Passed}

-- A, PTR, TXT, AAAA, SRV
unfoldable pub is_five : ℕ → Bool
is_five rtype = eqb rtype 1 || (eqb rtype 12 || (eqb rtype 16 || (eqb rtype 28 || eqb rtype 33)))

-- what holds of a record and of the fields that it is passed on with
pub record PassedOn (r : Record) (f : Fields) : Type 0 where
  pub whole : is_whole r.owner r.rtype r.rdata ≡ true
  pub five : is_five r.rtype ≡ true
  pub type_kept : f.rtype ≡ r.rtype
  pub ttl_most : f.ttl ≤ 10
  pub ttl_left : f.ttl ≤ r.ttl
  pub class_clear : f.class < 32768
  pub class_kept : f.class ≡ class_of r.class

-- `only-whole`: "only well-formed records of the five types are passed on", "TTLs .. are capped at 10, the top class bit is cleared"
abbrev pub OnlyWhole : Type 0
OnlyWhole = (d : Domains) (r : Record) (x : Passed) → record_out d r ≡ Ok (Some x) → PassedOn r x.fields

-- `all_whole`: and no others are left out than those that are refused
abbrev pub AllWhole : Type 0
AllWhole =
    (d : Domains) (r : Record) → are_domains d ≡ true → is_whole r.owner r.rtype r.rdata ≡ true → is_too_long d r ≡ false
    → record_out d r ≡ Ok (Some (passed_record (mapped d r)))

-- `read_whole`: every record of the five types that the reader reads is well formed here too
abbrev pub ReadWhole : Type 0
ReadWhole =
    (message : List ℕ) (at : ℕ) (r : Record) (next : ℕ) → record_at message at ≡ item r next → is_five r.rtype ≡ true
    → is_whole r.owner r.rtype r.rdata ≡ true

-- what holds of an entry of the cache and of the fields that its record is passed on with: the TTL is never more than what is left
pub record HeldOn (now : ℕ) (e : Entry) (f : Fields) : Type 0 where
  pub live : now < e.expiry
  pub type_kept : f.rtype ≡ e.rtype
  pub ttl_most : f.ttl ≤ 10
  pub ttl_left : 1000 * f.ttl ≤ e.expiry - now
  pub class_one : f.class ≡ 1

-- `only-live`
abbrev pub OnlyLive : Type 0
OnlyLive = (d : Domains) (now : ℕ) (e : Entry) (slot : List ℕ) (x : Passed) → held_out d now e slot ≡ Ok (Some x) → HeldOn now e x.fields

-- `data-kept`, "text is never re-encoded": rdata that holds no name is passed on byte for byte, and of other rdata what stands before the name
pub record DataKept : Type 0 where
  pub plain : (d : Domains) (rtype : ℕ) (rdata : List ℕ) → (form_of rtype).named ≡ false → rdata_out d rtype rdata ≡ rdata
  pub before : (d : Domains) (rtype : ℕ) (rdata : List ℕ) → (form_of rtype).before ≤ length rdata → take (form_of rtype).before (rdata_out d rtype rdata) ≡ take
      (form_of rtype).before rdata

-- `negative-exactly`: "Questions for SOA, NS and DS below either apex, and no others, get a negative answer at once"; at an apex none do
pub record NegativeExactly : Type 0 where
  pub only : (d : Domains) (name : List ℕ) (rtype : ℕ) → question_of d name rtype ≡ Ok None → (is_apex_type rtype ≡ true) × (is_below d name ≡ true)
  pub all : (d : Domains) (name : List ℕ) (rtype : ℕ) → is_name name ≡ true → are_domains d ≡ true → is_apex_type rtype ≡ true → is_below d name ≡ true
      → question_of d name rtype ≡ Ok None
  pub apex : (d : Domains) (rtype : ℕ) → are_domains d ≡ true → (question_of d d.rich rtype ≡ Ok None → ⊥) ×
      (question_of d d.ldh rtype ≡ Ok None → ⊥)
