-- A record of the cache at the proxy (specification, 'The proxy' and 'The cache'): an entry by value, and the 1,024 bytes of its slot.
-- Assumes nothing: these are definitions.
use Rattle.std.specs.Prelude.{ℕ, ◌-◌, ◌/◌, ◌^◌, List, [], ◌∷◌, cond, not, ◌||◌, length, take, drop, ltb, eqb, Bool, Option, Result}
use Rattle.wire.specs.message.Message.{Record, record_of}
use Rattle.wire.specs.refusals.Numbers.{first_refusal, refused_by}
use Rattle.wire.specs.declared.refusals.Refusal.{Refusal}
use Rattle.wire.specs.declared.refusals.Refusal.TheVariants.{Table, Time}
use Rattle.cache.specs.entries.Entries.{is_live, heard_ahead, too_long}
use Rattle.cache.specs.declared.entries.Entry.{Entry}
use Rattle.proxy.specs.domains.Domains.{Domains, setup_refusal, unless_refused}
use Rattle.proxy.specs.records.Records.{record_out, record_refusal, none_out}
use Rattle.proxy.specs.declared.records.Passed.{Passed}

-- "of a cached record what is left, in whole seconds rounded down"
abbrev pub left_of : ℕ → ℕ → ℕ
left_of now expiry = (expiry - now) / 1000

-- the record that an entry holds: "256 bytes owner, 768 rdata", of class 1
abbrev pub held_record : ℕ → Entry → List ℕ → Record
held_record now e slot = record_of (take e.owner slot) e.rtype 1 (left_of now e.expiry) (take e.rdata (drop 256 slot))

-- 1 and 8 of an entry, as for a table: "time above 2^62, .. or before any entry's receive time", "an entry with owner length over 255 or rdata length over
-- 768", and a slot of another size
abbrev pub held_tests : ℕ → Entry → List ℕ → List (Refusal × Bool)
held_tests now e slot = (Time, ltb (2 ^ 62) now || heard_ahead now e) ∷ ((Table, too_long e || not (eqb (length slot) 1024)) ∷ [])

unfoldable pub held_refusal : ℕ → Entry → List ℕ → ℕ
held_refusal now e slot = first_refusal (held_tests now e slot)

-- what becomes of the entry's record; one that is not live is none
unfoldable pub held_out : Domains → ℕ → Entry → List ℕ → Result (Option Passed) Refusal
held_out d now e slot =
    unless_refused (refused_by (held_tests now e slot)) (cond (is_live now e) (record_out d (held_record now e slot)) (none_out d))

-- its refusal: "1 and 8" of the entry, then those of its record, where it is live, or of none
unfoldable pub cached_refusal : Domains → ℕ → Entry → List ℕ → ℕ
cached_refusal d now e slot =
    cond (eqb (held_refusal now e slot) 0) (cond (is_live now e) (record_refusal d (held_record now e slot)) (setup_refusal d)) (held_refusal now e slot)
