-- The rules of the cache (specification, 'The cache') on a table and its store, in the specification's order, and the refusals 1, 8, 4, 5 and 6.
-- Assumes nothing: these are definitions.
use Rattle.std.specs.Prelude.{ℕ, ◌+◌, ◌*◌, ◌^◌, List, [], ◌∷◌, ◌++◌, Bool, cond, not, ◌&&◌, ◌||◌, length, get_or, set, replicate, ltb, leb, eqb, Option, Some, None}
use Rattle.std.proofs.lemmas.List.Edits.{sets}
use Rattle.wire.specs.Lists.{some}
use Rattle.wire.specs.refusals.Numbers.{first_refusal}
use Rattle.wire.specs.declared.refusals.Refusal.{Refusal}
use Rattle.wire.specs.declared.refusals.Refusal.TheVariants.{Malformed, Table, Time}
use Rattle.wire.specs.names.Names.{is_name}
use Rattle.wire.specs.nsec.Nsec.{is_nsec}
use Rattle.wire.specs.message.Message.{Record, Message, class_of, top_bit, is_response}
use Rattle.wire.specs.message.Layout.{Reads, read, refused, message_at}
use Rattle.wire.specs.message.Refusals.{message_tests}
use Rattle.cache.specs.entries.Entries.{blank, is_free, matches, holds, soon, flushed, refreshed, heard_ahead, too_long}
use Rattle.cache.specs.entries.Tables.{lowest, each}
use Rattle.cache.specs.declared.entries.Entry.{Entry}

-- "A lent table" of small entries, the byte store, and how many records of a call were turned away and passed over
pub record Cache : Type 0 where
  pub entries : List Entry
  pub store : List ℕ
  pub turned : ℕ
  pub passed : ℕ

-- the cache with other entries
abbrev pub with_entries : List Entry → Cache → Cache
with_entries es c = record { entries = es; store = c.store; turned = c.turned; passed = c.passed }

-- "of class 1 and the five types", and the sixth, an NSEC (47) of the restricted kind
unfoldable pub cached_as : ℕ → ℕ → Bool → Bool
cached_as class rtype restricted =
    eqb (class_of class) 1 && (eqb rtype 1 || (eqb rtype 12 || (eqb rtype 16 || (eqb rtype 28 || (eqb rtype 33 || (eqb rtype 47 && restricted))))))

abbrev pub is_cached : Record → Bool
is_cached r = cached_as r.class r.rtype (is_nsec r.owner r.rdata)

-- 1. "With the top class bit: for every live entry of that name and type received more than 1,000 ms ago, expiry becomes the lesser of itself and
-- now plus 1,000."
unfoldable pub rule1 : ℕ → Record → Cache → Cache
rule1 now r c = cond (top_bit r.class) (with_entries (each (flushed now c.store r.owner r.rtype) 0 c.entries) c) c

-- the slot of "the lowest live equal entry"
unfoldable pub equal_slot : ℕ → Record → Cache → Option ℕ
equal_slot now r c = lowest (holds now c.store r.owner r.rtype r.rdata) 0 c.entries

-- the slot of "the lowest entry not live"
unfoldable pub free_slot : ℕ → Cache → Option ℕ
free_slot now c = lowest (is_free now) 0 c.entries

-- 2. "TTL 0: the lowest live equal entry gets the lesser of its expiry and now plus 1,000; else nothing."
abbrev pub goodbye : ℕ → Cache → Option ℕ → Cache
goodbye now c (Some i) = with_entries (set c.entries i (soon now (get_or c.entries i blank))) c
goodbye now c None = c

-- the entry of a record that is taken now
abbrev pub entry_for : ℕ → Record → Entry
entry_for now r = record {
  rtype = r.rtype;
  owner = length r.owner;
  rdata = length r.rdata;
  received = now;
  expiry = now + 1000 * r.ttl;
  ttl = r.ttl;
}

-- "256 bytes owner, 768 rdata, names expanded, unused bytes 0"
abbrev pub slot_with : List ℕ → List ℕ → List ℕ
slot_with owner d = sets (sets (replicate 1024 0) 0 owner) 256 d

abbrev pub slot_for : Record → List ℕ
slot_for r = slot_with r.owner r.rdata

-- "the lowest entry not live takes the record. If all are live it is counted as turned away."
abbrev pub taken : ℕ → Record → Cache → Option ℕ → Cache
taken now r c (Some i) = record { entries = set c.entries i (entry_for now r); store = sets c.store (1024 * i) (slot_for r); turned = c.turned; passed = c.passed }
taken now r c None = record { entries = c.entries; store = c.store; turned = c.turned + 1; passed = c.passed }

-- 3. "Otherwise that entry gets received now and expiry now plus 1,000 times TTL; if there is none, the lowest entry not live takes the record."
abbrev pub renewed : ℕ → Record → Cache → Option ℕ → Cache
renewed now r c (Some i) = with_entries (set c.entries i (refreshed now r.ttl (get_or c.entries i blank))) c
renewed now r c None = taken now r c (free_slot now c)

unfoldable pub rule23 : ℕ → Record → Cache → Cache
rule23 now r c = cond (eqb r.ttl 0) (goodbye now c (equal_slot now r c)) (renewed now r c (equal_slot now r c))

-- "Rdata over 768 bytes is counted as passed over after rule 1, TTL 0 too."
unfoldable pub after_rule1 : ℕ → Record → Cache → Cache
after_rule1 now r c =
    cond (ltb 768 (length r.rdata))
    (record { entries = c.entries; store = c.store; turned = c.turned; passed = c.passed + 1 })
    (rule23 now r c)

-- the rules for one record
unfoldable pub take_record : ℕ → Record → Cache → Cache
take_record now r c = cond (is_cached r) (after_rule1 now r (rule1 now r c)) c

-- the records of a list, "in message order"
unfoldable pub take_records : ℕ → List Record → Cache → Cache
take_records now [] c = c
take_records now (r ∷ rs) c = take_records now rs (take_record now r c)

-- "Answer and Additional records of a response"; of a query none are taken
unfoldable pub take_message : ℕ → Message → Cache → Cache
take_message now m c = cond (is_response m.flags) (take_records now (m.answers ++ m.additionals) c) c

-- "Counts are per call."
abbrev pub at_start : List Entry → List ℕ → Cache
at_start es store = record { entries = es; store = store; turned = 0; passed = 0 }

-- "1: time above 2^62, .. or before any entry's receive time", dead entries too
abbrev pub bad_time : ℕ → List Entry → Bool
bad_time now es = ltb (2 ^ 62) now || some (heard_ahead now) es

-- a table has 1 to 512 entries
unfoldable pub is_size : ℕ → Bool
is_size n = leb 1 n && leb n 512

-- "8: cache table" of another size, ".. or an entry with owner length over 255 or rdata length over 768"
abbrev pub bad_table : List Entry → Bool
bad_table es = not (is_size (length es)) || some too_long es

-- n entries of a size have a store of exactly 1,024 bytes each
unfoldable pub is_store_of : ℕ → ℕ → Bool
is_store_of n bytes = is_size n && eqb bytes (1024 * n)

-- "8: .. byte store" of another size
abbrev pub bad_store : List Entry → List ℕ → Bool
bad_store es store = not (is_store_of (length es) (length store))

-- "6: .. looked_up name malformed": "a pointer in that name, or bytes past its zero byte, is malformed"
abbrev pub bad_name : List ℕ → Bool
bad_name name = not (is_name name)

-- the refusals of a table, which both calls begin with
abbrev pub table_tests : ℕ → List Entry → List (Refusal × Bool)
table_tests now es = (Time, bad_time now es) ∷ ((Table, bad_table es) ∷ [])

unfoldable pub entries_refusal : ℕ → List Entry → ℕ
entries_refusal now es = first_refusal (table_tests now es)

-- "Each call tests those that apply to it in the order 1, 2, 3, 8, 4, 5, 6, ..": the refusals of a message taken and of a lookup, behind those of the table
abbrev pub take_tests : List Entry → List ℕ → ℕ → List ℕ → List (Refusal × Bool)
take_tests es store port p = (Table, bad_store es store) ∷ message_tests port p

abbrev pub look_tests : List Entry → List ℕ → List ℕ → List (Refusal × Bool)
look_tests es store name = (Table, bad_store es store) ∷ ((Malformed, bad_name name) ∷ [])

unfoldable pub take_refusal : ℕ → List Entry → List ℕ → ℕ → List ℕ → ℕ
take_refusal now es store port p = first_refusal (table_tests now es ++ take_tests es store port p)

unfoldable pub look_refusal : ℕ → List Entry → List ℕ → List ℕ → ℕ
look_refusal now es store name = first_refusal (table_tests now es ++ look_tests es store name)

-- what the records of a message make of the cache
abbrev pub take_read : ℕ → Cache → Reads → Cache
take_read now c (read l m) = take_message now m c
take_read now c (refused n) = c

-- the cache after the call `take`: a refusal keeps every entry and every byte
unfoldable pub take_in : ℕ → List Entry → List ℕ → ℕ → List ℕ → Cache
take_in now es store port p = cond (eqb (take_refusal now es store port p) 0) (take_read now (at_start es store) (message_at p)) (at_start es store)

-- "A lookup by uncompressed name and type gives the lowest live match from a given slot on, or none."
unfoldable pub look_in : ℕ → List Entry → List ℕ → List ℕ → ℕ → ℕ → Option ℕ
look_in now es store name rtype from = lowest (matches now store name rtype from) 0 es
