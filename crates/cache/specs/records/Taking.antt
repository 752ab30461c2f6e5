-- What one record makes of a table and its store, in the code's steps: rule 1 on every entry, what is chosen of the entries then, and the change of one entry,
-- of the store and of the counts. Of a record that is whole it is what the rules say (proofs/records/Rules.antt). Assumes nothing: these are definitions.
use Rattle.std.specs.Prelude.{ℕ, ◌+◌, ◌*◌, ◌≤◌, ◌≡◌, List, true, length, get_or, set, drop}
use Rattle.std.proofs.lemmas.List.Edits.{sets}
use Rattle.wire.specs.message.Readable.{record_shown}
use Rattle.cache.specs.entries.Entries.{blank, is_free, soon, refreshed}
use Rattle.cache.specs.entries.Tables.{slot_from, each}
use Rattle.cache.specs.entries.Cache.{Cache, with_entries, slot_with}
use Rattle.cache.specs.records.Heard.{is_taken, is_sought, owner_in, rdata_in, may_hold, holds_heard, flushed_heard, first_slot, is_filling, chosen_of}
use Rattle.cache.specs.declared.entries.Entry.{Entry}
use Rattle.cache.specs.declared.records.Heard.{Heard}
use Rattle.cache.specs.declared.records.Choice.{Choice}
use Rattle.cache.specs.declared.records.Choice.TheVariants.{Leave, Expire, Refresh, Fill, TurnAway, PassOver}
use Rattle.cache.specs.declared.Counts.{Counts}

-- the bytes of a slot show a record that the rules are for: its owner, and its rdata where that fits. Of the other bytes nothing is said.
pub record Shows (p : List ℕ) (h : Heard) (slot : List ℕ) : Type 0 where
  pub owner : is_taken h ≡ true → owner_in slot h ≡ (record_shown p h.at).owner
  pub content : is_taken h ≡ true → h.len ≤ 768 → rdata_in slot h ≡ (record_shown p h.at).rdata

-- rule 1 on every entry
unfoldable pub flushed_in : ℕ → List ℕ → List ℕ → Heard → List Entry → List Entry
flushed_in now store slot h es = each (flushed_heard now store slot h) 0 es

-- the lowest live equal entry, where rules 2 and 3 are for it
unfoldable pub equal_in : ℕ → List ℕ → List ℕ → Heard → List Entry → ℕ
equal_in now store slot h es = slot_from (holds_heard now store slot h) (first_slot (is_sought h) (length es)) (drop (first_slot (is_sought h) (length es)) es)

-- the lowest that may hold it, from a slot on
unfoldable pub likely_from : ℕ → Heard → List Entry → ℕ → ℕ
likely_from now h es from = slot_from (λ i e. may_hold now h e) from (drop from es)

-- the lowest not live from a slot on
unfoldable pub free_from : ℕ → List Entry → ℕ → ℕ
free_from now es from = slot_from (is_free now) from (drop from es)

-- what is chosen of the entries
unfoldable pub chosen_in : ℕ → List ℕ → List ℕ → Heard → List Entry → Choice
chosen_in now store slot h es =
    let equal : ℕ = equal_in now store slot h es in chosen_of h (length es) equal (free_from now es (first_slot (is_filling h (length es) equal) (length es)))

-- the entry of a record that is taken now
abbrev pub entry_heard : ℕ → Heard → Entry
entry_heard now h = record {
  rtype = h.at.rtype;
  owner = h.at.span.len;
  rdata = h.len;
  received = now;
  expiry = now + 1000 * h.at.ttl;
  ttl = h.at.ttl;
}

-- what a change makes of the entries, of the store, and of the counts
unfoldable pub changed_in : ℕ → Heard → Choice → List Entry → List Entry
changed_in now h Leave es = es
changed_in now h (Expire i) es = set es i (soon now (get_or es i blank))
changed_in now h (Refresh i) es = set es i (refreshed now h.at.ttl (get_or es i blank))
changed_in now h (Fill i) es = set es i (entry_heard now h)
changed_in now h TurnAway es = es
changed_in now h PassOver es = es

unfoldable pub kept_in : List ℕ → Heard → Choice → List ℕ → List ℕ
kept_in slot h Leave store = store
kept_in slot h (Expire i) store = store
kept_in slot h (Refresh i) store = store
kept_in slot h (Fill i) store = sets store (1024 * i) (slot_with (owner_in slot h) (rdata_in slot h))
kept_in slot h TurnAway store = store
kept_in slot h PassOver store = store

unfoldable pub counting : Choice → Counts → Counts
counting Leave c = c
counting (Expire i) c = c
counting (Refresh i) c = c
counting (Fill i) c = c
counting TurnAway c = record { turned = c.turned + 1; passed = c.passed }
counting PassOver c = record { turned = c.turned; passed = c.passed + 1 }

-- what is chosen after rule 1, and the cache after that
abbrev pub choice_on : ℕ → List ℕ → Heard → Cache → Choice
choice_on now slot h c = chosen_in now c.store slot h (flushed_in now c.store slot h c.entries)

abbrev pub changed_cache : ℕ → List ℕ → Heard → Choice → Cache → Cache
changed_cache now slot h x c =
    let n : Counts = counting x (record { turned = c.turned; passed = c.passed }) in
    record { entries = changed_in now h x c.entries; store = kept_in slot h x c.store; turned = n.turned; passed = n.passed }

unfoldable pub take_heard : ℕ → List ℕ → Heard → Cache → Cache
take_heard now slot h c = changed_cache now slot h (choice_on now slot h c) (with_entries (flushed_in now c.store slot h c.entries) c)
