-- The TTL as received (specification, 'The cache': an entry has "type, lengths, received, expiry", and "Cache entries gain the TTL as received"): after any
-- run of calls, where an entry's TTL comes from and what it says of the two times. Statements; proved in proofs/laws/Ttl.antt. Assumes nothing.
use Rattle.std.specs.Prelude.{◌≡◌, List, [], ◌∷◌, ◌++◌, cond, ℕ, ◌+◌, ◌*◌, ◌<◌, ◌≤◌, replicate}
use Rattle.wire.specs.message.Message.{Record, is_response}
use Rattle.wire.specs.message.Layout.{Reads, read, refused, message_at}
use Rattle.cache.specs.entries.Entries.{blank}
use Rattle.cache.specs.entries.Cache.{Cache, at_start, take_in}
use Rattle.cache.specs.declared.entries.Entry.{Entry}
use Rattle.cache.specs.laws.Slots.{entry_at}

-- a message handed to `take`
pub record Call : Type 0 where
  pub time : ℕ
  pub port : ℕ
  pub packet : List ℕ

-- the cache after a list of calls, refused ones too
unfoldable pub run : List Call → List Entry → List ℕ → Cache
run [] es store = at_start es store
run (x ∷ xs) es store = run xs (take_in x.time es store x.port x.packet).entries (take_in x.time es store x.port x.packet).store

-- "Answer and Additional records of a response"
abbrev pub records_read : Reads → List Record
records_read (read l m) = cond (is_response m.flags) (m.answers ++ m.additionals) []
records_read (refused n) = []

-- something is one of a list
pub data Among {A : Type 0} (x : A) : List A → Type 0 where
  first : {xs : List A} → Among x (x ∷ xs)
  later : {y : A} {xs : List A} → Among x xs → Among x (y ∷ xs)

-- an entry was never used; or its type and its TTL, which is not 0, are those of a record that a call brought when the entry was received
pub data Heard (calls : List Call) (e : Entry) : Type 0 where
  unused : e.expiry ≡ 0 → Heard calls e
  heard : (c : Call) (x : Record) → Among c calls → Among x (records_read (message_at c.packet)) → e.received ≡ c.time → e.rtype ≡ x.rtype → e.ttl ≡ x.ttl
      → (e.ttl ≡ 0 → ⊥) → Heard calls e

-- an entry lasts 1,000 times its TTL from when it was received; or rule 1 or rule 2 cut it short in a call at a time t, to "now plus 1,000"
pub data Lasts (calls : List Call) (e : Entry) : Type 0 where
  whole : e.expiry ≡ e.received + 1000 * e.ttl → Lasts calls e
  cut : (c : Call) → Among c calls → e.received ≤ c.time → e.expiry ≡ c.time + 1000 → e.expiry < e.received + 1000 * e.ttl → Lasts calls e

-- `ttl-heard`, `ttl-lasts`: so it is of every entry after any run from a table of zeros, of any size and with any store
abbrev pub TtlHeard : Type 0
TtlHeard = (calls : List Call) (n : ℕ) (store : List ℕ) (i : ℕ) → i < n → Heard calls (entry_at (run calls (replicate n blank) store) i)

abbrev pub TtlLasts : Type 0
TtlLasts = (calls : List Call) (n : ℕ) (store : List ℕ) (i : ℕ) → i < n → Lasts calls (entry_at (run calls (replicate n blank) store) i)

-- `ends_by`: none outlives its TTL
abbrev pub EndsBy : Type 0
EndsBy =
    (calls : List Call) (n : ℕ) (store : List ℕ) (i : ℕ) (e : Entry) → i < n → e ≡ entry_at (run calls (replicate n blank) store) i
    → e.expiry ≤ e.received + 1000 * e.ttl
