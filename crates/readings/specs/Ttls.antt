-- Specification, 'The cache': the TTL as received through a run of four messages, on a table of two entries, evaluated. Assumes nothing.
use Rattle.std.specs.Prelude.{◌≡◌, refl, List, [], ◌∷◌, ℕ, replicate}
use Rattle.wire.specs.Lists.{some}
use Rattle.wire.specs.case_folding.Fold.{same_name}
use Rattle.wire.specs.name_pieces.Pieces.{piece_at}
use Rattle.wire.specs.names.Names.{read_from, from_run, name_at}
use Rattle.wire.specs.rdata.Rdata.{form_in, strings_fill, rdata_in, rdata_at}
use Rattle.wire.specs.expansion.Equal.{same_bytes}
use Rattle.wire.specs.nsec.Nsec.{is_nsec}
use Rattle.wire.specs.message.Layout.{question_read, question_at, record_read, record_at, list_from, and_then, message_at}
use Rattle.cache.specs.entries.Tables.{lowest, each}
use Rattle.cache.specs.entries.Entries.{blank, is_free, is_of, live_of, holds, soon, flushed}
use Rattle.cache.specs.entries.Cache.{cached_as, rule1, equal_slot, free_slot, rule23, after_rule1, take_record, take_records, take_message, is_size, is_store_of, take_refusal, take_in}
use Rattle.cache.specs.declared.entries.Entry.{Entry}
use Rattle.cache.specs.laws.Ttl.{Call, run}

-- a response with an address of "dock.local", 10.0.0.k, with the cache flush bit
abbrev pub address_told : ℕ → ℕ → List ℕ
address_told k ttl =
    0 ∷ (0 ∷ (132 ∷ (0 ∷ (0 ∷ (0 ∷ (0 ∷ (1 ∷ (0 ∷ (0 ∷ (0 ∷ (0 ∷ (4 ∷ (100 ∷ (111 ∷ (99 ∷ (107 ∷ (5 ∷ (108 ∷ (111 ∷ (99 ∷ (97 ∷ (108 ∷ (0 ∷
    (0 ∷ (1 ∷ (128 ∷ (1 ∷ (0 ∷ (0 ∷ (0 ∷ (ttl ∷ (0 ∷ (4 ∷ (10 ∷ (0 ∷ (0 ∷ (k ∷ [])))))))))))))))))))))))))))))))))))))

abbrev pub told : ℕ → ℕ → ℕ → Call
told time k ttl = record { time = time; port = 5353; packet = address_told k ttl }

-- its entry
abbrev pub entry : ℕ → ℕ → ℕ → Entry
entry received expiry ttl = record { rtype = 1; owner = 12; rdata = 4; received = received; expiry = expiry; ttl = ttl }

abbrev pub after : List Call → List Entry
after calls = (run calls (replicate 2 blank) (replicate 2048 0)).entries

abbrev pub Ttls : Type 0
Ttls =
    -- a record that is taken brings its TTL
    (after (told 1000 7 120 ∷ []) ≡ entry 1000 121000 120 ∷ (blank ∷ []))
    -- rule 1 changes only the expiry of the first, and the second is taken
    × (after (told 1000 7 120 ∷ (told 5000 8 60 ∷ [])) ≡ entry 1000 6000 120 ∷ (entry 5000 65000 60 ∷ []))
    -- rule 2 changes only the expiry
    × (after (told 1000 7 120 ∷ (told 5000 8 60 ∷ (told 5500 8 0 ∷ []))) ≡ entry 1000 6000 120 ∷ (entry 5000 6500 60 ∷ []))
    -- rule 3 sets the TTL of an entry that is renewed to the record's
    × (after (told 1000 7 120 ∷ (told 5000 8 60 ∷ (told 5500 8 0 ∷ (told 5600 7 30 ∷ [])))) ≡ entry 5600 35600 30 ∷ (entry 5000 6500 60 ∷ []))

pub ttls : Ttls
unfolding run take_in take_refusal is_store_of is_size take_message take_records take_record cached_as rule1 each flushed live_of is_of soon after_rule1 rule23 equal_slot free_slot holds is_free lowest some same_name same_bytes is_nsec message_at and_then list_from question_at question_read record_at record_read name_at from_run read_from piece_at rdata_at rdata_in strings_fill form_in
ttls = (refl, refl, refl, refl)
