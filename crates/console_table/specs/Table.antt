-- The table of the console's cache: what is lent of it and of its byte store, and what taking a message makes of both. Assumes nothing: these are definitions.
use Rattle.std.specs.Prelude.{ℕ, List, ◌++◌, cond, take, drop, replicate, ltb}
use Rattle.cache.specs.entries.Entries.{blank}
use Rattle.cache.specs.entries.Cache.{Cache, take_in}
use Rattle.cache.specs.Answers.{taken_of}
use Rattle.cache.specs.declared.entries.Entry.{Entry}
use Rattle.capi_cache.specs.Numbers.{taken_numbers}
use Rattle.console_table.specs.declared.Table.{Table}
use Rattle.console_table.specs.declared.FirstTaken.{FirstTaken}
use Rattle.console_table.specs.declared.AfterTake.{AfterTake}

abbrev pub least : ℕ → ℕ → ℕ
least a b = cond (ltb a b) a b

-- a message taken into the first n entries: the others stay
abbrev pub first_taken : ℕ → ℕ → List Entry → List ℕ → ℕ → List ℕ → FirstTaken
first_taken time n es store port p =
    record { numbers = taken_numbers (taken_of time (take n es) store port p); entries = (take_in time (take n es) store port p).entries ++ drop n es }

-- what is lent: the first entries of a table, and the first bytes of a store
abbrev pub lent_entries : Table → List Entry
lent_entries t = take t.count t.entries

abbrev pub lent_bytes : Table → List ℕ → List ℕ
lent_bytes t store = take t.room store

-- a table of zeros, of any size
abbrev pub zeros : ℕ → ℕ → Table
zeros count room = record { entries = replicate 513 blank; count = count; room = room }

-- a message taken into what is lent: what is not lent stays
abbrev pub lent_cache : ℕ → Table → List ℕ → ℕ → List ℕ → Cache
lent_cache time t store port p = take_in time (lent_entries t) (lent_bytes t store) port p

abbrev pub table_by : ℕ → Table → List ℕ → ℕ → List ℕ → Table
table_by time t store port p =
    record { entries = (lent_cache time t store port p).entries ++ drop t.count t.entries; count = t.count; room = t.room }

unfoldable pub taken_into : ℕ → Table → List ℕ → ℕ → List ℕ → AfterTake
taken_into time t store port p =
    record { numbers = taken_numbers (taken_of time (lent_entries t) (lent_bytes t store) port p); table = table_by time t store port p }

unfoldable pub store_after : ℕ → Table → List ℕ → ℕ → List ℕ → List ℕ
store_after time t store port p = (lent_cache time t store port p).store ++ drop t.room store
