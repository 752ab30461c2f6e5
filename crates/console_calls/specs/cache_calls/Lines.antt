-- What a line makes of the console's cache, a table and its byte store: `put NOW PORT PACKET` takes a message, `table N` or `table N STORE` makes another
-- table, `clear` makes all zeros again, and every other line leaves it. Assumes nothing: these are definitions.
use Rattle.std.specs.Prelude.{ℕ, ◌*◌, List, [], ◌∷◌, Bool, cond, ◌&&◌, ◌||◌, length, replicate, leb}
use Rattle.wire.specs.expansion.Equal.{same_bytes}
use Rattle.console_table.specs.Table.{zeros, taken_into, store_after}
use Rattle.console_table.specs.declared.Table.{Table}
use Rattle.console_text.specs.fields.Numbers.{is_number_at, number_at, number16_at}
use Rattle.console_text.specs.fields.Forms.{has_arguments, is_word, are_bytes_at, bytes_in}

-- the words `put`, `look`, `slot`, `table` and `clear`
abbrev pub put_word : List ℕ
put_word = 112 ∷ (117 ∷ (116 ∷ []))

abbrev pub look_word : List ℕ
look_word = 108 ∷ (111 ∷ (111 ∷ (107 ∷ [])))

abbrev pub slot_word : List ℕ
slot_word = 115 ∷ (108 ∷ (111 ∷ (116 ∷ [])))

abbrev pub table_word : List ℕ
table_word = 116 ∷ (97 ∷ (98 ∷ (108 ∷ (101 ∷ []))))

abbrev pub clear_word : List ℕ
clear_word = 99 ∷ (108 ∷ (101 ∷ (97 ∷ (114 ∷ []))))

-- a word is one of these calls
unfoldable pub is_cache_call : List ℕ → Bool
is_cache_call word =
    same_bytes word put_word || (same_bytes word look_word || (same_bytes word slot_word || (same_bytes word table_word || same_bytes word clear_word)))

-- a table and its byte store
pub record Kept : Type 0 where
  pub table : Table
  pub store : List ℕ

abbrev pub left : Table → List ℕ → Kept
left t store = record { table = t; store = store }

-- a table of zeros, of so many entries, over a store of zeros, of which so many bytes are the table's
abbrev pub made : ℕ → ℕ → List ℕ → Kept
made count room store = left (zeros count room) (replicate (length store) 0)

-- the form `put NOW PORT PACKET`
unfoldable pub is_put : List ℕ → Bool
is_put line = has_arguments line 3 && (is_number_at line 1 && (is_number_at line 2 && are_bytes_at line 3))

-- a message taken
abbrev pub message_taken : ℕ → Table → List ℕ → ℕ → List ℕ → Kept
message_taken time t store port p = left (taken_into time t store port p).table (store_after time t store port p)

-- after a `put`: a message is taken, from a line of its form. A port that is too great for one is 0, which is no 5353 either; a packet has at most 20,000
-- bytes, as many as the longest line spells.
unfoldable pub after_put : List ℕ → Table → List ℕ → Kept
after_put line t store = cond (is_put line) (message_taken (number_at line 1) t store (number16_at line 2) (bytes_in 20000 line 3)) (left t store)

-- after a `clear`: zeros, as large as it was
unfoldable pub after_clear : List ℕ → Table → List ℕ → Kept
after_clear line t store = cond (has_arguments line 0) (made t.count t.room store) (left t store)

-- the form `table N` or `table N STORE`: at most 513 entries, and at most 525,312 bytes, 1,024 for each entry where STORE is missing
unfoldable pub is_table : List ℕ → Bool
is_table line =
    is_number_at line 1 && (leb (number_at line 1) 513
    && (has_arguments line 1 || (has_arguments line 2 && (is_number_at line 2 && leb (number_at line 2) 525312))))

unfoldable pub room_told : List ℕ → ℕ
room_told line = cond (has_arguments line 1) (1024 * number_at line 1) (number_at line 2)

unfoldable pub after_table : List ℕ → Table → List ℕ → Kept
after_table line t store = cond (is_table line) (made (number_at line 1) (room_told line) store) (left t store)

-- the cache after a line, by its first word
unfoldable pub cache_after : List ℕ → Table → List ℕ → Kept
cache_after line t store =
    cond (is_word put_word line) (after_put line t store)
    (cond (is_word clear_word line) (after_clear line t store) (cond (is_word table_word line) (after_table line t store) (left t store)))
