-- The refusals 1 and 8 of a table, by the latest time of receipt and the greatest lengths of its entries. Assumes nothing: these are definitions.
use Rattle.std.specs.Prelude.{ℕ, ◌^◌, max, cond, not, ◌||◌, ltb}
use Rattle.cache.specs.entries.Cache.{is_size}
use Rattle.cache.specs.declared.entries.Entry.{Entry}
use Rattle.capi_cache.specs.declared.Most.{Most}

-- of no entries, and of one more
abbrev pub no_most : Most
no_most = record { received = 0; rdata = 0; owner = 0 }

unfoldable pub most_with : Most → Entry → Most
most_with m e = record { received = max m.received e.received; rdata = max m.rdata e.rdata; owner = max m.owner e.owner }

-- the number after n entries: 1 comes before 8
unfoldable pub ended : ℕ → Most → ℕ → ℕ
ended now m n = cond (ltb (2 ^ 62) now || ltb now m.received) 1 (cond (not (is_size n) || (ltb 255 m.owner || ltb 768 m.rdata)) 8 0)
