-- Refresh queries: "After the first, a query also goes out, the gaps unchanged, once the age of a live PTR entry of the name reaches 80, 85, 90 or 95 percent
-- of its TTL, plus a second start draw of 0 to 20 thousandths of it, and none went out since." Assumes nothing: these are definitions.
use Rattle.std.specs.Prelude.{ℕ, suc, ◌+◌, ◌*◌, List, [], ◌∷◌, Bool, cond, ◌&&◌, ◌||◌, ltb, leb}
use Rattle.cache.specs.declared.entries.Entry.{Entry}
use Rattle.cache.specs.entries.Entries.{lesser}
use Rattle.cache.specs.laws.Counts.{any_from}
use Rattle.browser.specs.declared.Browser.{Browser}
use Rattle.browser.specs.list.Listing.{is_shown}
use Rattle.browser.specs.series.Series.{series_at, series_due}

-- when an entry's age reaches so many thousandths of its TTL and the draw's: a TTL of 1 s has 1 ms for each
abbrev pub threshold : Browser → Entry → ℕ → ℕ
threshold b e part = e.received + e.ttl * (part + b.refresh)

-- the threshold is reached, and no query went out since; one sent in that very millisecond counts as since
abbrev pub is_reached : Browser → ℕ → Entry → ℕ → Bool
is_reached b now e part = leb (threshold b e part) now && ltb b.query (threshold b e part)

-- "After the first": the entry in slot i may ask for a query
unfoldable pub may_ask : ℕ → List ℕ → Browser → ℕ → Entry → Bool
may_ask now store b i e = ltb 0 b.count && is_shown now store b i e

-- it does
unfoldable pub is_stale : ℕ → List ℕ → Browser → ℕ → Entry → Bool
is_stale now store b i e =
    may_ask now store b i e && (is_reached b now e 800 || (is_reached b now e 850 || (is_reached b now e 900 || is_reached b now e 950)))

-- some entry does
unfoldable pub refresh_due : ℕ → List ℕ → Browser → List Entry → Bool
refresh_due now store b es = any_from (is_stale now store b) 0 es

-- "If both are due, one serves."
unfoldable pub query_due : ℕ → List ℕ → Browser → List Entry → Bool
query_due now store b es = series_due b now || refresh_due now store b es

-- ---- the time of the next query, for who waits for it

abbrev pub greater : ℕ → ℕ → ℕ
greater a b = cond (leb a b) b a

-- the lesser of a time and that at which a threshold asks for a query: not before now, after the last query, and while the entry is live
abbrev pub sooner_by : Browser → ℕ → Entry → ℕ → ℕ → ℕ
sooner_by b now e t part =
    cond (ltb b.query (threshold b e part) && ltb (greater (threshold b e part) now) e.expiry) (lesser t (greater (threshold b e part) now)) t

-- the lesser of a time and that at which the entry in slot i asks for a query
unfoldable pub sooner : ℕ → List ℕ → Browser → ℕ → Entry → ℕ → ℕ
sooner now store b i e t =
    cond (may_ask now store b i e) (sooner_by b now e (sooner_by b now e (sooner_by b now e (sooner_by b now e t 800) 850) 900) 950) t

-- of a time and the entries from slot i on
unfoldable pub soonest : ℕ → List ℕ → Browser → ℕ → List Entry → ℕ → ℕ
soonest now store b i [] t = t
soonest now store b i (e ∷ es) t = soonest now store b (suc i) es (sooner now store b i e t)

-- the next query from now on, with the table as it is
unfoldable pub next_query : ℕ → List ℕ → Browser → List Entry → ℕ
next_query now store b es = soonest now store b 0 es (greater (series_at b) now)
