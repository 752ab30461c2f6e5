-- The series of queries: "first query after a draw of 20..120 ms, then gaps of 1 s from its sending, doubled each time, up to 60 minutes".
-- Assumes nothing: these are definitions.
use Rattle.std.specs.Prelude.{ℕ, ◌+◌, ◌-◌, ◌*◌, ◌^◌, Bool, cond, ltb, leb, eqb}
use Rattle.browser.specs.declared.Browser.{Browser}

-- the gap behind the k-th query of the series, in ms: 1, 2, 4 .. 2,048 s, then 3,600 s (`doubled` in proofs/series/Gaps.antt)
unfoldable pub gap_after : ℕ → ℕ
gap_after k = cond (ltb 12 k) 3600000 (1000 * 2 ^ (k - 1))

-- when the next query of the series is due: the first after the start's draw, each other a gap after the last was sent
unfoldable pub series_at : Browser → ℕ
series_at b = b.series + cond (eqb b.count 0) b.draw (gap_after b.count)

abbrev pub series_due : Browser → ℕ → Bool
series_due b now = leb (series_at b) now

-- one more was sent; the gaps do not grow any more after the thirteenth
abbrev pub counted : ℕ → ℕ
counted k = cond (ltb k 13) (k + 1) k
