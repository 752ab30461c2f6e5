-- What the series promises over any run of packets and ticks: "the gaps between queries of the series are at least 1, 2, 4 .. 3,600 s". Statements; proved in
-- proofs/series/Spaced.antt. Assumes nothing.
use Rattle.std.specs.Prelude.{ℕ, suc, ◌+◌, ◌≤◌, ◌≡◌, Bool, cond, ◌&&◌, List, [], ◌∷◌, eqb, length}
use Rattle.browser.specs.series.Series.{gap_after, series_due}
use Rattle.browser.specs.refresh.Refresh.{query_due}
use Rattle.browser.specs.known_answers.Known.{known_owed}
use Rattle.browser.specs.Calls.{tick_refusal}
use Rattle.browser.specs.Runs.{Event, packet, tick, State, after}

-- a tick sends a query: it is not refused, nothing is left of what is owed, and a query is due
unfoldable pub asks : State → ℕ → ℕ → Bool
asks s now room =
    eqb (tick_refusal s.browser now s.entries s.store room) 0
    && (eqb (length (known_owed now s.store s.browser s.entries s.browser.owed)) 0 && query_due now s.store s.browser s.entries)

-- one of the series
abbrev pub asks_series : State → ℕ → ℕ → Bool
asks_series s now room = asks s now room && series_due s.browser now

-- when the queries of the series are sent in a run
abbrev pub series_times : State → List Event → List ℕ
series_times s [] = []
series_times s (packet now port p ∷ run) = series_times (after s (packet now port p)) run
series_times s (tick now room ∷ run) = cond (asks_series s now room) (now ∷ series_times (after s (tick now room)) run) (series_times (after s (tick now room)) run)

-- behind the start the draw, behind the k-th query its gap
abbrev pub wait_after : ℕ → ℕ → ℕ
wait_after draw k = cond (eqb k 0) draw (gap_after k)

-- each time is at least so long after the one before it; `at` is the time of the k-th, or the start
pub data Spaced (draw : ℕ) : ℕ → ℕ → List ℕ → Type 0 where
  none : {k at : ℕ} → Spaced draw k at []
  next : {k at time : ℕ} {times : List ℕ} → at + wait_after draw k ≤ time → Spaced draw (suc k) time times → Spaced draw k at (time ∷ times)

-- `series-spaced`: in any run over any table, from a browser that has sent none of the series
abbrev pub SeriesSpaced : Type 0
SeriesSpaced = (s : State) (run : List Event) → s.browser.count ≡ 0 → Spaced s.browser.draw 0 s.browser.series (series_times s run)
