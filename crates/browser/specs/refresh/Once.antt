-- What refresh queries promise: "a refresh query goes out at most once for a threshold". Statements; proved in proofs/refresh/Once.antt. Assumes nothing.
use Rattle.std.specs.Prelude.{ℕ, ◌≤◌, ◌≡◌, true, false, List}
use Rattle.cache.specs.declared.entries.Entry.{Entry}
use Rattle.browser.specs.refresh.Refresh.{threshold, is_reached}
use Rattle.browser.specs.series.Spacing.{asks}
use Rattle.browser.specs.Runs.{Event, tick, State, after, after_all}

-- `refresh-once`: after a query of either kind, a threshold that was reached by then asks for none, at any time after any run; from a browser whose last
-- query is not after its last call, as it is from the start on (`query-kept` in proofs/refresh/Once.antt)
abbrev pub RefreshOnce : Type 0
RefreshOnce = (s : State) (now room : ℕ) (run : List Event) → s.browser.query ≤ s.browser.last → asks s now room ≡ true
    → (e : Entry) (part : ℕ) → threshold s.browser e part ≤ now → (time : ℕ)
    → is_reached (after_all (after s (tick now room)) run).browser time e part ≡ false
