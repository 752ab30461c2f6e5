-- The next query is looked for an entry at a time. Assumes nothing.
use mathlib.Core.Path.{◌≡◌, sym, ap, ◌∙◌}
use mathlib.Core.List.{List}
use Prim.Native.Nat.{ℕ, ◌+◌, ◌<◌, ◌≤◌}
use native.Mathlib.Numerals.{add-one}
use lib.ListN.{length, get_or, drop, drop_of_length-le}
use Rattle.cache.specs.declared.entries.Entry.{Entry}
use Rattle.cache.specs.entries.Entries.{blank}
use Rattle.cache.proofs.entries.Searches.{at_slot}
use Rattle.browser.specs.declared.Browser.{Browser}
use Rattle.browser.specs.series.Series.{series_at}
use Rattle.browser.specs.refresh.Refresh.{greater, sooner, soonest, next_query}

module _ (now : ℕ) (store : List ℕ) (b : Browser) (es : List Entry) where
  pub soonest-on :
      (i t : ℕ) → i < length es → soonest now store b i (drop i es) t ≡ soonest now store b (i + 1) (drop (i + 1) es) (sooner now store b i (get_or es i blank) t)
  unfolding soonest
  soonest-on i t l =
      ap (λ (xs : List Entry). soonest now store b i xs t) (at_slot es i l)
      ∙ ap (λ (k : ℕ). soonest now store b k (drop (i + 1) es) (sooner now store b i (get_or es i blank) t)) (sym (add-one i))

  pub soonest-end : (i t : ℕ) → length es ≤ i → soonest now store b i (drop i es) t ≡ t
  unfolding soonest
  soonest-end i t l = ap (λ (xs : List Entry). soonest now store b i xs t) (drop_of_length-le es l)

  pub soonest-start : soonest now store b 0 (drop 0 es) (greater (series_at b) now) ≡ next_query now store b es
  unfolding next_query
  soonest-start = λ _. soonest now store b 0 es (greater (series_at b) now)
