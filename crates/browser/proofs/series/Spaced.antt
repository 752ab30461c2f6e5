-- The queries of the series are spaced by the gaps. Assumes nothing.
use Rattle.std.proofs.Common.{Option}
use mathlib.Core.Path.{◌≡◌, refl, sym, ap, ap₂, subst, ◌∙◌}
use mathlib.Core.Bool.{Bool, true, false, cond, ◌&&◌}
use mathlib.Core.List.{List, [], ◌∷◌}
use Prim.Native.Nat.{ℕ, suc, ◌+◌, ◌≤◌, ◌<◌}
use native.Mathlib.Omega.{arith}
use lib.Dec.{ltb, eqb}
use borrow.Author.Tests.{le-ltb, ltb-true, ltb-false, leb-true, ne_eqb}
use Rattle.browser.specs.declared.Browser.{Browser}
use Rattle.browser.specs.series.Series.{gap_after, series_at, series_due, counted}
use Rattle.browser.specs.series.Spacing.{asks, series_times, wait_after, Spaced, none, next, SeriesSpaced}
use Rattle.browser.specs.Calls.{resumed, asked}
use Rattle.browser.specs.Runs.{Event, packet, tick, State, after}
use Rattle.browser.proofs.series.Gaps.{gap_long}
use Rattle.browser.proofs.Stepping.{Step, refused, kept, sent, step}

-- the count of a browser, which stops at 13, stands for the number k of those that were sent
pub data Counts (c k : ℕ) : Type 0 where
  exact : c ≡ k → k ≤ 13 → Counts c k
  many : c ≡ 13 → 13 ≤ k → Counts c k

counts_more : (c k : ℕ) → Counts c k → Counts (counted c) (suc k)
counts_more c k (exact e l) = go (ltb c 13) refl
  where
    go : (t : Bool) → ltb c 13 ≡ t → Counts (cond t (c + 1) c) (suc k)
    go true h = let m : c < 13 = ltb-true c 13 h in exact (omega arith) (omega arith)
    go false h = let m : 13 ≤ c = ltb-false c 13 h in many (omega arith) (omega arith)
counts_more c k (many e l) =
    let s : ltb c 13 ≡ false = le-ltb c 13 (omega arith) in
    let d : counted c ≡ c = ap (λ (t : Bool). cond t (c + 1) c) s in many (d ∙ e) (omega arith)

counts_wait : (draw c k : ℕ) → Counts c k → wait_after draw c ≡ wait_after draw k
counts_wait draw c k (exact e l) = ap (wait_after draw) e
counts_wait draw c k (many e l) =
    let z : eqb k 0 ≡ false = ne_eqb k 0 (λ (h : k ≡ 0). omega arith) in
    ap (wait_after draw) e ∙ sym (gap_long 13 (omega arith)) ∙ gap_long k (omega arith) ∙ ap (λ (t : Bool). cond t draw (gap_after k)) (sym z)

module _ (b : Browser) (now : ℕ) (owed : Option ℕ) where
  kept-draw : (resumed b now owed).draw ≡ b.draw
  unfolding resumed
  kept-draw = refl

  kept-count : (resumed b now owed).count ≡ b.count
  unfolding resumed
  kept-count = refl

  kept-series : (resumed b now owed).series ≡ b.series
  unfolding resumed
  kept-series = refl

  sent_draw : (asked b now owed).draw ≡ b.draw
  unfolding asked
  sent_draw = refl

  sent_count : (asked b now owed).count ≡ cond (series_due b now) (counted b.count) b.count
  unfolding asked
  sent_count = refl

  sent_series : (asked b now owed).series ≡ cond (series_due b now) now b.series
  unfolding asked
  sent_series = refl

far_by : (b : Browser) (now k : ℕ) → Counts b.count k → series_due b now ≡ true → b.series + wait_after b.draw k ≤ now
unfolding series_at
far_by b now k c d = subst (λ (n : ℕ). b.series + n ≤ now) (counts_wait b.draw b.count k c) (leb-true (series_at b) now d)

spaced : (s : State) (run : List Event) (k : ℕ) → Counts s.browser.count k → Spaced s.browser.draw k s.browser.series (series_times s run)
spaced s [] k c = none
spaced s (packet now port p ∷ run) k c = spaced (after s (packet now port p)) run k c
spaced s (tick now room ∷ run) k c = go (step s now room) (spaced (after s (tick now room)) run)
  where
    u : State
    u = after s (tick now room)

    still : (asks s now room && series_due s.browser now) ≡ false
        → (after s (tick now room)).browser.draw ≡ s.browser.draw → (after s (tick now room)).browser.count ≡ s.browser.count
        → (after s (tick now room)).browser.series ≡ s.browser.series
        → ((k : ℕ) → Counts (after s (tick now room)).browser.count k → Spaced (after s (tick now room)).browser.draw k
        (after s (tick now room)).browser.series (series_times (after s (tick now room)) run))
        → Spaced s.browser.draw k s.browser.series (cond (asks s now room && series_due s.browser now)
        (now ∷ series_times (after s (tick now room)) run) (series_times (after s (tick now room)) run))
    still a p q r ih =
        subst (λ (x : Bool). Spaced s.browser.draw k s.browser.series (cond x (now ∷ series_times (after s (tick now room)) run)
        (series_times (after s (tick now room)) run))) (sym a)
        (subst (λ (n : ℕ). Spaced s.browser.draw k n (series_times (after s (tick now room)) run)) r
        (subst (λ (n : ℕ). Spaced n k (after s (tick now room)).browser.series (series_times (after s (tick now room)) run)) p
        (ih k (subst (λ (n : ℕ). Counts n k) (sym q) c))))

    same : asks s now room ≡ false
        → (after s (tick now room)).browser.draw ≡ s.browser.draw → (after s (tick now room)).browser.count ≡ s.browser.count
        → (after s (tick now room)).browser.series ≡ s.browser.series
        → ((k : ℕ) → Counts (after s (tick now room)).browser.count k → Spaced (after s (tick now room)).browser.draw k
        (after s (tick now room)).browser.series (series_times (after s (tick now room)) run))
        → Spaced s.browser.draw k s.browser.series (cond (asks s now room && series_due s.browser now)
        (now ∷ series_times (after s (tick now room)) run) (series_times (after s (tick now room)) run))
    same a = still (ap (λ (x : Bool). x && series_due s.browser now) a)

    go : Step s now room (after s (tick now room)).browser
        → ((k : ℕ) → Counts (after s (tick now room)).browser.count k → Spaced (after s (tick now room)).browser.draw k
        (after s (tick now room)).browser.series (series_times (after s (tick now room)) run))
        → Spaced s.browser.draw k s.browser.series (cond (asks s now room && series_due s.browser now)
        (now ∷ series_times (after s (tick now room)) run) (series_times (after s (tick now room)) run))
    go (refused a e) ih = same a (ap (λ (b : Browser). b.draw) e) (ap (λ (b : Browser). b.count) e) (ap (λ (b : Browser). b.series) e) ih
    go (kept a l owed e) ih = same a (ap (λ (b : Browser). b.draw) e ∙ kept-draw s.browser now owed)
        (ap (λ (b : Browser). b.count) e ∙ kept-count s.browser now owed) (ap (λ (b : Browser). b.series) e ∙ kept-series s.browser now owed) ih
    go (sent a l owed e) ih = split (series_due s.browser now) refl
      where
        split : (d : Bool) → series_due s.browser now ≡ d
            → Spaced s.browser.draw k s.browser.series (cond (asks s now room && series_due s.browser now)
            (now ∷ series_times (after s (tick now room)) run) (series_times (after s (tick now room)) run))
        split true d = subst (λ (x : Bool). Spaced s.browser.draw k s.browser.series
            (cond x (now ∷ series_times (after s (tick now room)) run) (series_times (after s (tick now room)) run)))
            (sym (ap₂ (λ (x y : Bool). x && y) a d))
            (next (far_by s.browser now k c d) (with (ap (λ (b : Browser). b.draw) e ∙ sent_draw s.browser now owed)
            (ap (λ (b : Browser). b.series) e ∙ sent_series s.browser now owed ∙ ap (λ (x : Bool). cond x now s.browser.series) d)
            (ih (suc k) (subst (λ (n : ℕ). Counts n (suc k)) (sym (ap (λ (b : Browser). b.count) e ∙ sent_count s.browser now owed
            ∙ ap (λ (x : Bool). cond x (counted s.browser.count) s.browser.count) d))
            (counts_more s.browser.count k c)))))
          where
            with : {draw at : ℕ} → draw ≡ s.browser.draw → at ≡ now → Spaced draw (suc k) at (series_times (after s (tick now room)) run)
                → Spaced s.browser.draw (suc k) now (series_times (after s (tick now room)) run)
            with {at = at} p q h = subst (λ (n : ℕ). Spaced s.browser.draw (suc k) n (series_times (after s (tick now room)) run)) q
                (subst (λ (n : ℕ). Spaced n (suc k) at (series_times (after s (tick now room)) run)) p h)
        split false d = still (ap₂ (λ (x y : Bool). x && y) a d) (ap (λ (b : Browser). b.draw) e ∙ sent_draw s.browser now owed)
            (ap (λ (b : Browser). b.count) e ∙ sent_count s.browser now owed ∙ ap (λ (x : Bool). cond x (counted s.browser.count)
            s.browser.count) d)
            (ap (λ (b : Browser). b.series) e ∙ sent_series s.browser now owed ∙ ap (λ (x : Bool). cond x now s.browser.series) d) ih

pub series_spaced : SeriesSpaced
series_spaced s run c = spaced s run 0 (exact c (omega arith))
