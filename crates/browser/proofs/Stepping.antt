-- What a tick makes of a browser: it is refused, sends no query, or sends one. Assumes nothing.
use Rattle.std.proofs.Common.{None, Option}
use mathlib.Core.Path.{◌≡◌, refl, ap, ap₂, ◌∙◌}
use mathlib.Core.Bool.{Bool, true, false, cond, ◌&&◌}
use mathlib.Core.List.{List, [], ◌∷◌}
use Prim.Native.Nat.{ℕ, suc, ◌≤◌}
use native.Mathlib.Omega.{arith}
use lib.Dec.{eqb}
use lib.ListN.{length}
use borrow.Author.Tests.{eqb-true, ne_eqb}
use Rattle.cache.specs.declared.entries.Entry.{Entry}
use Rattle.browser.specs.declared.Browser.{Browser}
use Rattle.browser.specs.known_answers.Known.{known_from, known_owed}
use Rattle.browser.specs.query.Query.{asking, packet_for, stop_for}
use Rattle.browser.specs.refresh.Refresh.{query_due}
use Rattle.browser.specs.series.Spacing.{asks}
use Rattle.browser.specs.Calls.{Turn, turn_with, turn_of, tick_refusal, tick_of, resumed, asked}
use Rattle.browser.specs.Runs.{State, tick, after}
use Rattle.browser.proofs.Refusing.{tick-number, tick-passed}

pub data Step (s : State) (now room : ℕ) (t : Browser) : Type 0 where
  refused : asks s now room ≡ false → t ≡ s.browser → Step s now room t
  kept : asks s now room ≡ false → s.browser.last ≤ now → (owed : Option ℕ) → t ≡ resumed s.browser now owed → Step s now room t
  sent : asks s now room ≡ true → s.browser.last ≤ now → (owed : Option ℕ) → t ≡ asked s.browser now owed → Step s now room t

pub step : (s : State) (now room : ℕ) → Step s now room (after s (tick now room)).browser
unfolding asks tick_of turn_of
step s now room = go (eqb (tick_refusal b now es store room) 0) refl
  where
    b : Browser
    b = s.browser

    es : List Entry
    es = s.entries

    store : List ℕ
    store = s.store

    known : List ℕ
    known = known_owed now s.store s.browser s.entries s.browser.owed

    says : (n : Bool) → eqb (tick_refusal s.browser now s.entries s.store room) 0 ≡ n
        → (l : List ℕ) → known_owed now s.store s.browser s.entries s.browser.owed ≡ l
        → asks s now room ≡ (n && (eqb (length l) 0 && query_due now s.store s.browser s.entries))
    says n e l k = ap₂ (λ (c : Bool) (m : List ℕ). c && (eqb (length m) 0 && query_due now s.store s.browser s.entries)) e k

    turned : (n : Bool) → eqb (tick_refusal s.browser now s.entries s.store room) 0 ≡ n
        → (l : List ℕ) → known_owed now s.store s.browser s.entries s.browser.owed ≡ l
        → (tick_of s.browser now s.entries s.store room).browser ≡ cond n (turn_with now s.store s.browser s.entries l).browser s.browser
    turned n e l k = ap₂ (λ (c : Bool) (m : List ℕ). cond c (turn_with now s.store s.browser s.entries m).browser s.browser) e k

    some : (i : ℕ) (is : List ℕ) → (eqb (length (i ∷ is)) 0 && query_due now s.store s.browser s.entries) ≡ false
    some i is = ap (λ (c : Bool). c && query_due now s.store s.browser s.entries) (ne_eqb (suc (length is)) 0
        (λ (z : suc (length is) ≡ 0). omega arith))

    go : (n : Bool) → eqb (tick_refusal s.browser now s.entries s.store room) 0 ≡ n
        → Step s now room (tick_of s.browser now s.entries s.store room).browser
    go false e = refused (says false e known refl) (turned false e known refl)
    go true e = inner known refl
      where
        low : s.browser.last ≤ now
        low = (tick-passed s.browser now s.entries s.store room
            (tick-number s.browser now s.entries s.store room ∙ eqb-true (tick_refusal s.browser now s.entries s.store room) 0 e)).after

        inner : (l : List ℕ) → known_owed now s.store s.browser s.entries s.browser.owed ≡ l
            → Step s now room (tick_of s.browser now s.entries s.store room).browser
        inner (i ∷ is) k = kept (says true e (i ∷ is) k ∙ some i is) low (stop_for now s.store s.entries [] (i ∷ is)) (turned true e (i ∷ is) k)
        inner [] k = split (query_due now s.store s.browser s.entries) refl
          where
            stop : Option ℕ
            stop = stop_for now s.store s.entries (asking s.browser) (known_from now s.store s.browser s.entries 0)

            either : (c : Bool) → query_due now s.store s.browser s.entries ≡ c
                → (turn_with now s.store s.browser s.entries []).browser ≡ cond c (asked s.browser now stop) (resumed s.browser now None)
            either c q = ap (λ (d : Bool). (cond {A = Turn} d
                (record {
                  packet = packet_for now s.store s.entries (asking s.browser)
                      (known_from now s.store s.browser s.entries 0);
                  browser = asked s.browser now stop;
                })
                (record { packet = []; browser = resumed s.browser now None })).browser) q ∙ out c
              where
                out : (d : Bool) → (cond {A = Turn} d
                    (record {
                      packet = packet_for now s.store s.entries (asking s.browser)
                          (known_from now s.store s.browser s.entries 0);
                      browser = asked s.browser now stop;
                    })
                    (record { packet = []; browser = resumed s.browser now None })).browser
                    ≡ cond d (asked s.browser now stop) (resumed s.browser now None)
                out true = refl
                out false = refl

            split : (c : Bool) → query_due now s.store s.browser s.entries ≡ c → Step s now room
                (tick_of s.browser now s.entries s.store room).browser
            split true q = sent (says true e [] k ∙ q) low stop (turned true e [] k ∙ either true q)
            split false q = kept (says true e [] k ∙ q) low None (turned true e [] k ∙ either false q)
