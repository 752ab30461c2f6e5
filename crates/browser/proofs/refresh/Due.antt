-- A query is due exactly where the time of the next one has come; none is right after one was sent. Assumes nothing.
use Rattle.std.proofs.Common.{Option}
use mathlib.Core.Path.{◌≡◌, refl, sym, ap, ap₂, ◌∙◌}
use mathlib.Core.Bool.{Bool, true, false, cond, ◌&&◌, ◌||◌, and-false, or-false}
use mathlib.Core.List.{List, [], ◌∷◌}
use Prim.Native.Nat.{ℕ, suc, ◌+◌, ◌*◌, ◌≤◌, ◌<◌}
use native.Mathlib.Omega.{arith}
use lib.Dec.{ltb, leb, eqb}
use borrow.Author.Tests.{lt-ltb, le-ltb, le-leb, lt-leb, ltb-true, ltb-false, leb-true, leb-false, ne_eqb}
use mathlib.Mathlib.Data.Bool.Basic.{and-eq-true-eq-eq-true-and-eq-true as both}
use Rattle.cache.specs.declared.entries.Entry.{Entry}
use Rattle.cache.specs.entries.Entries.{is_live, is_of, live_of, rdata_held, lesser}
use Rattle.cache.specs.laws.Counts.{any_from}
use Rattle.wire.specs.names.Names.{is_name}
use Rattle.browser.specs.declared.Browser.{Browser}
use Rattle.browser.specs.service.Service.{service_name}
use Rattle.browser.specs.list.Listing.{is_shown}
use Rattle.browser.specs.series.Series.{gap_after, series_at, series_due, counted}
use Rattle.browser.specs.refresh.Refresh.{threshold, is_reached, may_ask, is_stale, refresh_due, query_due, greater, sooner_by, sooner, soonest, next_query}
use Rattle.browser.specs.Calls.{resumed, asked}
use Rattle.browser.proofs.series.Gaps.{gap_least}

-- ---- the next query

lesser-now : (t now : ℕ) → leb (lesser t now) now ≡ true
lesser-now t now = go (leb t now) refl
  where
    go : (c : Bool) → leb t now ≡ c → leb (lesser t now) now ≡ true
    go true e = rw e e
    go false e = rw e (le-leb now now (omega arith))

lesser-late : (t x now : ℕ) → now < x → leb (lesser t x) now ≡ leb t now
lesser-late t x now h = go (leb t x) refl
  where
    go : (c : Bool) → leb t x ≡ c → leb (lesser t x) now ≡ leb t now
    go true e = rw e refl
    go false e =
        let m : x < t = leb-false t x e in
        let k : now < t = omega arith in rw e (lt-leb x now h ∙ sym (lt-leb t now k))

greater-early : (x now : ℕ) → x ≤ now → greater x now ≡ now
greater-early x now h = simp (le-leb _ _ h)

greater-late : (x now : ℕ) → now < x → greater x now ≡ x
greater-late x now h = simp (lt-leb _ _ h)

or_true : (c : Bool) → (c || true) ≡ true
or_true true = refl
or_true false = refl

-- one threshold
by_one : (b : Browser) (now : ℕ) (e : Entry) (t part : ℕ) → now < e.expiry → leb (sooner_by b now e t part) now ≡ (leb t now || is_reached b now e part)
by_one b now e t part live = go (ltb b.query (threshold b e part)) refl (leb (threshold b e part) now) refl
  where
    th : ℕ
    th = threshold b e part

    go : (s : Bool) → ltb b.query (threshold b e part) ≡ s → (c : Bool) → leb (threshold b e part) now ≡ c
        → leb (sooner_by b now e t part) now ≡ (leb t now || (leb (threshold b e part) now && ltb b.query (threshold b e part)))
    go false s c k = rw (s, and-false) (sym (or-false (leb t now)))
    go true s true k =
        let early : greater (threshold b e part) now ≡ now = greater-early (threshold b e part) now (leb-true (threshold b e part) now k) in
        rw (s, early, lt-ltb now e.expiry live, k) (lesser-now t now ∙ sym (or_true (leb t now)))
    go true s false k =
        let far : now < threshold b e part = leb-false (threshold b e part) now k in
        let late : greater (threshold b e part) now ≡ threshold b e part = greater-late (threshold b e part) now far in
        rw (s, late, k) (inner (ltb (threshold b e part) e.expiry) ∙ sym (or-false (leb t now)))
      where
        inner : (x : Bool) → leb (cond x (lesser t (threshold b e part)) t) now ≡ leb t now
        inner true = lesser-late t (threshold b e part) now (leb-false (threshold b e part) now k)
        inner false = refl

four : (a p q r s : Bool) → ((((a || p) || q) || r) || s) ≡ (a || (p || (q || (r || s))))
four true p q r s = refl
four false true q r s = refl
four false false true r s = refl
four false false false true s = refl
four false false false false s = refl

module _ (now : ℕ) (store : List ℕ) (b : Browser) where
  pub shown-live : (i : ℕ) (e : Entry) → may_ask now store b i e ≡ true → now < e.expiry
  unfolding may_ask is_shown live_of
  shown-live i e h =
      let s = ((both (ltb 0 b.count) ((is_live now e && is_of store (service_name b) 12 i e) && is_name (rdata_held store i e))).0 h).1 in
      let l = ((both (is_live now e && is_of store (service_name b) 12 i e) (is_name (rdata_held store i e))).0 s).0 in
      ltb-true now e.expiry ((both (is_live now e) (is_of store (service_name b) 12 i e)).0 l).0

  by-entry : (i : ℕ) (e : Entry) (t : ℕ) → leb (sooner now store b i e t) now ≡ (leb t now || is_stale now store b i e)
  unfolding sooner is_stale
  by-entry i e t = go (may_ask now store b i e) refl
    where
      go : (c : Bool) → may_ask now store b i e ≡ c
          → leb (cond c (sooner_by b now e (sooner_by b now e (sooner_by b now e (sooner_by b now e t 800) 850) 900) 950) t) now
          ≡ (leb t now || (c && (is_reached b now e 800 || (is_reached b now e 850 || (is_reached b now e 900 || is_reached b now e 950)))))
      go true k =
          let l = shown-live i e k in
          by_one b now e (sooner_by b now e (sooner_by b now e (sooner_by b now e t 800) 850) 900) 950 l
          ∙ ap (λ (x : Bool). x || is_reached b now e 950) (by_one b now e (sooner_by b now e (sooner_by b now e t 800) 850) 900 l
          ∙ ap (λ (x : Bool). x || is_reached b now e 900) (by_one b now e (sooner_by b now e t 800) 850 l
          ∙ ap (λ (x : Bool). x || is_reached b now e 850) (by_one b now e t 800 l)))
          ∙ four (leb t now) (is_reached b now e 800) (is_reached b now e 850) (is_reached b now e 900) (is_reached b now e 950)
      go false k = sym (or-false (leb t now))

  by_all : (i : ℕ) (es : List Entry) (t : ℕ) → leb (soonest now store b i es t) now ≡ (leb t now || any_from (is_stale now store b) i es)
  unfolding soonest any_from
  by_all i [] t = sym (or-false (leb t now))
  by_all i (e ∷ es) t =
      by_all (suc i) es (sooner now store b i e t) ∙ ap (λ (c : Bool). c || any_from (is_stale now store b) (suc i) es) (by-entry i e t)
      ∙ grouped (leb t now) (is_stale now store b i e) (any_from (is_stale now store b) (suc i) es)
    where
      grouped : (p q r : Bool) → ((p || q) || r) ≡ (p || (q || r))
      grouped true q r = refl
      grouped false q r = refl

  pub due-is : (es : List Entry) → leb (next_query now store b es) now ≡ query_due now store b es
  unfolding next_query query_due refresh_due
  due-is es = by_all 0 es (greater (series_at b) now) ∙ ap (λ (c : Bool). c || any_from (is_stale now store b) 0 es) (go (leb (series_at b) now) refl)
    where
      go : (c : Bool) → leb (series_at b) now ≡ c → leb (greater (series_at b) now) now ≡ leb (series_at b) now
      go true e = rw e (le-leb now now (omega arith))
      go false e = rw e e

-- ---- after a tick

any_same : (f g : ℕ → Entry → Bool) → ((i : ℕ) (e : Entry) → f i e ≡ g i e) → (k : ℕ) (es : List Entry) → any_from f k es ≡ any_from g k es
unfolding any_from
any_same f g same k [] = refl
any_same f g same k (e ∷ es) = ap₂ (λ (p q : Bool). p || q) (same k e) (any_same f g same (suc k) es)

any_none : (f : ℕ → Entry → Bool) → ((i : ℕ) (e : Entry) → f i e ≡ false) → (k : ℕ) (es : List Entry) → any_from f k es ≡ false
unfolding any_from
any_none f none k [] = refl
any_none f none k (e ∷ es) = ap₂ (λ (p q : Bool). p || q) (none k e) (any_none f none (suc k) es)

stale_same : (now : ℕ) (store : List ℕ) (b : Browser) (owed : Option ℕ) (i : ℕ) (e : Entry) → is_stale now store (resumed b now owed) i e ≡ is_stale now store b i e
unfolding is_stale may_ask is_shown service_name resumed
stale_same now store b owed i e = refl

asked-stale : (now : ℕ) (store : List ℕ) (b : Browser) (owed : Option ℕ) (i : ℕ) (e : Entry) → is_stale now store (asked b now owed) i e ≡ false
unfolding is_stale asked
asked-stale now store b owed i e =
    ap (λ (c : Bool). may_ask now store (asked b now owed) i e && c)
    (ap₂ (λ (p q : Bool). p || q) (never 800) (ap₂ (λ (p q : Bool). p || q) (never 850) (ap₂ (λ (p q : Bool). p || q) (never 900) (never 950))))
    ∙ and-false (may_ask now store (asked b now owed) i e)
  where
    never : (part : ℕ) → (leb (e.received + e.ttl * (part + b.refresh)) now && ltb now (e.received + e.ttl * (part + b.refresh))) ≡ false
    never part = go (e.received + e.ttl * (part + b.refresh))
      where
        go : (t : ℕ) → (leb t now && ltb now t) ≡ false
        go t = split (leb t now) refl
          where
            split : (c : Bool) → leb t now ≡ c → (leb t now && ltb now t) ≡ false
            split true k = let m : t ≤ now = leb-true t now k in rw k (le-ltb now t m)
            split false k = rw k refl

series_past : (now : ℕ) (b : Browser) (owed : Option ℕ) → series_due (asked b now owed) now ≡ false
unfolding series_at asked
series_past now b owed = go (leb (series_at b) now) refl
  where
    some : (k : ℕ) → eqb (counted k) 0 ≡ false
    some k = split (ltb k 13) refl
      where
        split : (c : Bool) → ltb k 13 ≡ c → eqb (cond c (k + 1) k) 0 ≡ false
        split true e = ne_eqb (k + 1) 0 (λ z. omega arith)
        split false e = let m : 13 ≤ k = ltb-false k 13 e in ne_eqb k 0 (λ z. omega arith)

    go : (c : Bool) → leb (series_at b) now ≡ c
        → leb (cond c now b.series + cond (eqb (cond c (counted b.count) b.count) 0) b.draw (gap_after (cond c (counted b.count) b.count)))
        now ≡ false
    go true e =
        let g = gap_least (counted b.count) in
        ap (λ (t : Bool). leb (now + cond t b.draw (gap_after (counted b.count))) now) (some b.count)
        ∙ lt-leb (now + gap_after (counted b.count)) now (omega arith)
    go false e = e

pub resumed-due : (now : ℕ) (store : List ℕ) (b : Browser) (owed : Option ℕ) (es : List Entry) → query_due now store (resumed b now owed) es
    ≡ query_due now store b es
unfolding query_due refresh_due series_at resumed
resumed-due now store b owed es = ap (λ (c : Bool). series_due b now || c) (any_same (is_stale now store (resumed b now owed)) (is_stale now store b) same 0 es)
  where
    same : (i : ℕ) (e : Entry) → is_stale now store (resumed b now owed) i e ≡ is_stale now store b i e
    same i e = stale_same now store b owed i e

pub asked-due : (now : ℕ) (store : List ℕ) (b : Browser) (owed : Option ℕ) (es : List Entry) → query_due now store (asked b now owed) es ≡ false
unfolding query_due refresh_due
asked-due now store b owed es = ap₂ (λ (p q : Bool). p || q) (series_past now b owed) (any_none (is_stale now store (asked b now owed))
    (asked-stale now store b owed) 0 es)
