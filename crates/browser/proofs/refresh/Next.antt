-- The next query is due at the time that is said, and at none between. Assumes nothing.
use mathlib.Core.Path.{◌≡◌, refl, sym, ap, ap₂, subst, ◌∙◌}
use mathlib.Core.Bool.{Bool, true, false, cond, ◌&&◌, ◌||◌}
use mathlib.Core.List.{List, [], ◌∷◌}
use mathlib.Core.Logic.{◌⊎◌, ⊎_elim, inl, inr}
use Prim.Native.Nat.{ℕ, suc, ◌≤◌, ◌<◌}
use native.Mathlib.Omega.{arith}
use lib.Dec.{ltb, leb}
use borrow.Author.Tests.{lt-ltb, le-leb, ltb-true, leb-true, leb-false}
use mathlib.Mathlib.Data.Bool.Basic.{and-eq-true-eq-eq-true-and-eq-true as both}
use Rattle.cache.specs.declared.entries.Entry.{Entry}
use Rattle.cache.specs.entries.Entries.{is_live, is_of, live_of, rdata_held, lesser}
use Rattle.cache.specs.laws.Counts.{any_from}
use Rattle.wire.specs.names.Names.{is_name}
use Rattle.browser.specs.declared.Browser.{Browser}
use Rattle.browser.specs.service.Service.{service_name}
use Rattle.browser.specs.list.Listing.{is_shown}
use Rattle.browser.specs.series.Series.{series_at}
use Rattle.browser.specs.refresh.Refresh.{threshold, is_reached, may_ask, is_stale, refresh_due, query_due, greater, sooner_by, sooner, soonest, next_query}
use Rattle.browser.proofs.refresh.Due.{shown-live}

-- ---- numbers

trans : (x y z : ℕ) → x ≤ y → y ≤ z → x ≤ z
trans x y z h l = omega arith

greater-le : (x y u : ℕ) → x ≤ u → y ≤ u → greater x y ≤ u
greater-le x y u h l = go (leb x y)
  where
    go : (c : Bool) → cond c y x ≤ u
    go true = l
    go false = h

greater-left : (x y : ℕ) → x ≤ greater x y
greater-left x y = go (leb x y) refl
  where
    go : (c : Bool) → leb x y ≡ c → x ≤ cond c y x
    go true e = leb-true x y e
    go false e = omega arith

greater-right : (x y : ℕ) → y ≤ greater x y
greater-right x y = go (leb x y) refl
  where
    go : (c : Bool) → leb x y ≡ c → y ≤ cond c y x
    go true e = omega arith
    go false e = let m : y < x = leb-false x y e in omega arith

lesser-left : (t x : ℕ) → lesser t x ≤ t
lesser-left t x = go (leb t x) refl
  where
    go : (c : Bool) → leb t x ≡ c → cond c t x ≤ t
    go true e = omega arith
    go false e = let m : x < t = leb-false t x e in omega arith

lesser-right : (t x : ℕ) → lesser t x ≤ x
lesser-right t x = go (leb t x) refl
  where
    go : (c : Bool) → leb t x ≡ c → cond c t x ≤ x
    go true e = leb-true t x e
    go false e = omega arith

or_true : (c : Bool) → (c || true) ≡ true
or_true true = refl
or_true false = refl

or_split : (p q : Bool) → (p || q) ≡ true → (p ≡ true) ⊎ (q ≡ true)
or_split true q h = inl refl
or_split false q h = inr h

-- ---- one threshold, of a query, the threshold, a time and an expiry

abbrev by : ℕ → ℕ → ℕ → ℕ → ℕ → ℕ
by q th now exp t = cond (ltb q th && ltb (greater th now) exp) (lesser t (greater th now)) t

by_le : (q th now exp t : ℕ) → by q th now exp t ≤ t
by_le q th now exp t = go (ltb q th && ltb (greater th now) exp)
  where
    go : (c : Bool) → cond c (lesser t (greater th now)) t ≤ t
    go true = lesser-left t (greater th now)
    go false = omega arith

by-reach : (q th now exp t u : ℕ) → (leb th u && ltb q th) ≡ true → now ≤ u → u < exp → by q th now exp t ≤ u
by-reach q th now exp t u h l x =
    let p = (both (leb th u) (ltb q th)).0 h in
    let g : greater th now ≤ u = greater-le th now u (leb-true th u p.0) l in
    let live : ltb (greater th now) exp ≡ true = lt-ltb (greater th now) exp (below (greater th now) u exp g x) in
    subst (λ (c : Bool). cond c (lesser t (greater th now)) t ≤ u) (sym (ap₂ (λ (c d : Bool). c && d) p.1 live))
    (trans (lesser t (greater th now)) (greater th now) u (lesser-right t (greater th now)) g)
  where
    below : (a b c : ℕ) → a ≤ b → b < c → a < c
    below a b c h l = omega arith

by-either : (q th now exp t : ℕ) → (by q th now exp t ≡ t)
    ⊎ (((leb th (by q th now exp t) && ltb q th) ≡ true) × ((now ≤ by q th now exp t) × (by q th now exp t < exp)))
by-either q th now exp t = go (ltb q th && ltb (greater th now) exp) refl
  where
    go : (c : Bool) → (ltb q th && ltb (greater th now) exp) ≡ c
        → (cond c (lesser t (greater th now)) t ≡ t)
        ⊎ (((leb th (cond c (lesser t (greater th now)) t) && ltb q th) ≡ true) × ((now ≤ cond c (lesser t (greater th now)) t)
        × (cond c (lesser t (greater th now)) t < exp)))
    go false e = inl refl
    go true e = pick (leb t (greater th now))
      where
        pick : (d : Bool) → (cond d t (greater th now) ≡ t)
            ⊎ (((leb th (cond d t (greater th now)) && ltb q th) ≡ true) × ((now ≤ cond d t (greater th now)) × (cond d t (greater th now) < exp)))
        pick true = inl refl
        pick false =
            let p = (both (ltb q th) (ltb (greater th now) exp)).0 e in
            inr (
              ap₂ (λ (c d : Bool). c && d) (le-leb th (greater th now) (greater-left th now)) p.0,
              (greater-right th now, ltb-true (greater th now) exp p.1),
            )

-- ---- one entry

module _ (store : List ℕ) (b : Browser) where
  -- what may ask at one time may at another at which it lives
  may_at : (u v i : ℕ) (e : Entry) → may_ask u store b i e ≡ true → v < e.expiry → may_ask v store b i e ≡ true
  unfolding may_ask is_shown live_of
  may_at u v i e h l =
      let s = (both (ltb 0 b.count) ((is_live u e && is_of store (service_name b) 12 i e) && is_name (rdata_held store i e))).0 h in
      let n = (both (is_live u e && is_of store (service_name b) 12 i e) (is_name (rdata_held store i e))).0 s.1 in
      let o = (both (is_live u e) (is_of store (service_name b) 12 i e)).0 n.0 in
      ap₂ (λ (p q : Bool). p && q) s.0 (ap₂ (λ (p q : Bool). p && q) (ap₂ (λ (p q : Bool). p && q) (lt-ltb v e.expiry l) o.1) n.1)

  abbrev reached : ℕ → Entry → Bool
  reached u e = is_reached b u e 800 || (is_reached b u e 850 || (is_reached b u e 900 || is_reached b u e 950))

  module _ (now : ℕ) where
    abbrev one : Entry → ℕ → ℕ → ℕ
    one e t part = sooner_by b now e t part

    one-le : (e : Entry) (t part : ℕ) → sooner_by b now e t part ≤ t
    one-le e t part = by_le b.query (threshold b e part) now e.expiry t

    one-reach : (e : Entry) (t part u : ℕ) → is_reached b u e part ≡ true → now ≤ u → u < e.expiry → sooner_by b now e t part ≤ u
    one-reach e t part u h l x = by-reach b.query (threshold b e part) now e.expiry t u h l x

    abbrev Hit : Entry → ℕ → Type 0
    Hit e v = (reached v e ≡ true) × ((now ≤ v) × (v < e.expiry))

    four_le : (e : Entry) (t : ℕ) → one e (one e (one e (one e t 800) 850) 900) 950 ≤ t
    four_le e t =
        trans (one e (one e (one e (one e t 800) 850) 900) 950) (one e (one e (one e t 800) 850) 900) t (one-le e (one e (one e (one e t 800) 850) 900) 950)
        (trans (one e (one e (one e t 800) 850) 900) (one e (one e t 800) 850) t (one-le e (one e (one e t 800) 850) 900)
        (trans (one e (one e t 800) 850) (one e t 800) t (one-le e (one e t 800) 850) (one-le e t 800)))

    four_reach : (e : Entry) (t u : ℕ) → reached u e ≡ true → now ≤ u → u < e.expiry → one e (one e (one e (one e t 800) 850) 900) 950 ≤ u
    four_reach e t u h l x =
        ⊎_elim (λ (a : is_reached b u e 800 ≡ true). last (then (then (one-reach e t 800 u a l x) 850) 900))
        (λ (r : (is_reached b u e 850 || (is_reached b u e 900 || is_reached b u e 950)) ≡ true).
        ⊎_elim (λ (a : is_reached b u e 850 ≡ true). last (then (one-reach e (one e t 800) 850 u a l x) 900))
        (λ (r : (is_reached b u e 900 || is_reached b u e 950) ≡ true).
        ⊎_elim (λ (a : is_reached b u e 900 ≡ true). last (one-reach e (one e (one e t 800) 850) 900 u a l x))
        (λ (a : is_reached b u e 950 ≡ true). one-reach e (one e (one e (one e t 800) 850) 900) 950 u a l x)
        (or_split (is_reached b u e 900) (is_reached b u e 950) r))
        (or_split (is_reached b u e 850) (is_reached b u e 900 || is_reached b u e 950) r))
        (or_split (is_reached b u e 800) (is_reached b u e 850 || (is_reached b u e 900 || is_reached b u e 950)) h)
      where
        then : {y : ℕ} → y ≤ u → (part : ℕ) → one e y part ≤ u
        then {y = y} k part = trans (one e y part) y u (one-le e y part) k

        last : {y : ℕ} → y ≤ u → one e y 950 ≤ u
        last k = then k 950

    four_either : (e : Entry) (t : ℕ) → (one e (one e (one e (one e t 800) 850) 900) 950 ≡ t) ⊎ Hit e (one e (one e (one e (one e t 800) 850) 900) 950)
    four_either e t =
        step (one e (one e (one e t 800) 850) 900) (one e (one e (one e (one e t 800) 850) 900) 950)
        (at (one e (one e (one e t 800) 850) 900) 950 (λ v h. ap (λ (c : Bool). is_reached b v e 800 || (is_reached b v e 850 || (is_reached b v e 900 || c))) h
        ∙ ap (λ (c : Bool). is_reached b v e 800 || (is_reached b v e 850 || c)) (or_true (is_reached b v e 900))
        ∙ ap (λ (c : Bool). is_reached b v e 800 || c) (or_true (is_reached b v e 850))
        ∙ or_true (is_reached b v e 800)))
        (step (one e (one e t 800) 850) (one e (one e (one e t 800) 850) 900)
        (at (one e (one e t 800) 850) 900 (λ v h. ap (λ (c : Bool). is_reached b v e 800 || (is_reached b v e 850 || (c || is_reached b v e 950))) h
        ∙ ap (λ (c : Bool). is_reached b v e 800 || c) (or_true (is_reached b v e 850)) ∙ or_true (is_reached b v e 800)))
        (step (one e t 800) (one e (one e t 800) 850)
        (at (one e t 800) 850 (λ v h. ap (λ (c : Bool). is_reached b v e 800 || (c || (is_reached b v e 900 || is_reached b v e 950))) h
        ∙ or_true (is_reached b v e 800)))
        (at t 800 (λ v h. ap (λ (c : Bool). c || (is_reached b v e 850 || (is_reached b v e 900 || is_reached b v e 950))) h))))
      where
        at : (x part : ℕ) → ((v : ℕ) → is_reached b v e part ≡ true → reached v e ≡ true) → (one e x part ≡ x) ⊎ Hit e (one e x part)
        at x part some =
            ⊎_elim (λ (s : one e x part ≡ x). inl s)
            (λ (h : (is_reached b (one e x part) e part ≡ true) × ((now ≤ one e x part) × (one e x part < e.expiry))). inr (some (one e x part) h.0, h.1))
            (by-either b.query (threshold b e part) now e.expiry x)

        step : (x y : ℕ) → (y ≡ x) ⊎ Hit e y → (x ≡ t) ⊎ Hit e x → (y ≡ t) ⊎ Hit e y
        step x y p q =
            ⊎_elim (λ (s : y ≡ x). ⊎_elim (λ (r : x ≡ t). inl (s ∙ r)) (λ (h : Hit e x). inr (subst (Hit e) (sym s) h)) q) (λ (h : Hit e y). inr h) p

    entry-le : (i : ℕ) (e : Entry) (t : ℕ) → sooner now store b i e t ≤ t
    unfolding sooner
    entry-le i e t = go (may_ask now store b i e)
      where
        go : (c : Bool) → cond c (one e (one e (one e (one e t 800) 850) 900) 950) t ≤ t
        go true = four_le e t
        go false = omega arith

    entry-reach : (i : ℕ) (e : Entry) (t u : ℕ) → is_stale u store b i e ≡ true → now ≤ u → sooner now store b i e t ≤ u
    unfolding sooner is_stale
    entry-reach i e t u h l =
        let p = (both (may_ask u store b i e) (reached u e)).0 h in
        let x : u < e.expiry = shown-live u store b i e p.0 in
        let m : may_ask now store b i e ≡ true = may_at u now i e p.0 (omega arith) in
        subst (λ (c : Bool). cond c (one e (one e (one e (one e t 800) 850) 900) 950) t ≤ u) (sym m) (four_reach e t u p.1 l x)

    entry-either : (i : ℕ) (e : Entry) (t : ℕ) → (sooner now store b i e t ≡ t) ⊎ ((is_stale (sooner now store b i e t) store b i e ≡ true)
        × (now ≤ sooner now store b i e t))
    unfolding sooner is_stale
    entry-either i e t = go (may_ask now store b i e) refl
      where
        v : ℕ
        v = one e (one e (one e (one e t 800) 850) 900) 950

        go : (c : Bool) → may_ask now store b i e ≡ c
            → (cond c (one e (one e (one e (one e t 800) 850) 900) 950) t ≡ t)
            ⊎ (((may_ask (cond c (one e (one e (one e (one e t 800) 850) 900) 950) t) store b i e && reached
            (cond c (one e (one e (one e (one e t 800) 850) 900) 950) t) e) ≡ true)
            × (now ≤ cond c (one e (one e (one e (one e t 800) 850) 900) 950) t))
        go false m = inl refl
        go true m =
            ⊎_elim (λ (s : one e (one e (one e (one e t 800) 850) 900) 950 ≡ t). inl s)
            (λ (h : Hit e (one e (one e (one e (one e t 800) 850) 900) 950)).
            inr (ap₂ (λ (p q : Bool). p && q) (may_at now (one e (one e (one e (one e t 800) 850) 900) 950) i e m h.1.1) h.0, h.1.0))
            (four_either e t)

    -- ---- a table

    all-le : (i : ℕ) (es : List Entry) (t : ℕ) → soonest now store b i es t ≤ t
    unfolding soonest
    all-le i [] t = omega arith
    all-le i (e ∷ es) t =
        trans (soonest now store b (suc i) es (sooner now store b i e t)) (sooner now store b i e t) t (all-le (suc i) es (sooner now store b i e t))
        (entry-le i e t)

    all-reach : (i : ℕ) (es : List Entry) (t u : ℕ) → now ≤ u → any_from (is_stale u store b) i es ≡ true → soonest now store b i es t ≤ u
    unfolding soonest any_from
    all-reach i [] t u l h = let z : ◌≡◌ {A = ℕ} 0 1 = cc in absurd (omega arith)
    all-reach i (e ∷ es) t u l h =
        ⊎_elim (λ (s : is_stale u store b i e ≡ true). trans (soonest now store b (suc i) es (sooner now store b i e t)) (sooner now store b i e t) u
        (all-le (suc i) es (sooner now store b i e t)) (entry-reach i e t u s l))
        (λ (r : any_from (is_stale u store b) (suc i) es ≡ true). all-reach (suc i) es (sooner now store b i e t) u l r)
        (or_split (is_stale u store b i e) (any_from (is_stale u store b) (suc i) es) h)

    all_either : (i : ℕ) (es : List Entry) (t : ℕ) → (soonest now store b i es t ≡ t)
        ⊎ ((any_from (is_stale (soonest now store b i es t) store b) i es ≡ true) × (now ≤ soonest now store b i es t))
    unfolding soonest any_from
    all_either i [] t = inl refl
    all_either i (e ∷ es) t =
        ⊎_elim (λ (s : soonest now store b (suc i) es (sooner now store b i e t) ≡ sooner now store b i e t).
        ⊎_elim (λ (r : sooner now store b i e t ≡ t). inl (s ∙ r)) (λ (h : (is_stale (sooner now store b i e t) store b i e ≡ true)
        × (now ≤ sooner now store b i e t)).
        inr (subst (λ (u : ℕ). ((is_stale u store b i e || any_from (is_stale u store b) (suc i) es) ≡ true) × (now ≤ u)) (sym s)
        (ap (λ (c : Bool). c || any_from (is_stale (sooner now store b i e t) store b) (suc i) es) h.0, h.1)))
        (entry-either i e t))
        (λ (h : (any_from (is_stale (soonest now store b (suc i) es (sooner now store b i e t)) store b) (suc i) es ≡ true)
        × (now ≤ soonest now store b (suc i) es (sooner now store b i e t))).
        inr (
          ap (λ (c : Bool). is_stale (soonest now store b (suc i) es (sooner now store b i e t)) store b i e || c) h.0
              ∙ or_true (is_stale (soonest now store b (suc i) es (sooner now store b i e t)) store b i e),
          h.1,
        ))
        (all_either (suc i) es (sooner now store b i e t))

    -- ---- the next query

    pub query-then : (es : List Entry) → (query_due (next_query now store b es) store b es ≡ true) × (now ≤ next_query now store b es)
    unfolding query_due refresh_due next_query
    query-then es =
        ⊎_elim (λ (s : soonest now store b 0 es (greater (series_at b) now) ≡ greater (series_at b) now).
        subst (λ (u : ℕ). ((leb (series_at b) u || any_from (is_stale u store b) 0 es) ≡ true) × (now ≤ u)) (sym s) (
          ap (λ (c : Bool). c || any_from (is_stale (greater (series_at b) now) store b) 0 es)
              (le-leb (series_at b) (greater (series_at b) now) (greater-left (series_at b) now)),
          greater-right (series_at b) now,
        ))
        (λ (h : (any_from (is_stale (soonest now store b 0 es (greater (series_at b) now)) store b) 0 es ≡ true)
        × (now ≤ soonest now store b 0 es (greater (series_at b) now))). (
          ap (λ (c : Bool). leb (series_at b) (soonest now store b 0 es (greater (series_at b) now)) || c) h.0
              ∙ or_true (leb (series_at b) (soonest now store b 0 es (greater (series_at b) now))),
          h.1,
        ))
        (all_either 0 es (greater (series_at b) now))

    pub query-by : (es : List Entry) (u : ℕ) → now ≤ u → query_due u store b es ≡ true → next_query now store b es ≤ u
    unfolding query_due refresh_due next_query
    query-by es u l h =
        ⊎_elim (λ (s : leb (series_at b) u ≡ true). trans (soonest now store b 0 es (greater (series_at b) now)) (greater (series_at b) now) u
        (all-le 0 es (greater (series_at b) now))
        (greater-le (series_at b) now u (leb-true (series_at b) u s) l))
        (λ (r : any_from (is_stale u store b) 0 es ≡ true). all-reach 0 es (greater (series_at b) now) u l r)
        (or_split (leb (series_at b) u) (any_from (is_stale u store b) 0 es) h)
