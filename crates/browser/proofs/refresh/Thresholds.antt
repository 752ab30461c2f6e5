-- When an entry asks for a query, from what the code has tested. Assumes nothing.
use mathlib.Core.Path.{◌≡◌, refl, sym, ap, ◌∙◌}
use mathlib.Core.Bool.{Bool, true, false, cond, ◌&&◌, and-false}
use mathlib.Core.List.{List}
use Prim.Native.Nat.{ℕ, ◌+◌, ◌-◌, ◌*◌, ◌/◌, ◌<◌, ◌≤◌}
use native.Mathlib.Nat.{le-div_iff_mul-le, div-lt_iff_lt-mul}
use native.Mathlib.Omega.{arith}
use lib.Dec.{ltb, leb}
use borrow.Author.Tests.{lt-ltb, le-ltb, le-leb, lt-leb, leb-true, leb-false}
use Rattle.cache.specs.declared.entries.Entry.{Entry}
use Rattle.cache.specs.entries.Entries.{lesser}
use Rattle.browser.specs.declared.Browser.{Browser}
use Rattle.browser.specs.refresh.Refresh.{threshold, greater, sooner_by, may_ask, sooner}

-- the greater of two is at least each
pub above : (a b : ℕ) → (a ≤ greater a b) × (b ≤ greater a b)
above a b = go (leb a b) refl
  where
    go : (t : Bool) → leb a b ≡ t → (a ≤ greater a b) × (b ≤ greater a b)
    go true e = let h : a ≤ b = leb-true a b e in rw e (h, omega arith)
    go false e = let h : b < a = leb-false a b e in rw e (omega arith, omega arith)

-- a share of at least 800 thousandths that ends before the expiry
pub product_fits : (b : Browser) (e : Entry) (part : ℕ) → 800 ≤ part → e.received < e.expiry → e.ttl ≤ (e.expiry - e.received - 1) / (part + b.refresh)
    → e.received + e.ttl * (part + b.refresh) < e.expiry
product_fits b e part large h q =
    let some : 0 < part + b.refresh = omega arith in
    let m : e.ttl * (part + b.refresh) ≤ e.expiry - e.received - 1 = (le-div_iff_mul-le some).0 q in
    omega (arith, m, h)

module _ (b : Browser) (now : ℕ) (e : Entry) (t part : ℕ) where
  at : ℕ
  at = greater (threshold b e part) now

  not-then : e.expiry ≤ greater (threshold b e part) now → t ≡ sooner_by b now e t part
  not-then h =
      let no_more : ltb (greater (threshold b e part) now) e.expiry ≡ false = le-ltb _ _ h in
      sym (ap (λ (c : Bool). cond (ltb b.query (threshold b e part) && c) (lesser t (greater (threshold b e part) now)) t) no_more
      ∙ ap (λ (c : Bool). cond c (lesser t (greater (threshold b e part) now)) t) (and-false (ltb b.query (threshold b e part))))

  is-then : b.query < threshold b e part → greater (threshold b e part) now < e.expiry → lesser t (greater (threshold b e part) now) ≡ sooner_by b now e t part
  is-then q h = sym (simp (lt-ltb _ _ q, lt-ltb _ _ h))

  pub by-dead : e.expiry ≤ e.received → t ≡ sooner_by b now e t part
  by-dead h = let a = (above (threshold b e part) now).0 in not-then (omega arith)

  pub by-late : 800 ≤ part → e.received < e.expiry → (e.expiry - e.received - 1) / (part + b.refresh) < e.ttl → t ≡ sooner_by b now e t part
  by-late large h q =
      let some : 0 < part + b.refresh = omega arith in
      let m : e.expiry - e.received - 1 < e.ttl * (part + b.refresh) = (div-lt_iff_lt-mul some).0 q in
      let a = (above (threshold b e part) now).0 in not-then (omega arith)

  pub by-asked : threshold b e part ≤ b.query → t ≡ sooner_by b now e t part
  by-asked h = sym (simp (le-ltb _ _ h))

  pub by-past : threshold b e part < now → e.expiry ≤ now → t ≡ sooner_by b now e t part
  by-past l h = let a = (above (threshold b e part) now).1 in not-then (omega arith)

  same_now : threshold b e part < now → greater (threshold b e part) now ≡ now
  same_now l = let k : threshold b e part ≤ now = omega arith in simp (le-leb _ _ k)

  same_at : now ≤ threshold b e part → greater (threshold b e part) now ≡ threshold b e part
  same_at l = go (leb (threshold b e part) now) refl
    where
      go : (c : Bool) → leb (threshold b e part) now ≡ c → greater (threshold b e part) now ≡ threshold b e part
      go true k = let m : threshold b e part ≤ now = leb-true _ _ k in rw k (omega arith)
      go false k = rw k refl

  at-now : b.query < threshold b e part → threshold b e part < now → now < e.expiry → lesser t now ≡ sooner_by b now e t part
  at-now q l h = ap (lesser t) (sym (same_now l)) ∙ is-then q (rw (same_now l) h)

  pub by-now_first : b.query < threshold b e part → threshold b e part < now → now < e.expiry → t ≤ now → t ≡ sooner_by b now e t part
  by-now_first q l h f = sym (simp (le-leb _ _ f)) ∙ at-now q l h

  pub by-now : b.query < threshold b e part → threshold b e part < now → now < e.expiry → now < t → now ≡ sooner_by b now e t part
  by-now q l h f = sym (simp (lt-leb _ _ f)) ∙ at-now q l h

  module _ (large : 800 ≤ part) (some : e.received < e.expiry) (fits : e.ttl ≤ (e.expiry - e.received - 1) / (part + b.refresh)) where
    at-threshold : b.query < threshold b e part → now ≤ threshold b e part → lesser t (threshold b e part) ≡ sooner_by b now e t part
    at-threshold q l = ap (lesser t) (sym (same_at l)) ∙ is-then q (rw (same_at l) (product_fits b e part large some fits))

    pub by-at_first : b.query < threshold b e part → now ≤ threshold b e part → t ≤ threshold b e part → t ≡ sooner_by b now e t part
    by-at_first q l f = sym (simp (le-leb _ _ f)) ∙ at-threshold q l

    pub by-at : b.query < threshold b e part → now ≤ threshold b e part → threshold b e part < t → threshold b e part ≡ sooner_by b now e t part
    by-at q l f = sym (simp (lt-leb _ _ f)) ∙ at-threshold q l

module _ (now : ℕ) (store : List ℕ) (b : Browser) (i : ℕ) (e : Entry) where
  module _ (t : ℕ) (v : Bool) (is : v ≡ may_ask now store b i e) where
    pub sooner-not : v ≡ false → t ≡ sooner now store b i e t
    unfolding sooner
    sooner-not h = sym (simp (sym is ∙ h))

    pub sooner-all : v ≡ true → (t₁ t₂ t₃ t₄ : ℕ) → t₁ ≡ sooner_by b now e t 800 → t₂ ≡ sooner_by b now e t₁ 850 → t₃ ≡ sooner_by b now e t₂ 900 → t₄
        ≡ sooner_by b now e t₃ 950
        → t₄ ≡ sooner now store b i e t
    unfolding sooner
    sooner-all h t₁ t₂ t₃ t₄ e₁ e₂ e₃ e₄ =
        e₄ ∙ ap (λ (k : ℕ). sooner_by b now e k 950) (e₃ ∙ ap (λ (k : ℕ). sooner_by b now e k 900) (e₂ ∙ ap (λ (k : ℕ). sooner_by b now e k 850) e₁))
        ∙ sym (simp (sym is ∙ h))
