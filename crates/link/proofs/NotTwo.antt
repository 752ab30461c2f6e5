-- No two parties come to hold by their probes with different data. Say X came to hold first. If Y did so at most 100 ms later, each heard the other's third
-- probe while probing, and one of them would have deferred (`near`). Otherwise Y, while probing, heard X's announcement, or X's answer to its second
-- probe (`far`): Y would have lost. Assumes nothing.
use mathlib.Core.Path.{◌≡◌, subst, ◌∙◌}
use mathlib.Core.Logic.{⊎_elim}
use Prim.Native.Nat.{ℕ, zero, suc, ◌+◌, ◌≤◌, ◌<◌}
use native.Mathlib.Omega.{arith}
use native.Mathlib.Decide.{dec_le, dec_lt}
use Rattle.link.specs.Premises.{delivery_time}
use Rattle.link.specs.Laws.{Stage, held, Unclaimed}
use Rattle.link.proofs.Contest.{Contest, Taken}
use Rattle.link.proofs.Probes.{Life, probing_active, held-active}

module _ (L : Contest) where
  open L use {link, Party, course, Tells, records, Later, HearsProbe, HearsRecord, Differ, differ_sym, one-actor}
  open L.link use {count, base, time, in_order_lem}

  abbrev stage : Party → ℕ → Stage
  stage d = (course d).stage

  abbrev Acts : Party → ℕ → Type 0
  Acts d = (course d).Acts

  abbrev Lived : Party → ℕ → ℕ → Type 0
  Lived d m n = Life link (course d) m n

  -- an entry at an earlier time is an earlier entry
  pub earlier : (i j : ℕ) → base ≤ j → i < count → time i < time j → i < j
  earlier i j b h l = go (dec_lt i j)
    where
      go : Dec (i < j) → i < j
      go (yes k) = k
      go (no k) = let o : time j ≤ time i = in_order_lem j i b (omega arith) h in absurd (omega arith)

  -- while a claim is probing its records stay the same
  unchanged : (d : Party) (m n : ℕ) (D : Lived d m n) (k : ℕ) → k ≤ D.hold → (j : ℕ) → D.p1 < j → j ≤ k → records d k ≡ records d j
  unchanged d m n D zero h j a b = absurd (omega arith)
  unchanged d m n D (suc k) h j a b = go (dec_le j k) (unchanged d m n D k (omega arith) j a)
    where
      go : Dec (j ≤ k) → (j ≤ k → records d k ≡ records d j) → records d (suc k) ≡ records d j
      go (yes l) f = L.steady d k (D.during k (omega arith) (omega arith)) (D.during (suc k) (omega arith) h) ∙ f l
      go (no l) f = let e : suc k ≡ j = omega arith in λ i. records d (e i)

  -- w's probe, taken by z after z's first probe and 100 ms before z holds, is not later than what z has when it comes to hold
  not-later :
      (m n : ℕ) → base ≤ m → n ≤ count → (w z : Party) → Differ w z → (Z : Lived z m n) → (i : ℕ) → Z.p1 < i → i < Z.hold → (course w).Probes i
      → time i + delivery_time < time Z.hold → Later (records w i) (records z Z.hold) → ⊥
  not-later m n bm h w z differ Z i a b p t l =
      let k : Taken time (HearsProbe z w (records w i)) i Z.hold =
      L.probe-heard w z i Z.hold (omega arith) (omega arith) differ (omega arith) p (probing_active (stage z i) (Z.during i a (omega arith)))
      (probing_active (stage z Z.hold) (Z.during Z.hold (omega arith) (omega arith))) t
      in
      let same : records z Z.hold ≡ records z k.at = unchanged z m n Z Z.hold (omega arith) k.at (omega arith) (omega arith) in
      probing_active (stage z (suc k.at)) (Z.during (suc k.at) (omega arith) (omega arith))
      (L.defers z w (records w i) k.at (differ_sym w z differ) k.takes (subst (λ r. Later (records w i) r) same l)
      (Z.during k.at (omega arith) (omega arith)))

  -- y came to hold by three probes
  module _ (m n : ℕ) (bm : base ≤ m) (in_List : n ≤ count) (x y : Party) (differ : Differ x y) (Y : Lived y m n) where
    -- x tells y its record at no entry between y's first probe and 100 ms before y holds: y would hear it and lose
    pub silent : (q : ℕ) → Y.p1 < q → q < Y.hold → Tells x y q → time q + delivery_time < time Y.hold → ⊥
    silent q a b s t =
        let k : Taken time (HearsRecord y x) q Y.hold =
        L.record_heard x y q Y.hold (omega arith) (omega arith) differ (omega arith) s
        (probing_active (stage y q) (Y.during q (omega arith) (omega arith)))
        (probing_active (stage y Y.hold) (Y.during Y.hold (omega arith) (omega arith))) t
        in
        probing_active (stage y (suc k.at)) (Y.during (suc k.at) (omega arith) (omega arith))
        (L.yields y x k.at (differ_sym x y differ) k.takes)

    -- x is held from y's first probe on: it answers y's second probe
    pub answered : ((j : ℕ) → Y.p1 ≤ j → j ≤ Y.hold → stage x j ≡ held) → ⊥
    answered holds =
        let k : Taken time (HearsProbe x y (records y Y.p2)) Y.p2 Y.hold =
        L.probe-heard y x Y.p2 Y.hold (omega arith) (omega arith) (differ_sym x y differ) (omega arith) Y.probes2
        (held-active (stage x Y.p2) (holds Y.p2 (omega arith) (omega arith)))
        (held-active (stage x Y.hold) (holds Y.hold (omega arith) (omega arith))) (omega arith)
        in
        silent k.at (omega arith) k.before
        (L.defends x y (records y Y.p2) k.at differ k.takes (holds k.at (omega arith) (omega arith))) (omega arith)

    -- y is probing or held since its first probe
    pub active : (j : ℕ) → suc Y.p1 ≤ j → j ≤ n → Unclaimed (stage y j) → ⊥
    active j l h = go (dec_le j Y.hold)
      where
        go : Dec (j ≤ Y.hold) → Unclaimed (stage y j) → ⊥
        go (yes w) = probing_active (stage y j) (Y.during j (omega arith) w)
        go (no w) = held-active (stage y j) (Y.after j (omega arith) h)

  -- both came to hold by three probes, x first
  module _
      (a b n : ℕ) (ba : base ≤ a) (bb : base ≤ b) (in_List : n ≤ count) (x y : Party) (differ : Differ x y) (X : Lived x a n) (Y : Lived y b n)
      (o : X.hold < Y.hold)
    where
      -- y holds at most 100 ms after x: each has heard the other's third probe
      near : time Y.hold ≤ time X.hold + delivery_time → ⊥
      near t =
          let later : time X.hold ≤ time Y.hold = in_order_lem X.hold Y.hold (omega arith) (omega arith) (omega arith) in
          let x1 : X.p1 < Y.p3 = earlier X.p1 Y.p3 (omega arith) (omega arith) (omega arith) in
          let x4 : Y.p3 < X.hold = earlier Y.p3 X.hold (omega arith) (omega arith) (omega arith) in
          let y1 : Y.p1 < X.p3 = earlier Y.p1 X.p3 (omega arith) (omega arith) (omega arith) in
          let sx : records x X.hold ≡ records x X.p3 = unchanged x a n X X.hold (omega arith) X.p3 (omega arith) (omega arith) in
          let sy : records y Y.hold ≡ records y Y.p3 = unchanged y b n Y Y.hold (omega arith) Y.p3 (omega arith) (omega arith) in
          ⊎_elim
          (λ l. not-later b n bb in_List x y differ Y X.p3 y1 (omega arith) X.probes3 (omega arith)
          (subst (λ r. Later r (records y Y.hold)) sx l))
          (λ l. not-later a n ba in_List y x (differ_sym x y differ) X Y.p3 x1 x4 Y.probes3 (omega arith)
          (subst (λ r. Later r (records x X.hold)) sy l))
          (L.tie x y X.hold Y.hold differ (X.during X.hold (omega arith) (omega arith)) (Y.during Y.hold (omega arith) (omega arith)))

      -- y holds later than that: it heard x's announcement, or x's answer
      far : time X.hold + delivery_time < time Y.hold → ⊥
      far t = first (dec_lt X.hold Y.p1) (dec_lt Y.p1 X.hold)
        where
          first : Dec (X.hold < Y.p1) → Dec (Y.p1 < X.hold) → ⊥
          first (yes l) e = answered b n bb in_List x y differ Y (λ j p q. X.after j (omega arith) (omega arith))
          first (no l) (yes g) = silent b n bb in_List x y differ Y X.hold g o (L.tells_all x y X.hold X.announces) t
          first (no l) (no g) =
              let e : X.hold ≡ Y.p1 = omega arith in
              one-actor x y Y.p1 differ (subst (λ (i : ℕ). Acts x i) e X.acts4) Y.acts1

      pub ordered : ⊥
      ordered = go (dec_le (time Y.hold) (time X.hold + delivery_time))
        where
          go : Dec (time Y.hold ≤ time X.hold + delivery_time) → ⊥
          go (yes t) = near t
          go (no t) = far (omega arith)
