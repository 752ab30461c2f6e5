-- When two parties are held together with different data: never, but for at most 100 ms after an update by which one of them is held, if one of them was
-- neither probing nor held at some moment and the other was not probing then or before. Assumes nothing.
use mathlib.Core.Path.{◌≡◌, subst}
use mathlib.Core.Logic.{◌⊎◌, inl, inr}
use Prim.Native.Nat.{ℕ, suc, ◌+◌, ◌≤◌, ◌<◌}
use native.Mathlib.Omega.{arith}
use native.Mathlib.Decide.{dec_le, dec_lt}
use Rattle.link.specs.Premises.{delivery_time}
use Rattle.link.specs.Laws.{Stage, held, Unclaimed}
use Rattle.link.proofs.Course.{Probing}
use Rattle.link.proofs.Contest.{Contest, Taken}
use Rattle.link.proofs.Probes.{Life, Anew, Origin, along, probed, updated, origin, probing_active, held-active}
use Rattle.link.proofs.NotTwo.{earlier, answered, active, ordered}

-- d is held after the first n entries by an update of its own, as a holder, and no entry up to the next one comes more than 100 ms after it.
pub record Lately (L : Contest) (d : L.Party) (n : ℕ) : Type 0 where
  pub at : ℕ
  pub from-base : L.link.base ≤ at
  pub at<n : at < n
  pub updates : (L.course d).Updates at
  pub after : (j : ℕ) → at < j → j ≤ n → (L.course d).stage j ≡ held
  pub soon : (q : ℕ) → L.link.base ≤ q → q ≤ n → q < L.link.count → L.link.time q ≤ L.link.time at + delivery_time

module _ (L : Contest) where
  open L use {link, Party, course, HearsRecord, Differ, differ_sym, one-actor}
  open L.link use {count, base, time}

  abbrev stage : Party → ℕ → Stage
  stage d = (course d).stage

  abbrev Acts : Party → ℕ → Type 0
  Acts d = (course d).Acts

  abbrev Lived : Party → ℕ → ℕ → Type 0
  Lived d m n = Life link (course d) m n

  abbrev Renewed : Party → ℕ → ℕ → Type 0
  Renewed d m n = Anew link (course d) m n

  -- x holds by an update
  module _ (a n : ℕ) (ba : base ≤ a) (in_List : n ≤ count) (x y : Party) (differ : Differ x y) (X : Renewed x a n) where
    -- who is probing or held from before the update on hears it within 100 ms
    overheard : (l : ℕ) → l ≤ X.at → ((j : ℕ) → l ≤ j → j ≤ n → Unclaimed (stage y j) → ⊥) → Lately L x n
    overheard l h f = record { at = X.at; from-base = omega arith; at<n = X.at<n; updates = X.updates; after = X.after; soon = soon }
      where
        past : (q : ℕ) → base ≤ q → q ≤ n → q < count → time X.at + delivery_time < time q → ⊥
        past q bq qn qc t =
            let o : X.at < q = earlier L X.at q bq (omega arith) (omega arith) in
            let k : Taken time (HearsRecord y x) X.at q =
            L.record_heard x y X.at q (omega arith) (omega arith) differ qc (L.tells_all x y X.at X.announces) (f X.at h (omega arith))
            (f q (omega arith) qn) t
            in
            f (suc k.at) (omega arith) (omega arith) (L.yields y x k.at (differ_sym x y differ) k.takes)

        soon : (q : ℕ) → base ≤ q → q ≤ n → q < count → time q ≤ time X.at + delivery_time
        soon q bq qn qc = go (dec_le (time q) (time X.at + delivery_time))
          where
            go : Dec (time q ≤ time X.at + delivery_time) → time q ≤ time X.at + delivery_time
            go (yes t) = t
            go (no t) = absurd (past q bq qn qc (omega arith))

    -- y holds by three probes
    against : (b : ℕ) → base ≤ b → Lived y b n → Lately L x n
    against b bb Y = go (dec_lt Y.p1 X.at) (dec_lt X.at Y.p1)
      where
        go : Dec (Y.p1 < X.at) → Dec (X.at < Y.p1) → Lately L x n
        go (yes l) e = overheard (suc Y.p1) (omega arith) (active L b n bb in_List x y differ Y)
        go (no l) (yes g) = absurd (answered L b n bb in_List x y differ Y (λ j p r. X.after j (omega arith) (omega arith)))
        go (no l) (no g) =
            let e : X.at ≡ Y.p1 = omega arith in
            absurd (one-actor x y Y.p1 differ (subst (λ (i : ℕ). Acts x i) e X.acts) Y.acts1)

  -- Both are held after the first n entries, x was neither probing nor held at an earlier moment a, and y was not probing at a moment b at or before a: then
  -- one of them was updated lately.
  pub not-two_since :
      (a b n : ℕ) → base ≤ b → b ≤ a → a ≤ n → n ≤ count → (x y : Party) → Differ x y → Unclaimed (stage x a) → (Probing (stage y b) → ⊥)
      → stage x n ≡ held → stage y n ≡ held → Lately L x n ⊎ Lately L y n
  not-two_since a b n bb l h in_List x y differ u f p q =
      go (origin link (course x) a n ba h in_List (λ w. probing_active (stage x a) w u) p)
      (origin link (course y) b n bb (omega arith) in_List f q)
    where
      ba : base ≤ a
      ba = omega arith

      back : Differ y x
      back = differ_sym x y differ

      lives : Lived x a n → Lived y b n → ⊥
      lives X Y = cmp (dec_lt X.hold Y.hold) (dec_lt Y.hold X.hold)
        where
          cmp : Dec (X.hold < Y.hold) → Dec (Y.hold < X.hold) → ⊥
          cmp (yes o) e = ordered L a b n ba bb in_List x y differ X Y o
          cmp (no o) (yes e) = ordered L b a n bb ba in_List y x back Y X e
          cmp (no o) (no e) =
              let s : X.hold ≡ Y.hold = omega arith in
              one-actor x y Y.hold differ (subst (λ (i : ℕ). Acts x i) s X.acts4) Y.acts4

      updates : Renewed x a n → Renewed y b n → Lately L x n ⊎ Lately L y n
      updates X Y = cmp (dec_lt X.at Y.at) (dec_lt Y.at X.at)
        where
          cmp : Dec (X.at < Y.at) → Dec (Y.at < X.at) → Lately L x n ⊎ Lately L y n
          cmp (yes o) e =
              inr (overheard b n bb in_List y x back Y (suc X.at) (omega arith) (λ j r s. held-active (stage x j) (X.after j (omega arith) s)))
          cmp (no o) (yes e) =
              inl (overheard a n ba in_List x y differ X (suc Y.at) (omega arith) (λ j r s. held-active (stage y j) (Y.after j (omega arith) s)))
          cmp (no o) (no e) =
              let s : X.at ≡ Y.at = omega arith in
              absurd (one-actor x y Y.at differ (subst (λ (i : ℕ). Acts x i) s X.acts) Y.acts)

      go : Origin link (course x) a n → Origin link (course y) b n → Lately L x n ⊎ Lately L y n
      go (along v) Y = absurd (held-active (stage x a) (v a (omega arith) h) u)
      go (probed X) (along v) = absurd (answered L a n ba in_List y x back X (λ j r s. v j (omega arith) (omega arith)))
      go (probed X) (probed Y) = absurd (lives X Y)
      go (probed X) (updated Y) = inr (against b n bb in_List y x back Y a ba X)
      go (updated X) (along v) =
          inl (overheard a n ba in_List x y differ X b (omega arith) (λ j r s. held-active (stage y j) (v j (omega arith) (omega arith))))
      go (updated X) (probed Y) = inl (against a n ba in_List x y differ X b bb Y)
      go (updated X) (updated Y) = updates X Y
