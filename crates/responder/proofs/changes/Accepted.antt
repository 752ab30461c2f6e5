-- The tests that an accepted update has passed. Assumes nothing.
use Prim.Native.Nat.{ℕ}
use mathlib.Core.Path.{◌≡◌, refl}
use mathlib.Core.Bool.{Bool, true, false, cond, not, ◌||◌}
use native.Mathlib.Omega.{arith}
use Rattle.own.specs.declared.records.Setup.{Setup}
use Rattle.own.specs.records.Setups.{valid_setup}
use Rattle.claims.specs.Refusals.{wrong_time}
use Rattle.claims.specs.changes.Changes.{lost_to_update, too_soon}
use Rattle.responder.specs.Refusals.{small_buffer, wrong_state}
use Rattle.responder.specs.changes.Changes.{refusal_to}
use Rattle.responder.specs.declared.State.{State}

-- the tests as one number
abbrev ordered : Bool → Bool → Bool → Bool → Bool → Bool → ℕ
ordered t b w v l k = cond t 1 (cond b 3 (cond (w || not v) 7 (cond l 10 (cond k 11 0))))

module _ (s : State) (now room : ℕ) (new : Setup) where
  -- the tests that an accepted update has passed
  pub record UpdateAccepted : Type 0 where
    pub time : wrong_time s.progress now ≡ false
    pub buffer : small_buffer room ≡ false
    pub right : wrong_state s ≡ false
    pub valid : valid_setup new ≡ true
    pub claims : lost_to_update s.progress ≡ false
    pub apart : too_soon s.progress now ≡ false

  pub update-accepted : refusal_to s now room new ≡ 0 → UpdateAccepted
  unfolding refusal_to
  update-accepted h = go _ _ _ _ _ _ refl refl refl refl refl refl h
    where
      go : (t b w v l k : Bool) → wrong_time s.progress now ≡ t → small_buffer room ≡ b → wrong_state s ≡ w → valid_setup new ≡ v
          → lost_to_update s.progress ≡ l → too_soon s.progress now ≡ k → ordered t b w v l k ≡ 0 → UpdateAccepted
      go true b w v l k et eb ew ev el ek e = absurd (omega (arith, e))
      go false true w v l k et eb ew ev el ek e = absurd (omega (arith, e))
      go false false true v l k et eb ew ev el ek e = absurd (omega (arith, e))
      go false false false false l k et eb ew ev el ek e = absurd (omega (arith, e))
      go false false false true true k et eb ew ev el ek e = absurd (omega (arith, e))
      go false false false true false true et eb ew ev el ek e = absurd (omega (arith, e))
      go false false false true false false et eb ew ev el ek e = record { time = et; buffer = eb; right = ew; valid = ev; claims = el; apart = ek }
