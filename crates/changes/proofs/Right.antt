-- A state that is not refused for its set-up has one that keeps the rules. Assumes nothing.
use Prim.Native.Nat.{ℕ}
use mathlib.Core.Path.{◌≡◌, refl}
use mathlib.Core.Bool.{Bool, true, false, not, ◌||◌}
use native.Mathlib.Omega.{arith}
use Rattle.own.specs.records.Setups.{valid_setup}
use Rattle.claims.specs.Refusals.{wrong_start_draw}
use Rattle.responder.specs.Refusals.{wrong_state}
use Rattle.responder.specs.declared.State.{State}

pub right_setup : (s : State) → wrong_state s ≡ false → valid_setup s.setup ≡ true
unfolding wrong_state
right_setup s h = go (valid_setup s.setup) (wrong_start_draw s.progress.draw) h
  where
    go : (v d : Bool) → (not v || d) ≡ false → v ≡ true
    go true d e = refl
    go false d e = let z : ◌≡◌ {A = ℕ} 0 1 = cc in absurd (omega arith)
