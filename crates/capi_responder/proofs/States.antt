-- The bytes of a state that a call accepts, and the state that they say once a call has changed it. Assumes nothing.
use mathlib.Core.Path.{◌≡◌, refl, sym}
use mathlib.Core.Bool.{Bool, true, false, cond}
use mathlib.Core.List.{List}
use Prim.Native.Nat.{ℕ}
use lib.Dec.{eqb}
use lib.ListN.{length}
use Rattle.claims.specs.declared.Progress.{Progress}
use Rattle.responder.specs.declared.State.{State}
use Rattle.responder.specs.Refusals.{receive_refusal, tick_refusal}
use Rattle.responder.specs.Handed.{Arrival, Tick}
use Rattle.responder.specs.Calls.{blank, receive_of, tick_of}
use Rattle.responder.specs.changes.Changes.{stop_of}
use Rattle.responder.specs.Runs.{Call, received, ticked, stopped, refusal_of_call, state_after}
use Rattle.responder.proofs.Refusals.{blank-refused}
use Rattle.capi_responder.specs.codec.Layout.{state_size}
use Rattle.capi_responder.specs.codec.Codec.{decode, state_with}

-- a test that is not false
pub told : (t : Bool) → (t ≡ false → ⊥) → t ≡ true
told true h = refl
told false h = absurd (h refl)

-- ---- a packet received, a tick, or a stop

-- it leaves the set-up as it is
same : (s : State) (t : Bool) (progress : Progress) → (cond t (record { setup = s.setup; progress = progress }) s).setup ≡ s.setup
same s true progress = refl
same s false progress = refl

pub same_received : (s : State) (a : Arrival) → (state_after s (received a)).setup ≡ s.setup
unfolding receive_of
same_received s a = same s (eqb (receive_refusal s a) 0) _

pub same_ticked : (s : State) (t : Tick) → (state_after s (ticked t)).setup ≡ s.setup
unfolding tick_of
same_ticked s t = same s (eqb (tick_refusal s t) 0) _

pub same_stopped : (s : State) (t : Tick) → (state_after s (stopped t)).setup ≡ s.setup
unfolding stop_of
same_stopped s t = same s (eqb (tick_refusal s t) 0) _

module _ (b : List ℕ) (c : Call) where
  blank-bytes : eqb (length b) state_size ≡ false → decode b ≡ blank
  unfolding decode
  blank-bytes t = simp t

  -- an accepted call was handed a state of the right length
  pub long_enough : refusal_of_call (decode b) c ≡ 0 → eqb (length b) state_size ≡ true
  long_enough h = told _ (λ e. blank-refused c (rw (blank-bytes e) at h))

  -- bytes with what changes of a state of the same set-up say that state
  pub with-progress : eqb (length b) state_size ≡ true → (s : State) → s.setup ≡ (decode b).setup → state_with b s.progress ≡ s
  unfolding decode state_with
  with-progress t s q = let q' : _ = simp t at q in simp t (λ i. record { setup = sym q' i; progress = s.progress })
