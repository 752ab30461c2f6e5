-- What a tick, a stop and an update make of the state and of the first out buffer does not hang on the second, which they leave. Assumes nothing.
use Rattle.std.proofs.Common.{◌≡◌, ℕ, List, [], Bool, true, false, ◌&&◌, cond, length, refl, leb}
use Rattle.responder.specs.declared.State.{State}
use Rattle.console_text.specs.fields.Numbers.{number_at}
use Rattle.console_responder.specs.Forms.{is_tick, is_update, lent_by}
use Rattle.console_responder.specs.Lines.{Responder, having, ticked, stopped, new_told, updated, after_tick, after_stop, after_update}

-- with the second buffer and without
pub record Leaves (after : List ℕ → Responder) (unicast : List ℕ) : Type 0 where
  pub state : (after []).state ≡ (after unicast).state
  pub out : (after []).out ≡ (after unicast).out
  pub second : unicast ≡ (after unicast).unicast

leaves_if : (b : Bool) (s : State) (out : List ℕ) (after : List ℕ → Responder) (unicast : List ℕ) → Leaves after unicast → Leaves (λ u. cond b (after u) (having s out u)) unicast
leaves_if true s out after unicast h = record { state = h.state; out = h.out; second = h.second }
leaves_if false s out after unicast h = record { state = refl; out = refl; second = refl }

module _ (line : List ℕ) (s : State) (out unicast : List ℕ) where
  pub tick-leaves : Leaves (λ u. after_tick line (having s out u)) unicast
  unfolding after_tick
  tick-leaves =
      leaves_if (is_tick line && leb (lent_by line 2) (length out)) s out (λ u. ticked (having s out u) (number_at line 1) (lent_by line 2)) unicast
      (record { state = refl; out = refl; second = refl })

  pub stop-leaves : Leaves (λ u. after_stop line (having s out u)) unicast
  unfolding after_stop
  stop-leaves =
      leaves_if (is_tick line && leb (lent_by line 2) (length out)) s out (λ u. stopped (having s out u) (number_at line 1) (lent_by line 2)) unicast
      (record { state = refl; out = refl; second = refl })

  pub update-leaves : Leaves (λ u. after_update line (having s out u)) unicast
  unfolding after_update
  update-leaves =
      leaves_if (is_update line && leb (lent_by line 4) (length out)) s out (λ u. updated (having s out u) (number_at line 1) (lent_by line 4) (new_told line)) unicast
      (record { state = refl; out = refl; second = refl })
