-- An update taken: the state has the new data, a claim that is held announces them, and any other starts anew with them. Assumes nothing.
use Rattle.std.specs.Prelude.{Some}
use mathlib.Core.Path.{◌≡◌, ap, ◌∙◌}
use mathlib.Core.Bool.{true, false}
use Rattle.own.specs.changes.Changes.{revised, change_of}
use Rattle.claims.specs.Time.{after_ms}
use Rattle.claims.specs.Claims.{held_now}
use Rattle.claims.specs.records.Own.{has}
use Rattle.claims.specs.records.Sets.{only}
use Rattle.claims.specs.holds.Holds.{hold_at}
use Rattle.claims.specs.changes.Changes.{changed_record}
use Rattle.claims.specs.declared.ClaimState.TheVariants.{Waiting, Announced}
use Rattle.claims.specs.declared.holds.Place.{Place}
use Rattle.claims.specs.declared.steps.Output.TheVariants.{Response}
use Rattle.claims.specs.declared.Progress.{Progress}
use Rattle.claims.proofs.changes.Updates as laws
use Rattle.responder.specs.Calls.{packet_for}
use Rattle.responder.specs.changes.Changes.{Update, renewed_of, packet_to, update_to, update_refusal, updated_packet, update_of}
use Rattle.responder.specs.declared.State.{State}
use Rattle.responder.proofs.changes.Accepted.{UpdateAccepted, update-accepted}

module _ (s : State) (u : Update) where
  pub accepted : update_refusal s u ≡ 0 → UpdateAccepted s u.time u.room (revised s.setup u.new)
  unfolding update_refusal
  accepted h = update-accepted s u.time u.room (revised s.setup u.new) h

  module _ (taken : update_refusal s u ≡ 0) where
    pub updated-state : (update_of s u).state ≡ record { setup = revised s.setup u.new; progress = (renewed_of s u.time (change_of u.new)).progress }
    unfolding update_of update_to update_refusal
    updated-state = simp taken

    pub updated-sent : updated_packet s u ≡ packet_for (revised s.setup u.new) (Response (renewed_of s u.time (change_of u.new)).announced)
    unfolding updated_packet packet_to update_refusal
    updated-sent = simp taken

    abbrev after : Progress
    after = (update_of s u).state.progress

    -- "back to waiting with the new data, first probe due at now plus its start draw"
    pub restarts : held_now s.progress.instance ≡ false → after.instance ≡ Waiting (after_ms u.time s.progress.draw)
    restarts h =
        ap (λ (x : State). x.progress.instance) updated-state
        ∙ (laws.update-restarts s.progress u.time (change_of u.new) h (accepted taken).claims).0

    -- "the updated record alone is announced at once, .. and the claim's second step falls due anew in 1,000 ms"
    pub announces : held_now s.progress.instance ≡ true
        → (after.instance ≡ Announced (after_ms u.time 1000))
        × (updated_packet s u ≡ packet_for (revised s.setup u.new) (Response (only (changed_record (change_of u.new)))))
    announces h =
        let a = laws.update-announces s.progress u.time (change_of u.new) h in (
          ap (λ (x : State). x.progress.instance) updated-state ∙ a.0,
          updated-sent ∙ ap (λ (set : _). packet_for (revised s.setup u.new) (Response set)) a.1,
        )

    -- "Held queries forget what they knew of the record."
    pub forgets : (place : Place) → has (changed_record (change_of u.new)) (hold_at place after.holds).known ≡ false
    forgets place =
        ap (λ (x : State). has (changed_record (change_of u.new)) (hold_at place x.progress.holds).known) updated-state
        ∙ laws.update-forgets s.progress u.time (change_of u.new) place

    pub noted : after.updated ≡ Some u.time
    noted = ap (λ (x : State). x.progress.updated) updated-state ∙ laws.update-time s.progress u.time (change_of u.new)
