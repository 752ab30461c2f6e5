-- A tick sends a probe of a claim no sooner than the claim is clear to, and then none of its steps is due for another 250 ms. Assumes nothing.
use Prim.Native.Nat.{ℕ, ◌+◌, ◌≤◌}
use mathlib.Core.Path.{◌≡◌, refl, subst}
use mathlib.Core.Bool.{Bool, true, false, cond}
use native.Mathlib.Omega.{arith}
use borrow.Author.Tests.{leb-true}
use Rattle.claims.specs.records.Own.{same_claim}
use Rattle.claims.specs.Time.{last_time, after_ms}
use Rattle.claims.specs.Claims.{claim_of}
use Rattle.claims.proofs.Times.{after-exact}
use Rattle.claims.proofs.Clear.{Clear}
use Rattle.claims.specs.declared.ClaimState.{ClaimState}
use Rattle.claims.specs.declared.ClaimState.TheVariants.{Waiting, Probing1, Probing2, Probing3, Deferred, Announced, Held, Lost}
use Rattle.claims.specs.declared.holds.Place.{Place}
use Rattle.claims.specs.declared.records.Claim.{Claim}
use Rattle.claims.specs.declared.records.Claim.TheVariants.{Instance, Host}
use Rattle.claims.specs.declared.records.Set.{Set}
use Rattle.claims.specs.declared.Progress.{Progress}
use Rattle.claims.specs.steps.Steps.{claim_due, taken_action}
use Rattle.claims.specs.steps.Tick.{with_claim, without_reply, sends, ptr_reply, reply_turn, without_hold, hold_answers, hold_turn, claim_turn, ended_of, tick_of, probes_for}
use Rattle.claims.specs.declared.steps.Action.{Action}
use Rattle.claims.specs.declared.steps.Action.TheVariants as action
use Rattle.claims.specs.declared.steps.Turn.{Turn}
use Rattle.claims.proofs.steps.Walk.{quiet, sends-by, walk, claim_by, reply-by, hold-by}
use Rattle.claims.proofs.steps.Ticks.{Whose, own, other, whose, claim_with_sent, claim_without_reply, claim_without_hold, claim_last}

-- from when on the claim may probe, after a call that sent a probe of it or not
abbrev pub clear_from : Bool → ℕ → ℕ → ℕ
clear_from probed from now = cond probed (now + 250) from

same_self : (k : Claim) → same_claim k k ≡ true
same_self Instance = refl
same_self Host = refl

pub not_same : (k j : Claim) → (k ≡ j → ⊥) → same_claim k j ≡ false
not_same Instance Instance n = absurd (n refl)
not_same Instance Host n = refl
not_same Host Instance n = refl
not_same Host Host n = absurd (n refl)

pub claim_same : (k : Claim) (c : ClaimState) (l : Progress) → claim_of k (with_claim k c l) ≡ c
claim_same Instance c l = refl
claim_same Host c l = refl

-- what a call did: no probe, or a probe that was not too soon; and the claim is clear again
abbrev pub Paced : ℕ → ℕ → Bool → ClaimState → Type 0
Paced from now probed c = (probed ≡ true → from ≤ now) × Clear (clear_from probed from now) now c

module _ (from now : ℕ) (h : now ≤ last_time) where
  -- what the step of a clear claim leaves
  abbrev Leaves : Action → Type 0
  Leaves action.Idle = Unit {0}
  Leaves (action.Probe c) = Paced from now true c
  Leaves (action.Announce c) = Clear from now c
  Leaves (action.Repeat c) = Clear from now c

  next : now + 250 ≤ after_ms now 250
  next = rw (after-exact now 250 h (omega arith)) (omega arith)

  leaves : (c : ClaimState) → claim_due c now ≡ true → Clear from now c → Leaves (taken_action c now)
  leaves (Waiting due) d q = (λ e. omega (arith, leb-true due now d), next)
  leaves (Probing1 due) d q = (λ e. omega (arith, leb-true due now d), next)
  leaves (Probing2 due) d q = (λ e. omega (arith, leb-true due now d), next)
  leaves (Probing3 due) d q = omega (arith, leb-true due now d)
  leaves (Deferred due) d q = (λ e. omega (arith, leb-true due now d), next)
  leaves (Announced due) d q = q
  leaves Held d q = tt
  leaves Lost d q = tt

  module _ (k : Claim) (aaaa : Bool) where
    abbrev Paces : Turn → Type 0
    Paces t = Paced from now (probes_for k t.output) (claim_of k t.progress)

    silent : (l : Progress) → Clear from now (claim_of k l) → Paces (quiet l)
    silent l q = (λ e. let z : ◌≡◌ {A = ℕ} 0 1 = cc in absurd (omega arith), q)

    paced_sends : (set : Set) (l : Progress) → Clear from now (claim_of k l) → Paces (sends set now l)
    paced_sends set l q =
        sends-by now Paces set l (silent l q)
        (λ e. let z : ◌≡◌ {A = ℕ} 0 1 = cc in absurd (omega arith), rw (claim_with_sent k set now l) q)

    paced_turn : (j : Claim) (l : Progress) → Paces (quiet l) → Paces (claim_turn j aaaa now l)
    paced_turn j l q = go (whose k j)
      where
        go : Whose k j → Paces (claim_turn j aaaa now l)
        go (own e) =
            subst (λ (i : Claim). Paces (claim_turn i aaaa now l)) e
            (claim_by now Paces k aaaa l q
            (λ c d s.
            rw (same_self k, claim_same k c l) (subst Leaves s (leaves (claim_of k l) d q.1)))
            (λ c d s.
            paced_sends _ (with_claim k c l) (rw (claim_same k c l) (subst Leaves s (leaves (claim_of k l) d q.1))))
            (λ c d s.
            paced_sends _ (with_claim k c l) (rw (claim_same k c l) (subst Leaves s (leaves (claim_of k l) d q.1)))))
        go (other same apart) =
            claim_by now Paces j aaaa l q (λ c d s. rw (not_same k j apart, same c l) (silent l q.1))
            (λ c d s. paced_sends _ (with_claim j c l) (rw (same c l) q.1))
            (λ c d s. paced_sends _ (with_claim j c l) (rw (same c l) q.1))

    paced_reply : (l : Progress) → Paces (quiet l) → Paces (reply_turn now l)
    paced_reply l q =
        reply-by now Paces l q (λ d. paced_sends (ptr_reply now l) (without_reply l) (rw (claim_without_reply k l) q.1))

    paced_hold : (place : Place) (l : Progress) → Paces (quiet l) → Paces (hold_turn place aaaa now l)
    paced_hold place l q =
        hold-by now Paces place aaaa l q
        (λ d. paced_sends (hold_answers place aaaa now l) (without_hold place l) (rw (claim_without_hold k place l) q.1))

    -- a tick of a clear claim
    pub tick-paced :
        (progress : Progress)
        → Clear from now (claim_of k progress)
        → Paced from now (probes_for k (tick_of progress now aaaa).output) (claim_of k (tick_of progress now aaaa).progress)
    unfolding tick_of ended_of
    tick-paced progress q = rw (claim_last now aaaa k) (walk now Paces aaaa progress (silent progress q) paced_turn paced_reply paced_hold)
