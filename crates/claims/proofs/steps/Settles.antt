-- Ticks settle: a tick takes the first due step and leaves it not due, so that after as many ticks at one time as there are steps nothing is due. Assumes
-- nothing.
use Prim.Native.Nat.{ℕ, zero, suc, ◌≤◌, ◌<◌}
use mathlib.Core.Path.{◌≡◌, refl, sym, subst}
use mathlib.Core.List.{List, [], ◌∷◌}
use mathlib.Core.Bool.{Bool, true, false, cond}
use native.Mathlib.Omega.{arith}
use lib.ListN.{length, take}
use borrow.Author.Tests.{lt-leb}
use Rattle.claims.specs.records.Sets.{some_of}
use Rattle.claims.specs.Time.{last_time, after_ms, due_by}
use Rattle.claims.specs.Claims.{claim_of}
use Rattle.claims.proofs.Times.{after-exact}
use Rattle.claims.specs.declared.ClaimState.{ClaimState}
use Rattle.claims.specs.declared.ClaimState.TheVariants.{Waiting, Probing1, Probing2, Probing3, Deferred, Announced, Held, Lost}
use Rattle.claims.specs.holds.Holds.{no_hold, hold_at, with_hold}
use Rattle.claims.specs.declared.holds.Holds.{Holds}
use Rattle.claims.specs.declared.holds.Place.{Place}
use Rattle.claims.specs.declared.holds.Place.TheVariants.{First, Second, Third, Fourth}
use Rattle.claims.specs.declared.records.Claim.{Claim}
use Rattle.claims.specs.declared.records.Claim.TheVariants.{Instance, Host}
use Rattle.claims.specs.declared.records.Set.{Set}
use Rattle.claims.specs.declared.Progress.{Progress}
use Rattle.claims.specs.steps.Steps.{steps, hold_due, step_due, claim_due, more_due, taken_action, action_of}
use Rattle.claims.specs.steps.Tick.{with_claim, without_reply, with_last, sends, action_turn, claim_turn, ptr_reply, reply_turn, without_hold, hold_answers, hold_turn, step_turn, walked, or_else, ended_of, tick_of}
use Rattle.claims.specs.declared.steps.Step.{Step}
use Rattle.claims.specs.declared.steps.Step.TheVariants.{OfClaim, PtrReply, OfHold}
use Rattle.claims.specs.declared.steps.Action.{Action}
use Rattle.claims.specs.declared.steps.Action.TheVariants as action
use Rattle.claims.specs.declared.steps.Turn.{Turn}
use Rattle.claims.proofs.steps.Walk.{quiet, responds, sends-by, or_else_lem, walk_by, claim_by, reply-by, hold-by, passed}
use Rattle.claims.proofs.steps.Ticks.{Whose, own, other, whose, claim_with_sent, claim_without_reply, claim_without_hold, claim_last}
use Rattle.claims.proofs.steps.Spacing.{claim_same}

clash : {A : Type 0} → ◌≡◌ {A = ℕ} 0 1 → A
clash z = absurd (omega arith)

module _ (aaaa : Bool) (now : ℕ) (h : now ≤ last_time) where
  -- ---- a claim's step

  abbrev Later : Action → Type 0
  Later action.Idle = Unit {0}
  Later (action.Probe c) = claim_due c now ≡ false
  Later (action.Announce c) = claim_due c now ≡ false
  Later (action.Repeat c) = claim_due c now ≡ false

  soon : (ms : ℕ) → 0 < ms → ms ≤ 1000 → claim_due (Waiting (after_ms now ms)) now ≡ false
  soon ms lo hi = lt-leb (after_ms now ms) now (rw (after-exact now ms h (omega arith)) (omega arith))

  later : (c : ClaimState) → Later (taken_action c now)
  later (Waiting u) = soon 250 (omega arith) (omega arith)
  later (Probing1 u) = soon 250 (omega arith) (omega arith)
  later (Probing2 u) = soon 250 (omega arith) (omega arith)
  later (Probing3 u) = soon 1000 (omega arith) (omega arith)
  later (Deferred u) = soon 250 (omega arith) (omega arith)
  later (Announced u) = refl
  later Held = tt
  later Lost = tt

  -- a claim that has no step to take is not due
  idle : (c : ClaimState) → taken_action c now ≡ action.Idle → claim_due c now ≡ false
  idle (Waiting u) e = clash (cc)
  idle (Probing1 u) e = clash (cc)
  idle (Probing2 u) e = clash (cc)
  idle (Probing3 u) e = clash (cc)
  idle (Deferred u) e = clash (cc)
  idle (Announced u) e = clash (cc)
  idle Held e = refl
  idle Lost e = refl

  -- ---- a turn

  -- the step is not due
  abbrev pub NotDue : Step → Progress → Type 0
  NotDue s l = due_by (step_due s l) now ≡ false

  abbrev Past : Step → Turn → Type 0
  Past s t = NotDue s t.progress

  past_sends : (s : Step) (set : Set) (l : Progress) → NotDue s l → Past s (sends set now l)
  past_sends s set l q = sends-by now (Past s) set l q (sent s q)
    where
      sent : (i : Step) → NotDue i l → Past i (responds set now l)
      sent (OfClaim k) r = rw (claim_with_sent k set now l) r
      sent PtrReply r = r
      sent (OfHold place) r = r

  -- after its turn a step is not due
  claim_past : (k : Claim) (l : Progress) → Past (OfClaim k) (claim_turn k aaaa now l)
  unfolding claim_turn action_of action_turn
  claim_past k l = go (claim_due (claim_of k l) now) (taken_action (claim_of k l) now) refl refl
    where
      after : (c : ClaimState) → claim_due c now ≡ false → NotDue (OfClaim k) (with_claim k c l)
      after c e = rw (claim_same k c l) e

      go : (b : Bool) (s : Action)
          → claim_due (claim_of k l) now ≡ b
          → taken_action (claim_of k l) now ≡ s
          → Past (OfClaim k) (action_turn (cond b s action.Idle) k aaaa now l)
      go false s d e = d
      go true action.Idle d e = idle (claim_of k l) e
      go true (action.Probe c) d e = after c (subst Later e (later (claim_of k l)))
      go true (action.Announce c) d e = past_sends (OfClaim k) _ (with_claim k c l) (after c (subst Later e (later (claim_of k l))))
      go true (action.Repeat c) d e = past_sends (OfClaim k) _ (with_claim k c l) (after c (subst Later e (later (claim_of k l))))

  reply-past : (l : Progress) → Past PtrReply (reply_turn now l)
  unfolding reply_turn
  reply-past l = go (due_by l.reply now) refl
    where
      go : (b : Bool) → due_by l.reply now ≡ b → Past PtrReply (cond b (sends (ptr_reply now l) now (without_reply l)) (quiet l))
      go true e = past_sends PtrReply (ptr_reply now l) (without_reply l) refl
      go false e = e

  -- the place that is freed has no due time, and no other gets one
  freed : (place taken : Place) (holds : Holds)
      → due_by (hold_at place holds).due now ≡ false
      → due_by (hold_at place (with_hold taken no_hold holds)).due now ≡ false
  freed First First holds q = refl
  freed First Second holds q = q
  freed First Third holds q = q
  freed First Fourth holds q = q
  freed Second First holds q = q
  freed Second Second holds q = refl
  freed Second Third holds q = q
  freed Second Fourth holds q = q
  freed Third First holds q = q
  freed Third Second holds q = q
  freed Third Third holds q = refl
  freed Third Fourth holds q = q
  freed Fourth First holds q = q
  freed Fourth Second holds q = q
  freed Fourth Third holds q = q
  freed Fourth Fourth holds q = refl

  freed_self : (place : Place) (holds : Holds) → due_by (hold_at place (with_hold place no_hold holds)).due now ≡ false
  freed_self First holds = refl
  freed_self Second holds = refl
  freed_self Third holds = refl
  freed_self Fourth holds = refl

  hold-past : (place : Place) (l : Progress) → Past (OfHold place) (hold_turn place aaaa now l)
  unfolding hold_turn
  hold-past place l = go (due_by (hold_due place l) now) refl
    where
      go : (b : Bool) → due_by (hold_due place l) now ≡ b
          → Past (OfHold place) (cond b (sends (hold_answers place aaaa now l) now (without_hold place l)) (quiet l))
      go true e = past_sends (OfHold place) (hold_answers place aaaa now l) (without_hold place l) (freed_self place l.holds)
      go false e = e

  own_past : (s : Step) (l : Progress) → Past s (step_turn s aaaa now l)
  unfolding step_turn
  own_past (OfClaim k) l = claim_past k l
  own_past PtrReply l = reply-past l
  own_past (OfHold place) l = hold-past place l

  -- and no other turn makes it due
  beside : (s : Step) (k : Claim) (l : Progress) → ((c : ClaimState) → NotDue s (with_claim k c l)) → NotDue s l → Past s (claim_turn k aaaa now l)
  beside s k l same q =
      claim_by now (Past s) k aaaa l q (λ c d e. same c) (λ c d e. past_sends s _ (with_claim k c l) (same c)) (λ c d e. past_sends s _ (with_claim k c l) (same c))

  reply-stays : (k : Claim) (c : ClaimState) (l : Progress) → NotDue PtrReply l → NotDue PtrReply (with_claim k c l)
  reply-stays Instance c l q = q
  reply-stays Host c l q = q

  hold-stays : (place : Place) (k : Claim) (c : ClaimState) (l : Progress) → NotDue (OfHold place) l → NotDue (OfHold place) (with_claim k c l)
  hold-stays place Instance c l q = q
  hold-stays place Host c l q = q

  -- the turn of a held query makes no step due
  beside_hold : (s : Step) (place : Place) (l : Progress) → NotDue s (without_hold place l) → NotDue s l → Past s (hold_turn place aaaa now l)
  beside_hold s place l same q = hold-by now (Past s) place aaaa l q (λ d. past_sends s (hold_answers place aaaa now l) (without_hold place l) same)

  keeps_past : (s j : Step) (l : Progress) → NotDue s l → Past s (step_turn j aaaa now l)
  unfolding step_turn
  keeps_past (OfClaim k) (OfClaim j) l q = go (whose k j)
    where
      go : Whose k j → Past (OfClaim k) (claim_turn j aaaa now l)
      go (own e) = subst (λ (i : Claim). Past (OfClaim k) (claim_turn i aaaa now l)) e (claim_past k l)
      go (other same apart) = beside (OfClaim k) j l (λ c. rw (same c l) q) q
  keeps_past (OfClaim k) PtrReply l q =
      reply-by now (Past (OfClaim k)) l q (λ d. past_sends (OfClaim k) (ptr_reply now l) (without_reply l) (rw (claim_without_reply k l) q))
  keeps_past PtrReply (OfClaim j) l q = beside PtrReply j l (λ c. reply-stays j c l q) q
  keeps_past PtrReply PtrReply l q = reply-past l
  keeps_past (OfHold place) (OfClaim j) l q = beside (OfHold place) j l (λ c. hold-stays place j c l q) q
  keeps_past (OfHold place) PtrReply l q =
      reply-by now (Past (OfHold place)) l q (λ d. past_sends (OfHold place) (ptr_reply now l) (without_reply l) q)
  keeps_past (OfClaim k) (OfHold place) l q = beside_hold (OfClaim k) place l (rw (claim_without_hold k place l) q) q
  keeps_past PtrReply (OfHold place) l q = beside_hold PtrReply place l q q
  keeps_past (OfHold place) (OfHold taken) l q = beside_hold (OfHold place) taken l (freed place taken l.holds q) q

  -- ---- a walk

  -- none of these steps is due
  abbrev pub Settled : List Step → Progress → Type 0
  Settled [] l = Unit {0}
  Settled (s ∷ ss) l = NotDue s l × Settled ss l

  rest_keeps : (s : Step) (ss : List Step) (l : Progress) → NotDue s l → Past s (walked ss aaaa now l)
  rest_keeps s ss l q = walk_by now (Past s) ss aaaa l q (λ j x r. keeps_past s j x r)

  -- a walk past the first `n` steps, none of which is due, leaves one more that is not due
  one_more : (ss : List Step) (n : ℕ) (l : Progress) → Settled (take n ss) l → Settled (take (suc n) ss) (walked ss aaaa now l).progress
  unfolding walked
  one_more [] n l q = tt
  one_more (s ∷ ss) zero l q =
      (or_else_lem now (Past s) (step_turn s aaaa now l) (walked ss aaaa now) (own_past s l) (λ x r. rest_keeps s ss x r), tt)
  one_more (s ∷ ss) (suc n) l q =
      subst (λ (t : Turn). Settled (s ∷ take (suc n) ss) (or_else t.output t (walked ss aaaa now)).progress) (sym (passed s aaaa now l q.0))
      (rest_keeps s ss l q.0, one_more ss n l q.1)

  -- ---- ticks

  abbrev pub ticked : Progress → Progress
  ticked l = (tick_of l now aaaa).progress

  -- so many ticks at one time
  abbrev pub ticks : ℕ → Progress → Progress
  ticks zero l = l
  ticks (suc n) l = ticked (ticks n l)

  with-last : (ss : List Step) (l : Progress) → Settled ss l → Settled ss (with_last now l)
  with-last [] l q = tt
  with-last (OfClaim k ∷ ss) l q = (rw (claim_last now aaaa k l) q.0, with-last ss l q.1)
  with-last (PtrReply ∷ ss) l q = (q.0, with-last ss l q.1)
  with-last (OfHold place ∷ ss) l q = (q.0, with-last ss l q.1)

  settled : (n : ℕ) (l : Progress) → Settled (take n steps) (ticks n l)
  unfolding tick_of ended_of
  settled zero l = tt
  settled (suc n) l = with-last (take (suc n) steps) _ (one_more steps n (ticks n l) (settled n l))

  none-due : (ss : List Step) (l : Progress) → Settled ss l → some_of (λ s. due_by (step_due s l) now) ss ≡ false
  unfolding some_of
  none-due [] l q = refl
  none-due (s ∷ ss) l q = simp (q.0, none-due ss l q.1)

  -- After as many ticks at one time as there are steps, no step is due.
  pub all-ticks : (l : Progress) → more_due (ticks (length steps) l) now ≡ false
  unfolding more_due
  all-ticks l = none-due steps (ticks (length steps) l) (settled (length steps) l)
