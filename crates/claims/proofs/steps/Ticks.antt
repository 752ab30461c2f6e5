-- Of any tick: the start draw stays, and the time is the call's; the records of a response are multicast then, and no others; a lost claim stays lost; the
-- times kept stay within bounds; and what becomes of a due PTR reply. Assumes nothing.
use Rattle.std.specs.Prelude.{Option, Some, None}
use Prim.Native.Nat.{ℕ, ◌≤◌}
use mathlib.Core.Path.{◌≡◌, refl, subst}
use mathlib.Core.Bool.{Bool, true, false, cond, not, ◌&&◌}
use native.Mathlib.Omega.{arith}
use lib.Dec.{leb}
use borrow.Author.Tests.{le-leb}
use Rattle.claims.specs.records.Own.{has, each}
use Rattle.claims.specs.records.Sets.{some_of, no_record, any_of, only}
use Rattle.claims.specs.Time.{last_time, last_due, after_ms, due_by, sent_of, marked_all, recently}
use Rattle.claims.specs.Claims.{held_now, claim_of}
use Rattle.claims.specs.Refusals.{claim_kept, kept}
use Rattle.claims.proofs.Times.{after-within}
use Rattle.claims.proofs.Keeping.{AllKept, parts, whole, all-marked_kept, without-kept}
use Rattle.claims.specs.declared.ClaimState.{ClaimState}
use Rattle.claims.specs.declared.ClaimState.TheVariants.{Waiting, Probing1, Probing2, Probing3, Deferred, Announced, Held, Lost}
use Rattle.claims.specs.holds.Holds.{is_due_time, is_taken, no_hold, hold_at, with_hold, held_of, once_per_address}
use Rattle.claims.specs.declared.holds.Hold.{Hold}
use Rattle.claims.specs.declared.holds.Holds.{Holds}
use Rattle.claims.specs.declared.holds.Place.{Place}
use Rattle.claims.proofs.holds.Lists.{once_taken}
use Rattle.claims.specs.declared.records.Claim.{Claim}
use Rattle.claims.specs.declared.records.Claim.TheVariants.{Instance, Host}
use Rattle.claims.specs.declared.Multicasts.{Multicasts}
use Rattle.claims.specs.declared.records.Set.{Set}
use Rattle.claims.specs.declared.records.Own.TheVariants.{Ptr}
use Rattle.claims.specs.declared.Progress.{Progress}
use Rattle.claims.specs.steps.Steps.{taken_action, unsent_of}
use Rattle.claims.specs.steps.Tick.{with_claim, with_sent, without_reply, sends, ptr_reply, reply_turn, without_hold, hold_answers, hold_turn, claim_turn, with_last, ended_of, tick_of}
use Rattle.claims.specs.declared.steps.Action.{Action}
use Rattle.claims.specs.declared.steps.Action.TheVariants as action
use Rattle.claims.specs.declared.steps.Output.{Output}
use Rattle.claims.specs.declared.steps.Output.TheVariants.{Nothing, Probe, Response}
use Rattle.claims.specs.declared.steps.Turn.{Turn}
use Rattle.claims.proofs.steps.Walk.{quiet, responds, sends-by, walk, claim_by, reply-by, hold-by}

clash : {A : Type 0} → ◌≡◌ {A = ℕ} 0 1 → A
clash z = absurd (omega arith)

-- ---- the start draw

with-claim_draw : (k : Claim) (c : ClaimState) (l : Progress) → (with_claim k c l).draw ≡ l.draw
with-claim_draw Instance c l = refl
with-claim_draw Host c l = refl

module _ (now : ℕ) (aaaa : Bool) (progress : Progress) where
  abbrev Draws : Turn → Type 0
  Draws t = t.progress.draw ≡ progress.draw

  pub tick-draw : (tick_of progress now aaaa).progress.draw ≡ progress.draw
  unfolding tick_of ended_of
  tick-draw = walk now Draws aaaa progress refl turn reply hold
    where
      sent : (k : Claim) (l : Progress) → Draws (quiet l) → (c : ClaimState) (set : Set) → Draws (sends set now (with_claim k c l))
      sent k l q c set = sends-by now Draws set (with_claim k c l) (rw with-claim_draw q) (rw with-claim_draw q)

      turn : (k : Claim) (l : Progress) → Draws (quiet l) → Draws (claim_turn k aaaa now l)
      turn k l q =
          claim_by now Draws k aaaa l q (λ c d e. rw with-claim_draw q) (λ c d e. sent k l q c _) (λ c d e. sent k l q c _)

      reply : (l : Progress) → Draws (quiet l) → Draws (reply_turn now l)
      reply l q = reply-by now Draws l q (λ d. sends-by now Draws (ptr_reply now l) (without_reply l) q q)

      hold : (place : Place) (l : Progress) → Draws (quiet l) → Draws (hold_turn place aaaa now l)
      hold place l q = hold-by now Draws place aaaa l q (λ d. sends-by now Draws (hold_answers place aaaa now l) (without_hold place l) q q)

  pub tick-last : (tick_of progress now aaaa).progress.last ≡ now
  unfolding tick_of ended_of
  tick-last = refl

-- ---- the last multicasts

-- each record of a response is then multicast at `now`; a probe is no multicast of its records
abbrev pub sent_by : Output → Multicasts → ℕ → Multicasts
sent_by Nothing sent now = sent
sent_by (Probe k) sent now = sent
sent_by (Response set) sent now = marked_all set sent now

pub with-claim_sent : (k : Claim) (c : ClaimState) (l : Progress) → (with_claim k c l).sent ≡ l.sent
with-claim_sent Instance c l = refl
with-claim_sent Host c l = refl

module _ (now : ℕ) (aaaa : Bool) (progress : Progress) where
  abbrev Marks : Turn → Type 0
  Marks t = t.progress.sent ≡ sent_by t.output progress.sent now

  marks_sends : (set : Set) (l : Progress) → l.sent ≡ progress.sent → Marks (sends set now l)
  marks_sends set l q = sends-by now Marks set l q (rw q)

  pub tick-sent : (tick_of progress now aaaa).progress.sent ≡ sent_by (tick_of progress now aaaa).output progress.sent now
  unfolding tick_of ended_of
  tick-sent = walk now Marks aaaa progress refl turn reply hold
    where
      after : (k : Claim) (c : ClaimState) (l : Progress) → l.sent ≡ progress.sent → (with_claim k c l).sent ≡ progress.sent
      after k c l q = rw with-claim_sent q

      turn : (k : Claim) (l : Progress) → Marks (quiet l) → Marks (claim_turn k aaaa now l)
      turn k l q =
          claim_by now Marks k aaaa l q (λ c d e. after k c l q) (λ c d e. marks_sends _ (with_claim k c l) (after k c l q))
          (λ c d e. marks_sends _ (with_claim k c l) (after k c l q))

      reply : (l : Progress) → Marks (quiet l) → Marks (reply_turn now l)
      reply l q = reply-by now Marks l q (λ d. marks_sends (ptr_reply now l) (without_reply l) q)

      hold : (place : Place) (l : Progress) → Marks (quiet l) → Marks (hold_turn place aaaa now l)
      hold place l q = hold-by now Marks place aaaa l q (λ d. marks_sends (hold_answers place aaaa now l) (without_hold place l) q)

-- ---- a lost claim

-- a step of one claim leaves the other as it was
pub data Whose (k j : Claim) : Type 0 where
  own : k ≡ j → Whose k j
  other : ((c : ClaimState) (l : Progress) → claim_of k (with_claim j c l) ≡ claim_of k l) → (k ≡ j → ⊥) → Whose k j

pub whose : (k j : Claim) → Whose k j
whose Instance Instance = own refl
whose Instance Host = other (λ c l. refl) (λ e. clash (cc))
whose Host Instance = other (λ c l. refl) (λ e. clash (cc))
whose Host Host = own refl

pub claim_with_sent : (k : Claim) (set : Set) (now : ℕ) (l : Progress) → claim_of k (with_sent (marked_all set l.sent now) l) ≡ claim_of k l
claim_with_sent Instance set now l = refl
claim_with_sent Host set now l = refl

pub claim_without_reply : (k : Claim) (l : Progress) → claim_of k (without_reply l) ≡ claim_of k l
claim_without_reply Instance l = refl
claim_without_reply Host l = refl

pub claim_without_hold : (k : Claim) (place : Place) (l : Progress) → claim_of k (without_hold place l) ≡ claim_of k l
claim_without_hold Instance place l = refl
claim_without_hold Host place l = refl

module _ (now : ℕ) (aaaa : Bool) (k : Claim) where
  abbrev Loses : Turn → Type 0
  Loses t = claim_of k t.progress ≡ Lost

  lost_sends : (set : Set) (l : Progress) → Loses (quiet l) → Loses (sends set now l)
  lost_sends set l q = sends-by now Loses set l q (rw (claim_with_sent k set now l) q)

  lost_turn : (j : Claim) (l : Progress) → Loses (quiet l) → Loses (claim_turn j aaaa now l)
  lost_turn j l q = go (whose k j)
    where
      go : Whose k j → Loses (claim_turn j aaaa now l)
      go (own e) =
          claim_by now Loses j aaaa l q (λ c d s. clash (cc (lost_idle j e)))
          (λ c d s. clash (cc (lost_idle j e)))
          (λ c d s. clash (cc (lost_idle j e)))
        where
          lost_idle : (i : Claim) → k ≡ i → taken_action (claim_of i l) now ≡ action.Idle
          lost_idle i f = rw (← f, q)
      go (other same apart) =
          claim_by now Loses j aaaa l q (λ c d s. rw (same c l) q)
          (λ c d s. lost_sends _ (with_claim j c l) (rw (same c l) q))
          (λ c d s. lost_sends _ (with_claim j c l) (rw (same c l) q))

  lost_reply : (l : Progress) → Loses (quiet l) → Loses (reply_turn now l)
  lost_reply l q = reply-by now Loses l q (λ d. lost_sends (ptr_reply now l) (without_reply l) (rw (claim_without_reply k l) q))

  lost_hold : (place : Place) (l : Progress) → Loses (quiet l) → Loses (hold_turn place aaaa now l)
  lost_hold place l q =
      hold-by now Loses place aaaa l q (λ d. lost_sends (hold_answers place aaaa now l) (without_hold place l) (rw (claim_without_hold k place l) q))

  pub claim_last : (l : Progress) → claim_of k (with_last now l) ≡ claim_of k l
  claim_last l = of k
    where
      of : (j : Claim) → claim_of j (with_last now l) ≡ claim_of j l
      of Instance = refl
      of Host = refl

  -- "lost for good"
  pub tick-lost : (progress : Progress) → claim_of k progress ≡ Lost → claim_of k (tick_of progress now aaaa).progress ≡ Lost
  unfolding tick_of ended_of
  tick-lost progress q = rw claim_last (walk now Loses aaaa progress q lost_turn lost_reply lost_hold)

-- ---- the held queries

pub with-claim_holds : (k : Claim) (c : ClaimState) (l : Progress) → (with_claim k c l).holds ≡ l.holds
with-claim_holds Instance c l = refl
with-claim_holds Host c l = refl

-- what the freeing of a place whose query is due keeps, a tick keeps
module _ (now : ℕ) (aaaa : Bool) (P : Holds → Type 0)
    (freed : (place : Place) (holds : Holds) → due_by (hold_at place holds).due now ≡ true → P holds → P (with_hold place no_hold holds)) where
  abbrev HoldsKeep : Turn → Type 0
  HoldsKeep t = P t.progress.holds

  pub tick-holds : (progress : Progress) → P progress.holds → P (tick_of progress now aaaa).progress.holds
  unfolding tick_of ended_of
  tick-holds progress p = walk now HoldsKeep aaaa progress p turn reply hold
    where
      sent : (set : Set) (l : Progress) → P l.holds → HoldsKeep (sends set now l)
      sent set l q = sends-by now HoldsKeep set l q q

      turn : (k : Claim) (l : Progress) → HoldsKeep (quiet l) → HoldsKeep (claim_turn k aaaa now l)
      turn k l q =
          claim_by now HoldsKeep k aaaa l q (λ c d e. rw (with-claim_holds k c l) q) (λ c d e. sent _ (with_claim k c l) (rw (with-claim_holds k c l) q))
          (λ c d e. sent _ (with_claim k c l) (rw (with-claim_holds k c l) q))

      reply : (l : Progress) → HoldsKeep (quiet l) → HoldsKeep (reply_turn now l)
      reply l q = reply-by now HoldsKeep l q (λ d. sent (ptr_reply now l) (without_reply l) q)

      hold : (place : Place) (l : Progress) → HoldsKeep (quiet l) → HoldsKeep (hold_turn place aaaa now l)
      hold place l q = hold-by now HoldsKeep place aaaa l q (λ d. sent (hold_answers place aaaa now l) (without_hold place l) (freed place l.holds d q))

-- a place whose query is due is taken
pub due-taken : (h : Hold) (now : ℕ) → due_by h.due now ≡ true → is_taken h ≡ true
due-taken h now = go h.due
  where
    go : (w : Option ℕ) → due_by w now ≡ true → is_due_time w ≡ true
    go None e = e
    go (Some due) e = refl

-- no two held queries are of one address
pub tick-once :
    (now : ℕ) (aaaa : Bool) (progress : Progress)
    → once_per_address (held_of progress.holds) ≡ true
    → once_per_address (held_of (tick_of progress now aaaa).progress.holds) ≡ true
tick-once now aaaa progress o =
    tick-holds now aaaa (λ holds. once_per_address (held_of holds) ≡ true)
    (λ place holds d q. once_taken place holds (due-taken (hold_at place holds) now d) q) progress o

-- ---- the times kept

module _ (now : ℕ) (aaaa : Bool) (most : ℕ) (h : now ≤ last_time) (l : last_due ≤ most) where
  abbrev Keeps : Turn → Type 0
  Keeps t = kept most t.progress ≡ true

  -- the claim that a step leaves has its time within bounds
  abbrev Leaves : Action → Type 0
  Leaves action.Idle = Unit {0}
  Leaves (action.Probe c) = claim_kept most c ≡ true
  Leaves (action.Announce c) = claim_kept most c ≡ true
  Leaves (action.Repeat c) = claim_kept most c ≡ true

  soon : (ms : ℕ) → ms ≤ 1000 → leb (after_ms now ms) most ≡ true
  soon ms m = le-leb _ _ (after-within now ms most h m l)

  leaves : (c : ClaimState) → Leaves (taken_action c now)
  leaves (Waiting due) = soon 250 (omega arith)
  leaves (Probing1 due) = soon 250 (omega arith)
  leaves (Probing2 due) = soon 250 (omega arith)
  leaves (Probing3 due) = soon 1000 (omega arith)
  leaves (Deferred due) = soon 250 (omega arith)
  leaves (Announced due) = refl
  leaves Held = tt
  leaves Lost = tt

  with-claim_kept : (k : Claim) (c : ClaimState) (x : Progress) → kept most x ≡ true → claim_kept most c ≡ true → kept most (with_claim k c x) ≡ true
  with-claim_kept Instance c x q e =
      let p : AllKept _ _ _ _ _ _ _ = parts most x q in
      whole most _ (record { instance = e; host = p.host; sent = p.sent; reply = p.reply; holds = p.holds; updated = p.updated; last = p.last })
  with-claim_kept Host c x q e =
      let p : AllKept _ _ _ _ _ _ _ = parts most x q in
      whole most _ (record { instance = p.instance; host = e; sent = p.sent; reply = p.reply; holds = p.holds; updated = p.updated; last = p.last })

  now_kept : leb now most ≡ true
  now_kept = le-leb now most (omega arith)

  kept-sends : (set : Set) (x : Progress) → Keeps (quiet x) → Keeps (sends set now x)
  kept-sends set x q =
      let p : AllKept _ _ _ _ _ _ _ = parts most x q in
      sends-by now Keeps set x q
      (whole most _
      (record {
        instance = p.instance;
        host = p.host;
        sent = all-marked_kept most set x.sent now p.sent now_kept;
        reply = p.reply;
        holds = p.holds;
        updated = p.updated;
        last = p.last;
      }))

  kept-turn : (k : Claim) (x : Progress) → Keeps (quiet x) → Keeps (claim_turn k aaaa now x)
  kept-turn k x q =
      claim_by now Keeps k aaaa x q (λ c d s. after c (subst Leaves s (leaves (claim_of k x))))
      (λ c d s. kept-sends _ (with_claim k c x) (after c (subst Leaves s (leaves (claim_of k x)))))
      (λ c d s. kept-sends _ (with_claim k c x) (after c (subst Leaves s (leaves (claim_of k x)))))
    where
      after : (c : ClaimState) → claim_kept most c ≡ true → kept most (with_claim k c x) ≡ true
      after c e = with-claim_kept k c x q e

  kept-reply : (x : Progress) → Keeps (quiet x) → Keeps (reply_turn now x)
  kept-reply x q =
      let p : AllKept _ _ _ _ _ _ _ = parts most x q in
      reply-by now Keeps x q
      (λ d.
      kept-sends (ptr_reply now x) (without_reply x)
      (whole most _ (record { instance = p.instance; host = p.host; sent = p.sent; reply = refl; holds = p.holds; updated = p.updated; last = p.last })))

  kept-hold : (place : Place) (x : Progress) → Keeps (quiet x) → Keeps (hold_turn place aaaa now x)
  kept-hold place x q =
      let p : AllKept _ _ _ _ _ _ _ = parts most x q in
      hold-by now Keeps place aaaa x q
      (λ d.
      kept-sends (hold_answers place aaaa now x) (without_hold place x)
      (whole most _
      (record {
        instance = p.instance;
        host = p.host;
        sent = p.sent;
        reply = p.reply;
        holds = without-kept most place x.holds p.holds;
        updated = p.updated;
        last = p.last;
      })))

  -- a tick that is not refused keeps the times within bounds
  pub tick-kept : (progress : Progress) → kept most progress ≡ true → kept most (tick_of progress now aaaa).progress ≡ true
  unfolding tick_of ended_of
  tick-kept progress q =
      let p : AllKept _ _ _ _ _ _ _ = parts most _ (walk now Keeps aaaa progress q kept-turn kept-reply kept-hold) in
      whole most _ (record { instance = p.instance; host = p.host; sent = p.sent; reply = p.reply; holds = p.holds; updated = p.updated; last = now_kept })

-- ---- the PTR reply at its step

-- "at its step it is dropped if the claim is not held or it was multicast less than 1,000 ms ago": in those cases nothing is sent, in all others PTR alone;
-- and the reply is no longer set.
module _ (now : ℕ) (progress : Progress) (due : ℕ) (set : progress.reply ≡ Some due) (come : due ≤ now) where
  abbrev By : Bool → Bool → Turn → Type 0
  By held recent t =
      t ≡ cond (held && not recent) (responds (only Ptr) now (without_reply progress)) (quiet (without_reply progress))

  at-step : reply_turn now progress ≡ sends (ptr_reply now progress) now (without_reply progress)
  unfolding reply_turn
  at-step = simp (set, le-leb due now come)

  pub reply-step : By (held_now progress.instance) (recently (sent_of Ptr progress.sent) now 1000) (reply_turn now progress)
  unfolding sends ptr_reply unsent_of only any_of some_of
  reply-step = rw at-step (go (held_now progress.instance) (recently (sent_of Ptr progress.sent) now 1000))
    where
      go : (held recent : Bool)
          → By held recent
          (cond (any_of (cond held (each (λ o. has o (only Ptr) && not recent)) no_record))
          (responds (cond held (each (λ o. has o (only Ptr) && not recent)) no_record) now (without_reply progress))
          (quiet (without_reply progress)))
      go true true = refl
      go true false = refl
      go false recent = refl
