-- Of any packet received, and of a query from another port: the start draw stays, and the time is the call's; a lost claim stays lost; the times kept stay within bounds; and a claim that
-- is clear to probe from a time on stays so. Assumes nothing.
use Rattle.std.specs.Prelude.{Option, Some, None}
use Prim.Native.Nat.{ℕ, ◌+◌, ◌≤◌}
use mathlib.Core.Path.{◌≡◌, refl, sym, ap, ◌∙◌}
use mathlib.Core.Bool.{Bool, true, false, cond, not, ◌&&◌}
use native.Mathlib.Omega.{arith}
use lib.Dec.{leb}
use borrow.Author.Tests.{le-leb}
use Rattle.claims.specs.records.Own.{has, goes_at_once}
use Rattle.claims.specs.records.Sets.{no_record, at_once}
use Rattle.claims.specs.Time.{last_time, last_due, after_ms, at_most, sent_of, marked, marked_all}
use Rattle.claims.specs.Claims.{claim_of, after_conflict, after_probe, begun_at}
use Rattle.claims.specs.Refusals.{claim_kept, holds_kept, kept}
use Rattle.claims.proofs.Times.{after-exact, after-within}
use Rattle.claims.proofs.Keeping.{AllKept, parts, whole, all-marked_kept, knowing-all_kept, queued-kept, conflict_kept, probe-kept}
use Rattle.claims.proofs.Clear.{Clear, clear_conflict, clear_probe}
use Rattle.claims.specs.declared.ClaimState.{ClaimState}
use Rattle.claims.specs.declared.ClaimState.TheVariants.{Lost}
use Rattle.claims.specs.declared.records.Claim.{Claim}
use Rattle.claims.specs.declared.records.Claim.TheVariants.{Instance, Host}
use Rattle.claims.specs.declared.records.Own.{Own}
use Rattle.claims.specs.declared.records.Own.TheVariants.{Ptr}
use Rattle.claims.proofs.records.Sets.{has-each, sent_each}
use Rattle.claims.specs.declared.holds.Holds.{Holds}
use Rattle.claims.specs.declared.Progress.{Progress}
use Rattle.claims.specs.holds.Holds.{no_holds, held_of, some_from, some_free, knowing_all, once_per_address}
use Rattle.claims.proofs.holds.Lists.{once_queued, once_known}
use Rattle.claims.specs.answers.Answers.{heard_for, heard_of, wanted_of, multicast_asks, set_reply, joined, judged_of, plain_of}
use Rattle.claims.specs.answers.Held.{to_hold, hold_of, held_back, receive_of}
use Rattle.claims.proofs.answers.Causes.{held-or_judged}
use Rattle.claims.specs.declared.answers.Heard.{Heard}
use Rattle.claims.specs.declared.answers.Facts.{Facts}
use Rattle.claims.specs.declared.answers.Coming.{Coming}

-- what a conflict and a probe keep, a message keeps
heard-by :
    (P : ClaimState → Type 0) (c : ClaimState) (response : Bool) (h : Heard) (again deferred : ℕ)
    → P c
    → P (after_conflict c again)
    → P (after_probe c deferred)
    → P (heard_of c response h again deferred)
unfolding heard_of
heard-by P c response h again deferred p conflict probe = go response h.conflict (h.probe && h.later)
  where
    go : (r b later : Bool) → P (cond r (cond b (after_conflict c again) c) (cond later (after_probe c deferred) c))
    go true true later = conflict
    go true false later = p
    go false b true = probe
    go false b false = p

clash : {A : Type 0} → ◌≡◌ {A = Bool} false true → A
clash h = let z : ◌≡◌ {A = ℕ} 0 1 = cc in absurd (omega arith)

module _ (progress : Progress) (c : Coming) (f : Facts) where
  -- what is held is a query with TC that is no probe for either claim
  pub record Truncated : Type 0 where
    pub query : f.response ≡ false
    pub truncated : f.truncated ≡ true
    pub instance : f.instance.probe ≡ false
    pub host : f.host.probe ≡ false

  pub held-truncated : to_hold progress.holds c f ≡ true → Truncated
  unfolding to_hold
  held-truncated h = go f.response f.truncated f.instance.probe f.host.probe refl refl refl refl _ h
    where
      go : (r t i h : Bool)
          → f.response ≡ r
          → f.truncated ≡ t
          → f.instance.probe ≡ i
          → f.host.probe ≡ h
          → (rest : Bool)
          → (not r && (t && ((not i && not h) && rest))) ≡ true
          → Truncated
      go false true false false er et ei eh rest e = record { query = er; truncated = et; instance = ei; host = eh }
      go false true false true er et ei eh rest e = clash e
      go false true true h er et ei eh rest e = clash e
      go false false i h er et ei eh rest e = clash e
      go true t i h er et ei eh rest e = clash e

  -- there is room for it, and none of its address is held
  pub held-room : to_hold progress.holds c f ≡ true → (some_from c.from progress.holds ≡ false) × (some_free progress.holds ≡ true)
  unfolding to_hold
  held-room h =
      go f.response f.truncated (not f.instance.probe && not f.host.probe) (some_from c.from progress.holds) (some_free progress.holds) h
    where
      go : (r t p s g : Bool) → (not r && (t && (p && (not s && g)))) ≡ true → (s ≡ false) × (g ≡ true)
      go false true true false g e = (refl, e)
      go false true true true g e = clash e
      go false true false s g e = clash e
      go false false p s g e = clash e
      go true t p s g e = clash e

  -- it does not move a claim
  pub truncated-heard : (k : Claim) (x : ClaimState) (again deferred : ℕ) → Truncated → heard_of x f.response (heard_for k f) again deferred ≡ x
  unfolding heard_of
  truncated-heard Instance x again deferred t = simp (t.query, t.instance)
  truncated-heard Host x again deferred t = simp (t.query, t.host)

module _ (c : Coming) (f : Facts) (aaaa : Bool) where
  abbrev after : Progress → Progress
  after progress = (receive_of progress c f aaaa).progress

  -- what a packet received does to a claim
  pub receive-claim :
      (k : Claim) (progress : Progress)
      → claim_of k (after progress)
      ≡ heard_of (claim_of k progress) f.response (heard_for k f) (after_ms c.now progress.draw) (after_ms c.now 1000)
  unfolding held_back judged_of
  receive-claim k progress =
      held-or_judged progress c f aaaa
      (λ b r. claim_of k r.progress ≡ heard_of (claim_of k progress) f.response (heard_for k f) (after_ms c.now progress.draw) (after_ms c.now 1000))
      (λ e. held k e) (λ e. judged k)
    where
      held : (j : Claim) → to_hold progress.holds c f ≡ true
          → claim_of j (held_back progress c f).progress
          ≡ heard_of (claim_of j progress) f.response (heard_for j f) (after_ms c.now progress.draw) (after_ms c.now 1000)
      held Instance e = sym (truncated-heard progress c f Instance progress.instance _ _ (held-truncated progress c f e))
      held Host e = sym (truncated-heard progress c f Host progress.host _ _ (held-truncated progress c f e))

      judged : (j : Claim)
          → claim_of j (judged_of progress c f aaaa).progress
          ≡ heard_of (claim_of j progress) f.response (heard_for j f) (after_ms c.now progress.draw) (after_ms c.now 1000)
      judged Instance = refl
      judged Host = refl

  -- each record that goes out is then multicast at `now`, and no other
  pub receive-sent :
      (progress : Progress) (r : Own)
      → sent_of r (after progress).sent ≡ sent_of r (marked_all (receive_of progress c f aaaa).answers progress.sent c.now)
  unfolding held_back judged_of marked_all
  receive-sent progress r =
      held-or_judged progress c f aaaa (λ b x. sent_of r x.progress.sent ≡ sent_of r (marked_all x.answers progress.sent c.now))
      (λ e.
      sym
      (sent_each (λ o. marked (has o no_record) (sent_of o progress.sent) c.now) r
      ∙ ap (λ (b : Bool). marked b (sent_of r progress.sent) c.now) (has-each (λ o. false) r)))
      (λ e. refl)

  -- what goes out at once is wanted
  pub answered_wanted :
      (progress : Progress) (r : Own) → has r (receive_of progress c f aaaa).answers ≡ true → has r (wanted_of progress (multicast_asks progress f c.now) c.now aaaa) ≡ true
  unfolding held_back judged_of at_once
  answered_wanted progress r =
      held-or_judged progress c f aaaa (λ b x. has r x.answers ≡ true → has r (wanted_of progress (multicast_asks progress f c.now) c.now aaaa) ≡ true)
      (λ e h. clash (sym (has-each (λ o. false) r) ∙ h))
      (λ e h. second (goes_at_once r) _ (sym (has-each (λ o. goes_at_once o && has o (wanted_of progress (multicast_asks progress f c.now) c.now aaaa)) r) ∙ h))
    where
      second : (x y : Bool) → (x && y) ≡ true → y ≡ true
      second true y h = h
      second false y h = clash h

  pub receive-draw : (progress : Progress) → (after progress).draw ≡ progress.draw
  unfolding held_back judged_of
  receive-draw progress = held-or_judged progress c f aaaa (λ b r. r.progress.draw ≡ progress.draw) (λ e. refl) (λ e. refl)

  pub receive-last : (progress : Progress) → (after progress).last ≡ c.now
  unfolding held_back judged_of
  receive-last progress = held-or_judged progress c f aaaa (λ b r. r.progress.last ≡ c.now) (λ e. refl) (λ e. refl)

  -- no two held queries are of one address
  pub receive-once : (progress : Progress) → once_per_address (held_of progress.holds) ≡ true → once_per_address (held_of (after progress).holds) ≡ true
  unfolding held_back judged_of joined
  receive-once progress o =
      held-or_judged progress c f aaaa (λ b r. once_per_address (held_of r.progress.holds) ≡ true)
      (λ e.
      let r = held-room progress c f e in
      once_queued (hold_of c f) progress.holds refl r.1 r.0 o)
      (λ e. go f.response)
    where
      go : (b : Bool) → once_per_address (held_of (cond b progress.holds (knowing_all c.from f.known progress.holds))) ≡ true
      go true = o
      go false = once_known c.from f.known progress.holds o

  -- "lost for good"
  pub receive-lost : (k : Claim) (progress : Progress) → claim_of k progress ≡ Lost → claim_of k (after progress) ≡ Lost
  receive-lost k progress e =
      rw (receive-claim k progress) (heard-by (λ x. x ≡ Lost) (claim_of k progress) f.response (heard_for k f) _ _ e (rw e) (rw e))

  -- a packet that is not refused keeps the times within bounds
  module _ (most : ℕ) (h : c.now ≤ last_time) (d : c.draw ≤ 120) (g : c.hold ≤ 500) (l : last_due ≤ most) where
    soon : (ms : ℕ) → ms ≤ 1000 → leb (after_ms c.now ms) most ≡ true
    soon ms m = le-leb _ _ (after-within c.now ms most h m l)

    now_kept : leb c.now most ≡ true
    now_kept = le-leb c.now most (omega arith)

    heard-kept : (x : ClaimState) (start : ℕ) (told : Heard) → start ≤ 250 → claim_kept most x ≡ true
        → claim_kept most (heard_of x f.response told (after_ms c.now start) (after_ms c.now 1000)) ≡ true
    heard-kept x start told s e =
        heard-by (λ y. claim_kept most y ≡ true) x f.response told (after_ms c.now start) (after_ms c.now 1000) e
        (conflict_kept most x (after_ms c.now start) e (soon start (omega arith)))
        (probe-kept most x (after_ms c.now 1000) e (soon 1000 (omega arith)))

    reply-kept : (asks : Bool) (r : Option ℕ) → at_most most r ≡ true → at_most most (set_reply asks r (after_ms c.now c.draw)) ≡ true
    reply-kept true None e = soon c.draw (omega arith)
    reply-kept false None e = refl
    reply-kept asks (Some due) e = e

    joined-kept : (holds : Holds) → holds_kept most holds ≡ true → holds_kept most (joined holds c f) ≡ true
    unfolding joined
    joined-kept holds k = go f.response
      where
        go : (r : Bool) → holds_kept most (cond r holds (knowing_all c.from f.known holds)) ≡ true
        go true = k
        go false = knowing-all_kept most c.from f.known holds k

    pub receive-kept : (progress : Progress) → progress.draw ≤ 250 → kept most progress ≡ true → kept most (after progress) ≡ true
    unfolding held_back judged_of
    receive-kept progress s q =
        let p : AllKept _ _ _ _ _ _ _ = parts most progress q in
        held-or_judged progress c f aaaa (λ b r. kept most r.progress ≡ true)
        (λ e.
        whole most _
        (record {
          instance = p.instance;
          host = p.host;
          sent = p.sent;
          reply = p.reply;
          holds = queued-kept most (hold_of c f) progress.holds (soon c.hold (omega arith)) p.holds;
          updated = p.updated;
          last = now_kept;
        }))
        (λ e.
        whole most _
        (record {
          instance = heard-kept progress.instance progress.draw f.instance s p.instance;
          host = heard-kept progress.host progress.draw f.host s p.host;
          sent = all-marked_kept most (at_once (wanted_of progress (multicast_asks progress f c.now) c.now aaaa)) progress.sent c.now p.sent now_kept;
          reply = reply-kept (has Ptr (wanted_of progress (multicast_asks progress f c.now) c.now aaaa)) progress.reply p.reply;
          holds = joined-kept progress.holds p.holds;
          updated = p.updated;
          last = now_kept;
        }))

  module _ (from : ℕ) (h : c.now ≤ last_time) (b : from ≤ c.now + 1000) where
    again : (start : ℕ) → start ≤ 250 → c.now ≤ after_ms c.now start
    again start s = rw (after-exact c.now start h (omega arith)) (omega arith)

    deferred : from ≤ after_ms c.now 1000
    deferred = rw (after-exact c.now 1000 h (omega arith)) b

    pub receive-clear :
        (k : Claim) (progress : Progress)
        → progress.draw ≤ 250
        → Clear from c.now (claim_of k progress)
        → Clear from c.now (claim_of k (after progress))
    receive-clear k progress s q =
        rw (receive-claim k progress)
        (heard-by (Clear from c.now) (claim_of k progress) f.response (heard_for k f) (after_ms c.now progress.draw) (after_ms c.now 1000) q
        (clear_conflict from c.now (claim_of k progress) (after_ms c.now progress.draw) (again progress.draw s) q)
        (clear_probe from c.now (claim_of k progress) (after_ms c.now 1000) deferred q))

-- ---- a query from another port: nothing but the last time changes

module _ (now : ℕ) (f : Facts) (aaaa : Bool) where
  pub plain-claim : (k : Claim) (progress : Progress) → claim_of k (plain_of progress now f aaaa).progress ≡ claim_of k progress
  unfolding plain_of
  plain-claim Instance progress = refl
  plain-claim Host progress = refl

  pub plain-draw : (progress : Progress) → (plain_of progress now f aaaa).progress.draw ≡ progress.draw
  unfolding plain_of
  plain-draw progress = refl

  pub plain-holds : (progress : Progress) → (plain_of progress now f aaaa).progress.holds ≡ progress.holds
  unfolding plain_of
  plain-holds progress = refl

  pub plain-last : (progress : Progress) → (plain_of progress now f aaaa).progress.last ≡ now
  unfolding plain_of
  plain-last progress = refl

  pub plain-kept : (most : ℕ) → now ≤ last_time → last_due ≤ most → (progress : Progress) → kept most progress ≡ true
      → kept most (plain_of progress now f aaaa).progress ≡ true
  unfolding plain_of
  plain-kept most h l progress q =
      let p : AllKept _ _ _ _ _ _ _ = parts most progress q in
      whole most _ (record { instance = p.instance; host = p.host; sent = p.sent; reply = p.reply; holds = p.holds; updated = p.updated; last = le-leb now most (omega arith) })

-- a start holds no query
pub begun-holds : (now draw : ℕ) → (begun_at now draw).holds ≡ no_holds
unfolding begun_at
begun-holds now draw = refl
