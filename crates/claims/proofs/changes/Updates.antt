-- What an update does: a claim that is held announces the record and its second step falls due anew, any other that is not lost starts anew; the held queries
-- forget the record; and the times kept stay within bounds. And no call but an update changes the time of the last one. Assumes nothing.
use Rattle.std.specs.Prelude.{Some}
use Prim.Native.Nat.{ℕ, ◌≤◌}
use mathlib.Core.Path.{◌≡◌, refl, sym, ap, ◌∙◌}
use mathlib.Core.Bool.{Bool, true, false, cond, not, ◌&&◌}
use mathlib.Core.List.{List, [], ◌∷◌, map}
use native.Mathlib.Omega.{arith}
use lib.Dec.{leb}
use borrow.Author.Tests.{le-leb}
use Rattle.claims.specs.records.Own.{claim_for, has}
use Rattle.claims.specs.records.Sets.{no_record, only, picked, some_of}
use Rattle.claims.specs.Time.{last_time, last_due, after_ms, marked_all}
use Rattle.claims.specs.Claims.{held_now, claim_of}
use Rattle.claims.specs.Refusals.{claim_kept, holds_kept, kept}
use Rattle.claims.specs.holds.Holds.{is_taken, hold_at, slots, held_of, once_per_address}
use Rattle.claims.specs.declared.ClaimState.{ClaimState}
use Rattle.claims.specs.declared.ClaimState.TheVariants.{Waiting, Probing1, Probing2, Probing3, Deferred, Announced, Held, Lost}
use Rattle.claims.specs.declared.records.Claim.{Claim}
use Rattle.claims.specs.declared.records.Claim.TheVariants.{Instance, Host}
use Rattle.claims.specs.declared.records.Own.{Own}
use Rattle.claims.specs.declared.records.Set.{Set}
use Rattle.claims.specs.declared.holds.Address.{Address}
use Rattle.claims.specs.declared.holds.Hold.{Hold}
use Rattle.claims.specs.declared.holds.Holds.{Holds}
use Rattle.claims.specs.declared.holds.Place.{Place}
use Rattle.claims.specs.declared.holds.Place.TheVariants.{First, Second, Third, Fourth}
use Rattle.claims.specs.declared.Progress.{Progress}
use Rattle.claims.specs.declared.answers.Facts.{Facts}
use Rattle.claims.specs.declared.answers.Coming.{Coming}
use Rattle.claims.specs.answers.Answers.{judged_of, plain_of}
use Rattle.claims.specs.answers.Held.{held_back, receive_of}
use Rattle.claims.specs.declared.changes.Change.{Change}
use Rattle.claims.specs.declared.changes.Change.TheVariants.{Port, Txt}
use Rattle.claims.specs.declared.steps.Turn.{Turn}
use Rattle.claims.specs.changes.Changes.{changed_record, after_update, announced_of, without, forgetting, forgetting_all, update_of, is_lost}
use Rattle.claims.specs.steps.Tick.{with_claim, without_reply, sends, ptr_reply, reply_turn, without_hold, hold_answers, hold_turn, claim_turn, ended_of, tick_of}
use Rattle.claims.proofs.Times.{after-within}
use Rattle.claims.proofs.Keeping.{AllKept, parts, whole, all-marked_kept, four_kept, kept-four}
use Rattle.claims.proofs.records.Sets.{by-record, has-each}
use Rattle.claims.proofs.answers.Causes.{held-or_judged}
use Rattle.claims.proofs.holds.Lists.{of_address}
use Rattle.claims.proofs.steps.Walk.{quiet, sends-by, walk, claim_by, reply-by, hold-by}

clash : {A : Type 0} → ◌≡◌ {A = Bool} false true → A
clash h = let z : ◌≡◌ {A = ℕ} 0 1 = cc in absurd (omega arith)

-- the two records are of the instance claim
pub changed-instance : (change : Change) → claim_for (changed_record change) ≡ Instance
changed-instance Port = refl
changed-instance Txt = refl

-- ---- the claim

restarts : (c : ClaimState) (again second : ℕ) → held_now c ≡ false → is_lost c ≡ false → after_update c again second ≡ Waiting again
restarts (Waiting was) again second h l = refl
restarts (Probing1 was) again second h l = refl
restarts (Probing2 was) again second h l = refl
restarts (Probing3 was) again second h l = refl
restarts (Deferred was) again second h l = refl
restarts (Announced was) again second h l = clash (sym h)
restarts Held again second h l = clash (sym h)
restarts Lost again second h l = clash (sym l)

announces : (c : ClaimState) (again second : ℕ) → held_now c ≡ true → after_update c again second ≡ Announced second
announces (Waiting was) again second h = clash h
announces (Probing1 was) again second h = clash h
announces (Probing2 was) again second h = clash h
announces (Probing3 was) again second h = clash h
announces (Deferred was) again second h = clash h
announces (Announced was) again second h = refl
announces Held again second h = refl
announces Lost again second h = clash h

-- an update begins no holding, and ends none
pub update-holds : (c : ClaimState) (again second : ℕ) → held_now (after_update c again second) ≡ held_now c
update-holds (Waiting was) again second = refl
update-holds (Probing1 was) again second = refl
update-holds (Probing2 was) again second = refl
update-holds (Probing3 was) again second = refl
update-holds (Deferred was) again second = refl
update-holds (Announced was) again second = refl
update-holds Held again second = refl
update-holds Lost again second = refl

after_kept : (most : ℕ) (c : ClaimState) (again second : ℕ) → leb again most ≡ true → leb second most ≡ true → claim_kept most (after_update c again second) ≡ true
after_kept most (Waiting was) again second a s = a
after_kept most (Probing1 was) again second a s = a
after_kept most (Probing2 was) again second a s = a
after_kept most (Probing3 was) again second a s = a
after_kept most (Deferred was) again second a s = a
after_kept most (Announced was) again second a s = s
after_kept most Held again second a s = s
after_kept most Lost again second a s = refl

-- ---- the held queries

module _ (o : Own) where
  -- a held query is what it was, but for what it knew of the record
  pub forgets_place : (place : Place) (holds : Holds) → hold_at place (forgetting_all o holds) ≡ forgetting o (hold_at place holds)
  unfolding forgetting_all
  forgets_place First holds = refl
  forgets_place Second holds = refl
  forgets_place Third holds = refl
  forgets_place Fourth holds = refl

  pub knows_still : (h : Hold) (p : Own) → has p (forgetting o h).known ≡ (has p h.known && not (has p (only o)))
  unfolding without
  knows_still h p = has-each (λ q. has q h.known && not (has q (only o))) p

  forgetting-picked : (hs : List Hold) → picked is_taken (map (forgetting o) hs) ≡ map (forgetting o) (picked is_taken hs)
  unfolding picked
  forgetting-picked [] = refl
  forgetting-picked (h ∷ hs) = go (is_taken h) (forgetting-picked hs)
    where
      go : (b : Bool) → picked is_taken (map (forgetting o) hs) ≡ map (forgetting o) (picked is_taken hs)
          → cond b (forgetting o h ∷ picked is_taken (map (forgetting o) hs)) (picked is_taken (map (forgetting o) hs))
          ≡ map (forgetting o) (cond b (h ∷ picked is_taken hs) (picked is_taken hs))
      go true e = ap (λ (l : List Hold). forgetting o h ∷ l) e
      go false e = e

  -- the same queries in the same order, each without the record
  pub forgetting-held : (holds : Holds) → held_of (forgetting_all o holds) ≡ map (forgetting o) (held_of holds)
  unfolding held_of forgetting_all
  forgetting-held holds = forgetting-picked (slots holds)

  same_addresses : (a : Address) (hs : List Hold) → of_address a (map (forgetting o) hs) ≡ of_address a hs
  unfolding some_of
  same_addresses a [] = refl
  same_addresses a (h ∷ hs) = rw (same_addresses a hs) refl

  once_forgetting : (hs : List Hold) → once_per_address (map (forgetting o) hs) ≡ once_per_address hs
  unfolding once_per_address
  once_forgetting [] = refl
  once_forgetting (h ∷ hs) = rw (same_addresses h.from hs, once_forgetting hs) refl

  pub once_forgotten : (holds : Holds) → once_per_address (held_of holds) ≡ true → once_per_address (held_of (forgetting_all o holds)) ≡ true
  once_forgotten holds e = rw (forgetting-held holds) (once_forgetting (held_of holds) ∙ e)

  forgetting-kept : (most : ℕ) (holds : Holds) → holds_kept most holds ≡ true → holds_kept most (forgetting_all o holds) ≡ true
  unfolding forgetting_all
  forgetting-kept most holds h =
      let k = four_kept most holds h in kept-four most _ (record { first = k.first; second = k.second; third = k.third; fourth = k.fourth })

-- a record is the only one of the set of it
only_self : (o : Own) → has o (only o) ≡ true
unfolding only
only_self = by-record (λ o. has o (only o) ≡ true) refl refl refl refl refl refl refl

none_left : (b : Bool) → (b && not true) ≡ false
none_left true = refl
none_left false = refl

-- ---- an update

module _ (progress : Progress) (now : ℕ) (change : Change) where
  abbrev after : Progress
  after = (update_of progress now change).progress

  pub update-instance : after.instance ≡ after_update progress.instance (after_ms now progress.draw) (after_ms now 1000)
  unfolding update_of
  update-instance = refl

  pub update-host : after.host ≡ progress.host
  unfolding update_of
  update-host = refl

  pub update-draw : after.draw ≡ progress.draw
  unfolding update_of
  update-draw = refl

  pub update-last : after.last ≡ now
  unfolding update_of
  update-last = refl

  pub update-time : after.updated ≡ Some now
  unfolding update_of
  update-time = refl

  pub update-holding : after.holds ≡ forgetting_all (changed_record change) progress.holds
  unfolding update_of
  update-holding = refl

  -- "Waiting, probing or deferred: back to waiting with the new data, first probe due at now plus its start draw": nothing is sent
  pub update-restarts : held_now progress.instance ≡ false → is_lost progress.instance ≡ false
      → (after.instance ≡ Waiting (after_ms now progress.draw)) × ((update_of progress now change).announced ≡ no_record)
  unfolding update_of announced_of
  update-restarts h l = (restarts progress.instance _ _ h l, simp h)

  -- "Held: the updated record alone is announced at once, .. and the claim's second step falls due anew in 1,000 ms."
  pub update-announces : held_now progress.instance ≡ true
      → (after.instance ≡ Announced (after_ms now 1000)) × ((update_of progress now change).announced ≡ only (changed_record change))
  unfolding update_of announced_of
  update-announces h = (announces progress.instance _ _ h, simp h)

  -- each record that goes out is then multicast at `now`, and no other
  pub update-sent : after.sent ≡ marked_all (update_of progress now change).announced progress.sent now
  unfolding update_of
  update-sent = refl

  -- "lost for good"
  pub update-lost : (k : Claim) → claim_of k progress ≡ Lost → claim_of k after ≡ Lost
  unfolding update_of
  update-lost Instance e = rw e
  update-lost Host e = e

  -- "Held queries forget what they knew of the record", and nothing else
  pub update-forgets : (place : Place) → has (changed_record change) (hold_at place after.holds).known ≡ false
  unfolding update_of
  update-forgets place =
      ap (λ (h : Hold). has (changed_record change) h.known) (forgets_place (changed_record change) place progress.holds)
      ∙ knows_still (changed_record change) (hold_at place progress.holds) (changed_record change)
      ∙ ap (λ (b : Bool). has (changed_record change) (hold_at place progress.holds).known && not b) (only_self (changed_record change))
      ∙ none_left (has (changed_record change) (hold_at place progress.holds).known)

  pub update-once : once_per_address (held_of progress.holds) ≡ true → once_per_address (held_of after.holds) ≡ true
  unfolding update_of
  update-once o = once_forgotten (changed_record change) progress.holds o

  -- an update that is not refused keeps the times within bounds
  pub update-kept : (most : ℕ) → now ≤ last_time → progress.draw ≤ 250 → last_due ≤ most → kept most progress ≡ true → kept most after ≡ true
  unfolding update_of
  update-kept most h d l q =
      let p : AllKept _ _ _ _ _ _ _ = parts most progress q in
      let now_kept : leb now most ≡ true = le-leb now most (omega arith) in
      whole most _
      (record {
        instance =
            after_kept most progress.instance (after_ms now progress.draw) (after_ms now 1000)
            (le-leb _ _ (after-within now progress.draw most h (omega arith) l))
            (le-leb _ _ (after-within now 1000 most h (omega arith) l));
        host = p.host;
        sent = all-marked_kept most (announced_of progress change) progress.sent now p.sent now_kept;
        reply = p.reply;
        holds = forgetting-kept (changed_record change) most progress.holds p.holds;
        updated = now_kept;
        last = now_kept;
      })

-- ---- the time of the last update, which no other call changes

with-claim_updated : (k : Claim) (c : ClaimState) (l : Progress) → (with_claim k c l).updated ≡ l.updated
with-claim_updated Instance c l = refl
with-claim_updated Host c l = refl

module _ (now : ℕ) (aaaa : Bool) (progress : Progress) where
  abbrev Same : Turn → Type 0
  Same t = t.progress.updated ≡ progress.updated

  pub tick-updated : (tick_of progress now aaaa).progress.updated ≡ progress.updated
  unfolding tick_of ended_of
  tick-updated = walk now Same aaaa progress refl turn reply hold
    where
      sent : (k : Claim) (l : Progress) → Same (quiet l) → (c : ClaimState) (set : Set) → Same (sends set now (with_claim k c l))
      sent k l q c set = sends-by now Same set (with_claim k c l) (rw with-claim_updated q) (rw with-claim_updated q)

      turn : (k : Claim) (l : Progress) → Same (quiet l) → Same (claim_turn k aaaa now l)
      turn k l q = claim_by now Same k aaaa l q (λ c d e. rw with-claim_updated q) (λ c d e. sent k l q c _) (λ c d e. sent k l q c _)

      reply : (l : Progress) → Same (quiet l) → Same (reply_turn now l)
      reply l q = reply-by now Same l q (λ d. sends-by now Same (ptr_reply now l) (without_reply l) q q)

      hold : (place : Place) (l : Progress) → Same (quiet l) → Same (hold_turn place aaaa now l)
      hold place l q = hold-by now Same place aaaa l q (λ d. sends-by now Same (hold_answers place aaaa now l) (without_hold place l) q q)

pub receive-updated : (c : Coming) (f : Facts) (aaaa : Bool) (progress : Progress) → (receive_of progress c f aaaa).progress.updated ≡ progress.updated
unfolding held_back judged_of
receive-updated c f aaaa progress = held-or_judged progress c f aaaa (λ b r. r.progress.updated ≡ progress.updated) (λ e. refl) (λ e. refl)

pub plain-updated : (now : ℕ) (f : Facts) (aaaa : Bool) (progress : Progress) → (plain_of progress now f aaaa).progress.updated ≡ progress.updated
unfolding plain_of
plain-updated now f aaaa progress = refl
