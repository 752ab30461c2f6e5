-- Of every run of calls: a lost claim stays lost, two probes of one claim are at least 250 ms apart unless an update lets it begin anew, and no two held queries
-- are of one address. Assumes nothing.
use Prim.Native.Nat.{ℕ, ◌+◌, ◌≤◌}
use mathlib.Core.Path.{◌≡◌, refl, ap, ◌∙◌}
use mathlib.Core.Bool.{Bool, true, false, cond, not, ◌&&◌, ◌||◌}
use mathlib.Core.List.{List, [], ◌∷◌}
use lib.ListN.{length}
use native.Mathlib.Omega.{arith}
use lib.Dec.{eqb, ltb}
use borrow.Author.Tests.{ltb-false, eqb-true}
use mathlib.Mathlib.Data.Bool.Basic.{or-eq-false-eq-eq-false-and-eq-false as neither}
use Rattle.wire.specs.message.Layout.{Reads, read, refused, message_at}
use Rattle.own.specs.declared.records.Setup.{Setup}
use Rattle.own.specs.records.Setups.{valid_setup}
use Rattle.own.specs.changes.Changes.{revised, change_of}
use Rattle.claims.specs.Time.{last_time, after_ms}
use Rattle.claims.specs.Claims as claims
use Rattle.claims.specs.Claims.{claim_of}
use Rattle.claims.specs.Refusals.{kept, late_start, wrong_time, wrong_start_draw}
use Rattle.claims.specs.declared.ClaimState.TheVariants.{Waiting, Probing1, Probing2, Probing3, Deferred, Announced, Held, Lost}
use Rattle.claims.specs.declared.records.Claim.{Claim}
use Rattle.claims.specs.declared.records.Claim.TheVariants.{Instance, Host}
use Rattle.claims.specs.declared.Progress.{Progress}
use Rattle.claims.specs.steps.Tick.{probes_for}
use Rattle.claims.specs.answers.Answers as answers
use Rattle.claims.specs.answers.Held as held
use Rattle.claims.specs.declared.answers.Facts.{Facts}
use Rattle.claims.proofs.Times.{after-exact}
use Rattle.claims.proofs.Clear.{Clear, clear_later}
use Rattle.claims.specs.holds.Holds.{held_of, once_per_address}
use Rattle.claims.proofs.holds.Lists.{at_most-four, once_none}
use Rattle.claims.proofs.steps.Ticks.{tick-last, tick-lost, tick-once}
use Rattle.claims.proofs.steps.Spacing.{tick-paced, clear_from, Paced}
use Rattle.claims.specs.declared.ClaimState.{ClaimState}
use Rattle.claims.specs.changes.Changes.{after_update, stop_of as stopping}
use Rattle.claims.proofs.changes.Stops as stops
use Rattle.claims.proofs.changes.Updates as updates
use Rattle.claims.proofs.answers.Receives.{receive-last, receive-lost, receive-clear, receive-once, plain-claim, plain-last, plain-holds, begun-holds}
use Rattle.facts.specs.Facts.{facts_of}
use Rattle.responder.specs.Handed.{Arrival, coming_of, Tick}
use Rattle.responder.specs.Refusals.{wrong_state, start_refusal, receive_refusal, tick_refusal}
use Rattle.responder.specs.Calls.{start_of, from_mdns, heard_of, receive_of, walked_of, tick_of}
use Rattle.responder.specs.changes.Changes.{ended_of, stop_of, Update, renewed_of, update_to, update_refusal, update_of}
use Rattle.responder.specs.Runs.{Call, received, ticked, stopped, updated, refusal_of_call, state_after, run, time_of, sends_probe, renews, marked, probe_marks}
use Rattle.responder.specs.Runs.{Spaced, none, next, anew}
use Rattle.responder.specs.declared.State.{State}
use Rattle.responder.proofs.Refusals.{StartAccepted, ReceiveAccepted, TickAccepted, start-accepted, receive-accepted, tick-accepted, refused_keeps}
use Rattle.responder.proofs.changes.Accepted.{UpdateAccepted, update-accepted}

-- what an accepted call says of the numbers
timely : (progress : Progress) (time : ℕ) → wrong_time progress time ≡ false → (time ≤ last_time) × (progress.last ≤ time)
unfolding wrong_time
timely progress time h =
    let a : _ × _ = (neither (late_start time) (ltb time progress.last || not (kept 4611686018427389904 progress))).0 h in
    let b : _ × _ = (neither (ltb time progress.last) (not (kept 4611686018427389904 progress))).0 a.1 in
    (ltb-false last_time time a.0, ltb-false time progress.last b.0)

small-draw : (s : State) → wrong_state s ≡ false → s.progress.draw ≤ 250
unfolding wrong_state
small-draw s h = ltb-false 250 s.progress.draw ((neither (not (valid_setup s.setup)) (wrong_start_draw s.progress.draw)).0 h).1

-- the progress after an accepted call
received-progress : (s : State) (a : Arrival) → receive_refusal s a ≡ 0 → (receive_of s a).state.progress ≡ (heard_of s a (message_at a.packet)).progress
unfolding receive_of
received-progress s a h = simp h

ticked-progress : (s : State) (t : Tick) → tick_refusal s t ≡ 0 → (tick_of s t).state.progress ≡ (walked_of s t.time).progress
unfolding tick_of
ticked-progress s t h = simp h

stopped-progress : (s : State) (t : Tick) → tick_refusal s t ≡ 0 → (stop_of s t).state.progress ≡ (ended_of s t.time).progress
unfolding stop_of
stopped-progress s t h = simp h

updated-progress : (s : State) (u : Update) → update_refusal s u ≡ 0 → (update_of s u).state.progress ≡ (renewed_of s u.time (change_of u.new)).progress
unfolding update_of update_to update_refusal
updated-progress s u h = simp h

update-tests : (s : State) (u : Update) → update_refusal s u ≡ 0 → UpdateAccepted s u.time u.room (revised s.setup u.new)
unfolding update_refusal
update-tests s u h = update-accepted s u.time u.room (revised s.setup u.new) h

started-progress : (setup : Setup) (time draw : ℕ) → start_refusal setup time draw ≡ 0 → (start_of setup time draw).state.progress ≡ claims.begun_at time draw
unfolding start_of
started-progress setup time draw h = simp h

-- What every accepted call keeps, a run keeps.
module _ (P : State → Type 0) where
  call-keeps : ((s : State) (c : Call) → refusal_of_call s c ≡ 0 → P s → P (state_after s c)) → (s : State) (c : Call) → P s → P (state_after s c)
  call-keeps keep s c p = go (eqb (refusal_of_call s c) 0) refl
    where
      go : (b : Bool) → eqb (refusal_of_call s c) 0 ≡ b → P (state_after s c)
      go true e = keep s c (eqb-true _ _ e) p
      go false e = rw (refused_keeps s c e).0 p

  pub run-keeps : ((s : State) (c : Call) → refusal_of_call s c ≡ 0 → P s → P (state_after s c)) → (s : State) (cs : List Call) → P s → P (run s cs)
  run-keeps keep s [] p = p
  run-keeps keep s (c ∷ cs) p = run-keeps keep (state_after s c) cs (call-keeps keep s c p)

-- ---- a lost claim

-- "any other becomes lost for good"
pub run-lost : (k : Claim) (s : State) (cs : List Call) → claim_of k s.progress ≡ Lost → claim_of k (run s cs).progress ≡ Lost
run-lost k s cs q = run-keeps (λ x. claim_of k x.progress ≡ Lost) keep s cs q
  where
    heard : (x : State) (a : Arrival) (m : Reads) → claim_of k x.progress ≡ Lost → claim_of k (heard_of x a m).progress ≡ Lost
    heard x a (read l m) e = go (from_mdns a.port)
      where
        f : Facts
        f = facts_of x.setup m

        aaaa : Bool
        aaaa = x.setup.hasaaaa

        go : (b : Bool)
            → claim_of k (cond b (held.receive_of x.progress (coming_of a) f aaaa) (answers.plain_of x.progress a.time f aaaa)).progress ≡ Lost
        go true = receive-lost (coming_of a) f aaaa k x.progress e
        go false = plain-claim a.time f aaaa k x.progress ∙ e
    heard x a (refused n) e = e

    keep : (x : State) (c : Call) → refusal_of_call x c ≡ 0 → claim_of k x.progress ≡ Lost → claim_of k (state_after x c).progress ≡ Lost
    keep x (received a) h e = rw (received-progress x a h) (heard x a (message_at a.packet) e)
    keep x (ticked t) h e = rw (ticked-progress x t h) (tick-lost t.time x.setup.hasaaaa k x.progress e)
    keep x (stopped t) h e = rw (stopped-progress x t h) (stops.stop-lost x.progress t.time x.setup.hasaaaa k)
    keep x (updated u) h e = rw (updated-progress x u h) (updates.update-lost x.progress u.time (change_of u.new) k e)

-- ---- the held queries

-- "by source address": no two are of one address
abbrev pub OncePerAddress : State → Type 0
OncePerAddress s = once_per_address (held_of s.progress.holds) ≡ true

stopped-once : (progress : Progress) (now : ℕ) (aaaa : Bool) → once_per_address (held_of progress.holds) ≡ true
    → once_per_address (held_of (stopping progress now aaaa).progress.holds) ≡ true
unfolding stopping
stopped-once progress now aaaa e = e

pub run-once : (s : State) (cs : List Call) → OncePerAddress s → OncePerAddress (run s cs)
run-once s cs q = run-keeps OncePerAddress keep s cs q
  where
    heard : (x : State) (a : Arrival) (m : Reads) → OncePerAddress x → once_per_address (held_of (heard_of x a m).progress.holds) ≡ true
    heard x a (read l m) e = go (from_mdns a.port)
      where
        f : Facts
        f = facts_of x.setup m

        aaaa : Bool
        aaaa = x.setup.hasaaaa

        go : (b : Bool)
            → once_per_address (held_of (cond b (held.receive_of x.progress (coming_of a) f aaaa) (answers.plain_of x.progress a.time f aaaa)).progress.holds)
            ≡ true
        go true = receive-once (coming_of a) f aaaa x.progress e
        go false = rw (plain-holds a.time f aaaa x.progress) e
    heard x a (refused n) e = e

    keep : (x : State) (c : Call) → refusal_of_call x c ≡ 0 → OncePerAddress x → OncePerAddress (state_after x c)
    keep x (received a) h e = rw (received-progress x a h) (heard x a (message_at a.packet) e)
    keep x (ticked t) h e = rw (ticked-progress x t h) (tick-once t.time x.setup.hasaaaa x.progress e)
    keep x (stopped t) h e = rw (stopped-progress x t h) (stopped-once x.progress t.time x.setup.hasaaaa e)
    keep x (updated u) h e = rw (updated-progress x u h) (updates.update-once x.progress u.time (change_of u.new) e)

-- Whatever calls follow a start, at most four queries are held, and no two of one address.
pub few_held :
    (setup : Setup) (time draw : ℕ) (cs : List Call) → start_refusal setup time draw ≡ 0
    → (length (held_of (run (start_of setup time draw).state cs).progress.holds) ≤ 4) × OncePerAddress (run (start_of setup time draw).state cs)
few_held setup time draw cs h = (
  at_most-four _,
  run-once (start_of setup time draw).state cs
      (rw (started-progress setup time draw h) (begun-once time draw)),
)
  where
    begun-once : (t d : ℕ) → once_per_address (held_of (claims.begun_at t d).holds) ≡ true
    begun-once t d = rw (begun-holds t d) once_none

-- ---- two probes of one claim

never : {A : Type 0} → ◌≡◌ {A = Bool} false true → A
never e = let z : ◌≡◌ {A = ℕ} 0 1 = cc in absurd (omega arith)

module _ (k : Claim) where
  -- the claim is clear to probe from `from` on, which is at most 250 ms ahead of the last call
  abbrev Ready : ℕ → Progress → Type 0
  Ready from progress = Clear from progress.last (claim_of k progress) × (from ≤ progress.last + 250)

  -- what a call leaves: a probe was not too soon, and the next is at least 250 ms later; where the claim begins anew, not before that
  abbrev Leaves : ℕ → ℕ → Bool → Bool → Progress → Type 0
  Leaves from time probed new progress = (probed ≡ true → from ≤ time) × Ready (clear_from probed (cond new time from) time) progress

  heard-ready : (from : ℕ) (s : State) (a : Arrival) (x : Reads) → ReceiveAccepted s a → Ready from s.progress → Ready from (heard_of s a x).progress
  heard-ready from s a (refused n) p q = q
  heard-ready from s a (read l m) p q = go (from_mdns a.port)
    where
      f : Facts
      f = facts_of s.setup m

      aaaa : Bool
      aaaa = s.setup.hasaaaa

      t : (a.time ≤ last_time) × (s.progress.last ≤ a.time)
      t = timely s.progress a.time p.time

      clear : Clear from a.time (claim_of k s.progress)
      clear = clear_later from a.time s.progress.last t.1 (claim_of k s.progress) q.0

      soon : from ≤ a.time + 250
      soon = omega (arith, q.1, t.1)

      go : (b : Bool)
          → Ready from (cond b (held.receive_of s.progress (coming_of a) f aaaa) (answers.plain_of s.progress a.time f aaaa)).progress
      go true =
          let e = receive-last (coming_of a) f aaaa s.progress in (
            rw e (receive-clear (coming_of a) f aaaa from t.0 (omega (arith, soon)) k s.progress (small-draw s p.right) clear),
            rw e soon,
          )
      go false = let e = plain-last a.time f aaaa s.progress in (rw (e, plain-claim a.time f aaaa k s.progress) clear, rw e soon)

  within : (b : Bool) (from time : ℕ) → from ≤ time + 250 → clear_from b from time ≤ time + 250
  within true from time e = omega arith
  within false from time e = e

  walked-ready : (from : ℕ) (s : State) (t : Tick) → TickAccepted s t → Ready from s.progress
      → Leaves from t.time (probes_for k (walked_of s t.time).output) false (walked_of s t.time).progress
  walked-ready from s t p q =
      let d = timely s.progress t.time p.time in
      let c : Paced from t.time (probes_for k (walked_of s t.time).output) (claim_of k (walked_of s t.time).progress) =
      tick-paced from t.time d.0 k s.setup.hasaaaa s.progress (clear_later from t.time s.progress.last d.1 (claim_of k s.progress) q.0) in
      let e = tick-last t.time s.setup.hasaaaa s.progress in
      (c.0, (rw e c.1, rw e (within (probes_for k (walked_of s t.time).output) from t.time (omega (arith, q.1, d.1)))))

  -- a stop leaves the claim lost
  lost_ready : (from : ℕ) (progress : Progress) (time : ℕ) → claim_of k progress ≡ Lost → progress.last ≡ time → from ≤ time + 250 → Ready from progress
  lost_ready from progress time e f b = (rw e tt, rw f b)

-- an update: the instance claim waits from then on, or is held then; the host's is as it was
updated-clear : (c : ClaimState) (time again second : ℕ) → time ≤ again → Clear time time (after_update c again second)
updated-clear (Waiting was) time again second h = h
updated-clear (Probing1 was) time again second h = h
updated-clear (Probing2 was) time again second h = h
updated-clear (Probing3 was) time again second h = h
updated-clear (Deferred was) time again second h = h
updated-clear (Announced was) time again second h = omega arith
updated-clear Held time again second h = omega arith
updated-clear Lost time again second h = tt

updated-leaves : (k : Claim) (from : ℕ) (s : State) (u : Update) (b : Bool) → eqb (update_refusal s u) 0 ≡ b → Ready k from s.progress
    → Leaves k from u.time false (renews k s (updated u)) (update_of s u).state.progress
updated-leaves Instance from s u true e q =
    let h : update_refusal s u ≡ 0 = eqb-true _ _ e in
    let d = timely s.progress u.time (update-tests s u h).time in
    let change = change_of u.new in
    let again : u.time ≤ after_ms u.time s.progress.draw =
    rw (after-exact u.time s.progress.draw d.0 (omega (arith, small-draw s (update-tests s u h).right))) (omega arith) in
    rw e (
      λ z. never z,
      rw (updated-progress s u h) (rw (updates.update-instance s.progress u.time change, updates.update-last s.progress u.time change)
          (updated-clear s.progress.instance u.time (after_ms u.time s.progress.draw) (after_ms u.time 1000) again, omega arith)),
    )
updated-leaves Host from s u true e q =
    let h : update_refusal s u ≡ 0 = eqb-true _ _ e in
    let d = timely s.progress u.time (update-tests s u h).time in
    let change = change_of u.new in (
      λ z. never z,
      rw (updated-progress s u h)
          (rw (updates.update-host s.progress u.time change, updates.update-last s.progress u.time change)
          (clear_later from u.time s.progress.last d.1 s.progress.host q.0, omega (arith, q.1, d.1))),
    )
updated-leaves Instance from s u false e q = rw e (λ z. never z, rw (refused_keeps s (updated u) e).0 q)
updated-leaves Host from s u false e q = (λ z. never z, rw (refused_keeps s (updated u) e).0 q)

module _ (k : Claim) where
  leaves : (from : ℕ) (s : State) (c : Call) → Ready k from s.progress → Leaves k from (time_of c) (sends_probe k s c) (renews k s c) (state_after s c).progress
  leaves from s (received a) q = go (eqb (receive_refusal s a) 0) refl
    where
      go : (b : Bool) → eqb (receive_refusal s a) 0 ≡ b → Leaves k from a.time false false (receive_of s a).state.progress
      go true e =
          let h : receive_refusal s a ≡ 0 = eqb-true _ _ e in
          (λ z. never z, rw (received-progress s a h) (heard-ready k from s a (message_at a.packet) (receive-accepted s a h) q))
      go false e = (λ z. never z, rw (refused_keeps s (received a) e).0 q)
  leaves from s (ticked t) q = go (eqb (tick_refusal s t) 0) refl
    where
      go : (b : Bool) → eqb (tick_refusal s t) 0 ≡ b → Leaves k from t.time (b && probes_for k (walked_of s t.time).output) false (tick_of s t).state.progress
      go true e = let h : tick_refusal s t ≡ 0 = eqb-true _ _ e in rw (ticked-progress s t h) (walked-ready k from s t (tick-accepted s t h) q)
      go false e = (λ z. never z, rw (refused_keeps s (ticked t) e).0 q)
  leaves from s (stopped t) q = go (eqb (tick_refusal s t) 0) refl
    where
      go : (b : Bool) → eqb (tick_refusal s t) 0 ≡ b → Leaves k from t.time false false (stop_of s t).state.progress
      go true e =
          let h : tick_refusal s t ≡ 0 = eqb-true _ _ e in
          let d = timely s.progress t.time (tick-accepted s t h).time in (
            λ z. never z,
            rw (stopped-progress s t h)
                (lost_ready k from (ended_of s t.time).progress t.time (stops.stop-lost s.progress t.time s.setup.hasaaaa k)
                (ap (λ (x : Progress). x.last) (stops.stop-same s.progress t.time s.setup.hasaaaa)) (omega (arith, q.1, d.1))),
          )
      go false e = (λ z. never z, rw (refused_keeps s (stopped t) e).0 q)
  leaves from s (updated u) q = updated-leaves k from s u (eqb (update_refusal s u) 0) refl q

  spaced : (from : ℕ) (s : State) (cs : List Call) → Ready k from s.progress → Spaced from (probe_marks k s cs)
  spaced from s [] q = none
  spaced from s (c ∷ cs) q = go (sends_probe k s c) (renews k s c) (leaves from s c q) (λ b x r. spaced b x cs r)
    where
      go : (b n : Bool) → Leaves k from (time_of c) b n (state_after s c).progress
          → ((b : ℕ) (x : State) → Ready k b x.progress → Spaced b (probe_marks k x cs))
          → Spaced from (marked b n (time_of c) (probe_marks k (state_after s c) cs))
      go true n r more = next (r.0 refl) (more (time_of c + 250) (state_after s c) r.1)
      go false true r more = anew (more (time_of c) (state_after s c) r.1)
      go false false r more = more from (state_after s c) r.1

  begun : (time draw : ℕ) → time ≤ last_time → draw ≤ 250 → Ready k (time + draw) (claims.begun_at time draw)
  unfolding claims.begun_at
  begun time draw t d = at k
    where
      first : time + draw ≤ after_ms time draw
      first = rw (after-exact time draw t (omega (arith, d))) (omega arith)

      at : (j : Claim) → Clear (time + draw) time (claim_of j (claims.begun_at time draw)) × (time + draw ≤ time + 250)
      at Instance = (first, omega (arith, d))
      at Host = (first, omega (arith, d))

  -- Whatever calls follow a start, no probe of a claim is sent before start plus draw, and no two are closer than 250 ms but where an update came between.
  pub probes_spaced : (setup : Setup) (time draw : ℕ) (cs : List Call) → start_refusal setup time draw ≡ 0
      → Spaced (time + draw) (probe_marks k (start_of setup time draw).state cs)
  probes_spaced setup time draw cs h =
      let p : StartAccepted setup time draw = start-accepted setup time draw h in
      spaced (time + draw) (start_of setup time draw).state cs
      (rw (started-progress setup time draw h) (begun time draw (ltb-false last_time time p.time) (ltb-false 250 draw p.drawn)))
