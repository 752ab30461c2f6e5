-- Closure: the state that an accepted call returns is never refused for what it keeps, whatever state the call was given: not as 1 for a kept time, and
-- not as 7. And from a start on, through any list of calls, no kept time is above 2^62 + 1,000. Assumes nothing.
use Prim.Native.Nat.{ℕ, ◌≤◌}
use mathlib.Core.Path.{◌≡◌, refl, ap}
use mathlib.Core.Bool.{Bool, true, false, cond, not, ◌||◌}
use mathlib.Core.List.{List, [], ◌∷◌}
use native.Mathlib.Omega.{arith}
use lib.Dec.{eqb, ltb}
use borrow.Author.Tests.{ltb-false, eqb-true}
use mathlib.Mathlib.Data.Bool.Basic.{or-eq-false-eq-eq-false-and-eq-false as neither}
use Rattle.wire.specs.message.Layout.{Reads, read, refused, wrong_length, wrong_header, message_at}
use Rattle.wire.specs.message.Refusals.{wrong_port, is_malformed}
use Rattle.own.specs.declared.records.Setup.{Setup}
use Rattle.own.specs.records.Setups.{valid_setup, label_held}
use Rattle.own.specs.utf8.Grammar.{Octets, NoControl}
use Rattle.own.proofs.records.Valid.{valid, shown-label}
use Rattle.own.specs.changes.Changes.{revised, change_of, valid_data}
use Rattle.own.proofs.changes.Revised.{revised-valid}
use Rattle.claims.specs.Claims as claims
use Rattle.claims.specs.changes.Changes.{lost_to_update, too_soon}
use Rattle.claims.specs.Refusals.{late_start, wrong_time, wrong_start_draw, wrong_reply_draw, wrong_hold_draw, wrong_draws, kept}
use Rattle.claims.specs.declared.Progress.{Progress}
use Rattle.claims.specs.declared.answers.Facts.{Facts}
use Rattle.claims.specs.answers.Answers as answers
use Rattle.claims.specs.answers.Held as held
use Rattle.claims.proofs.Keeping.{start-kept}
use Rattle.claims.proofs.steps.Ticks.{tick-kept, tick-draw}
use Rattle.claims.proofs.changes.Stops.{stop-kept, stop-same}
use Rattle.claims.proofs.changes.Updates.{update-kept, update-draw}
use Rattle.claims.proofs.answers.Receives.{receive-kept, receive-draw, plain-kept, plain-draw}
use Rattle.facts.specs.Facts.{facts_of}
use Rattle.responder.specs.Handed.{Arrival, coming_of, Tick}
use Rattle.responder.specs.Refusals.{small_buffer, small_buffers, wrong_state, start_refusal, receive_refusal, tick_refusal}
use Rattle.responder.specs.Calls.{start_of, from_mdns, heard_of, receive_of, tick_of}
use Rattle.responder.specs.changes.Changes.{stop_of, Update, refusal_to, update_to, update_refusal, update_of}
use Rattle.responder.specs.Runs.{Call, received, ticked, stopped, updated, refusal_of_call, state_after, run}
use Rattle.responder.specs.declared.State.{State}
use Rattle.responder.proofs.Refusals.{StartAccepted, ReceiveAccepted, TickAccepted, start-accepted, receive-accepted, tick-accepted, refused_keeps}
use Rattle.responder.proofs.changes.Accepted.{UpdateAccepted, update-accepted}

clash : {A : Type 0} → ◌≡◌ {A = ℕ} 0 1 → A
clash z = absurd (omega arith)

-- every kept time is at most `most`, and the set-up and the start draw keep the rules
pub record Within (most : ℕ) (s : State) : Type 0 where
  pub times : kept most s.progress ≡ true
  pub right : wrong_state s ≡ false

-- what is never refused for what it keeps: 2^62 + 2,000 is refusal 1's bound
abbrev pub Sound : State → Type 0
Sound s = Within 4611686018427389904 s

-- ---- a sound state is refused only for the call

not_in : (v : Bool) → not v ≡ false → v ≡ true
not_in true h = refl
not_in false h = clash (cc)

pub sound_time : (s : State) (now : ℕ) → Sound s → wrong_time s.progress now ≡ (late_start now || ltb now s.progress.last)
unfolding wrong_time
sound_time s now h = rw h.times (go (late_start now) (ltb now s.progress.last))
  where
    go : (a b : Bool) → (a || (b || not true)) ≡ (a || b)
    go true b = refl
    go false true = refl
    go false false = refl

never_7 : (t d b l h m : Bool) → ◌≡◌ {A = ℕ} (cond t 1 (cond d 2 (cond b 3 (cond l 4 (cond h 5 (cond m 6 0)))))) 7 → ⊥
never_7 true d b l h m e = omega (arith, e)
never_7 false true b l h m e = omega (arith, e)
never_7 false false true l h m e = omega (arith, e)
never_7 false false false true h m e = omega (arith, e)
never_7 false false false false true m e = omega (arith, e)
never_7 false false false false false true e = omega (arith, e)
never_7 false false false false false false e = omega (arith, e)

-- of an update 7 is then for its new data alone
abbrev pub FitData : Call → Type 0
FitData (received a) = Unit {0}
FitData (ticked t) = Unit {0}
FitData (stopped t) = Unit {0}
FitData (updated u) = valid_data u.new ≡ true

never_7_updated : (t b l k : Bool) → ◌≡◌ {A = ℕ} (cond t 1 (cond b 3 (cond l 10 (cond k 11 0)))) 7 → ⊥
never_7_updated true b l k e = omega (arith, e)
never_7_updated false true l k e = omega (arith, e)
never_7_updated false false true k e = omega (arith, e)
never_7_updated false false false true e = omega (arith, e)
never_7_updated false false false false e = omega (arith, e)

right_valid : (s : State) → wrong_state s ≡ false → valid_setup s.setup ≡ true
unfolding wrong_state
right_valid s h = not_in _ ((neither (not (valid_setup s.setup)) (wrong_start_draw s.progress.draw)).0 h).0

pub sound_never_7 : (s : State) (c : Call) → Sound s → FitData c → refusal_of_call s c ≡ 7 → ⊥
unfolding receive_refusal tick_refusal update_refusal refusal_to
sound_never_7 s (received a) h k e =
    never_7 (wrong_time s.progress a.time) (wrong_draws a.draw a.hold) (small_buffers a) (wrong_length a.packet)
    (wrong_header a.packet || wrong_port a.port a.packet) (is_malformed a.packet) (rw h.right at e)
sound_never_7 s (ticked t) h k e = never_7 (wrong_time s.progress t.time) false (small_buffer t.room) false false false (rw h.right at e)
sound_never_7 s (stopped t) h k e = never_7 (wrong_time s.progress t.time) false (small_buffer t.room) false false false (rw h.right at e)
sound_never_7 s (updated u) h k e =
    never_7_updated (wrong_time s.progress u.time) (small_buffer u.room) (lost_to_update s.progress) (too_soon s.progress u.time)
    (rw (h.right, revised-valid s.setup u.new (right_valid s h.right), k) at e)

-- the instance label of a state that keeps the rules, as that of every accepted call does before and after it, is one that a screen can show
pub right_shown : (s : State) → wrong_state s ≡ false → Octets (label_held s.setup.instance) × NoControl (label_held s.setup.instance)
unfolding wrong_state
right_shown s h = shown-label s.setup (valid s.setup (not_in _ ((neither (not (valid_setup s.setup)) (wrong_start_draw s.progress.draw)).0 h).0))

-- ---- what an accepted call says of the numbers

in_time_lem : (progress : Progress) (now : ℕ) → wrong_time progress now ≡ false → (now ≤ 4611686018427387904) × (kept 4611686018427389904 progress ≡ true)
unfolding wrong_time
in_time_lem progress now h =
    let a : (late_start now ≡ false) × ((ltb now progress.last || not (kept 4611686018427389904 progress)) ≡ false) = (neither _ _).0 h in
    let b : (ltb now progress.last ≡ false) × (not (kept 4611686018427389904 progress) ≡ false) = (neither _ _).0 a.1 in
    (ltb-false 4611686018427387904 now a.0, not_in _ b.1)

small-draw : (s : State) → wrong_state s ≡ false → s.progress.draw ≤ 250
unfolding wrong_state
small-draw s h = ltb-false 250 s.progress.draw ((neither (not (valid_setup s.setup)) (wrong_start_draw s.progress.draw)).0 h).1

small-reply : (draw : ℕ) → wrong_reply_draw draw ≡ false → draw ≤ 120
small-reply draw h = ltb-false 120 draw ((neither (ltb draw 20) (ltb 120 draw)).0 h).1

small-hold : (hold : ℕ) → wrong_hold_draw hold ≡ false → hold ≤ 500
small-hold hold h = ltb-false 500 hold ((neither (ltb hold 400) (ltb 500 hold)).0 h).1

-- both draws of an accepted packet
pub small-draws : (draw hold : ℕ) → wrong_draws draw hold ≡ false → (draw ≤ 120) × (hold ≤ 500)
small-draws draw hold h =
    let n = (neither (wrong_reply_draw draw) (wrong_hold_draw hold)).0 h in
    (small-reply draw n.0, small-hold hold n.1)

pub least-hold : (draw hold : ℕ) → wrong_draws draw hold ≡ false → 400 ≤ hold
least-hold draw hold h =
    ltb-false hold 400 ((neither (ltb hold 400) (ltb 500 hold)).0 ((neither (wrong_reply_draw draw) (wrong_hold_draw hold)).0 h).1).0

-- a state whose set-up and start draw are those of another
same_right : (s : State) (progress : Progress) → progress.draw ≡ s.progress.draw → wrong_state s ≡ false
    → wrong_state (record { setup = s.setup; progress = progress }) ≡ false
unfolding wrong_state
same_right s progress e h = rw e h

right_start : (setup : Setup) (now draw : ℕ) → valid_setup setup ≡ true → wrong_start_draw draw ≡ false
    → wrong_state (record { setup = setup; progress = claims.begun_at now draw }) ≡ false
unfolding wrong_state claims.begun_at
right_start setup now draw v d = simp (v, d)

-- ---- each call

module _ (most : ℕ) (l : 4611686018427388904 ≤ most) where
  pub start-within : (setup : Setup) (now draw : ℕ) → start_refusal setup now draw ≡ 0 → Within most (start_of setup now draw).state
  unfolding start_of
  start-within setup now draw h =
      let a : StartAccepted setup now draw = start-accepted setup now draw h in
      let n : now ≤ 4611686018427387904 = ltb-false 4611686018427387904 now a.time in
      let d : draw ≤ 250 = ltb-false 250 draw a.drawn in
      rw h (record { times = start-kept most now draw n d l; right = right_start setup now draw a.right a.drawn })

  heard-within :
      (s : State) (a : Arrival) (x : Reads)
      → a.time ≤ 4611686018427387904
      → (a.draw ≤ 120) × (a.hold ≤ 500)
      → kept most s.progress ≡ true
      → wrong_state s ≡ false
      → Within most (record { setup = s.setup; progress = (heard_of s a x).progress })
  heard-within s a (read _ m) n d k w = go (from_mdns a.port)
    where
      f : Facts
      f = facts_of s.setup m

      aaaa : Bool
      aaaa = s.setup.hasaaaa

      go :
          (b : Bool)
          → Within most (record {
            setup = s.setup;
            progress = (cond b (held.receive_of s.progress (coming_of a) f aaaa) (answers.plain_of s.progress a.time f aaaa)).progress;
          })
      go true =
          record {
            times = receive-kept (coming_of a) f aaaa most n d.0 d.1 l s.progress (small-draw s w) k;
            right = same_right s _ (receive-draw (coming_of a) f aaaa s.progress) w;
          }
      go false =
          record {
            times = plain-kept a.time f aaaa most n l s.progress k;
            right = same_right s _ (plain-draw a.time f aaaa s.progress) w;
          }
  heard-within s a (refused _) n d k w = record { times = k; right = w }

  pub receive-within : (s : State) (a : Arrival) → receive_refusal s a ≡ 0 → kept most s.progress ≡ true → Within most (receive_of s a).state
  unfolding receive_of
  receive-within s a h k =
      let p : ReceiveAccepted s a = receive-accepted s a h in
      rw h (heard-within s a (message_at a.packet) (in_time_lem s.progress a.time p.time).0 (small-draws a.draw a.hold p.drawn) k p.right)

  pub tick-within : (s : State) (t : Tick) → tick_refusal s t ≡ 0 → kept most s.progress ≡ true → Within most (tick_of s t).state
  unfolding tick_of
  tick-within s t h k =
      let p : TickAccepted s t = tick-accepted s t h in
      rw h (record {
        times = tick-kept t.time s.setup.hasaaaa most (in_time_lem s.progress t.time p.time).0 l s.progress k;
        right = same_right s _ (tick-draw t.time s.setup.hasaaaa s.progress) p.right;
      })

  pub stop-within : (s : State) (t : Tick) → tick_refusal s t ≡ 0 → kept most s.progress ≡ true → Within most (stop_of s t).state
  unfolding stop_of
  stop-within s t h k =
      let p : TickAccepted s t = tick-accepted s t h in
      rw h (record {
        times = stop-kept s.progress t.time s.setup.hasaaaa most (in_time_lem s.progress t.time p.time).0 l k;
        right = same_right s _ (ap (λ (x : Progress). x.draw) (stop-same s.progress t.time s.setup.hasaaaa)) p.right;
      })

  new_right : (s : State) (new : Setup) (progress : Progress) → progress.draw ≡ s.progress.draw → valid_setup new ≡ true → wrong_state s ≡ false
      → wrong_state (record { setup = new; progress = progress }) ≡ false
  unfolding wrong_state
  new_right s new progress e v h = rw (e, v) ((neither (not (valid_setup s.setup)) (wrong_start_draw s.progress.draw)).0 h).1

  pub update-within : (s : State) (u : Update) → update_refusal s u ≡ 0 → kept most s.progress ≡ true → Within most (update_of s u).state
  unfolding update_of update_to update_refusal
  update-within s u h k =
      let p : UpdateAccepted s u.time u.room (revised s.setup u.new) = update-accepted s u.time u.room (revised s.setup u.new) h in
      rw h (record {
        times = update-kept s.progress u.time (change_of u.new) most (in_time_lem s.progress u.time p.time).0 (small-draw s p.right) l k;
        right = new_right s (revised s.setup u.new) _ (update-draw s.progress u.time (change_of u.new)) p.valid p.right;
      })

  -- accepted or refused
  pub keeps_within : (s : State) (c : Call) → Within most s → Within most (state_after s c)
  keeps_within s c w = go (eqb (refusal_of_call s c) 0) refl
    where
      accepted : (c : Call) → refusal_of_call s c ≡ 0 → Within most (state_after s c)
      accepted (received a) h = receive-within s a h w.times
      accepted (ticked t) h = tick-within s t h w.times
      accepted (stopped t) h = stop-within s t h w.times
      accepted (updated u) h = update-within s u h w.times

      go : (b : Bool) → eqb (refusal_of_call s c) 0 ≡ b → Within most (state_after s c)
      go true e = accepted c (eqb-true _ _ e)
      go false e = rw (refused_keeps s c e).0 w

  pub run-within : (cs : List Call) (s : State) → Within most s → Within most (run s cs)
  run-within [] s w = w
  run-within (c ∷ cs) s w = run-within cs (state_after s c) (keeps_within s c w)

-- from any state, an accepted call's result is sound
pub accepted_sound : (s : State) (c : Call) → refusal_of_call s c ≡ 0 → Sound (state_after s c)
unfolding update_refusal
accepted_sound s (received a) h =
    receive-within 4611686018427389904 (omega arith) s a h (in_time_lem s.progress a.time (receive-accepted s a h).time).1
accepted_sound s (ticked t) h =
    tick-within 4611686018427389904 (omega arith) s t h (in_time_lem s.progress t.time (tick-accepted s t h).time).1
accepted_sound s (stopped t) h =
    stop-within 4611686018427389904 (omega arith) s t h (in_time_lem s.progress t.time (tick-accepted s t h).time).1
accepted_sound s (updated u) h =
    update-within 4611686018427389904 (omega arith) s u h
    (in_time_lem s.progress u.time (update-accepted s u.time u.room (revised s.setup u.new) h).time).1

-- from a start on, no kept time is above 2^62 + 1,000
pub from-a_start :
    (setup : Setup) (now draw : ℕ) (cs : List Call)
    → start_refusal setup now draw ≡ 0
    → Within 4611686018427388904 (run (start_of setup now draw).state cs)
from-a_start setup now draw cs h =
    run-within 4611686018427388904 (omega arith) cs (start_of setup now draw).state
    (start-within 4611686018427388904 (omega arith) setup now draw h)
