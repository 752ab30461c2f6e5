-- What the refusals come to: the tests that an accepted call has passed; that the answer carries the refusal's number and the packets' lengths; that a
-- refusal changes neither state nor buffer; that a call sends at most one packet to all and one to the asker; and that every call refuses the state of a refused start.
-- Assumes nothing.
use Prim.Native.Nat.{ℕ, zero, suc, ◌≤◌}
use mathlib.Core.Path.{◌≡◌, refl, sym, ap, ◌∙◌}
use mathlib.Core.Bool.{Bool, true, false, cond, not, ◌||◌}
use mathlib.Core.List.{List, [], ◌∷◌, ◌++◌}
use native.Mathlib.Omega.{arith}
use lib.Dec.{eqb}
use borrow.Author.Tests.{ne_eqb, eqb-true}
use lib.ListN.{length}
use Rattle.std.specs.Prelude.{Result, Ok, Err}
use Rattle.wire.specs.refusals.Numbers.{number_of, number_in, refused_by}
use Rattle.wire.specs.declared.refusals.Refusal.{Refusal}
use Rattle.wire.proofs.refusals.Tests.{numbers_from-1, number_by}
use Rattle.wire.specs.message.Layout.{wrong_length, wrong_header}
use Rattle.wire.specs.message.Refusals.{wrong_port, is_malformed, message_refusal}
use Rattle.own.specs.declared.records.Setup.{Setup}
use Rattle.own.specs.records.Setups.{valid_setup, label_fits, instance_fits}
use Rattle.own.specs.changes.Changes.{revised, change_of}
use Rattle.claims.specs.Refusals.{late_start, wrong_time, wrong_start_draw, wrong_draws}
use Rattle.writer.specs.own_packets.Own.{unless_refused}
use Rattle.responder.specs.Handed.{Arrival, Tick}
use Rattle.responder.specs.Refusals.{small_buffer, small_buffers, wrong_state, start_tests, start_refusal, receive_tests, receive_refusal, tick_tests, tick_refusal}
use Rattle.responder.specs.Calls.{refusal_of, length_of, unicast_length_of, Destination, multicast, unicast, answer_with, answer_of, parcels, blank, start_of}
use Rattle.responder.specs.Calls.{received_packet, unicast_packet, receive_of, ticked_packet, tick_of}
use Rattle.responder.specs.changes.Changes.{stopped_packet, stop_of, update_tests, refusal_to, packet_to, update_to, update_refusal, updated_packet, update_of}
use Rattle.responder.specs.Runs.{Call, received, ticked, stopped, updated, refusal_of_call, answer_to, state_after, packet_of, unicast_of, sent_by}
use Rattle.responder.specs.declared.State.{State}
use Rattle.responder.proofs.changes.Accepted.{update-accepted}
use Rattle.responder.specs.declared.Answer.TheVariants.{Quiet, Sent, Unicast, Both}

clash : {A : Type 0} → ◌≡◌ {A = ℕ} 0 1 → A
clash z = absurd (omega arith)

positive : (n : ℕ) → eqb (suc n) 0 ≡ false
positive n = ne_eqb (suc n) 0 (λ e. absurd (omega arith))

-- ---- the tests that an accepted call has passed

pub record StartAccepted (setup : Setup) (now draw : ℕ) : Type 0 where
  pub time : late_start now ≡ false
  pub drawn : wrong_start_draw draw ≡ false
  pub right : valid_setup setup ≡ true

pub record ReceiveAccepted (s : State) (a : Arrival) : Type 0 where
  pub time : wrong_time s.progress a.time ≡ false
  pub drawn : wrong_draws a.draw a.hold ≡ false
  pub buffers : small_buffers a ≡ false
  pub message : message_refusal a.port a.packet ≡ 0
  pub right : wrong_state s ≡ false

pub record TickAccepted (s : State) (t : Tick) : Type 0 where
  pub time : wrong_time s.progress t.time ≡ false
  pub buffer : small_buffer t.room ≡ false
  pub right : wrong_state s ≡ false

pub start-accepted : (setup : Setup) (time draw : ℕ) → start_refusal setup time draw ≡ 0 → StartAccepted setup time draw
unfolding start_refusal
start-accepted setup time draw h =
    let x : (late_start time ≡ false) × (wrong_start_draw draw ≡ false) × (valid_setup setup ≡ true) =
    go (late_start time) (wrong_start_draw draw) (valid_setup setup) h in
    record { time = x.0; drawn = x.1; right = x.2 }
  where
    go : (t d v : Bool) → ◌≡◌ {A = ℕ} (cond t 1 (cond d 2 (cond (not v) 7 0))) 0 → (t ≡ false) × (d ≡ false) × (v ≡ true)
    go true d v e = absurd (omega (arith, e))
    go false true v e = absurd (omega (arith, e))
    go false false true e = (refl, refl, refl)
    go false false false e = absurd (omega (arith, e))

-- the message's tests as one, whose number is not 0 where it holds
abbrev pub ordered : Bool → Bool → Bool → ℕ → Bool → ℕ
ordered t d b n w = cond t 1 (cond d 2 (cond b 3 (cond (eqb n 0) (cond w 7 0) n)))

pub in_order_lem : (s : State) (a : Arrival)
    → receive_refusal s a
    ≡ ordered (wrong_time s.progress a.time) (wrong_draws a.draw a.hold) (small_buffers a) (message_refusal a.port a.packet) (wrong_state s)
unfolding receive_refusal message_refusal
in_order_lem s a =
    ap (λ (n : ℕ). cond (wrong_time s.progress a.time) 1 (cond (wrong_draws a.draw a.hold) 2 (cond (small_buffers a) 3 n)))
    (go (wrong_length a.packet) (wrong_header a.packet || wrong_port a.port a.packet) (is_malformed a.packet) (cond (wrong_state s) 7 0))
  where
    go : (l h m : Bool) (n : ℕ)
        → cond l 4 (cond h 5 (cond m 6 n)) ≡ cond (eqb (cond l 4 (cond h 5 (cond m 6 0))) 0) n (cond l 4 (cond h 5 (cond m 6 0)))
    go true h m n = refl
    go false true m n = refl
    go false false true n = refl
    go false false false n = refl

pub receive-accepted : (s : State) (a : Arrival) → receive_refusal s a ≡ 0 → ReceiveAccepted s a
receive-accepted s a h = go _ _ _ _ _ refl refl refl refl refl (sym (in_order_lem s a) ∙ h)
  where
    go : (t d b : Bool) (n : ℕ) (w : Bool) → wrong_time s.progress a.time ≡ t → wrong_draws a.draw a.hold ≡ d → small_buffers a ≡ b
        → message_refusal a.port a.packet ≡ n → wrong_state s ≡ w → ordered t d b n w ≡ 0 → ReceiveAccepted s a
    go true d b n w i j k l m e = absurd (omega (arith, e))
    go false true b n w i j k l m e = absurd (omega (arith, e))
    go false false true n w i j k l m e = absurd (omega (arith, e))
    go false false false (suc n) w i j k l m e = let z : suc n ≡ 0 = rw (positive n) at e in absurd (omega arith)
    go false false false zero true i j k l m e = absurd (omega (arith, e))
    go false false false zero false i j k l m e = record { time = i; drawn = j; buffers = k; message = l; right = m }

pub tick-accepted : (s : State) (t : Tick) → tick_refusal s t ≡ 0 → TickAccepted s t
unfolding tick_refusal
tick-accepted s t h =
    let x : (wrong_time s.progress t.time ≡ false) × (small_buffer t.room ≡ false) × (wrong_state s ≡ false) =
    go (wrong_time s.progress t.time) (small_buffer t.room) (wrong_state s) h in
    record { time = x.0; buffer = x.1; right = x.2 }
  where
    go : (t b w : Bool) → ◌≡◌ {A = ℕ} (cond t 1 (cond b 3 (cond w 7 0))) 0 → (t ≡ false) × (b ≡ false) × (w ≡ false)
    go true b w e = absurd (omega (arith, e))
    go false true w e = absurd (omega (arith, e))
    go false false true e = absurd (omega (arith, e))
    go false false false e = (refl, refl, refl)

-- ---- the answer carries the number of the refusal, and the lengths of the packets

zero_is : (n : ℕ) (b : Bool) → eqb n 0 ≡ b → b ≡ true → 0 ≡ n
zero_is n b e t = sym (eqb-true n 0 (e ∙ t))

module _ (n u : ℕ) where
  with_number : refusal_of (answer_with n u) ≡ 0
  with_number = go (eqb n 0) (eqb u 0)
    where
      go : (a b : Bool) → refusal_of (cond a (cond b Quiet (Unicast u)) (cond b (Sent n) (Both n u))) ≡ 0
      go true true = refl
      go true false = refl
      go false true = refl
      go false false = refl

  with-length : length_of (answer_with n u) ≡ n
  with-length = go (eqb n 0) (eqb u 0) refl
    where
      go : (a b : Bool) → eqb n 0 ≡ a → length_of (cond a (cond b Quiet (Unicast u)) (cond b (Sent n) (Both n u))) ≡ n
      go true true e = zero_is n true e refl
      go true false e = zero_is n true e refl
      go false true e = refl
      go false false e = refl

  with-reply : unicast_length_of (answer_with n u) ≡ u
  with-reply = go (eqb n 0) (eqb u 0) refl
    where
      go : (a b : Bool) → eqb u 0 ≡ b → unicast_length_of (cond a (cond b Quiet (Unicast u)) (cond b (Sent n) (Both n u))) ≡ u
      go true true e = zero_is u true e refl
      go true false e = refl
      go false true e = zero_is u true e refl
      go false false e = refl

-- a refusal's number is not 0
pub not_0 : (refusal : Refusal) {n : ℕ} → number_of refusal ≡ n → eqb n 0 ≡ false
not_0 refusal {n = n} e = ne_eqb n 0 (λ z. let h = numbers_from-1 refusal in absurd (omega arith))

number-of : (r : Result (Unit {0}) Refusal) (packet reply : List ℕ) → refusal_of (answer_of r packet reply) ≡ number_in r
number-of (Ok u) packet reply = with_number (length packet) (length reply)
number-of (Err refusal) packet reply = refl

length-of : (r : Result (Unit {0}) Refusal) (n : ℕ) (packet reply : List ℕ) → number_in r ≡ n
    → length_of (answer_of r (unless_refused n packet) (unless_refused n reply)) ≡ length (unless_refused n packet)
length-of (Ok u) n packet reply e = with-length (length (unless_refused n packet)) (length (unless_refused n reply))
length-of (Err refusal) n packet reply e = simp (not_0 refusal e)

reply-of : (r : Result (Unit {0}) Refusal) (n : ℕ) (packet reply : List ℕ) → number_in r ≡ n
    → unicast_length_of (answer_of r (unless_refused n packet) (unless_refused n reply)) ≡ length (unless_refused n reply)
reply-of (Ok u) n packet reply e = with-reply (length (unless_refused n packet)) (length (unless_refused n reply))
reply-of (Err refusal) n packet reply e = simp (not_0 refusal e)

-- a call that has nobody to reply to
alone-length : (r : Result (Unit {0}) Refusal) (n : ℕ) (packet : List ℕ) → number_in r ≡ n
    → length_of (answer_of r (unless_refused n packet) []) ≡ length (unless_refused n packet)
alone-length (Ok u) n packet e = with-length (length (unless_refused n packet)) 0
alone-length (Err refusal) n packet e = simp (not_0 refusal e)

alone-reply : (r : Result (Unit {0}) Refusal) (packet : List ℕ) → unicast_length_of (answer_of r packet []) ≡ 0
alone-reply (Ok u) packet = with-reply (length packet) 0
alone-reply (Err refusal) packet = refl

-- the number of each call's refusal
pub start-by : (setup : Setup) (time draw : ℕ) → number_in (refused_by (start_tests setup time draw)) ≡ start_refusal setup time draw
unfolding start_refusal
start-by setup time draw = number_by (start_tests setup time draw)

pub receive-by : (s : State) (a : Arrival) → number_in (refused_by (receive_tests s a)) ≡ receive_refusal s a
unfolding receive_refusal
receive-by s a = number_by (receive_tests s a)

pub tick-by : (s : State) (t : Tick) → number_in (refused_by (tick_tests s t)) ≡ tick_refusal s t
unfolding tick_refusal
tick-by s t = number_by (tick_tests s t)

pub update-by : (s : State) (time room : ℕ) (new : Setup) → number_in (refused_by (update_tests s time room new)) ≡ refusal_to s time room new
unfolding refusal_to
update-by s time room new = number_by (update_tests s time room new)

pub start-number : (setup : Setup) (time draw : ℕ) → refusal_of (start_of setup time draw).answer ≡ start_refusal setup time draw
unfolding start_of
start-number setup time draw = number-of (refused_by (start_tests setup time draw)) [] [] ∙ start-by setup time draw

pub call-number : (s : State) (c : Call) → refusal_of (answer_to s c) ≡ refusal_of_call s c
unfolding receive_of tick_of stop_of update_of update_to update_refusal
call-number s (received a) = number-of (refused_by (receive_tests s a)) (received_packet s a) (unicast_packet s a) ∙ receive-by s a
call-number s (ticked t) = number-of (refused_by (tick_tests s t)) (ticked_packet s t) [] ∙ tick-by s t
call-number s (stopped t) = number-of (refused_by (tick_tests s t)) (stopped_packet s t) [] ∙ tick-by s t
call-number s (updated u) =
    number-of (refused_by (update_tests s u.time u.room (revised s.setup u.new))) (packet_to s u.time u.room (change_of u.new) (revised s.setup u.new)) []
    ∙ update-by s u.time u.room (revised s.setup u.new)

pub call_length : (s : State) (c : Call) → length_of (answer_to s c) ≡ length (packet_of s c)
unfolding receive_of received_packet unicast_packet tick_of ticked_packet stop_of stopped_packet update_of updated_packet update_to packet_to
call_length s (received a) = length-of (refused_by (receive_tests s a)) (receive_refusal s a) _ _ (receive-by s a)
call_length s (ticked t) = alone-length (refused_by (tick_tests s t)) (tick_refusal s t) _ (tick-by s t)
call_length s (stopped t) = alone-length (refused_by (tick_tests s t)) (tick_refusal s t) _ (tick-by s t)
call_length s (updated u) = let new = revised s.setup u.new in
    alone-length (refused_by (update_tests s u.time u.room new)) (refusal_to s u.time u.room new) _ (update-by s u.time u.room new)

pub call-reply : (s : State) (c : Call) → unicast_length_of (answer_to s c) ≡ length (unicast_of s c)
unfolding receive_of received_packet unicast_packet tick_of ticked_packet stop_of update_of update_to
call-reply s (received a) = reply-of (refused_by (receive_tests s a)) (receive_refusal s a) _ _ (receive-by s a)
call-reply s (ticked t) = alone-reply (refused_by (tick_tests s t)) (ticked_packet s t)
call-reply s (stopped t) = alone-reply (refused_by (tick_tests s t)) (stopped_packet s t)
call-reply s (updated u) =
    alone-reply (refused_by (update_tests s u.time u.room (revised s.setup u.new))) (packet_to s u.time u.room (change_of u.new) (revised s.setup u.new))

-- ---- "state, table, store and out buffer keep every byte": an empty packet is laid over nothing

pub refused_keeps : (s : State) (c : Call) → eqb (refusal_of_call s c) 0 ≡ false → (state_after s c ≡ s) × (packet_of s c ≡ []) × (unicast_of s c ≡ [])
unfolding receive_of received_packet unicast_packet tick_of ticked_packet stop_of stopped_packet update_of updated_packet update_to packet_to update_refusal
refused_keeps s (received a) h = (simp h, simp h, simp h)
refused_keeps s (ticked t) h = (simp h, simp h, refl)
refused_keeps s (stopped t) h = (simp h, simp h, refl)
refused_keeps s (updated u) h = (simp h, simp h, refl)

-- ---- at most one packet to all, and one to the asker

one_at_most : (to : Destination) (packet : List ℕ) → length (parcels to packet) ≤ 1
one_at_most to [] = omega arith
one_at_most to (b ∷ bs) = omega arith

pub one_each : (s : State) (c : Call)
    → (sent_by s c ≡ parcels multicast (packet_of s c) ++ parcels unicast (unicast_of s c))
    × (length (parcels multicast (packet_of s c)) ≤ 1)
    × (length (parcels unicast (unicast_of s c)) ≤ 1)
one_each s c = (refl, one_at_most multicast (packet_of s c), one_at_most unicast (unicast_of s c))

-- ---- the state of a refused start

pub start-refused_blank : (setup : Setup) (time draw : ℕ) → eqb (start_refusal setup time draw) 0 ≡ false → (start_of setup time draw).state ≡ blank
unfolding start_of
start-refused_blank setup time draw h = simp h

pub blank-wrong : wrong_state blank ≡ true
unfolding wrong_state blank valid_setup instance_fits label_fits
blank-wrong = refl

-- a call that is accepted has a state that keeps the rules
pub accepted_right : (s : State) (c : Call) → refusal_of_call s c ≡ 0 → wrong_state s ≡ false
unfolding update_refusal
accepted_right s (received a) h = (receive-accepted s a h).right
accepted_right s (ticked t) h = (tick-accepted s t h).right
accepted_right s (stopped t) h = (tick-accepted s t h).right
accepted_right s (updated u) h = (update-accepted s u.time u.room (revised s.setup u.new) h).right

-- every call refuses the blank state
pub blank-refused : (c : Call) → refusal_of_call blank c ≡ 0 → ⊥
blank-refused c h = let r : wrong_state blank ≡ false = accepted_right blank c h in let b : wrong_state blank ≡ true = blank-wrong in clash (cc)
