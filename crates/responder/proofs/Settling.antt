-- From the refusal of a call, or from none, to its answer, its state and its buffer. Assumes nothing.
use Prim.Native.Nat.{ℕ}
use mathlib.Core.Path.{◌≡◌, ap, ◌∙◌}
use mathlib.Core.Bool.{false}
use mathlib.Core.List.{List}
use borrow.Author.Tests.{eq-eqb}
use lib.Dec.{eqb}
use Rattle.std.specs.Prelude.{Result, Ok, Err}
use Rattle.wire.specs.refusals.Numbers.{refused_by}
use Rattle.wire.specs.declared.refusals.Refusal.{Refusal}
use Rattle.wire.specs.message.Message.{Message}
use Rattle.wire.specs.message.Layout.{read, message_at}
use Rattle.wire.specs.message.Readable.{message_in}
use Rattle.wire.specs.declared.message.Layout.{Layout}
use Rattle.wire.proofs.message.Walk.{layout_shows}
use Rattle.own.specs.declared.records.Setup.{Setup}
use Rattle.claims.specs.Claims as claims
use Rattle.claims.specs.declared.Progress.{Progress}
use Rattle.claims.specs.declared.steps.Output.TheVariants.{Response}
use Rattle.claims.specs.declared.steps.Ticked as walked
use Rattle.claims.specs.declared.answers.Facts.{Facts}
use Rattle.claims.specs.declared.records.Set.{Set}
use Rattle.claims.specs.declared.answers.Received as heard
use Rattle.facts.specs.Facts.{facts_of}
use Rattle.writer.specs.own_packets.Own.{response_packet, laid_over}
use Rattle.responder.specs.Handed.{Arrival, coming_of, Tick}
use Rattle.responder.specs.Refusals.{start_tests, start_refusal, receive_tests, receive_refusal, tick_tests}
use Rattle.responder.specs.Calls.{refusal_of, length_of, unicast_length_of, answer_with, blank, start_of, heard_by, heard_of, reply_to, brought_back}
use Rattle.responder.specs.Calls.{received_packet, unicast_packet, receive_of, Receives}
use Rattle.responder.specs.Calls.{walked_of, ticked_packet, tick_of, Ticks}
use Rattle.responder.specs.Runs.{received, ticked}
use Rattle.responder.specs.declared.State.{State}
use Rattle.responder.specs.declared.Answer.{Answer}
use Rattle.responder.specs.declared.Answer.TheVariants.{Refused, Quiet}
use Rattle.responder.specs.declared.Started.{Started}
use Rattle.responder.specs.declared.Received.{Received}
use Rattle.responder.specs.declared.Ticked.{Ticked}
use Rattle.responder.proofs.Refusals.{start-number, call-number, call_length, call-reply}
use Rattle.responder.proofs.Refusing.{number-refused, number-accepted, start-is, tick-is, none_refuses}
use Rattle.responder.proofs.Sending.{Wrote, Sends}

-- ---- a start

module _ (setup : Setup) (time draw : ℕ) {u : Result (Unit {0}) Refusal} (is : u ≡ refused_by (start_tests setup time draw)) where
  abbrev Starts : Started → Type 0
  Starts r = (r ≡ start_of setup time draw) × (refusal_of r.answer ≡ start_refusal setup time draw)

  -- with the specification's number for the answer
  numbered : (r : Started) → r ≡ start_of setup time draw → Starts r
  numbered r e = (e, ap (λ (x : Started). refusal_of x.answer) e ∙ start-number setup time draw)

  pub start-refused : {refusal : Refusal} → u ≡ Err refusal → (s : State) → s ≡ blank → Starts (record { answer = Refused refusal; state = s })
  unfolding start_of
  start-refused e s b = let z = number-refused (start_tests setup time draw) (start-is setup time draw) is e in numbered _ (simp (z.0, z.1, b))

  pub starts : u ≡ Ok tt → (progress : Progress) → progress ≡ claims.begun_at time draw
      → Starts (record { answer = Quiet; state = record { setup = setup; progress = progress } })
  unfolding start_of
  starts z progress e = let n = number-accepted (start_tests setup time draw) (start-is setup time draw) is z in numbered _ (simp (← is, z, ← n, e))

-- ---- a packet received

module _ (setup : Setup) (port : ℕ) (set : Set) (m : Message) (out : List ℕ) (n : ℕ) (o : List ℕ) where
  pub replies_mdns : port ≡ 5353 → Wrote (response_packet setup m.id set) out n o → Wrote (reply_to setup port set m) out n o
  replies_mdns h w = rw (eq-eqb port 5353 h) w

module _ (s : State) (a : Arrival) (out back : List ℕ) where
  -- with the specification's number and lengths for the answer
  received-numbered : (r : Received) (o b : List ℕ) → r ≡ receive_of s a → o ≡ laid_over (received_packet s a) out → b ≡ laid_over (unicast_packet s a) back
      → Receives s a out back r o b
  received-numbered r o b e f g = record {
    answers = e;
    writes = f;
    replies = g;
    number = ap (λ (x : Received). refusal_of x.answer) e ∙ call-number s (received a);
    sent = ap (λ (x : Received). length_of x.answer) e ∙ call_length s (received a);
    replied = ap (λ (x : Received). unicast_length_of x.answer) e ∙ call-reply s (received a);
  }

  pub receive-refused : (refusal : Refusal) → (refused_by (receive_tests s a) ≡ Err refusal) × (eqb (receive_refusal s a) 0 ≡ false)
      → Receives s a out back (record { answer = Refused refusal; state = s }) out back
  unfolding receive_of received_packet unicast_packet
  receive-refused refusal h = received-numbered _ _ _ (simp (h.0, h.1)) (simp h.1) (simp h.1)

  -- what the message says is what was read of it
  pub receives :
      {l : Layout} {m : Message} (f : Facts) (h : heard.Received) (n u : ℕ) (o b : List ℕ) (r : Answer)
      → receive_refusal s a ≡ 0
      → message_at a.packet ≡ read l m
      → f ≡ facts_of s.setup m
      → h ≡ heard_by s.progress a.port (coming_of a) f s.setup.hasaaaa
      → Sends s.setup (Response h.answers) out n o
      → Wrote (reply_to s.setup a.port h.unicast (message_in a.packet l)) back u b
      → r ≡ answer_with n u
      → Receives s a out back (record { answer = r; state = record { setup = s.setup; progress = h.progress } }) o b
  unfolding receive_of received_packet unicast_packet
  receives {l = l} {m = m} f h n u o b r z was is e w v x =
      let d : heard_of s a (message_at a.packet) ≡ h = simp (was, e, is) in
      let back_is : brought_back s a h.unicast (message_at a.packet) ≡ reply_to s.setup a.port h.unicast (message_in a.packet l) =
      rw (layout_shows a.packet l m was) (simp was) in
      received-numbered _ _ _ (simp (none_refuses s a z, z, d, back_is, x, w.0, v.0)) (simp (z, d, w.1)) (simp (z, d, back_is, v.1))

-- ---- a tick

module _ (s : State) (t : Tick) (out : List ℕ) {u : Result (Unit {0}) Refusal} (is : u ≡ refused_by (tick_tests s t)) where
  ticked-numbered : (r : Ticked) (o : List ℕ) → r ≡ tick_of s t → o ≡ laid_over (ticked_packet s t) out → Ticks s t out r o
  ticked-numbered r o e f = record {
    answers = e;
    writes = f;
    number = ap (λ (x : Ticked). refusal_of x.answer) e ∙ call-number s (ticked t);
    sent = ap (λ (x : Ticked). length_of x.answer) e ∙ call_length s (ticked t);
  }

  pub tick-refused : {refusal : Refusal} → u ≡ Err refusal → Ticks s t out (record { answer = Refused refusal; more = false; state = s }) out
  unfolding tick_of ticked_packet
  tick-refused e = let h = number-refused (tick_tests s t) (tick-is s t) is e in ticked-numbered _ _ (simp (h.0, h.1)) (simp h.1)

  pub ticks :
      (w : walked.Ticked) (k : ℕ) (o : List ℕ) (a : Answer)
      → u ≡ Ok tt
      → w ≡ walked_of s t.time
      → Sends s.setup w.output out k o
      → a ≡ answer_with k 0
      → Ticks s t out (record { answer = a; more = w.more; state = record { setup = s.setup; progress = w.progress } }) o
  unfolding tick_of ticked_packet
  ticks w k o a z d h x =
      let n = number-accepted (tick_tests s t) (tick-is s t) is z in
      ticked-numbered _ _ (simp (← is, z, ← n, ← d, x, h.0)) (simp (← n, ← d, h.1))
