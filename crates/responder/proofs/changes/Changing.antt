-- From the refusal of a stop or an update, or from none, to its answer, its state and its buffer. Assumes nothing.
use Prim.Native.Nat.{ℕ}
use mathlib.Core.Path.{◌≡◌, ap, subst, ◌∙◌}
use mathlib.Core.Bool.{false, true}
use mathlib.Core.List.{List}
use lib.ListN.{length}
use Rattle.std.specs.Prelude.{Result, Ok, Err}
use Rattle.wire.specs.refusals.Numbers.{refused_by}
use Rattle.wire.specs.declared.refusals.Refusal.{Refusal}
use Rattle.own.specs.declared.records.Setup.{Setup}
use Rattle.own.specs.records.Setups.{valid_setup}
use Rattle.own.specs.changes.Changes.{NewData, revised, change_of}
use Rattle.claims.specs.declared.changes.Change.{Change}
use Rattle.claims.specs.declared.changes.Stopped as goodbyes
use Rattle.claims.specs.declared.changes.Updated as announcements
use Rattle.claims.specs.declared.steps.Output.TheVariants.{Response}
use Rattle.writer.specs.own_packets.Own.{refusal, laid_over}
use Rattle.writer.specs.own_packets.Goodbye.{goodbye_packet}
use Rattle.responder.specs.Handed.{Tick}
use Rattle.responder.specs.Refusals.{small_buffer, tick_tests}
use Rattle.responder.specs.Calls.{refusal_of, length_of, answer_with}
use Rattle.responder.specs.changes.Changes.{ended_of, stopped_packet, stop_of, Stops, Update, update_tests, renewed_of, packet_to, update_to}
use Rattle.responder.specs.changes.Changes.{updated_packet, update_of, UpdatesTo, Updates}
use Rattle.responder.specs.Runs.{stopped, updated}
use Rattle.responder.specs.declared.State.{State}
use Rattle.responder.specs.declared.Answer.{Answer}
use Rattle.responder.specs.declared.Answer.TheVariants.{Refused}
use Rattle.responder.specs.declared.changes.Stopped.{Stopped}
use Rattle.responder.specs.declared.changes.Updated.{Updated}
use Rattle.responder.proofs.Refusals.{call-number, call_length}
use Rattle.responder.proofs.Refusing.{number-refused, number-accepted, tick-is, update-is}
use Rattle.responder.proofs.Sending.{Wrote, Sends}

-- ---- a stop

module _ (s : State) (t : Tick) (out : List ℕ) {u : Result (Unit {0}) Refusal} (is : u ≡ refused_by (tick_tests s t)) where
  stopped-numbered : (r : Stopped) (o : List ℕ) → r ≡ stop_of s t → o ≡ laid_over (stopped_packet s t) out → Stops s t out r o
  stopped-numbered r o e f = record {
    answers = e;
    writes = f;
    number = ap (λ (x : Stopped). refusal_of x.answer) e ∙ call-number s (stopped t);
    sent = ap (λ (x : Stopped). length_of x.answer) e ∙ call_length s (stopped t);
  }

  pub stop-refused : {refusal : Refusal} → u ≡ Err refusal → Stops s t out (record { answer = Refused refusal; state = s }) out
  unfolding stop_of stopped_packet
  stop-refused e = let h = number-refused (tick_tests s t) (tick-is s t) is e in stopped-numbered _ _ (simp (h.0, h.1)) (simp h.1)

  pub stops :
      (w : goodbyes.Stopped) (k : ℕ) (o : List ℕ) (a : Answer)
      → u ≡ Ok tt
      → w ≡ ended_of s t.time
      → Wrote (goodbye_packet s.setup w.goodbye) out k o
      → a ≡ answer_with k 0
      → Stops s t out (record { answer = a; state = record { setup = s.setup; progress = w.progress } }) o
  unfolding stop_of stopped_packet
  stops w k o a z d h x =
      let n = number-accepted (tick_tests s t) (tick-is s t) is z in
      stopped-numbered _ _ (simp (← is, z, ← n, ← d, x, h.0)) (simp (← n, ← d, h.1))

-- ---- an update to a set-up

module _ (s : State) (time : ℕ) (change : Change) (new : Setup) (out : List ℕ) {u : Result (Unit {0}) Refusal}
    (is : u ≡ refused_by (update_tests s time (length out) new)) where
  pub update-refused : {refusal : Refusal} → u ≡ Err refusal → UpdatesTo s time change new out (record { answer = Refused refusal; state = s }) out
  unfolding update_to packet_to
  update-refused e =
      let h = number-refused (update_tests s time (length out) new) (update-is s time (length out) new) is e in
      record { answers = simp (h.0, h.1); writes = simp h.1 }

  pub updates :
      (w : announcements.Updated) (k : ℕ) (o : List ℕ) (a : Answer)
      → u ≡ Ok tt
      → w ≡ renewed_of s time change
      → Sends new (Response w.announced) out k o
      → a ≡ answer_with k 0
      → UpdatesTo s time change new out (record { answer = a; state = record { setup = new; progress = w.progress } }) o
  unfolding update_to packet_to
  updates w k o a z d h x =
      let n = number-accepted (update_tests s time (length out) new) (update-is s time (length out) new) is z in
      record { answers = simp (← is, z, ← n, ← d, x, h.0); writes = simp (← n, ← d, h.1) }

-- what is announced can be written
pub can_announce : (new : Setup) (out : List ℕ) → small_buffer (length out) ≡ false → valid_setup new ≡ true → refusal new out ≡ 0
unfolding refusal
can_announce new out room v = simp (room, v)

-- ---- an update by its new data

module _ (s : State) (time : ℕ) (d : NewData) (new : Setup) (out : List ℕ) (r : Updated) (o : List ℕ) (e : new ≡ revised s.setup d) where
  abbrev u : Update
  u = record { time = time; room = length out; new = d }

  pub by-data : UpdatesTo s time (change_of d) new out r o → Updates s u out r o
  unfolding update_of updated_packet
  by-data w =
      let v : UpdatesTo s time (change_of d) (revised s.setup d) out r o = subst (λ (x : Setup). UpdatesTo s time (change_of d) x out r o) e w in
      record {
        answers = v.answers;
        writes = v.writes;
        number = ap (λ (x : Updated). refusal_of x.answer) v.answers ∙ call-number s (updated u);
        sent = ap (λ (x : Updated). length_of x.answer) v.answers ∙ call_length s (updated u);
      }
