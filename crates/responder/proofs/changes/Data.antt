-- Of every run: its data are its start's with every update taken, each call sends only what is written of the data after it, and updates are 6,000 ms apart.
-- Assumes nothing.
use Rattle.std.specs.Prelude.{Option, Some, None}
use Prim.Native.Nat.{ℕ, ◌+◌}
use mathlib.Core.Path.{◌≡◌, refl, sym, ap, subst, ◌∙◌}
use mathlib.Core.Bool.{Bool, true, false, cond}
use mathlib.Core.List.{List, [], ◌∷◌, ◌++◌}
use native.Mathlib.Omega.{arith}
use lib.Dec.{eqb}
use borrow.Author.Tests.{eqb-true, ltb-false}
use Rattle.wire.specs.message.Message.{Question, Message}
use Rattle.wire.specs.message.Layout.{Reads, read, refused, message_at}
use Rattle.own.specs.declared.records.Setup.{Setup}
use Rattle.own.specs.changes.Changes.{NewData, revised, change_of}
use Rattle.claims.specs.declared.Progress.{Progress}
use Rattle.claims.specs.declared.records.Set.{Set}
use Rattle.claims.specs.declared.steps.Output.{Output}
use Rattle.claims.specs.declared.steps.Output.TheVariants.{Nothing, Probe, Response}
use Rattle.claims.specs.changes.Changes.{within}
use Rattle.claims.specs.changes.Changes as changes
use Rattle.claims.specs.answers.Answers as answers
use Rattle.claims.specs.answers.Held as held
use Rattle.claims.proofs.changes.Updates.{tick-updated, receive-updated, plain-updated}
use Rattle.facts.specs.Facts.{facts_of}
use Rattle.writer.specs.own_packets.Own.{response_packet}
use Rattle.responder.specs.Handed.{Arrival, coming_of}
use Rattle.responder.specs.Refusals.{receive_refusal, tick_refusal}
use Rattle.responder.specs.Calls.{from_mdns, heard_of, packet_for, plain_for, brought_back, received_packet, unicast_packet, receive_of, walked_of, ticked_packet, tick_of}
use Rattle.responder.specs.changes.Changes.{ended_of, stopped_packet, stop_of, refusal_to, renewed_of, update_to, update_refusal, update_of}
use Rattle.responder.specs.Runs.{Call, received, ticked, stopped, updated, refusal_of_call, state_after, packet_of, unicast_of, run}
use Rattle.responder.specs.Data.{taken_by, taken, revised_all, WrittenOf, nothing, probe, response, reply, goodbye, update_times, LateAfter, Apart, none, next}
use Rattle.responder.specs.declared.State.{State}
use Rattle.responder.proofs.Refusals.{refused_keeps}
use Rattle.responder.proofs.changes.Updates.{accepted, updated-state, updated-sent, noted}

-- ---- the data

-- only an update that is taken changes the set-up
kept-setup : (b : Bool) (s : State) (p : Progress) → (cond b (record { setup = s.setup; progress = p }) s).setup ≡ s.setup
kept-setup true s p = refl
kept-setup false s p = refl

pub call-setup : (s : State) (c : Call) → (state_after s c).setup ≡ revised_all s.setup (taken_by s c)
unfolding receive_of tick_of stop_of update_of update_to update_refusal
call-setup s (received a) = kept-setup (eqb (receive_refusal s a) 0) s _
call-setup s (ticked t) = kept-setup (eqb (tick_refusal s t) 0) s _
call-setup s (stopped t) = kept-setup (eqb (tick_refusal s t) 0) s _
call-setup s (updated u) = go (eqb (refusal_to s u.time u.room (revised s.setup u.new)) 0)
  where
    go : (b : Bool)
        → (cond b (record { setup = revised s.setup u.new; progress = (renewed_of s u.time (change_of u.new)).progress }) s).setup
        ≡ revised_all s.setup (cond b (u.new ∷ []) [])
    go true = refl
    go false = refl

all_append : (s : Setup) (ds es : List NewData) → revised_all s (ds ++ es) ≡ revised_all (revised_all s ds) es
all_append s [] es = refl
all_append s (d ∷ ds) es = all_append (revised s d) ds es

-- "a dock's data are those after its last update taken"
pub run-setup : (s : State) (cs : List Call) → (run s cs).setup ≡ revised_all s.setup (taken s cs)
run-setup s [] = refl
run-setup s (c ∷ cs) =
    run-setup (state_after s c) cs ∙ ap (λ (x : Setup). revised_all x (taken (state_after s c) cs)) (call-setup s c)
    ∙ sym (all_append s.setup (taken_by s c) (taken (state_after s c) cs))

-- ---- what is sent

unless : (s : Setup) (b : Bool) (packet : List ℕ) → WrittenOf s packet → WrittenOf s (cond b packet [])
unless s true packet w = w
unless s false packet w = nothing

output_of_lem : (s : Setup) (o : Output) → WrittenOf s (packet_for s o)
unfolding packet_for
output_of_lem s Nothing = nothing
output_of_lem s (Probe k) = probe k
output_of_lem s (Response set) = response 0 set

plain-of : (s : Setup) (set : Set) (id : ℕ) (qs : List Question) → WrittenOf s (plain_for s set id qs)
plain-of s set id [] = nothing
plain-of s set id (q ∷ []) = reply set id q
plain-of s set id (q ∷ (r ∷ rs)) = nothing

reply-of : (s : Setup) (b : Bool) (set : Set) (m : Message) → WrittenOf s (cond b (response_packet s m.id set) (plain_for s set m.id m.questions))
reply-of s true set m = response m.id set
reply-of s false set m = plain-of s set m.id m.questions

back_of : (s : State) (a : Arrival) (set : Set) (x : Reads) → WrittenOf s.setup (brought_back s a set x)
back_of s a set (read l m) = reply-of s.setup (from_mdns a.port) set m
back_of s a set (refused n) = nothing

-- what a call that changes no data sends
before : (s : State) (c : Call) → taken_by s c ≡ [] → {packet : List ℕ} → WrittenOf s.setup packet → WrittenOf (state_after s c).setup packet
before s c e {packet = packet} w = subst (λ (x : Setup). WrittenOf x packet) (sym (call-setup s c ∙ ap (revised_all s.setup) e)) w

accepted_of : (s : State) (c : Call) → refusal_of_call s c ≡ 0 → WrittenOf (state_after s c).setup (packet_of s c) × WrittenOf (state_after s c).setup (unicast_of s c)
unfolding received_packet unicast_packet ticked_packet stopped_packet
accepted_of s (received a) h = (
  before s (received a) refl (unless s.setup (eqb (receive_refusal s a) 0) _ (output_of_lem s.setup (Response (heard_of s a (message_at a.packet)).answers))),
  before s (received a) refl
      (unless s.setup (eqb (receive_refusal s a) 0) _ (back_of s a (heard_of s a (message_at a.packet)).unicast (message_at a.packet))),
)
accepted_of s (ticked t) h =
    (before s (ticked t) refl (unless s.setup (eqb (tick_refusal s t) 0) _ (output_of_lem s.setup (walked_of s t.time).output)), nothing)
accepted_of s (stopped t) h = (before s (stopped t) refl (unless s.setup (eqb (tick_refusal s t) 0) _ (goodbye (ended_of s t.time).goodbye)), nothing)
accepted_of s (updated u) h = (
  rw (updated-state s u h, updated-sent s u h) (output_of_lem (revised s.setup u.new) (Response (renewed_of s u.time (change_of u.new)).announced)),
  nothing,
)

-- Every packet that a call sends, to all and to the asker, is written of the data after the call: of an update that is taken of the new ones.
pub sent_of_lem : (s : State) (c : Call) → WrittenOf (state_after s c).setup (packet_of s c) × WrittenOf (state_after s c).setup (unicast_of s c)
sent_of_lem s c = go (eqb (refusal_of_call s c) 0) refl
  where
    go : (b : Bool) → eqb (refusal_of_call s c) 0 ≡ b → WrittenOf (state_after s c).setup (packet_of s c) × WrittenOf (state_after s c).setup (unicast_of s c)
    go true e = accepted_of s c (eqb-true _ _ e)
    go false e = let k = refused_keeps s c e in (rw k.1 nothing, rw k.2 nothing)

-- ---- updates are 6,000 ms apart

late : (w : Option ℕ) (time : ℕ) → within 6000 w time ≡ false → LateAfter w time
late None time h = tt
late (Some last) time h = ltb-false time (last + 6000) h

heard-updated : (s : State) (a : Arrival) (x : Reads) → (heard_of s a x).progress.updated ≡ s.progress.updated
heard-updated s a (read l m) = go (from_mdns a.port)
  where
    go : (b : Bool)
        → (cond b (held.receive_of s.progress (coming_of a) (facts_of s.setup m) s.setup.hasaaaa)
        (answers.plain_of s.progress a.time (facts_of s.setup m) s.setup.hasaaaa)).progress.updated
        ≡ s.progress.updated
    go true = receive-updated (coming_of a) (facts_of s.setup m) s.setup.hasaaaa s.progress
    go false = plain-updated a.time (facts_of s.setup m) s.setup.hasaaaa s.progress
heard-updated s a (refused n) = refl

stop-updated : (progress : Progress) (now : ℕ) (aaaa : Bool) → (changes.stop_of progress now aaaa).progress.updated ≡ progress.updated
unfolding changes.stop_of
stop-updated progress now aaaa = refl

kept-updated : (b : Bool) (s : State) (p : Progress) → p.updated ≡ s.progress.updated
    → (cond b (record { setup = s.setup; progress = p }) s).progress.updated ≡ s.progress.updated
kept-updated true s p e = e
kept-updated false s p e = refl

same_updated : (s : State) (c : Call) → taken_by s c ≡ [] → (state_after s c).progress.updated ≡ s.progress.updated
unfolding receive_of tick_of stop_of
same_updated s (received a) e = kept-updated (eqb (receive_refusal s a) 0) s _ (heard-updated s a (message_at a.packet))
same_updated s (ticked t) e = kept-updated (eqb (tick_refusal s t) 0) s _ (tick-updated t.time s.setup.hasaaaa s.progress)
same_updated s (stopped t) e = kept-updated (eqb (tick_refusal s t) 0) s _ (stop-updated s.progress t.time s.setup.hasaaaa)
same_updated s (updated u) e = go (eqb (update_refusal s u) 0) refl e
  where
    go : (b : Bool) → eqb (update_refusal s u) 0 ≡ b → cond b (u.new ∷ []) [] ≡ [] → (state_after s (updated u)).progress.updated ≡ s.progress.updated
    go true f k = let z : ◌≡◌ {A = ℕ} 0 1 = cc in absurd (omega arith)
    go false f k = ap (λ (x : State). x.progress.updated) (refused_keeps s (updated u) f).0

pub updates_apart : (s : State) (cs : List Call) → Apart s.progress.updated (update_times s cs)
updates_apart s [] = none
updates_apart s (received a ∷ cs) =
    subst (λ (w : Option ℕ). Apart w (update_times (state_after s (received a)) cs)) (same_updated s (received a) refl) (updates_apart (state_after s (received a)) cs)
updates_apart s (ticked t ∷ cs) =
    subst (λ (w : Option ℕ). Apart w (update_times (state_after s (ticked t)) cs)) (same_updated s (ticked t) refl) (updates_apart (state_after s (ticked t)) cs)
updates_apart s (stopped t ∷ cs) =
    subst (λ (w : Option ℕ). Apart w (update_times (state_after s (stopped t)) cs)) (same_updated s (stopped t) refl) (updates_apart (state_after s (stopped t)) cs)
updates_apart s (updated u ∷ cs) = go (eqb (update_refusal s u) 0) refl (updates_apart (state_after s (updated u)) cs)
  where
    rest : List ℕ
    rest = update_times (state_after s (updated u)) cs

    go : (b : Bool) → eqb (update_refusal s u) 0 ≡ b → Apart (state_after s (updated u)).progress.updated rest
        → Apart s.progress.updated (cond b (u.time ∷ rest) rest)
    go true e more =
        let h : update_refusal s u ≡ 0 = eqb-true _ _ e in
        next (late s.progress.updated u.time (accepted s u h).apart) (subst (λ (w : Option ℕ). Apart w rest) (noted s u h) more)
    go false e more = subst (λ (w : Option ℕ). Apart w rest) (ap (λ (x : State). x.progress.updated) (refused_keeps s (updated u) e).0) more
