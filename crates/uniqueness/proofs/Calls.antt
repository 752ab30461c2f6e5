-- The accepted calls in messages: a start, a tick, a packet received and an update that are not refused. Assumes nothing.
use mathlib.Core.Path.{◌≡◌, refl, sym, ap, subst, ◌∙◌}
use mathlib.Core.Bool.{Bool, true, false, cond, not, ◌||◌}
use mathlib.Core.Logic.{◌≢◌, ◌⊎◌, inl, inr}
use mathlib.Core.Option.{none, some}
use mathlib.Core.List.{List, [], ◌++◌, map}
use Prim.Native.Nat.{ℕ, zero, suc, ◌+◌, ◌≤◌}
use native.Mathlib.Omega.{arith}
use lib.Dec.{eqb, ltb}
use lib.ListN.{length}
use borrow.Author.Tests.{eqb-true, eqb-false, ltb-false}
use mathlib.Mathlib.Data.Bool.Basic.{or-eq-false-eq-eq-false-and-eq-false as neither}
use Rattle.std.specs.Prelude.{Result, Ok, Err}
use Rattle.wire.specs.refusals.Numbers.{number_in, refused_by}
use Rattle.wire.specs.declared.refusals.Refusal.{Refusal}
use Rattle.wire.specs.message.Message.{Message}
use Rattle.wire.specs.message.Layout.{read, message_at}
use Rattle.wire.specs.declared.message.Layout.{Layout}
use Rattle.wire.proofs.message.Refused.{accepted_from}
use Rattle.own.specs.declared.records.Setup.{Setup}
use Rattle.own.specs.records.Setups.{valid_setup}
use Rattle.own.specs.changes.Changes.{revised}
use Rattle.claims.specs.Time.{last_time, last_kept, after_ms}
use Rattle.claims.specs.Claims as claims
use Rattle.claims.specs.Refusals.{late_start, wrong_time, wrong_start_draw, kept}
use Rattle.claims.proofs.Times.{after-exact}
use Rattle.claims.specs.declared.Progress.{Progress}
use Rattle.claims.specs.declared.records.Set.{Set}
use Rattle.claims.specs.declared.steps.Output.{Output}
use Rattle.claims.specs.declared.steps.Output.TheVariants.{Response}
use Rattle.claims.specs.declared.answers.Received as heard
use Rattle.claims.specs.answers.Answers.{plain_of}
use Rattle.claims.specs.records.Sets as sets
use Rattle.claims.specs.records.Sets.{no_record}
use Rattle.responder.specs.Refusals.{wrong_state, start_tests, start_refusal, receive_tests, receive_refusal, tick_tests, tick_refusal}
use Rattle.responder.specs.Calls.{answer_with, answer_of, packet_for, plain_for, reply_to, brought_back, from_mdns, start_state, start_of, heard_of, received_packet, unicast_packet, receive_of, walked_of, ticked_packet, tick_of}
use Rattle.responder.specs.changes.Changes.{Update, update_tests, update_to, update_refusal, updated_packet, update_of}
use Rattle.responder.specs.declared.State.{State}
use Rattle.writer.specs.own_packets.Own.{response_records, response_packet}
use Rattle.responder.specs.declared.Answer.TheVariants.{Quiet, Sent, Unicast, Both}
use Rattle.responder.proofs.Replying.{first-named}
use Rattle.responder.proofs.changes.Updates as changed
use Rattle.responder.proofs.Refusals.{StartAccepted, ReceiveAccepted, TickAccepted, start-accepted, receive-accepted, tick-accepted, start-by, receive-by, tick-by, update-by}
use Rattle.link.specs.Responder as link
use Rattle.link.specs.Responder.{Claim, instance, host, Parcel, everyone}
use Rattle.link.specs.Laws as law
use Rattle.responder.specs.Handed.{Arrival, Tick}
use Rattle.uniqueness.specs.Responder.{sends, back_to, sent_for, own_claim, begun_by, answered_by, start, tick, receive, update, revise, message_of, read_as, responder}
use Rattle.uniqueness.specs.Rules.{response_for, messages_for, replies_for, to_asker, with, told, served, renewed, stage_of, Of, Ready, rules}
use Rattle.uniqueness.proofs.Lists.{clash}
use Rattle.uniqueness.proofs.Messages.{both_read, response_reads, output_reads, reply-reads}

not-false : (b : Bool) → not b ≡ false → b ≡ true
not-false true h = refl
not-false false h = clash (cc)

in_time_lem : (progress : Progress) (now : ℕ) → wrong_time progress now ≡ false → now ≤ last_time
unfolding wrong_time
in_time_lem progress now h = ltb-false last_time now ((neither (late_start now) (ltb now progress.last || not (kept last_kept progress))).0 h).0

right_draw : (x : State) → wrong_state x ≡ false → x.progress.draw ≤ 250
unfolding wrong_state
right_draw x h = ltb-false 250 x.progress.draw ((neither (not (valid_setup x.setup)) (wrong_start_draw x.progress.draw)).0 h).1

pub right_setup : (x : State) → wrong_state x ≡ false → valid_setup x.setup ≡ true
unfolding wrong_state
right_setup x h = not-false (valid_setup x.setup) ((neither (not (valid_setup x.setup)) (wrong_start_draw x.progress.draw)).0 h).0

-- ---- a call that is not refused

-- what an accepted answer says: no refusal, and what is sent
pub record Accepted (n : ℕ) (x : State) (qs : List Parcel) (y : State) (ps : List Parcel) : Type 0 where
  pub none-refused : n ≡ 0
  pub state : y ≡ x
  pub sent : ps ≡ qs

-- an answer with the lengths of packets is none of a refusal
pub accepted_with : (n u : ℕ) (x : State) (ps : List Parcel) → answered_by (answer_with n u) x ps ≡ link.accepted x ps
accepted_with n u x ps = go (eqb n 0) (eqb u 0)
  where
    go : (a b : Bool) → answered_by (cond a (cond b Quiet (Unicast u)) (cond b (Sent n) (Both n u))) x ps ≡ link.accepted x ps
    go true true = refl
    go true false = refl
    go false true = refl
    go false false = refl

accepted_by :
    (r : Result (Unit {0}) Refusal) {n : ℕ} → number_in r ≡ n → (x : State) (p q : List ℕ) (qs : List Parcel) (y : State) (ps : List Parcel)
    → answered_by (answer_of r p q) x qs ≡ link.accepted y ps → Accepted n x qs y ps
accepted_by (Ok u) i x p q qs y ps e =
    let z : link.accepted x qs ≡ link.accepted y ps = sym (accepted_with (length p) (length q) x qs) ∙ e in
    record { none-refused = sym i; state = cc; sent = cc }
accepted_by (Err refusal) i x p q qs y ps e = let z : link.refused ≡ link.accepted y ps = e in clash (cc)

-- ---- a start

abbrev begun_state : Setup → ℕ → ℕ → State
begun_state s now draw = record { setup = s; progress = claims.begun_at now draw }

begun-by :
    (r : Result (Unit {0}) Refusal) (n : ℕ) → number_in r ≡ n → (s : Setup) (now draw : ℕ) (x : State)
    → begun_by (answer_of r [] []) (start_state n s now draw) ≡ some x → (n ≡ 0) × (x ≡ begun_state s now draw)
begun-by (Ok u) zero i s now draw x e = (refl, cc)
begun-by (Ok u) (suc n) i s now draw x e = absurd (omega (arith, i))
begun-by (Err refusal) n i s now draw x e = let z : none ≡ some x = e in clash (cc)

waiting_at : (s : Setup) (now draw : ℕ) (k : Claim) → stage_of (claims.claim_of (own_claim k) (begun_state s now draw).progress) ≡ law.waiting (after_ms now draw)
unfolding claims.begun_at
waiting_at s now draw instance = refl
waiting_at s now draw host = refl

pub begun : (s : Setup) (now draw : ℕ) (x : State) → start s now draw ≡ some x → law.Begun responder rules s now x
unfolding start start_of
begun s now draw x e =
    let b = begun-by (refused_by (start_tests s now draw)) (start_refusal s now draw) (start-by s now draw) s now draw x e in
    let a : StartAccepted s now draw = start-accepted s now draw b.0 in
    let n : now ≤ last_time = ltb-false last_time now a.time in
    let d : draw ≤ 250 = ltb-false 250 draw a.drawn in
    let exact : after_ms now draw ≡ now + draw = after-exact now draw n (omega arith) in
    record {
      of = subst (λ (y : State). Of y s) (sym b.1) (record { setup = refl; valid = a.right });
      due = λ k. now + draw;
      waits = λ k. ap (λ (y : State). stage_of (claims.claim_of (own_claim k) y.progress)) b.1 ∙ waiting_at s now draw k ∙ ap law.waiting exact;
      soon = λ k. omega (arith, d);
    }

-- ---- a tick

module _ (x : State) (t : Tick) where
  ticked-packet : tick_refusal x t ≡ 0 → ticked_packet x t ≡ packet_for x.setup (walked_of x t.time).output
  unfolding ticked_packet
  ticked-packet h = simp h

  pub ticked-state : tick_refusal x t ≡ 0 → (tick_of x t).state ≡ with x (walked_of x t.time).progress
  unfolding tick_of
  ticked-state h = simp h

  pub tick_is :
      (y : State) (ps : List Parcel) → tick x t ≡ link.accepted y ps → Accepted (tick_refusal x t) (tick_of x t).state (sends everyone (ticked_packet x t)) y ps
  unfolding tick tick_of
  tick_is y ps e =
      accepted_by (refused_by (tick_tests x t)) (tick-by x t) (tick_of x t).state (ticked_packet x t) [] (sends everyone (ticked_packet x t)) y ps e

pub ticked :
    (s : Setup) (x : State) (t : Tick) (y : State) (ps : List Parcel) → Of x s → tick x t ≡ link.accepted y ps
    → Ready x s (law.ticks t) × law.Does responder rules x y ps (law.ticks t)
ticked s x t y ps of e =
    let w = tick_is x t y ps e in
    let a : TickAccepted x t = tick-accepted x t w.none-refused in
    let o : Output = (walked_of x t.time).output in
    let p : ps ≡ sends everyone (packet_for x.setup o) = w.sent ∙ ap (sends everyone) (ticked-packet x t w.none-refused) in (
      record { of = of; time = in_time_lem x.progress t.time a.time; fits = tt },
      record {
        state = w.state ∙ ticked-state x t w.none-refused;
        reads = subst (λ (l : List Parcel). law.ReadAs read_as l (map law.to_all (messages_for x.setup o))) (sym p) (output_reads x.setup of.valid o);
      },
    )

-- ---- a packet received

module _ (x : State) (a : Arrival) where
  abbrev heard_by : heard.Received
  heard_by = heard_of x a (message_at a.packet)

  received-packet : receive_refusal x a ≡ 0 → received_packet x a ≡ packet_for x.setup (Response heard_by.answers)
  unfolding received_packet
  received-packet h = simp h

  replied_packet : receive_refusal x a ≡ 0 → unicast_packet x a ≡ brought_back x a heard_by.unicast (message_at a.packet)
  unfolding unicast_packet
  replied_packet h = simp h

  received-state : receive_refusal x a ≡ 0 → (receive_of x a).state ≡ with x heard_by.progress
  unfolding receive_of
  received-state h = simp h

  pub receive-is :
      (y : State) (ps : List Parcel) → receive x a ≡ link.accepted y ps → Accepted (receive_refusal x a) (receive_of x a).state (sent_for x a) y ps
  unfolding receive receive_of
  receive-is y ps e =
      accepted_by (refused_by (receive_tests x a)) (receive-by x a) (receive_of x a).state (received_packet x a) (unicast_packet x a) (sent_for x a) y ps e

  -- with the message that was read, and what it does
  module _ (l : Layout) (m : Message) (was : message_at a.packet ≡ read l m) (none : receive_refusal x a ≡ 0) (r : heard.Received) (is : heard_by ≡ r) where
    left : (receive_of x a).state ≡ with x r.progress
    left = received-state none ∙ ap (λ (v : heard.Received). with x v.progress) is

    sent_out : sent_for x a ≡ sends everyone (packet_for x.setup (Response r.answers)) ++ sends (back_to a) (reply_to x.setup a.port r.unicast m)
    sent_out =
        let p : received_packet x a ≡ packet_for x.setup (Response r.answers) =
        received-packet none ∙ ap (λ (v : heard.Received). packet_for x.setup (Response v.answers)) is in
        let q : unicast_packet x a ≡ reply_to x.setup a.port r.unicast m =
        replied_packet none
        ∙ ap (λ (v : heard.Received). brought_back x a v.unicast (message_at a.packet)) is
        ∙ ap (brought_back x a r.unicast) was
        in
        λ i. sends everyone (p i) ++ sends (back_to a) (q i)

  module _ (l : Layout) (m : Message) (was : message_at a.packet ≡ read l m) (none : receive_refusal x a ≡ 0) where
    -- from port 5353, and from another
    from-mdns : from_mdns a.port ≡ true
        → ((receive_of x a).state ≡ with x (told x a m).progress)
        × (sent_for x a
        ≡ sends everyone (packet_for x.setup (Response (told x a m).answers)) ++ sends (back_to a) (response_packet x.setup m.id (told x a m).unicast))
    from-mdns e =
        let h : heard_by ≡ told x a m = simp (was, e) in
        let o : reply_to x.setup a.port (told x a m).unicast m ≡ response_packet x.setup m.id (told x a m).unicast = simp e in (
          left l m was none (told x a m) h,
          sent_out l m was none (told x a m) h
              ∙ ap (λ (p : List ℕ). sends everyone (packet_for x.setup (Response (told x a m).answers)) ++ sends (back_to a) p) o,
        )

    from-resolver : from_mdns a.port ≡ false
        → ((receive_of x a).state ≡ with x (served x a m).progress)
        × (sent_for x a
        ≡ sends everyone (packet_for x.setup (Response no_record)) ++ sends (back_to a) (plain_for x.setup (served x a m).unicast m.id m.questions))
    unfolding plain_of
    from-resolver e =
        let h : heard_by ≡ served x a m = simp (was, e) in
        let o : reply_to x.setup a.port (served x a m).unicast m ≡ plain_for x.setup (served x a m).unicast m.id m.questions = simp e in (
          left l m was none (served x a m) h,
          sent_out l m was none (served x a m) h
              ∙ ap (λ (p : List ℕ). sends everyone (packet_for x.setup (Response (served x a m).answers)) ++ sends (back_to a) p) o,
        )

-- nothing goes to all for a plain resolver
none-to_all : (s : Setup) → sends everyone (packet_for s (Response no_record)) ≡ []
unfolding packet_for response_packet response_records sets.picked
none-to_all s = refl

pub received :
    (s : Setup) (x : State) (a : Arrival) (y : State) (ps : List Parcel) → Of x s → receive x a ≡ link.accepted y ps
    → (m : Message) × (read_as a.packet ≡ some m)
    × (((a.port ≡ 5353) × Ready x s (law.hears a m) × law.Does responder rules x y ps (law.hears a m))
    ⊎ ((a.port ≢ 5353) × Ready x s (law.serves a m) × law.Does responder rules x y ps (law.serves a m)))
received s x a y ps of e =
    let w = receive-is x a y ps e in
    let g : ReceiveAccepted x a = receive-accepted x a w.none-refused in
    let q = accepted_from a.packet a.port g.message in
    (q.2, ap message_of q.3, go q.1 q.2 q.3 w g (from_mdns a.port) refl)
  where
    go : (l : Layout) (m : Message) → message_at a.packet ≡ read l m
        → Accepted (receive_refusal x a) (receive_of x a).state (sent_for x a) y ps → ReceiveAccepted x a
        → (b : Bool) → from_mdns a.port ≡ b
        → ((a.port ≡ 5353) × Ready x s (law.hears a m) × law.Does responder rules x y ps (law.hears a m))
        ⊎ ((a.port ≢ 5353) × Ready x s (law.serves a m) × law.Does responder rules x y ps (law.serves a m))
    go l m was w g true t =
        let f = from-mdns x a l m was w.none-refused t in
        let o : Output = Response (told x a m).answers in
        let port : a.port ≡ 5353 = eqb-true a.port 5353 t in
        inl (
          port,
          record { of = of; time = in_time_lem x.progress a.time g.time; fits = port },
          record {
            state = w.state ∙ f.0;
            reads =
                subst
                (λ (ps : List Parcel). law.ReadAs read_as ps
                (map law.to_all (messages_for x.setup o) ++ map (to_asker a) (response_for x.setup m.id (told x a m).unicast)))
                (sym (w.sent ∙ f.1))
                (both_read (sends everyone (packet_for x.setup o)) (sends (back_to a) (response_packet x.setup m.id (told x a m).unicast))
                (map law.to_all (messages_for x.setup o)) (map (to_asker a) (response_for x.setup m.id (told x a m).unicast))
                (output_reads x.setup of.valid o) (response_reads x.setup of.valid (back_to a) m.id (told x a m).unicast));
          },
        )
    go l m was w g false t =
        let f = from-resolver x a l m was w.none-refused t in
        let set : Set = (served x a m).unicast in
        let p : List ℕ = plain_for x.setup (served x a m).unicast m.id m.questions in
        let sent : sent_for x a ≡ sends (back_to a) (plain_for x.setup (served x a m).unicast m.id m.questions) =
        f.1 ∙ ap (λ (qs : List Parcel). qs ++ sends (back_to a) (plain_for x.setup (served x a m).unicast m.id m.questions)) (none-to_all x.setup) in
        inr (
          eqb-false a.port 5353 t,
          record { of = of; time = in_time_lem x.progress a.time g.time; fits = tt },
          record {
            state = w.state ∙ f.0;
            reads =
                subst (λ (ps : List Parcel). law.ReadAs read_as ps (map (to_asker a) (replies_for x.setup set m.id m.questions))) (sym (w.sent ∙ sent))
                (reply-reads x.setup of.valid (back_to a) set m.id m.questions (λ z rest h. first-named a.packet l m was z rest h));
          },
        )

-- ---- an update

pub update-is :
    (x : State) (u : Update) (y : State) (ps : List Parcel) → update x u ≡ link.accepted y ps
    → Accepted (update_refusal x u) (update_of x u).state (sends everyone (updated_packet x u)) y ps
unfolding update update_of update_to update_refusal updated_packet
update-is x u y ps e = let new = revised x.setup u.new in
    accepted_by (refused_by (update_tests x u.time u.room new)) (update-by x u.time u.room new) (update_of x u).state (updated_packet x u) []
    (sends everyone (updated_packet x u)) y ps e

pub updated :
    (s : Setup) (x : State) (u : Update) (y : State) (ps : List Parcel) → Of x s → update x u ≡ link.accepted y ps
    → Ready x s (law.updates u) × law.Does responder rules x y ps (law.updates u)
updated s x u y ps of e =
    let w = update-is x u y ps e in
    let a = changed.accepted x u w.none-refused in
    let o : Output = Response (renewed x u).announced in
    let p : ps ≡ sends everyone (packet_for (revise u x.setup) o) = w.sent ∙ ap (sends everyone) (changed.updated-sent x u w.none-refused) in (
      record {
        of = of;
        time = in_time_lem x.progress u.time a.time;
        fits = (a.valid, a.claims, right_draw x a.right);
      },
      record {
        state = w.state ∙ changed.updated-state x u w.none-refused;
        reads =
            subst (λ (l : List Parcel). law.ReadAs read_as l (map law.to_all (messages_for (revise u x.setup) o))) (sym p)
            (output_reads (revise u x.setup) a.valid o);
      },
    )
