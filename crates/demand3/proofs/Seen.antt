-- What the contracts of the responder's calls, and of the exported ones, give is what the record answers. Assumes nothing.
use mathlib.Core.Path.{◌≡◌, refl, sym, ap, subst, ◌∙◌}
use mathlib.Core.Bool.{Bool, true, false, cond}
use mathlib.Core.Option.{none, some}
use mathlib.Core.List.{List, [], ◌++◌}
use Prim.Native.Nat.{ℕ, zero, suc}
use native.Mathlib.Omega.{arith}
use lib.ListN.{length, take, drop}
use lib.Dec.{eqb}
use lib.Seq.{take_at, drop_at}
use Rattle.std.specs.Prelude.{Result, Ok, Err}
use Rattle.wire.specs.refusals.Numbers.{number_in, refused_by}
use Rattle.wire.specs.declared.refusals.Refusal.{Refusal}
use Rattle.own.specs.declared.records.Setup.{Setup}
use Rattle.own.specs.changes.Changes.{revised}
use Rattle.writer.specs.own_packets.Own.{laid_over}
use Rattle.responder.specs.Handed.{Arrival, Tick}
use Rattle.responder.specs.Refusals.{start_tests, start_refusal, receive_tests, receive_refusal, tick_tests, tick_refusal}
use Rattle.responder.specs.Calls as calls
use Rattle.responder.specs.Calls.{refusal_of, length_of, unicast_length_of, answer_of, start_state, start_of, received_packet, unicast_packet, receive_of, ticked_packet, tick_of}
use Rattle.responder.specs.Runs.{Call, received, ticked, stopped, updated, answer_to, state_after, packet_of}
use Rattle.responder.specs.changes.Changes as changes
use Rattle.responder.specs.changes.Changes.{stopped_packet, stop_of, Update, update_tests, refusal_to, packet_to, update_to, update_refusal, updated_packet, update_of}
use Rattle.responder.specs.declared.changes.Stopped.{Stopped}
use Rattle.responder.specs.declared.changes.Updated.{Updated}
use Rattle.responder.specs.declared.State.{State}
use Rattle.responder.specs.declared.Started.{Started}
use Rattle.responder.specs.declared.Received.{Received}
use Rattle.responder.specs.declared.Ticked.{Ticked}
use Rattle.responder.proofs.Refusals.{not_0, call-number, call_length, call-reply, refused_keeps, receive-by, tick-by, update-by}
use Rattle.capi_responder.specs.codec.Codec.{decode}
use Rattle.capi_responder.specs.declared.Called.{Called}
use Rattle.capi_responder.specs.Exported as exported
use Rattle.capi_responder.specs.Exported.{setup_for, started, started_state, Starts}
use Rattle.link.specs.Responder as link
use Rattle.link.specs.Responder.{Parcel, everyone}
use Rattle.link.specs.Entries.{returned}
use Rattle.uniqueness.specs.Responder.{sends, back_to, sent_for, begun_by, answered_by, start, tick, receive, stop, update, responder}
use Rattle.uniqueness.proofs.Calls.{accepted_with}
use Rattle.demand3.specs.Seen.{begun_as, Answers, Calls, Receives}

-- ---- a start

begun-as : (r : Result (Unit {0}) Refusal) (x : State) → begun_by (answer_of r [] []) x ≡ begun_as (refusal_of (answer_of r [] [])) x
begun-as (Ok u) x = refl
begun-as (Err refusal) x = rw (not_0 refusal refl) refl

start-as : (s : Setup) (time draw : ℕ) → start s time draw ≡ begun_as (refusal_of (start_of s time draw).answer) (start_of s time draw).state
unfolding start start_of
start-as s time draw = begun-as (refused_by (start_tests s time draw)) (start_state (start_refusal s time draw) s time draw)

pub start_seen : (s : Setup) (time draw : ℕ) (r : Started) → r ≡ start_of s time draw → start s time draw ≡ begun_as (refusal_of r.answer) r.state
start_seen s time draw r e = start-as s time draw ∙ ap (λ (v : Started). begun_as (refusal_of v.answer) v.state) (sym e)

-- ---- a call that may send, by its refusal n, its packets p and q, what it sends and the state y that it leaves

shown :
    (x : State) (r : Result (Unit {0}) Refusal) (n : ℕ) → number_in r ≡ n → (p q : List ℕ) (y : State) (ps : List Parcel) → (eqb n 0 ≡ false → y ≡ x)
    → Answers (answered_by (answer_of r p q) y ps) x n y ps
unfolding returned
shown x (Ok u) zero i p q y ps keeps =
    let e : answered_by (answer_of (Ok u) p q) y ps ≡ link.accepted y ps = accepted_with (length p) (length q) y ps in
    record { seen = e; next = ap (returned responder x) e }
shown x (Ok u) (suc n) i p q y ps keeps = absurd (omega (arith, i))
shown x (Err refusal) n i p q y ps keeps = record { seen = rw (not_0 refusal i) refl; next = sym (keeps (not_0 refusal i)) }

-- the record's answer to a call, and what it sends
abbrev pub answered : State → Call → link.Answer State
answered x (received a) = responder.receive x a
answered x (ticked t) = responder.tick x t
answered x (stopped t) = responder.stop x t
answered x (updated u) = responder.update x u

abbrev pub sent_by : State → Call → List Parcel
sent_by x (received a) = sent_for x a
sent_by x (ticked t) = sends everyone (ticked_packet x t)
sent_by x (stopped t) = sends everyone (stopped_packet x t)
sent_by x (updated u) = sends everyone (updated_packet x u)

call-as : (x : State) (c : Call) → Answers (answered x c) x (refusal_of (answer_to x c)) (state_after x c) (sent_by x c)
unfolding receive receive_of tick tick_of stop stop_of update update_of update_to update_refusal updated_packet
call-as x (received a) =
    subst (λ (n : ℕ). Answers (receive x a) x n (receive_of x a).state (sent_for x a)) (sym (call-number x (received a)))
    (shown x (refused_by (receive_tests x a)) (receive_refusal x a) (receive-by x a) (received_packet x a) (unicast_packet x a)
    (receive_of x a).state (sent_for x a) (λ h. (refused_keeps x (received a) h).0))
call-as x (ticked t) =
    subst (λ (n : ℕ). Answers (tick x t) x n (tick_of x t).state (sends everyone (ticked_packet x t))) (sym (call-number x (ticked t)))
    (shown x (refused_by (tick_tests x t)) (tick_refusal x t) (tick-by x t) (ticked_packet x t) [] (tick_of x t).state (sends everyone (ticked_packet x t))
    (λ h. (refused_keeps x (ticked t) h).0))
call-as x (stopped t) =
    subst (λ (n : ℕ). Answers (stop x t) x n (stop_of x t).state (sends everyone (stopped_packet x t))) (sym (call-number x (stopped t)))
    (shown x (refused_by (tick_tests x t)) (tick_refusal x t) (tick-by x t) (stopped_packet x t) [] (stop_of x t).state (sends everyone (stopped_packet x t))
    (λ h. (refused_keeps x (stopped t) h).0))
call-as x (updated u) =
    subst (λ (n : ℕ). Answers (update x u) x n (update_of x u).state (sends everyone (updated_packet x u))) (sym (call-number x (updated u)))
    (shown x (refused_by (update_tests x u.time u.room (revised x.setup u.new))) (update_refusal x u) (update-by x u.time u.room (revised x.setup u.new))
    (updated_packet x u) [] (update_of x u).state (sends everyone (updated_packet x u)) (λ h. (refused_keeps x (updated u) h).0))

-- ---- a packet in a buffer

module _ (p out : List ℕ) (size : ℕ) (out' : List ℕ) (e : size ≡ length p) (h : out' ≡ laid_over p out) where
  first-bytes : take size out' ≡ p
  first-bytes = rw h (take_at p (drop (length p) out) size (sym e))

  rest_kept : drop size out' ≡ drop size out
  rest_kept = ap (drop size) h ∙ drop_at p (drop (length p) out) size (sym e) ∙ ap (λ (n : ℕ). drop n out) (sym e)

-- ---- a call with one out buffer, and a packet received

call-shown :
    (x : State) (c : Call) (out : List ℕ) (n size : ℕ) (y : State) (out' : List ℕ) → sent_by x c ≡ sends everyone (packet_of x c) → n ≡ refusal_of (answer_to x c)
    → size ≡ length_of (answer_to x c) → y ≡ state_after x c → out' ≡ laid_over (packet_of x c) out → Calls (answered x c) x out n size y out'
call-shown x c out n size y out' one e f g h =
    let size_is : size ≡ length (packet_of x c) = f ∙ call_length x c in
    record {
      answers =
          subst (λ (p : List ℕ). Answers (answered x c) x n y (sends everyone p)) (sym (first-bytes (packet_of x c) out size out' size_is h))
          (subst (λ (ps : List Parcel). Answers (answered x c) x n y ps) one (rw (e, g) (call-as x c)));
      kept = rest_kept (packet_of x c) out size out' size_is h;
    }

receive-shown :
    (x : State) (a : Arrival) (out back : List ℕ) (n size replied : ℕ) (y : State) (out' back' : List ℕ) → n ≡ refusal_of (receive_of x a).answer
    → size ≡ length_of (receive_of x a).answer → replied ≡ unicast_length_of (receive_of x a).answer → y ≡ (receive_of x a).state
    → out' ≡ laid_over (received_packet x a) out → back' ≡ laid_over (unicast_packet x a) back
    → Receives (receive x a) x a out back n size replied y out' back'
receive-shown x a out back n size replied y out' back' e f u g h k =
    let size_is : size ≡ length (received_packet x a) = f ∙ call_length x (received a) in
    let replied_is : replied ≡ length (unicast_packet x a) = u ∙ call-reply x (received a) in
    record {
      answers =
          subst (λ (p : List ℕ). Answers (receive x a) x n y (sends everyone p ++ sends (back_to a) (take replied back')))
          (sym (first-bytes (received_packet x a) out size out' size_is h))
          (subst (λ (p : List ℕ). Answers (receive x a) x n y (sends everyone (received_packet x a) ++ sends (back_to a) p))
          (sym (first-bytes (unicast_packet x a) back replied back' replied_is k)) (rw (e, g) (call-as x (received a))));
      kept = rest_kept (received_packet x a) out size out' size_is h;
      kept_back = rest_kept (unicast_packet x a) back replied back' replied_is k;
    }

pub receive-seen :
    (x : State) (a : Arrival) (out back : List ℕ) (r : Received) (out' back' : List ℕ) → calls.Receives x a out back r out' back'
    → Receives (receive x a) x a out back (refusal_of r.answer) (length_of r.answer) (unicast_length_of r.answer) r.state out' back'
receive-seen x a out back r out' back' h =
    receive-shown x a out back (refusal_of r.answer) (length_of r.answer) (unicast_length_of r.answer) r.state out' back'
    (ap (λ (v : Received). refusal_of v.answer) h.answers) (ap (λ (v : Received). length_of v.answer) h.answers)
    (ap (λ (v : Received). unicast_length_of v.answer) h.answers) (ap (λ (v : Received). v.state) h.answers) h.writes h.replies

pub tick-seen :
    (x : State) (t : Tick) (out : List ℕ) (r : Ticked) (out' : List ℕ) → calls.Ticks x t out r out'
    → Calls (tick x t) x out (refusal_of r.answer) (length_of r.answer) r.state out'
tick-seen x t out r out' h =
    call-shown x (ticked t) out (refusal_of r.answer) (length_of r.answer) r.state out' refl (ap (λ (v : Ticked). refusal_of v.answer) h.answers)
    (ap (λ (v : Ticked). length_of v.answer) h.answers) (ap (λ (v : Ticked). v.state) h.answers) h.writes

pub stop-seen :
    (x : State) (t : Tick) (out : List ℕ) (r : Stopped) (out' : List ℕ) → changes.Stops x t out r out'
    → Calls (stop x t) x out (refusal_of r.answer) (length_of r.answer) r.state out'
stop-seen x t out r out' h =
    call-shown x (stopped t) out (refusal_of r.answer) (length_of r.answer) r.state out' refl (ap (λ (v : Stopped). refusal_of v.answer) h.answers)
    (ap (λ (v : Stopped). length_of v.answer) h.answers) (ap (λ (v : Stopped). v.state) h.answers) h.writes

pub update-seen :
    (x : State) (u : Update) (out : List ℕ) (r : Updated) (out' : List ℕ) → changes.Updates x u out r out'
    → Calls (update x u) x out (refusal_of r.answer) (length_of r.answer) r.state out'
update-seen x u out r out' h =
    call-shown x (updated u) out (refusal_of r.answer) (length_of r.answer) r.state out' refl (ap (λ (v : Updated). refusal_of v.answer) h.answers)
    (ap (λ (v : Updated). length_of v.answer) h.answers) (ap (λ (v : Updated). v.state) h.answers) h.writes

-- ---- on bytes

-- a refused start leaves the state's bytes, and begins nothing
begun-bytes : (n : ℕ) (x y : State) → begun_as n x ≡ begun_as n (cond (eqb n 0) x y)
begun-bytes n x y = go (eqb n 0)
  where
    go : (b : Bool) → cond b (some x) none ≡ cond b (some (cond b x y)) none
    go true = refl
    go false = refl

pub start-exported :
    (b setup : List ℕ) (time draw : ℕ) (a : Called) (b' : List ℕ) → Starts b setup time draw a b'
    → start (setup_for setup (length b)) time draw ≡ begun_as a.refusal (decode b')
unfolding started_state
start-exported b setup time draw a b' h =
    let n : ℕ = refusal_of (started b setup time draw).answer in
    let e : a.refusal ≡ n = ap (λ (v : Called). v.refusal) h.answers in
    start-as (setup_for setup (length b)) time draw ∙ begun-bytes n (started b setup time draw).state (decode b)
    ∙ ap (begun_as n) (sym h.says) ∙ ap (λ (v : ℕ). begun_as v (decode b')) (sym e)

pub call-exported :
    (b : List ℕ) (c : Call) (out : List ℕ) (a : Called) (b' out' : List ℕ) → sent_by (decode b) c ≡ sends everyone (packet_of (decode b) c)
    → exported.Calls b c out a b' out' → Calls (answered (decode b) c) (decode b) out a.refusal a.length (decode b') out'
call-exported b c out a b' out' one h =
    call-shown (decode b) c out a.refusal a.length (decode b') out' one (ap (λ (v : Called). v.refusal) h.answers)
    (ap (λ (v : Called). v.length) h.answers) h.says h.writes

pub receive-exported :
    (b : List ℕ) (a : Arrival) (out back : List ℕ) (r : Called) (b' out' back' : List ℕ) → exported.Receives b a out back r b' out' back'
    → Receives (receive (decode b) a) (decode b) a out back r.refusal r.length r.unicast (decode b') out' back'
receive-exported b a out back r b' out' back' h =
    receive-shown (decode b) a out back r.refusal r.length r.unicast (decode b') out' back' (ap (λ (v : Called). v.refusal) h.calls.answers)
    (ap (λ (v : Called). v.length) h.calls.answers) (ap (λ (v : Called). v.unicast) h.calls.answers) h.calls.says h.calls.writes
    h.replies
