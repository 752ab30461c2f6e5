-- A packet received, a tick, a stop or an update on lent bytes. Assumes nothing.
use mathlib.Core.Path.{◌≡◌, refl, sym, ap, subst, ◌∙◌}
use mathlib.Core.Bool.{Bool, true, false}
use mathlib.Core.List.{List}
use Prim.Native.Nat.{ℕ}
use borrow.Author.Tests.{eq-eqb, ne_eqb}
use lib.Dec.{eqb}
use lib.ListN.{length}
use Rattle.writer.specs.own_packets.Own.{laid_over}
use Rattle.claims.specs.declared.holds.Address.{Address}
use Rattle.responder.specs.declared.State.{State}
use Rattle.responder.specs.declared.Answer.{Answer}
use Rattle.responder.specs.declared.Received.{Received}
use Rattle.responder.specs.declared.Ticked.{Ticked}
use Rattle.responder.specs.Handed.{Arrival, Tick}
use Rattle.responder.specs.Calls as responder
use Rattle.responder.specs.Calls.{refusal_of, unicast_packet, Ticks}
use Rattle.responder.specs.changes.Changes.{Update, Stops, Updates}
use Rattle.responder.specs.declared.changes.Stopped.{Stopped}
use Rattle.responder.specs.declared.changes.Updated.{Updated}
use Rattle.responder.specs.Runs.{Call, received, ticked, stopped, updated, refusal_of_call, answer_to, more_after, state_after, packet_of}
use Rattle.responder.proofs.Refusals.{call-number, refused_keeps}
use Rattle.capi_responder.specs.codec.Codec.{decode, with_progress, state_with}
use Rattle.capi_responder.specs.declared.Called.{Called}
use Rattle.capi_responder.specs.codec.Layout.{state_size}
use Rattle.capi_responder.specs.Exported.{called_with, with_data, setup_after, bytes_after, Calls, Receives}
use Rattle.capi_responder.proofs.States.{same_received, same_ticked, same_stopped, long_enough, with-progress}
use Rattle.capi_responder.proofs.Renewing.{data_says}

-- what a call gives, over an out buffer
pub record Gives (s : State) (c : Call) (out : List ℕ) (answer : Answer) (more : Bool) (after : State) (out' : List ℕ) : Type 0 where
  pub is-answer : answer ≡ answer_to s c
  pub is-more : more ≡ more_after s c
  pub is-after : after ≡ state_after s c
  pub is-out : out' ≡ laid_over (packet_of s c) out

pub of_receive : {s : State} {a : Arrival} {out unicast out' unicast' : List ℕ} {r : Received} → responder.Receives s a out unicast r out' unicast'
    → Gives s (received a) out r.answer false r.state out'
of_receive h = record {
  is-answer = ap (λ (x : Received). x.answer) h.answers;
  is-more = refl;
  is-after = ap (λ (x : Received). x.state) h.answers;
  is-out = h.writes;
}

pub of_tick : {s : State} {t : Tick} {out out' : List ℕ} {r : Ticked} → Ticks s t out r out' → Gives s (ticked t) out r.answer r.more r.state out'
of_tick h = record {
  is-answer = ap (λ (x : Ticked). x.answer) h.answers;
  is-more = ap (λ (x : Ticked). x.more) h.answers;
  is-after = ap (λ (x : Ticked). x.state) h.answers;
  is-out = h.writes;
}

pub of_stop : {s : State} {t : Tick} {out out' : List ℕ} {r : Stopped} → Stops s t out r out' → Gives s (stopped t) out r.answer false r.state out'
of_stop h = record {
  is-answer = ap (λ (x : Stopped). x.answer) h.answers;
  is-more = refl;
  is-after = ap (λ (x : Stopped). x.state) h.answers;
  is-out = h.writes;
}

pub of_update : {s : State} {u : Update} {out out' : List ℕ} {r : Updated} → Updates s u out r out' → Gives s (updated u) out r.answer false r.state out'
of_update h = record {
  is-answer = ap (λ (x : Updated). x.answer) h.answers;
  is-more = refl;
  is-after = ap (λ (x : Updated). x.state) h.answers;
  is-out = h.writes;
}

module _ (b out : List ℕ) (c : Call) {s : State} {answer : Answer} {more : Bool} {after : State} {out' : List ℕ} {n : ℕ} {a : Called}
    (is_state_lem : s ≡ decode b) (gives : Gives s c out answer more after out') (is_number : n ≡ refusal_of answer) (is-called : a ≡ called_with answer more) where
  given : Gives (decode b) c out answer more after out'
  given = rw is_state_lem at gives

  number : n ≡ refusal_of (answer_to (decode b) c)
  number = is_number ∙ ap refusal_of given.is-answer

  calls : {b' : List ℕ} → b' ≡ bytes_after b c → decode b' ≡ state_after (decode b) c → Calls b c out a b' out'
  calls bytes says = record {
    answers = is-called ∙ (λ i. called_with (given.is-answer i) (given.is-more i));
    bytes = bytes;
    says = says;
    writes = given.is-out;
  }

  pub call_kept : (n ≡ 0 → ⊥) → Calls b c out a b out'
  unfolding bytes_after
  call_kept refused =
      let f : eqb (refusal_of (answer_to (decode b) c)) 0 ≡ false = ne_eqb _ 0 (λ z. refused (number ∙ z)) in
      calls (simp f) (sym (refused_keeps (decode b) c (rw (call-number (decode b) c) at f)).0)

  -- an accepted call, where the bytes of the set-up after it say the set-up that its state then has
  pub call-taken : {b₁ b' : List ℕ} → b₁ ≡ setup_after b c
      → (refusal_of_call (decode b) c ≡ 0 → eqb (length b) state_size ≡ true → state_with (setup_after b c) (state_after (decode b) c).progress ≡ state_after (decode b) c)
      → n ≡ 0
      → (b' ≡ with_progress b₁ after.progress) × (decode b' ≡ state_with b₁ after.progress)
      → Calls b c out a b' out'
  unfolding bytes_after
  call-taken w says zero h =
      let t : eqb (refusal_of (answer_to (decode b) c)) 0 ≡ true = eq-eqb _ 0 (sym number ∙ zero) in
      let g : refusal_of_call (decode b) c ≡ 0 = sym (call-number (decode b) c) ∙ sym number ∙ zero in
      let l : _ = rw (w, given.is-after) at h in
      calls (simp t l.0) (l.1 ∙ says g (long_enough b c g))

-- a packet from an address that was read of bytes
module _ (b out unicast : List ℕ) (arrival : Address → Arrival) {s : State} {from source : Address} {heard : Received} {out' unicast' : List ℕ} {n : ℕ} {r : Called}
    (is_state_lem : s ≡ decode b) (is-source : from ≡ source) (hears : responder.Receives s (arrival from) out unicast heard out' unicast')
    (is_number : n ≡ refusal_of heard.answer) (is-called : r ≡ called_with heard.answer false) where
  here : responder.Receives s (arrival source) out unicast heard out' unicast'
  here = subst (λ (x : Address). responder.Receives s (arrival x) out unicast heard out' unicast') is-source hears

  replied : unicast' ≡ laid_over (unicast_packet (decode b) (arrival source)) unicast
  replied = here.replies ∙ ap (λ (x : State). laid_over (unicast_packet x (arrival source)) unicast) is_state_lem

  pub receive-kept : (n ≡ 0 → ⊥) → Receives b (arrival source) out unicast r b out' unicast'
  receive-kept refused = record { calls = call_kept b out (received (arrival source)) is_state_lem (of_receive here) is_number is-called refused; replies = replied }

  pub receive-taken : {b' : List ℕ} → n ≡ 0 → (b' ≡ with_progress b heard.state.progress) × (decode b' ≡ state_with b heard.state.progress)
      → Receives b (arrival source) out unicast r b' out' unicast'
  receive-taken zero h = record {
    calls =
        call-taken b out (received (arrival source)) is_state_lem (of_receive here) is_number is-called refl
        (λ g l. with-progress b (received (arrival source)) l (state_after (decode b) (received (arrival source))) (same_received (decode b) (arrival source))) zero h;
    replies = replied;
  }

-- a tick, which has no other bytes of the set-up
module _ (b out : List ℕ) (t : Tick) {s : State} {answer : Answer} {more : Bool} {after : State} {out' : List ℕ} {n : ℕ} {a : Called}
    (is_state_lem : s ≡ decode b) (is_number : n ≡ refusal_of answer) (is-called : a ≡ called_with answer more) where
  pub tick-taken : {b' : List ℕ} → Gives s (ticked t) out answer more after out' → n ≡ 0
      → (b' ≡ with_progress b after.progress) × (decode b' ≡ state_with b after.progress) → Calls b (ticked t) out a b' out'
  tick-taken gives zero h =
      call-taken b out (ticked t) is_state_lem gives is_number is-called refl
      (λ g l. with-progress b (ticked t) l (state_after (decode b) (ticked t)) (same_ticked (decode b) t)) zero h

  pub stop-taken : {b' : List ℕ} → Gives s (stopped t) out answer more after out' → n ≡ 0
      → (b' ≡ with_progress b after.progress) × (decode b' ≡ state_with b after.progress) → Calls b (stopped t) out a b' out'
  stop-taken gives zero h =
      call-taken b out (stopped t) is_state_lem gives is_number is-called refl
      (λ g l. with-progress b (stopped t) l (state_after (decode b) (stopped t)) (same_stopped (decode b) t)) zero h

-- an update, which writes its data first
module _ (b out : List ℕ) (u : Update) {s : State} {r : Updated} {out' : List ℕ} {n : ℕ} {a : Called}
    (is_state_lem : s ≡ decode b) (is_number : n ≡ refusal_of r.answer) (is-called : a ≡ called_with r.answer false) where
  pub update-kept : Updates s u out r out' → (n ≡ 0 → ⊥) → Calls b (updated u) out a b out'
  update-kept h refused = call_kept b out (updated u) is_state_lem (of_update h) is_number is-called refused

  pub update-taken : {b₁ b' : List ℕ} → Updates s u out r out' → n ≡ 0 → b₁ ≡ with_data b u.new
      → (b' ≡ with_progress b₁ r.state.progress) × (decode b' ≡ state_with b₁ r.state.progress) → Calls b (updated u) out a b' out'
  update-taken h zero w p = call-taken b out (updated u) is_state_lem (of_update h) is_number is-called w (λ g l. data_says b u l g) zero p
