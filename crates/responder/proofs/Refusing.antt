-- Which refusal the tests of a call lead to, in their order. Assumes nothing.
use Prim.Native.Nat.{ℕ}
use mathlib.Core.Path.{◌≡◌, refl, sym, ap, ◌∙◌}
use Rattle.std.specs.Prelude.{Result, Ok, Err}
use mathlib.Core.Bool.{Bool, true, false, cond, not, ◌||◌}
use mathlib.Core.List.{List, [], ◌∷◌, ◌++◌}
use native.Mathlib.Omega.{arith}
use lib.ListN.{length}
use lib.Dec.{eqb}
use Rattle.wire.specs.message.Message.{Message}
use Rattle.wire.specs.message.Layout.{read, wrong_length, wrong_header, message_at, read_of}
use Rattle.wire.specs.message.Refusals.{wrong_port, is_malformed, message_tests, message_refusal, message_from}
use Rattle.wire.specs.declared.message.Layout.{Layout}
use Rattle.wire.specs.refusals.Numbers.{number_in, refused_by, first_refusal}
use Rattle.wire.specs.declared.refusals.Refusal.{Refusal}
use Rattle.wire.specs.declared.refusals.Refusal.TheVariants as cause
use Rattle.wire.proofs.refusals.Tests.{number_by, none_by}
use Rattle.wire.proofs.message.Refused.{accepted_from, refusing, reading, was_read, was_refused}
use Rattle.own.specs.declared.records.Setup.{Setup}
use Rattle.own.specs.records.Setups.{valid_setup}
use Rattle.claims.specs.Refusals.{wrong_time, wrong_start_draw, wrong_draws}
use Rattle.writer.specs.own_packets.Own.{refusal}
use Rattle.responder.specs.Handed.{Arrival, Tick}
use Rattle.responder.specs.Refusals.{small_buffer, small_buffers, wrong_state, start_tests, start_refusal, receive_tests, receive_refusal, tick_tests, tick_refusal, admitted}
use Rattle.responder.specs.changes.Changes.{update_tests, refusal_to}
use Rattle.responder.specs.declared.State.{State}
use Rattle.responder.proofs.Refusals.{not_0, receive-accepted, TickAccepted, tick-accepted}
use Rattle.responder.proofs.changes.Accepted.{UpdateAccepted, update-accepted}

-- what a result is by its contract and by a test of it
pub told : {A : Type 0} {r test v : A} → r ≡ test → r ≡ v → test ≡ v
told e t = cc

-- ---- refusal 7

pub by-draw : (s : State) (r : Bool) → valid_setup s.setup ≡ true → r ≡ wrong_start_draw s.progress.draw → r ≡ wrong_state s
unfolding wrong_state
by-draw s r v d = simp (v, d)

pub by-setup : (s : State) → valid_setup s.setup ≡ false → true ≡ wrong_state s
unfolding wrong_state
by-setup s v = simp v

valid_in : (v d : Bool) → (not v || d) ≡ false → v ≡ true
valid_in true d h = refl
valid_in false d h = let z : ◌≡◌ {A = ℕ} 0 1 = cc in absurd (omega arith)

pub right_setup : (s : State) → wrong_state s ≡ false → valid_setup s.setup ≡ true
unfolding wrong_state
right_setup s h = valid_in (valid_setup s.setup) (wrong_start_draw s.progress.draw) h

-- what is sent can be written
pub can_send : (s : State) (out : List ℕ) → small_buffer (length out) ≡ false → wrong_state s ≡ false → refusal s.setup out ≡ 0
unfolding refusal
can_send s out room h = simp (room, right_setup s h)

-- neither buffer is too small
pub both-large : (room unicastroom : ℕ) → (small_buffer room || small_buffer unicastroom) ≡ false → (small_buffer room ≡ false) × (small_buffer unicastroom ≡ false)
both-large room unicastroom h = go (small_buffer room) (small_buffer unicastroom) h
  where
    go : (x y : Bool) → (x || y) ≡ false → (x ≡ false) × (y ≡ false)
    go true y e = let z : ◌≡◌ {A = ℕ} 0 1 = cc in absurd (omega arith)
    go false y e = (refl, e)

-- ---- the number that a call answers: that of its refusal, or 0

module _ (tests : List (Refusal × Bool)) {k : ℕ} (named : k ≡ first_refusal tests) {r : Result (Unit {0}) Refusal} (is : r ≡ refused_by tests) where
  pub number-refused : {refusal : Refusal} → r ≡ Err refusal → (refused_by tests ≡ Err refusal) × (eqb k 0 ≡ false)
  number-refused {refusal = refusal} e =
      (sym is ∙ e, not_0 refusal (sym (ap number_in e) ∙ ap number_in is ∙ number_by tests ∙ sym named))

  pub number-accepted : r ≡ Ok tt → 0 ≡ k
  number-accepted e = sym (ap number_in e) ∙ ap number_in is ∙ number_by tests ∙ sym named

pub start-is : (setup : Setup) (time draw : ℕ) → start_refusal setup time draw ≡ first_refusal (start_tests setup time draw)
unfolding start_refusal
start-is setup time draw = refl

pub tick-is : (s : State) (t : Tick) → tick_refusal s t ≡ first_refusal (tick_tests s t)
unfolding tick_refusal
tick-is s t = refl

pub update-is : (s : State) (time room : ℕ) (new : Setup) → refusal_to s time room new ≡ first_refusal (update_tests s time room new)
unfolding refusal_to
update-is s time room new = refl

-- what a tick and an update that are not refused have passed
pub tick-passed : (s : State) (t : Tick) {r : Result (Unit {0}) Refusal} → r ≡ refused_by (tick_tests s t) → r ≡ Ok tt → TickAccepted s t
tick-passed s t is e = tick-accepted s t (sym (number-accepted (tick_tests s t) (tick-is s t) is e))

pub update-passed : (s : State) (time room : ℕ) (new : Setup) {r : Result (Unit {0}) Refusal}
    → r ≡ refused_by (update_tests s time room new) → r ≡ Ok tt → UpdateAccepted s time room new
update-passed s time room new is e = update-accepted s time room new (sym (number-accepted (update_tests s time room new) (update-is s time room new) is e))

-- ---- a packet received

-- a message's refusal, or that of the state
abbrev and_on : Result (Unit {0}) Refusal → Bool → Result (Unit {0}) Refusal
and_on (Ok u) w = cond w (Err cause.Setup) (Ok tt)
and_on (Err refusal) w = Err refusal

behind : (port : ℕ) (p : List ℕ) (w : Bool) → refused_by (message_tests port p ++ ((cause.Setup, w) ∷ [])) ≡ and_on (refused_by (message_tests port p)) w
behind port p w = go (wrong_length p) (wrong_header p || wrong_port port p) (is_malformed p)
  where
    go : (a b c : Bool)
        → cond a (Err cause.Length) (cond b (Err cause.Header) (cond c (Err cause.Malformed) (cond w (Err cause.Setup) (Ok tt))))
        ≡ and_on (cond a (Err cause.Length) (cond b (Err cause.Header) (cond c (Err cause.Malformed) (Ok tt)))) w
    go true b c = refl
    go false true c = refl
    go false false true = refl
    go false false false = refl

module _ (s : State) (a : Arrival) where
  refuses : (refusal : Refusal) → refused_by (receive_tests s a) ≡ Err refusal → Err refusal ≡ read_of (admitted s a)
  unfolding admitted
  refuses refusal h = refusing (refused_by (receive_tests s a)) (message_at a.packet) refusal h

  pub receive-1 : wrong_time s.progress a.time ≡ true → Err cause.Time ≡ read_of (admitted s a)
  receive-1 t = refuses cause.Time (simp t)

  module _ (t : wrong_time s.progress a.time ≡ false) where
    pub receive-2 : wrong_draws a.draw a.hold ≡ true → Err cause.Draw ≡ read_of (admitted s a)
    receive-2 d = refuses cause.Draw (simp (t, d))

    module _ (d : wrong_draws a.draw a.hold ≡ false) where
      pub receive-3 : small_buffers a ≡ true → Err cause.Buffer ≡ read_of (admitted s a)
      receive-3 r = refuses cause.Buffer (simp (t, d, r))

      module _ (r : small_buffers a ≡ false) (m : Result Layout Refusal) (is : m ≡ read_of (message_from a.port a.packet)) where
        of-message : refused_by (receive_tests s a) ≡ and_on (refused_by (message_tests a.port a.packet)) (wrong_state s)
        of-message = simp (t, d, r) (behind a.port a.packet (wrong_state s))

        pub receive-message : (refusal : Refusal) → m ≡ Err refusal → Err refusal ≡ read_of (admitted s a)
        unfolding message_from message_refusal
        receive-message refusal e =
            let tests = message_tests a.port a.packet in
            let refused : refused_by tests ≡ Err refusal =
            was_refused (refused_by tests) (message_at a.packet) m is refusal e
            (λ k. let f = accepted_from a.packet a.port (sym (number_by tests) ∙ ap number_in k) in (f.1, f.2, f.3)) in
            refuses refusal (of-message ∙ ap (λ (x : Result (Unit {0}) Refusal). and_on x (wrong_state s)) refused)

        module _ (l : Layout) (e : m ≡ Ok l) where
          taken : (refused_by (message_tests a.port a.packet) ≡ Ok tt) × (says : Message) × (message_at a.packet ≡ read l says)
          unfolding message_from
          taken = was_read (refused_by (message_tests a.port a.packet)) (message_at a.packet) m is l e

          passed : refused_by (receive_tests s a) ≡ cond (wrong_state s) (Err cause.Setup) (Ok tt)
          passed = of-message ∙ ap (λ (x : Result (Unit {0}) Refusal). and_on x (wrong_state s)) taken.0

          pub receive-7 : wrong_state s ≡ true → Err cause.Setup ≡ read_of (admitted s a)
          receive-7 w = refuses cause.Setup (passed ∙ simp w)

          pub receive-read : wrong_state s ≡ false → Ok l ≡ read_of (admitted s a)
          unfolding admitted
          receive-read w = reading (refused_by (receive_tests s a)) (message_at a.packet) (Ok l) (passed ∙ simp w) (sym (ap read_of taken.2))

  pub none_refuses : receive_refusal s a ≡ 0 → refused_by (receive_tests s a) ≡ Ok tt
  unfolding receive_refusal
  none_refuses h = none_by (receive_tests s a) h

  -- what the answer says of the call
  module _ (m : Result Layout Refusal) (is : m ≡ read_of (admitted s a)) where
    pub is-admitted : (l : Layout) → m ≡ Ok l → (receive_refusal s a ≡ 0) × (says : Message) × (message_at a.packet ≡ read l says)
    unfolding admitted receive_refusal
    is-admitted l e =
        let t = was_read (refused_by (receive_tests s a)) (message_at a.packet) m is l e in
        (sym (number_by (receive_tests s a)) ∙ ap number_in t.0, t.1, t.2)

    pub is-refused : (refusal : Refusal) → m ≡ Err refusal → (refused_by (receive_tests s a) ≡ Err refusal) × (eqb (receive_refusal s a) 0 ≡ false)
    unfolding admitted receive_refusal
    is-refused refusal e =
        let tests = receive_tests s a in
        let refused : refused_by tests ≡ Err refusal =
        was_refused (refused_by tests) (message_at a.packet) m is refusal e
        (λ k. let t = accepted_from a.packet a.port (receive-accepted s a (sym (number_by tests) ∙ ap number_in k)).message in (t.1, t.2, t.3)) in
        (refused, not_0 refusal (sym (ap number_in refused) ∙ number_by tests))
