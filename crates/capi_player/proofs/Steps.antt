-- What stands at an offset of a trace, played to a responder in bytes. Assumes nothing.
use mathlib.Core.Path.{◌≡◌, refl, sym, ap, subst, ◌∙◌}
use mathlib.Core.Bool.{Bool, true, false}
use mathlib.Core.List.{List}
use Prim.Native.Nat.{ℕ}
use native.Mathlib.Omega.{arith}
use borrow.Author.Tests.{leb-true}
use Rattle.std.specs.Prelude.{Some, None, Ok, Err}
use Rattle.own.specs.changes.Changes.{new_port, new_txt}
use Rattle.trace.specs.reading.Reading.{Step, step_at}
use Rattle.trace.specs.reading.Events.{Occurrence, occurrence, data_in}
use Rattle.trace.specs.declared.reading.Event.{Event}
use Rattle.trace.specs.declared.reading.Event.TheVariants as event
use Rattle.trace.specs.declared.reading.Entry.{Entry}
use Rattle.trace.proofs.Numbers.{Bytes}
use Rattle.trace.proofs.EventsWritten.{wrote}
use Rattle.responder.specs.declared.State.{State}
use Rattle.responder.specs.Runs.{received, ticked, stopped, updated}
use Rattle.playing.specs.Playing.{room, arrival_of, tick_of, update_of, call_of, state_behind, refusal_behind, number_for, turn_of, port_fits, played_by, played_at}
use Rattle.playing.specs.declared.Played.{Played}
use Rattle.playing.proofs.Laws.{fits-port, number_behind}
use Rattle.capi_responder.specs.codec.Codec.{decode}
use Rattle.capi_responder.proofs.States.{same_received, same_ticked, same_stopped}
use Rattle.capi_player.specs.Laid.{Lays}
use Rattle.capi_player.specs.declared.PlayedTurn.{PlayedTurn}
use Rattle.capi_player.specs.Played.{turn_numbers, no_state, is_state, answer_of, is_taken, bytes_by, bytes_behind, bytes_played, state_played, Plays}
use Rattle.capi_player.proofs.Same.{port-holds, txt-holds, same_holds, kept, taken}

clash : {A : Type 0} → ◌≡◌ {A = Bool} false true → A
clash e = let z : ◌≡◌ {A = ℕ} 0 1 = cc in absurd (omega arith)

-- the bytes and the state behind an event, and behind what stands at an offset
record Behind (b : List ℕ) (o : Occurrence) (b' : List ℕ) : Type 0 where
  bytes : b' ≡ bytes_by b (call_of o)
  says : decode b' ≡ state_behind (decode b) o

pub record Stepped (b p : List ℕ) (x : Step) (b' : List ℕ) : Type 0 where
  pub bytes : b' ≡ bytes_behind b p x
  pub says : decode b' ≡ (played_by p (decode b) x).state

-- ---- an event

event_kept : (b : List ℕ) (v : Event) (d : List ℕ) (next : ℕ) → is_taken (turn_of (decode b) v next) (refusal_behind (decode b) (occurrence v d)) ≡ false
    → Behind b (occurrence v d) b
event_kept b (event.Tick time) d next h = let k = kept b (ticked (tick_of time)) h in record { bytes = k.bytes; says = k.says }
event_kept b (event.Packet time from p draw hold) d next h =
    let k = kept b (received (arrival_of time from p draw hold d)) h in record { bytes = k.bytes; says = k.says }
event_kept b (event.Claim last k number) d next h = record { bytes = refl; says = refl }
event_kept b (event.Stop time) d next h = let k = kept b (stopped (tick_of time)) h in record { bytes = k.bytes; says = k.says }
event_kept b (event.Port time p) d next h = let k = kept b (updated (update_of time (new_port p))) h in record { bytes = k.bytes; says = k.says }
event_kept b (event.Txt time) d next h = let k = kept b (updated (update_of time (new_txt d))) h in record { bytes = k.bytes; says = k.says }

module _ (b : List ℕ) (l : is_state b ≡ true) (bytes : Bytes b) where
  event_taken : (v : Event) (d : List ℕ) (next : ℕ) {b' : List ℕ} → port_fits v ≡ true
      → is_taken (turn_of (decode b) v next) (refusal_behind (decode b) (occurrence v d)) ≡ true → Lays b (state_behind (decode b) (occurrence v d)) b'
      → Behind b (occurrence v d) b'
  event_taken (event.Tick time) d next f h w =
      let c = ticked (tick_of time) in
      let k = taken b c h (λ g. same_holds b l bytes c refl (same_ticked (decode b) (tick_of time))) w in
      record { bytes = k.bytes; says = k.says }
  event_taken (event.Packet time from p draw hold) d next f h w =
      let c = received (arrival_of time from p draw hold d) in
      let k = taken b c h (λ g. same_holds b l bytes c refl (same_received (decode b) (arrival_of time from p draw hold d))) w in
      record { bytes = k.bytes; says = k.says }
  event_taken (event.Claim last k number) d next f h w = clash h
  event_taken (event.Stop time) d next f h w =
      let c = stopped (tick_of time) in
      let k = taken b c h (λ g. same_holds b l bytes c refl (same_stopped (decode b) (tick_of time))) w in
      record { bytes = k.bytes; says = k.says }
  event_taken (event.Port time p) d next f h w =
      let c = updated (update_of time (new_port p)) in
      let k = taken b c h (λ g. port-holds b l bytes time room p (omega (arith, leb-true p 65535 f)) g) w in
      record { bytes = k.bytes; says = k.says }
  event_taken (event.Txt time) d next f h w =
      let c = updated (update_of time (new_txt d)) in
      let k = taken b c h (λ g. txt-holds b l bytes time room d g) w in
      record { bytes = k.bytes; says = k.says }

-- ---- what stands at an offset

module _ (b p : List ℕ) where
  -- a call is taken by the number of its refusal
  of_number : (e : Entry)
      → is_taken (turn_of (decode b) e.event e.next) (refusal_behind (decode b) (occurrence e.event (data_in p e)))
      ≡ is_taken (played_by p (decode b) (Ok (Some e))).turn (number_for (played_by p (decode b) (Ok (Some e))).refusal)
  of_number e = ap (is_taken (turn_of (decode b) e.event e.next)) (sym (number_behind (decode b) (occurrence e.event (data_in p e))))

  step_kept : (x : Step) → is_taken (played_by p (decode b) x).turn (number_for (played_by p (decode b) x).refusal) ≡ false → Stepped b p x b
  step_kept (Ok None) h = record { bytes = refl; says = refl }
  step_kept (Ok (Some e)) h =
      let k = event_kept b e.event (data_in p e) e.next (of_number e ∙ h) in record { bytes = k.bytes; says = k.says }
  step_kept (Err r) h = record { bytes = refl; says = refl }

  module _ (l : is_state b ≡ true) (bytes : Bytes b) (trace : Bytes p) (at : ℕ) {b' : List ℕ} where
    step-taken : (x : Step) → step_at p at ≡ x → is_taken (played_by p (decode b) x).turn (number_for (played_by p (decode b) x).refusal) ≡ true
        → Lays b (played_by p (decode b) x).state b' → Stepped b p x b'
    step-taken (Ok None) e h w = clash h
    step-taken (Ok (Some v)) e h w =
        let f = fits-port v.event (data_in p v) (wrote p trace at v e).fits in
        let k = event_taken b l bytes v.event (data_in p v) v.next f (of_number v ∙ h) w in
        record { bytes = k.bytes; says = k.says }
    step-taken (Err r) e h w = clash h

-- ---- the exported call

module _ (b p : List ℕ) (at : ℕ) {r : PlayedTurn} where
  pub no_state_lem : is_state b ≡ false → r ≡ no_state at → Plays b p at r b
  unfolding answer_of bytes_played state_played
  no_state_lem f e = record { answers = simp f e; bytes = simp f; says = simp f }

  module _ (l : is_state b ≡ true) {s : State} {x : Played} {n : ℕ} {t : Bool} (is_state_lem : s ≡ decode b) (is-played : x ≡ played_at p at s)
      (is-number : n ≡ number_for x.refusal) (is-test : t ≡ is_taken x.turn n) (is-told : r ≡ turn_numbers x.turn n at) where
    played : x ≡ played_at p at (decode b)
    played = is-played ∙ ap (played_at p at) is_state_lem

    test : t ≡ is_taken (played_at p at (decode b)).turn (number_for (played_at p at (decode b)).refusal)
    test = is-test ∙ ap (is_taken x.turn) is-number ∙ ap (λ (y : Played). is_taken y.turn (number_for y.refusal)) played

    told : r ≡ turn_numbers (played_at p at (decode b)).turn (number_for (played_at p at (decode b)).refusal) at
    told = is-told ∙ ap (λ (k : ℕ). turn_numbers x.turn k at) is-number ∙ ap (λ (y : Played). turn_numbers y.turn (number_for y.refusal) at) played

    plays : {b' : List ℕ} → Stepped b p (step_at p at) b' → Plays b p at r b'
    unfolding answer_of bytes_played state_played played_at
    plays k = record { answers = simp l told; bytes = simp l k.bytes; says = simp l k.says }

    pub play_kept : t ≡ false → Plays b p at r b
    unfolding played_at
    play_kept f = plays (step_kept b p (step_at p at) (sym test ∙ f))

    pub play_taken : {b' : List ℕ} → Bytes b → Bytes p → t ≡ true → Lays b x.state b' → Plays b p at r b'
    unfolding played_at
    play_taken {b'} bytes trace h w =
        plays (step-taken b p l bytes trace at (step_at p at) refl (sym test ∙ h) (subst (λ (y : Played). Lays b y.state b') played w))
