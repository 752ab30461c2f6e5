-- A tick with nothing due: it is accepted, sends nothing and changes nothing but the time of the last call. Assumes nothing.
use mathlib.Core.Path.{◌≡◌, refl, sym, ap, ◌∙◌}
use mathlib.Core.Bool.{Bool, true, false, not}
use mathlib.Core.List.{List, ◌++◌, append_assoc}
use mathlib.Mathlib.Data.Bool.Basic.{and-eq-true-eq-eq-true-and-eq-true as both}
use Prim.Native.Nat.{ℕ, ◌≤◌}
use borrow.Author.Tests.{leb-true, le-ltb, eqb-true, not-true}
use lib.Dec.{leb, ltb, eqb}
use lib.ListN.{length, take}
use lib.Seq.{take-add}
use Rattle.std.specs.Prelude.{Ok}
use Rattle.wire.specs.refusals.Numbers.{refused_by}
use Rattle.wire.proofs.refusals.Tests.{none_by}
use Rattle.own.specs.records.Setups.{valid_setup}
use Rattle.claims.specs.Time.{last_time}
use Rattle.claims.specs.Refusals.{wrong_time}
use Rattle.claims.specs.steps.Tick.{with_last}
use Rattle.claims.specs.declared.Progress.{Progress}
use Rattle.claims.specs.declared.steps.Output.TheVariants.{Nothing}
use Rattle.claims.specs.declared.steps.Ticked as walked
use Rattle.claims.proofs.due.Waiting.{idle_tick}
use Rattle.responder.specs.declared.State.{State}
use Rattle.responder.specs.declared.Answer.TheVariants.{Quiet}
use Rattle.responder.specs.Handed.{Tick}
use Rattle.responder.specs.Refusals.{small_buffer, wrong_state, tick_tests, tick_refusal}
use Rattle.responder.specs.Calls.{packet_for, walked_of, ticked_packet, tick_of}
use Rattle.responder.specs.Runs.{ticked}
use Rattle.capi_responder.specs.codec.Numbers.{bytes64}
use Rattle.capi_responder.specs.codec.Layout as layout
use Rattle.capi_responder.specs.codec.Parts.{setup_at, progress_at}
use Rattle.capi_responder.specs.codec.Codec.{decode, last_bytes, multicasts_bytes, set_bytes, hold_bytes, holds_bytes, progress_bytes, with_progress, with_time, state_with}
use Rattle.capi_responder.specs.declared.Called.{Called}
use Rattle.capi_responder.specs.Exported.{called_with, Calls}
use Rattle.capi_responder.specs.idle.Idle.{nothing_due, is_idle}
use Rattle.capi_responder.proofs.codec.Whole.{round_trip}
use Rattle.capi_responder.proofs.idle.Bytes.{Bytes}
use Rattle.capi_responder.proofs.idle.Resting.{AtRest, at_rest}
use Rattle.capi_responder.proofs.Calling.{Gives, tick-taken}

-- the tests that an idle tick passes
record Idle (b : List ℕ) (time room : ℕ) : Type 0 where
  early : leb time last_time ≡ true
  roomy : small_buffer room ≡ false
  long : eqb (length b) layout.state_size ≡ true
  rests : nothing_due b time ≡ true
  right : valid_setup (setup_at b) ≡ true

is-not : (v : Bool) → not v ≡ true → v ≡ false
is-not v h = not-true v h

tests : (b : List ℕ) (time room : ℕ) → is_idle b time room ≡ true → Idle b time room
unfolding is_idle
tests b time room h =
    let h₀ = (both (leb time last_time) _).0 h in
    let h₁ = (both (not (small_buffer room)) _).0 h₀.1 in
    let h₂ = (both (eqb (length b) layout.state_size) _).0 h₁.1 in
    let h₃ = (both (nothing_due b time) (valid_setup (setup_at b))).0 h₂.1 in
    record { early = h₀.0; roomy = is-not (small_buffer room) h₁.0; long = h₂.0; rests = h₃.0; right = h₃.1 }

module _ (b : List ℕ) (bytes : Bytes b) (time room : ℕ) (idle : is_idle b time room ≡ true) where
  abbrev t : Tick
  t = record { time = time; room = room }

  i : Idle b time room
  i = tests b time room idle

  long : length b ≡ layout.state_size
  long = eqb-true _ _ i.long

  early : time ≤ last_time
  early = leb-true _ _ i.early

  r : AtRest b time
  r = at_rest b bytes long time early i.rests

  abbrev after : Progress
  after = with_last time (progress_at b)

  is_state_lem : ◌≡◌ {A = State} (decode b) (record { setup = setup_at b; progress = progress_at b })
  unfolding decode
  is_state_lem = let l : _ = i.long in simp l

  right_time : wrong_time (progress_at b) time ≡ false
  unfolding wrong_time
  right_time =
      let e : ltb last_time time ≡ false = le-ltb last_time time early in
      let l : ltb time (progress_at b).last ≡ false = le-ltb time (progress_at b).last r.before in
      let k : _ = r.kept in
      simp (e, l, k)

  right_state : wrong_state (record { setup = setup_at b; progress = progress_at b }) ≡ false
  unfolding wrong_state
  right_state =
      let v : _ = i.right in
      let d : ltb 250 (progress_at b).draw ≡ false = le-ltb 250 (progress_at b).draw r.drawn in
      simp (v, d)

  accepted : tick_refusal (decode b) t ≡ 0
  unfolding tick_refusal
  accepted = let w : _ = right_time in let s : _ = right_state in let o : _ = i.roomy in rw is_state_lem (simp (w, o, s))

  passed : refused_by (tick_tests (decode b) t) ≡ Ok tt
  unfolding tick_refusal
  passed = none_by (tick_tests (decode b) t) accepted

  walks : ◌≡◌ {A = walked.Ticked} (walked_of (decode b) time) (record { progress = with_last time (decode b).progress; output = Nothing; more = false })
  walks = rw is_state_lem (idle_tick (progress_at b) time (setup_at b).hasaaaa r.quiet)

  gives : (out : List ℕ) → Gives (decode b) (ticked t) out Quiet false (record { setup = (decode b).setup; progress = with_last time (decode b).progress }) out
  unfolding tick_of ticked_packet packet_for
  gives out =
      let z : _ = accepted in
      let w : _ = walks in
      let p : _ = passed in
      record { is-answer = simp (p, z, w); is-more = simp (z, w); is-after = simp (z, w); is-out = simp (z, w) }

  -- the bytes up to the time of the last call are those that would be written
  front : progress_bytes after ≡ take 263 (progress_bytes (progress_at b)) ++ bytes64 time
  unfolding progress_bytes multicasts_bytes last_bytes holds_bytes hold_bytes set_bytes bytes64
  front = refl

  time_written : with_time b time ≡ with_progress b after
  unfolding with_time with_progress
  time_written =
      let l : _ = i.long in
      let e : take 842 b ++ bytes64 time ≡ take 579 b ++ progress_bytes after =
      ap (λ (x : List ℕ). x ++ bytes64 time) (take-add 579 263 b ∙ ap (λ (x : List ℕ). take 579 b ++ take 263 x) r.same)
      ∙ append_assoc (take 579 b) (take 263 (progress_bytes (progress_at b))) (bytes64 time) ∙ ap (λ (x : List ℕ). take 579 b ++ x) (sym front) in
      simp l e

  says : decode (with_progress b after) ≡ state_with b after
  unfolding with_progress state_with
  says = let l : _ = i.long in simp l (round_trip b after long r.fits)

  pub idle_call : {out : List ℕ} {a : Called} {b' : List ℕ} → a ≡ called_with Quiet false → b' ≡ with_time b time → Calls b (ticked t) out a b' out
  idle_call {out} is-called is-bytes =
      let p : (decode b).progress ≡ progress_at b = ap (λ (s : State). s.progress) is_state_lem in
      let w : _ = is-bytes ∙ time_written in
      tick-taken b out t refl refl is-called (gives out) refl
      (rw p (w, ap decode w ∙ says))
