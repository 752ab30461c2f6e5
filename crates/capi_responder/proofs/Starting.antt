-- A start, on lent bytes. Assumes nothing.
use mathlib.Core.Path.{◌≡◌, refl, sym, ap, ◌∙◌}
use mathlib.Core.Bool.{Bool, true, false}
use mathlib.Core.List.{List}
use Prim.Native.Nat.{ℕ}
use native.Mathlib.Omega.{arith}
use borrow.Author.Tests.{eq-eqb, ne_eqb, eqb-true}
use lib.Dec.{eqb}
use lib.ListN.{length}
use Rattle.own.specs.declared.records.Setup.{Setup}
use Rattle.own.specs.records.Setups.{valid_setup, label_fits, instance_fits}
use Rattle.responder.specs.declared.State.{State}
use Rattle.responder.specs.declared.Started.{Started}
use Rattle.responder.specs.Refusals.{start_refusal}
use Rattle.responder.specs.Calls.{blank, refusal_of, start_of}
use Rattle.responder.proofs.Refusals.{start-number, start-accepted}
use Rattle.capi_responder.specs.codec.Layout.{setup_size, state_size}
use Rattle.capi_responder.specs.codec.Codec.{setup_of, decode, with_progress, state_with, with_setup}
use Rattle.capi_responder.proofs.codec.Whole as whole
use Rattle.capi_responder.specs.declared.Called.{Called}
use Rattle.capi_responder.specs.Exported.{called_with, setup_for, started, started_bytes, started_state, Starts}
use Rattle.capi_responder.proofs.States.{told}

-- no start accepts the set-up of the blank state
blank-wrong : valid_setup blank.setup ≡ false
unfolding valid_setup instance_fits label_fits blank
blank-wrong = refl

blank-start : (time draw : ℕ) → start_refusal blank.setup time draw ≡ 0 → ⊥
blank-start time draw h =
    let r : valid_setup blank.setup ≡ true = (start-accepted blank.setup time draw h).right in
    let w : valid_setup blank.setup ≡ false = blank-wrong in
    let z : ◌≡◌ {A = Bool} true false = sym r ∙ w in
    let y : ◌≡◌ {A = ℕ} 0 1 = cc in omega arith

-- the state of an accepted start has the set-up that it was started with
start-state : (u : Setup) (time draw : ℕ) → start_refusal u time draw ≡ 0
    → ◌≡◌ {A = State} (record { setup = u; progress = (start_of u time draw).state.progress }) (start_of u time draw).state
unfolding start_of
start-state u time draw h = let t : eqb (start_refusal u time draw) 0 ≡ true = eq-eqb _ 0 h in simp t

module _ (b setup : List ℕ) (time draw : ℕ) where
  -- an accepted start was handed buffers of the right lengths
  blank-for : eqb (length b) state_size ≡ false → setup_for setup (length b) ≡ blank.setup
  unfolding setup_for
  blank-for e = simp e

  long_state : start_refusal (setup_for setup (length b)) time draw ≡ 0 → eqb (length b) state_size ≡ true
  long_state h = told _ (λ e. blank-start time draw (rw (blank-for e) at h))

  for_long : eqb (length b) state_size ≡ true → setup_for setup (length b) ≡ setup_of setup
  unfolding setup_for
  for_long e = simp e

  blank_of : eqb (length setup) setup_size ≡ false → setup_of setup ≡ blank.setup
  unfolding setup_of
  blank_of e = simp e

  long_setup : start_refusal (setup_of setup) time draw ≡ 0 → eqb (length setup) setup_size ≡ true
  long_setup h = told _ (λ e. blank-start time draw (rw (blank_of e) at h))

  accepted_says : start_refusal (setup_for setup (length b)) time draw ≡ 0
      → state_with (with_setup b setup) (started b setup time draw).state.progress ≡ (started b setup time draw).state
  accepted_says h =
      let t : eqb (length b) state_size ≡ true = long_state h in
      let e : setup_for setup (length b) ≡ setup_of setup = for_long t in
      let u : eqb (length setup) setup_size ≡ true = long_setup (rw e at h) in
      let progress = (started b setup time draw).state.progress in
      whole.started b setup progress (eqb-true _ state_size t) (eqb-true _ setup_size u)
      ∙ ap (λ (x : Setup). record { setup = x; progress = progress }) (sym e)
      ∙ start-state (setup_for setup (length b)) time draw h

  module _ {u : Setup} {r : Started} {a : Called} {n : ℕ} (is-setup : u ≡ setup_for setup (length b)) (is-answer : r ≡ start_of u time draw)
      (is-refusal : n ≡ refusal_of r.answer) (is-called : a ≡ called_with r.answer false) where
    is-started : r ≡ started b setup time draw
    is-started = is-answer ∙ ap (λ (x : Setup). start_of x time draw) is-setup

    is_number : n ≡ refusal_of (started b setup time draw).answer
    is_number = rw is-started at is-refusal

    pub start-kept : (n ≡ 0 → ⊥) → Starts b setup time draw a b
    unfolding started_bytes started_state
    start-kept refused =
        let f : eqb (refusal_of (started b setup time draw).answer) 0 ≡ false = ne_eqb _ 0 (λ z. refused (is_number ∙ z)) in
        record { answers = rw is-started at is-called; bytes = simp f; says = simp f }

    pub start-taken : {b₁ b' : List ℕ} → n ≡ 0 → b₁ ≡ with_setup b setup
        → (b' ≡ with_progress b₁ r.state.progress) × (decode b' ≡ state_with b₁ r.state.progress) → Starts b setup time draw a b'
    unfolding started_bytes started_state
    start-taken zero w h =
        let g : start_refusal (setup_for setup (length b)) time draw ≡ 0 = sym (start-number (setup_for setup (length b)) time draw) ∙ sym is_number ∙ zero in
        let t : eqb (refusal_of (started b setup time draw).answer) 0 ≡ true = eq-eqb _ 0 (sym is_number ∙ zero) in
        let l : _ = rw (w, is-started) at h in
        record { answers = rw is-started at is-called; bytes = simp t l.0; says = simp t (l.1 ∙ accepted_says g) }
