-- What a state's bytes say after what changes, or a set-up too, was written. Assumes nothing.
use mathlib.Core.Path.{◌≡◌, sym, ap, ◌∙◌}
use mathlib.Core.Bool.{true}
use mathlib.Core.List.{List, ◌++◌}
use Prim.Native.Nat.{ℕ}
use native.Mathlib.Omega.{arith}
use borrow.Author.Tests.{eq-eqb}
use lib.Dec.{eqb}
use lib.ListN.{length, take, drop, take-append-drop, length-append, length-drop}
use lib.Seq.{length-take-le}
use Rattle.claims.specs.declared.Progress.{Progress}
use Rattle.responder.specs.declared.State.{State}
use Rattle.capi_responder.specs.codec.Layout as layout
use Rattle.capi_responder.specs.codec.Parts.{setup_at, progress_at}
use Rattle.capi_responder.specs.codec.Codec.{setup_of, decode, progress_bytes, ProgressFits, state_with, with_setup}
use Rattle.capi_responder.proofs.codec.Lengths.{length-progress}
use Rattle.capi_responder.proofs.codec.Stands.{whole, behind}
use Rattle.capi_responder.proofs.codec.Round.{progress_read}
use Rattle.capi_responder.proofs.codec.Front.{setup_front}

-- the bytes of what changes, behind those of a set-up
pub state_read : (p : List ℕ) (progress : Progress) → length p ≡ layout.setup_size → ProgressFits progress
    → ◌≡◌ {A = State} (decode (p ++ progress_bytes progress)) (record { setup = setup_at p; progress = progress })
unfolding decode
state_read p progress e h =
    let q = progress_bytes progress in
    let n : length (p ++ q) ≡ layout.state_size = omega (arith, length-append p q, length-progress progress) in
    let t : eqb (length (p ++ q)) layout.state_size ≡ true = eq-eqb _ layout.state_size n in
    let s : setup_at (p ++ q) ≡ setup_at p = setup_front p q (omega arith) in
    let l : progress_at (p ++ q) ≡ progress = progress_read progress h (behind p q (whole (p ++ q)) layout.setup_size e) in
    simp t (λ i. record { setup = s i; progress = l i })

-- what is written of a state reads as the set-up that it had, with what was written
module _ (b : List ℕ) (progress : Progress) where
  pub round_trip : length b ≡ layout.state_size → ProgressFits progress
      → ◌≡◌ {A = State} (decode (take layout.setup_size b ++ progress_bytes progress)) (record { setup = setup_at b; progress = progress })
  round_trip e h =
      let p = take layout.setup_size b in
      let m : length p ≡ layout.setup_size = length-take-le layout.setup_size b (omega arith) in
      let s : setup_at b ≡ setup_at p = ap setup_at (sym (take-append-drop layout.setup_size b)) ∙ setup_front p (drop layout.setup_size b) (omega arith) in
      rw s (state_read p progress m h)

module _ (b setup : List ℕ) where
  -- a state that starts with a set-up has that set-up
  pub started : (progress : Progress) → length b ≡ layout.state_size → length setup ≡ layout.setup_size
      → ◌≡◌ {A = State} (state_with (with_setup b setup) progress) (record { setup = setup_of setup; progress = progress })
  unfolding state_with with_setup setup_of
  started progress e f =
      let q = drop layout.setup_size b in
      let t : eqb (length b) layout.state_size ≡ true = eq-eqb _ layout.state_size e in
      let u : eqb (length setup) layout.setup_size ≡ true = eq-eqb _ layout.setup_size f in
      let n : length (setup ++ q) ≡ layout.state_size = omega (arith, length-append setup q, length-drop layout.setup_size b) in
      let v : eqb (length (setup ++ q)) layout.state_size ≡ true = eq-eqb _ layout.state_size n in
      let s : setup_at (setup ++ q) ≡ setup_at setup = setup_front setup q (omega arith) in
      simp (t, u, v) (λ i. record { setup = s i; progress = progress })
