-- A state's bytes after what changes or a set-up was laid into them, and after neither was. Assumes nothing.
use mathlib.Core.Path.{◌≡◌, sym, ap, ◌∙◌}
use mathlib.Core.Bool.{true, false}
use mathlib.Core.List.{List, ◌++◌}
use Prim.Native.Nat.{ℕ, ◌+◌, ◌≤◌}
use native.Mathlib.Omega.{arith}
use borrow.Author.Tests.{eq-eqb}
use lib.Dec.{eqb}
use lib.ListN.{length, take}
use Rattle.claims.specs.declared.Progress.{Progress}
use Rattle.capi_responder.specs.codec.Layout.{setup_size, last, state_size}
use Rattle.capi_responder.specs.codec.Numbers.{bytes64}
use Rattle.capi_responder.specs.codec.Codec.{decode, progress_bytes, ProgressFits, with_progress, with_time, state_with, with_setup}
use Rattle.capi_responder.proofs.codec.Lengths.{length-progress}
use Rattle.capi_responder.proofs.codec.Whole.{round_trip}
use Rattle.capi_responder.specs.encoder.Laid.{Laid}
use Rattle.capi_responder.proofs.encoder.Parts.{laid-behind, laid-front}

module _ (b : List ℕ) (progress : Progress) where
  pub progress_written : (out : List ℕ) → length b ≡ state_size → Laid b setup_size (progress_bytes progress) out × ProgressFits progress
      → (out ≡ with_progress b progress) × (decode out ≡ state_with b progress)
  unfolding with_progress state_with
  progress_written out e l =
      let t : eqb (length b) state_size ≡ true = eq-eqb _ state_size e in
      let w : setup_size + length (progress_bytes progress) ≡ length b = omega (arith, length-progress progress) in
      let o : out ≡ take setup_size b ++ progress_bytes progress = laid-behind setup_size b (progress_bytes progress) out w l.0 in
      (simp t o, simp t (ap decode o ∙ round_trip b progress e l.1))

  pub progress_kept : eqb (length b) state_size ≡ false → (b ≡ with_progress b progress) × (decode b ≡ state_with b progress)
  unfolding with_progress state_with decode
  progress_kept t = (simp t, simp t)

-- the time of the last call alone
module _ (b : List ℕ) (time : ℕ) where
  pub time_written : (out : List ℕ) → length b ≡ state_size → Laid b last (bytes64 time) out → out ≡ with_time b time
  unfolding with_time bytes64
  time_written out e l = let t : eqb (length b) state_size ≡ true = eq-eqb _ state_size e in simp t (laid-behind last b (bytes64 time) out (sym e) l)

  pub time_kept : eqb (length b) state_size ≡ false → b ≡ with_time b time
  unfolding with_time
  time_kept t = simp t

module _ (b setup : List ℕ) where
  pub setup_written : (out : List ℕ) → length b ≡ state_size → length setup ≡ setup_size → Laid b 0 setup out → out ≡ with_setup b setup
  unfolding with_setup
  setup_written out e f l =
      let t : eqb (length b) state_size ≡ true = eq-eqb _ state_size e in
      let u : eqb (length setup) setup_size ≡ true = eq-eqb _ setup_size f in
      let k : setup_size ≤ length b = omega arith in
      simp (t, u) (laid-front setup_size b setup out f k l)
