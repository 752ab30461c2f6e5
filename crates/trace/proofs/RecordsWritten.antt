-- The bytes that records were read from. Assumes nothing.
use mathlib.Core.Path.{◌≡◌, refl, sym, ap, ◌∙◌}
use mathlib.Core.List.{List, [], ◌∷◌, ◌++◌, append_assoc}
use mathlib.Core.Bool.{true}
use Prim.Native.Nat.{ℕ, ◌+◌, ◌≤◌}
use native.Mathlib.Omega.{arith}
use borrow.Author.Tests.{lt-ltb}
use lib.ListN.{length, drop}
use Rattle.wire.specs.octets.Octets.{byte_at, word16}
use Rattle.trace.specs.records.Numbers.{word64, bytes16, bytes64}
use Rattle.trace.specs.writing.Bytes.{headed, source_bytes, packet_numbers}
use Rattle.trace.specs.writing.Sizes.{fits64}
use Rattle.trace.proofs.Numbers.{Bytes, next_byte, pair, eight, word_wide}
use Rattle.trace.proofs.PiecesWritten.{moved}

module _ (p : List ℕ) (b : Bytes p) where
  pub fits-there : (i : ℕ) → fits64 (word64 p i) ≡ true
  fits-there i = lt-ltb (word64 p i) 18446744073709551616 (word_wide p b i)

  pub headed-there : (at k : ℕ) → byte_at p at ≡ k → at + 9 ≤ length p → drop at p ≡ headed k (word64 p (at + 1)) ++ drop (at + 9) p
  headed-there at k e h =
      next_byte p at (at + 1) refl (omega arith) ∙ ap (λ (v : ℕ). v ∷ drop (at + 1) p) e
      ∙ ap (λ (l : List ℕ). k ∷ l) (eight p b (at + 1) (omega arith) ∙ ap (λ (l : List ℕ). bytes64 (word64 p (at + 1)) ++ l) (moved p (at + 1 + 8) (at + 9) (omega arith)))

  -- a number of 16 bits behind it
  pub pair_there : (at k : ℕ) → byte_at p at ≡ k → at + 11 ≤ length p → drop at p ≡ (headed k (word64 p (at + 1)) ++ bytes16 (word16 p (at + 9))) ++ drop (at + 11) p
  pair_there at k e h =
      headed-there at k e (omega arith)
      ∙ ap (λ (l : List ℕ). headed k (word64 p (at + 1)) ++ l)
      (pair p b (at + 9) (omega arith) ∙ ap (λ (l : List ℕ). bytes16 (word16 p (at + 9)) ++ l) (moved p (at + 9 + 2) (at + 11) (omega arith)))
      ∙ sym (append_assoc (headed k (word64 p (at + 1))) (bytes16 (word16 p (at + 9))) (drop (at + 11) p))

  -- the bytes of each kind of record, at its numbers
  pub claim_there : (at : ℕ) → byte_at p at ≡ 4 → at + 11 ≤ length p
      → drop at p ≡ (headed 4 (word64 p (at + 1)) ++ (byte_at p (at + 9) ∷ byte_at p (at + 10) ∷ [])) ++ drop (at + 11) p
  claim_there at e h =
      headed-there at 4 e (omega arith)
      ∙ ap (λ (l : List ℕ). headed 4 (word64 p (at + 1)) ++ l)
      (next_byte p (at + 9) (at + 10) (omega arith) (omega arith)
      ∙ ap (λ (l : List ℕ). byte_at p (at + 9) ∷ l) (next_byte p (at + 10) (at + 11) (omega arith) (omega arith)))
      ∙ sym (append_assoc (headed 4 (word64 p (at + 1))) (byte_at p (at + 9) ∷ byte_at p (at + 10) ∷ []) (drop (at + 11) p))

  pub packet_there : (at : ℕ) → byte_at p at ≡ 2 → at + 14 ≤ length p
      → drop at p ≡ (headed 2 (word64 p (at + 1)) ++ packet_numbers (word16 p (at + 9)) (byte_at p (at + 11)) (word16 p (at + 12))) ++ drop (at + 14) p
  packet_there at e h =
      headed-there at 2 e (omega arith)
      ∙ ap (λ (l : List ℕ). headed 2 (word64 p (at + 1)) ++ l)
      (pair p b (at + 9) (omega arith)
      ∙ ap (λ (l : List ℕ). bytes16 (word16 p (at + 9)) ++ l)
      (moved p (at + 9 + 2) (at + 11) (omega arith) ∙ next_byte p (at + 11) (at + 12) (omega arith) (omega arith)
      ∙ ap (λ (l : List ℕ). byte_at p (at + 11) ∷ l) (pair p b (at + 12) (omega arith)
      ∙ ap (λ (l : List ℕ). bytes16 (word16 p (at + 12)) ++ l) (moved p (at + 12 + 2) (at + 14) (omega arith)))))
      ∙ sym (append_assoc (headed 2 (word64 p (at + 1))) (packet_numbers (word16 p (at + 9)) (byte_at p (at + 11)) (word16 p (at + 12))) (drop (at + 14) p))

  pub source_there : (at : ℕ) → byte_at p at ≡ 5 → at + 19 ≤ length p
      → drop at p ≡ source_bytes (record { high = word64 p (at + 1); low = word64 p (at + 9) }) (word16 p (at + 17)) ++ drop (at + 19) p
  source_there at e h =
      let high = headed 5 (word64 p (at + 1)) in
      let low = bytes64 (word64 p (at + 9)) in
      let hold = bytes16 (word16 p (at + 17)) in
      headed-there at 5 e (omega arith)
      ∙ ap (λ (l : List ℕ). high ++ l)
      (eight p b (at + 9) (omega arith)
      ∙ ap (λ (l : List ℕ). low ++ l) (moved p (at + 9 + 8) (at + 17) (omega arith) ∙ pair p b (at + 17) (omega arith)
      ∙ ap (λ (l : List ℕ). hold ++ l) (moved p (at + 17 + 2) (at + 19) (omega arith))))
      ∙ sym (append_assoc high low (hold ++ drop (at + 19) p))
      ∙ sym (append_assoc (high ++ low) hold (drop (at + 19) p))
