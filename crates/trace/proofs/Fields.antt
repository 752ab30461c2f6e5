-- Each record that stands in a trace is read as that record. Assumes nothing.
use mathlib.Core.Path.{◌≡◌, refl, sym, ap, ◌∙◌}
use mathlib.Core.List.{List, [], ◌∷◌, ◌++◌}
use Prim.Native.Nat.{ℕ, ◌+◌, ◌<◌, ◌≤◌}
use native.Mathlib.Omega.{arith}
use borrow.Author.Tests.{le-leb}
use lib.ListN.{length}
use Rattle.std.specs.Prelude.{Some}
use Rattle.wire.specs.octets.Octets.{byte_at, word16}
use Rattle.claims.specs.declared.holds.Address.{Address}
use Rattle.trace.specs.records.Numbers.{word64, bytes16, bytes64}
use Rattle.trace.specs.records.Records.{kind_of, size_of, claim_of, fields_at, record_at}
use Rattle.trace.specs.writing.Bytes.{headed, piece_of, source_bytes, packet_numbers}
use Rattle.trace.specs.declared.records.Kind.{Kind}
use Rattle.trace.specs.declared.records.Kind.TheVariants as kind
use Rattle.trace.specs.declared.records.Record.TheVariants as is
use Rattle.trace.proofs.records.Whole.{record_whole}
use Rattle.trace.proofs.writing.Laid.{length-headed, length_high}
use Rattle.trace.proofs.Stands.{Stands, front, behind, within, byte_read, word16-read, number_read}

claim_known : (last k state : ℕ) → k ≤ 1 → state ≤ 4 → claim_of last k state ≡ Some (is.Claim last k state)
claim_known last k state hk hs = simp (le-leb k 1 hk, le-leb state 4 hs)

module _ {p : List ℕ} {at : ℕ} {rest : List ℕ} where
  by_kind : (b : ℕ) (x : List ℕ) → Stands p at (b ∷ x) rest → (k : Kind) → kind_of b ≡ Some k → at + size_of k ≤ length p → record_at p at ≡ fields_at p at k
  by_kind b x s k e w = sym (record_whole p at k (fields_at p at k) (sym (ap kind_of (byte_read b x s) ∙ e)) w refl)

  -- the number behind a kind
  headed-read : (k n : ℕ) → n < 18446744073709551616 → Stands p at (headed k n) rest → word64 p (at + 1) ≡ n
  headed-read k n h s = number_read n h (behind (k ∷ []) (bytes64 n) s 1 refl)

  pub tick-read : (time : ℕ) → time < 18446744073709551616 → Stands p at (headed 1 time) rest → record_at p at ≡ Some (is.Tick time)
  unfolding bytes64
  tick-read time h s = by_kind 1 _ s kind.Tick refl (within _ s (omega arith)) ∙ ap (λ (n : ℕ). Some (is.Tick n)) (headed-read 1 time h s)

  pub stop-read : (time : ℕ) → time < 18446744073709551616 → Stands p at (headed 6 time) rest → record_at p at ≡ Some (is.Stop time)
  unfolding bytes64
  stop-read time h s = by_kind 6 _ s kind.Stop refl (within _ s (omega arith)) ∙ ap (λ (n : ℕ). Some (is.Stop n)) (headed-read 6 time h s)

module _ {p : List ℕ} {at : ℕ} {rest : List ℕ} where
  pub port-read : (time n : ℕ) → time < 18446744073709551616 → Stands p at (headed 7 time ++ bytes16 n) rest → record_at p at ≡ Some (is.Port time n)
  unfolding bytes64
  port-read time n h s =
      by_kind 7 _ s kind.Port refl (within _ s (omega arith))
      ∙ ap (λ (t : ℕ). Some (is.Port t (word16 p (at + 9)))) (headed-read 7 time h (front (headed 7 time) (bytes16 n) s))
      ∙ ap (λ (n : ℕ). Some (is.Port time n)) (word16-read n (behind (headed 7 time) (bytes16 n) s 9 (length-headed 7 time)))

  pub txt-read : (time n : ℕ) → time < 18446744073709551616 → Stands p at (headed 8 time ++ bytes16 n) rest → record_at p at ≡ Some (is.Txt time n)
  unfolding bytes64
  txt-read time n h s =
      by_kind 8 _ s kind.Txt refl (within _ s (omega arith))
      ∙ ap (λ (t : ℕ). Some (is.Txt t (word16 p (at + 9)))) (headed-read 8 time h (front (headed 8 time) (bytes16 n) s))
      ∙ ap (λ (n : ℕ). Some (is.Txt time n)) (word16-read n (behind (headed 8 time) (bytes16 n) s 9 (length-headed 8 time)))

  pub claim_read : (last k state : ℕ) → last < 18446744073709551616 → k ≤ 1 → state ≤ 4 → Stands p at (headed 4 last ++ (k ∷ state ∷ [])) rest
      → record_at p at ≡ Some (is.Claim last k state)
  unfolding bytes64
  claim_read last k state h hk hs s =
      let numbers = behind (headed 4 last) (k ∷ state ∷ []) s 9 (length-headed 4 last) in
      by_kind 4 _ s kind.Claim refl (within _ s (omega arith))
      ∙ ap (λ (t : ℕ). claim_of t (byte_at p (at + 9)) (byte_at p (at + 10))) (headed-read 4 last h (front (headed 4 last) (k ∷ state ∷ []) s))
      ∙ ap (λ (v : ℕ). claim_of last v (byte_at p (at + 10))) (byte_read k (state ∷ []) numbers)
      ∙ ap (claim_of last k) (ap (byte_at p) (omega arith) ∙ byte_read state [] (behind (k ∷ []) (state ∷ []) numbers 1 refl))
      ∙ claim_known last k state hk hs

  pub packet_read : (time q draw len : ℕ) → time < 18446744073709551616 → Stands p at (headed 2 time ++ packet_numbers q draw len) rest
      → record_at p at ≡ Some (is.Packet time q draw len)
  unfolding bytes64
  packet_read time q draw len h s =
      let numbers = behind (headed 2 time) (packet_numbers q draw len) s 9 (length-headed 2 time) in
      let draws = behind (bytes16 q) (draw ∷ bytes16 len) numbers 2 refl in
      let lens = behind (draw ∷ []) (bytes16 len) draws 1 refl in
      let at11 : at + 11 ≡ at + 9 + 2 = omega arith in
      let at12 : at + 12 ≡ at + 9 + 2 + 1 = omega arith in
      by_kind 2 _ s kind.Packet refl (within _ s (omega arith))
      ∙ ap (λ (t : ℕ). Some (is.Packet t (word16 p (at + 9)) (byte_at p (at + 11)) (word16 p (at + 12))))
      (headed-read 2 time h (front (headed 2 time) (packet_numbers q draw len) s))
      ∙ ap (λ (v : ℕ). Some (is.Packet time v (byte_at p (at + 11)) (word16 p (at + 12)))) (word16-read q (front (bytes16 q) (draw ∷ bytes16 len) numbers))
      ∙ ap (λ (v : ℕ). Some (is.Packet time q v (word16 p (at + 12)))) (ap (byte_at p) at11 ∙ byte_read draw (bytes16 len) draws)
      ∙ ap (λ (n : ℕ). Some (is.Packet time q draw n)) (ap (word16 p) at12 ∙ word16-read len lens)

  pub source_read : (from : Address) (hold : ℕ) → from.high < 18446744073709551616 → from.low < 18446744073709551616
      → Stands p at (source_bytes from hold) rest → record_at p at ≡ Some (is.Source from hold)
  unfolding bytes64
  source_read from hold hh hl s =
      let first = front (headed 5 from.high ++ bytes64 from.low) (bytes16 hold) s in
      let low = behind (headed 5 from.high) (bytes64 from.low) first 9 (length-headed 5 from.high) in
      let last = behind (headed 5 from.high ++ bytes64 from.low) (bytes16 hold) s 17 (length_high from.high from.low) in
      by_kind 5 _ s kind.Source refl (within _ s (omega arith))
      ∙ (λ i. Some (is.Source
      (record {
        high = headed-read 5 from.high hh (front (headed 5 from.high) (bytes64 from.low) first) i;
        low = number_read from.low hl low i;
      })
      (word16-read hold last i)))

  pub piece_read : (x : List ℕ) → length (piece_of x) ≡ 17 → Stands p at (piece_of x) rest → record_at p at ≡ Some is.Piece
  piece_read x e s = by_kind 3 _ s kind.Piece refl (omega (arith, within _ s (omega arith)))
