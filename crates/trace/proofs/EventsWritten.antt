-- An event that was read stands in the trace as the writer writes it. Assumes nothing.
use mathlib.Core.Path.{◌≡◌, refl, sym, ap, subst, ◌∙◌}
use mathlib.Core.List.{List, [], ◌++◌, append_assoc}
use mathlib.Core.Bool.{Bool, true, false, cond, ◌&&◌}
use Prim.Native.Nat.{ℕ, ◌+◌, ◌≤◌}
use native.Mathlib.Omega.{arith}
use borrow.Author.Tests.{le-leb}
use lib.ListN.{length, drop}
use lib.Dec.{leb}
use Rattle.std.specs.Prelude.{Option, Some, None, Result, Ok, Err}
use Rattle.trace.specs.reading.Reading.{refused}
use Rattle.trace.specs.declared.reading.Refused.{Refused}
use Rattle.wire.specs.octets.Octets.{byte_at, word16}
use Rattle.claims.specs.declared.holds.Address.{Address}
use Rattle.trace.specs.records.Numbers.{word64, bytes16}
use Rattle.trace.specs.records.Records.{record_at}
use Rattle.trace.specs.reading.Reading.{no_source, usual_hold, is_usual, pieces_of, pieces_at, data_step, with_data, alone_step, behind_source, step_with, step_at}
use Rattle.trace.specs.reading.Events.{occurrence, data_from, data_in}
use Rattle.trace.specs.writing.Bytes.{headed, pieces_for, pieces_over, source_bytes, source_over, packet_numbers, packet_bytes, bytes_of}
use Rattle.trace.specs.writing.Sizes.{fits64, can_be_written}
use Rattle.trace.specs.declared.records.Kind.TheVariants as kind
use Rattle.trace.specs.declared.records.Record.{Record}
use Rattle.trace.specs.declared.records.Record.TheVariants as is
use Rattle.trace.specs.declared.reading.Event.{Event}
use Rattle.trace.specs.declared.reading.Event.TheVariants as event
use Rattle.trace.specs.declared.reading.Entry.{Entry}
use Rattle.trace.proofs.records.Standing.{stand}
use Rattle.trace.proofs.reading.Placed.{pieces_end, same_entry, not-refused, not_end}
use Rattle.trace.proofs.reading.Gathered.{length-data}
use Rattle.trace.proofs.Numbers.{Bytes, word_small, byte_of-kind}
use Rattle.trace.proofs.PiecesWritten.{pieces_written}
use Rattle.trace.proofs.RecordsWritten.{fits-there, headed-there, pair_there, claim_there, packet_there, source_there}

-- an entry of a trace stands there as the writer writes it, and can be written
pub record Wrote (p : List ℕ) (at : ℕ) (e : Entry) : Type 0 where
  pub bytes : drop at p ≡ bytes_of (occurrence e.event (data_in p e)) ++ drop e.next p
  pub fits : can_be_written (occurrence e.event (data_in p e)) ≡ true

-- numbers that were read fit their fields
small : (v : ℕ) → v ≤ 65535 → leb v 65535 ≡ true
small v h = le-leb v 65535 h

module _ (p : List ℕ) (at : ℕ) (e : Entry) where
  alone-wrote : (v : Event) (n : ℕ) → drop at p ≡ bytes_of (occurrence v []) ++ drop n p → can_be_written (occurrence v []) ≡ true → alone_step v n ≡ Ok (Some e)
      → Wrote p at e
  unfolding data_from
  alone-wrote v n s c q = subst (Wrote p at) (same_entry q) (record { bytes = s; fits = c })

  data_wrote : (v : Event) (first len : ℕ) (x : List ℕ) → first ≤ length p → drop at p ≡ x ++ drop first p
      → ((bytes : List ℕ) → length bytes ≡ len → (bytes_of (occurrence v bytes) ≡ x ++ pieces_for bytes) × (can_be_written (occurrence v bytes) ≡ true))
      → with_data p v first len ≡ Ok (Some e) → Wrote p at e
  unfolding with_data
  data_wrote v first len x h s f q = go (pieces_at (pieces_of len) p first len) refl q
    where
      go : (y : Result ℕ Refused) → pieces_at (pieces_of len) p first len ≡ y → data_step v first len y ≡ Ok (Some e) → Wrote p at e
      go (Ok n) ey qy =
          let bytes = data_from (pieces_of len) p first len in
          let ends = pieces_end p (pieces_of len) first len n h ey in
          let size : length bytes ≡ len = length-data p first len (omega arith) in
          let known = f bytes size in
          let stands = pieces_written (pieces_of len) p first len n refl h ey in
          subst (Wrote p at) (same_entry qy) (record {
            bytes =
                s ∙ ap (λ (l : List ℕ). x ++ l) (stands ∙ ap (λ (k : ℕ). pieces_over (pieces_of k) bytes ++ drop n p) (sym size))
                ∙ sym (append_assoc x (pieces_for bytes) (drop n p)) ∙ ap (λ (l : List ℕ). l ++ drop n p) (sym known.0);
            fits = known.1;
          })
      go (Err o) ey qy = not-refused qy

module _ (p : List ℕ) (b : Bytes p) (at : ℕ) (e : Entry) where
  w : ℕ
  w = word64 p (at + 1)

  byte_small : (i : ℕ) → leb (byte_at p i) 255 ≡ true
  byte_small i = le-leb (byte_at p i) 255 (let k = b i in omega arith)

  word_fits : (i : ℕ) → leb (word16 p i) 65535 ≡ true
  word_fits i = le-leb (word16 p i) 65535 (word_small p b i)

  -- a packet whose records stand at `to`, behind `x`, which is its source or nothing
  packet_wrote : (to : ℕ) (from : Address) (hold : ℕ) (x : List ℕ) → byte_at p to ≡ 2 → to + 14 ≤ length p → drop at p ≡ x ++ drop to p
      → source_over from hold ≡ x → fits64 from.high ≡ true → fits64 from.low ≡ true → leb hold 65535 ≡ true
      → with_data p (event.Packet (word64 p (to + 1)) from (word16 p (to + 9)) (byte_at p (to + 11)) hold) (to + 14) (word16 p (to + 12)) ≡ Ok (Some e)
      → Wrote p at e
  packet_wrote to from hold x k h s ex fh fl fd q =
      let time = word64 p (to + 1) in
      let numbers = headed 2 time ++ packet_numbers (word16 p (to + 9)) (byte_at p (to + 11)) (word16 p (to + 12)) in
      data_wrote p at e _ (to + 14) (word16 p (to + 12)) (x ++ numbers) h
      (s ∙ ap (λ (l : List ℕ). x ++ l) (packet_there p b to k h) ∙ sym (append_assoc x numbers (drop (to + 14) p)))
      (λ bytes size. (
        ap (λ (l : List ℕ). l ++ packet_bytes time (word16 p (to + 9)) (byte_at p (to + 11)) bytes) ex
            ∙ ap (λ (n : ℕ). x ++ ((headed 2 time ++ packet_numbers (word16 p (to + 9)) (byte_at p (to + 11)) n) ++ pieces_for bytes)) size
            ∙ sym (append_assoc x numbers (pieces_for bytes)),
        simp (size, fits-there p b (to + 1), fh, fl, fd, word_fits (to + 9), byte_small (to + 11), word_fits (to + 12)),
      ))
      q

  behind-wrote : (from : Address) (hold : ℕ) (x : List ℕ) → drop at p ≡ x ++ drop (at + 19) p
      → source_over from hold ≡ x → fits64 from.high ≡ true → fits64 from.low ≡ true → leb hold 65535 ≡ true
      → (r : Option Record) → record_at p (at + 19) ≡ r → behind_source p (at + 19) from hold r ≡ Ok (Some e) → Wrote p at e
  behind-wrote from hold x s ex fh fl fd (Some (is.Packet time q draw len)) er z =
      let st = stand p (at + 19) (is.Packet time q draw len) er in
      subst (λ (r : Option Record). behind_source p (at + 19) from hold r ≡ Ok (Some e) → Wrote p at e) st.fields
      (packet_wrote (at + 19) from hold x (byte_of-kind (byte_at p (at + 19)) kind.Packet st.kind) st.whole s ex fh fl fd) z
  behind-wrote from hold x s ex fh fl fd (Some (is.Tick time)) er z = not-refused z
  behind-wrote from hold x s ex fh fl fd (Some is.Piece) er z = not-refused z
  behind-wrote from hold x s ex fh fl fd (Some (is.Claim last k state)) er z = not-refused z
  behind-wrote from hold x s ex fh fl fd (Some (is.Source from2 hold2)) er z = not-refused z
  behind-wrote from hold x s ex fh fl fd (Some (is.Stop time)) er z = not-refused z
  behind-wrote from hold x s ex fh fl fd (Some (is.Port time q)) er z = not-refused z
  behind-wrote from hold x s ex fh fl fd (Some (is.Txt time len)) er z = not-refused z
  behind-wrote from hold x s ex fh fl fd None er z = not-refused z

  source_wrote : (from : Address) (hold : ℕ) → drop at p ≡ source_bytes from hold ++ drop (at + 19) p → fits64 from.high ≡ true → fits64 from.low ≡ true
      → leb hold 65535 ≡ true → (t : Bool) → is_usual from hold ≡ t
      → cond t (refused at) (behind_source p (at + 19) from hold (record_at p (at + 19))) ≡ Ok (Some e) → Wrote p at e
  source_wrote from hold s fh fl fd true u z = not-refused z
  source_wrote from hold s fh fl fd false u z = behind-wrote from hold (source_bytes from hold) s (simp u) fh fl fd (record_at p (at + 19)) refl z

  claim_wrote : byte_at p at ≡ 4 → at + 11 ≤ length p → (t : Bool) → (leb (byte_at p (at + 9)) 1 && leb (byte_at p (at + 10)) 4) ≡ t
      → step_with p at (cond t (Some (is.Claim w (byte_at p (at + 9)) (byte_at p (at + 10)))) None) ≡ Ok (Some e) → Wrote p at e
  unfolding w
  claim_wrote k h true et z =
      alone-wrote p at e (event.Claim w (byte_at p (at + 9)) (byte_at p (at + 10))) (at + 11) (claim_there p b at k h) (simp (fits-there p b (at + 1), et)) z
  claim_wrote k h false et z = not-refused z

  with-wrote : (r : Option Record) → record_at p at ≡ r → step_with p at r ≡ Ok (Some e) → Wrote p at e
  unfolding w
  with-wrote (Some (is.Tick time)) er q =
      let st = stand p at (is.Tick time) er in
      subst (λ (r : Option Record). step_with p at r ≡ Ok (Some e) → Wrote p at e) st.fields
      (alone-wrote p at e (event.Tick w) (at + 9) (headed-there p b at 1 (byte_of-kind (byte_at p at) kind.Tick st.kind) st.whole)
      (simp (fits-there p b (at + 1)))) q
  with-wrote (Some (is.Packet time q draw len)) er z =
      let st = stand p at (is.Packet time q draw len) er in
      subst (λ (r : Option Record). step_with p at r ≡ Ok (Some e) → Wrote p at e) st.fields
      (packet_wrote at no_source usual_hold [] (byte_of-kind (byte_at p at) kind.Packet st.kind) st.whole refl refl refl refl refl) z
  with-wrote (Some is.Piece) er q = not-refused q
  with-wrote (Some (is.Claim last k state)) er q =
      let st = stand p at (is.Claim last k state) er in
      subst (λ (r : Option Record). step_with p at r ≡ Ok (Some e) → Wrote p at e) st.fields
      (claim_wrote (byte_of-kind (byte_at p at) kind.Claim st.kind) st.whole (leb (byte_at p (at + 9)) 1 && leb (byte_at p (at + 10)) 4) refl) q
  with-wrote (Some (is.Source from hold)) er q =
      let st = stand p at (is.Source from hold) er in
      let told : Address = record { high = word64 p (at + 1); low = word64 p (at + 9) } in
      subst (λ (r : Option Record). step_with p at r ≡ Ok (Some e) → Wrote p at e) st.fields
      (source_wrote told (word16 p (at + 17)) (source_there p b at (byte_of-kind (byte_at p at) kind.Source st.kind) st.whole)
      (fits-there p b (at + 1)) (fits-there p b (at + 9)) (word_fits (at + 17)) (is_usual told (word16 p (at + 17))) refl) q
  with-wrote (Some (is.Stop time)) er q =
      let st = stand p at (is.Stop time) er in
      subst (λ (r : Option Record). step_with p at r ≡ Ok (Some e) → Wrote p at e) st.fields
      (alone-wrote p at e (event.Stop w) (at + 9) (headed-there p b at 6 (byte_of-kind (byte_at p at) kind.Stop st.kind) st.whole)
      (simp (fits-there p b (at + 1)))) q
  with-wrote (Some (is.Port time n)) er q =
      let st = stand p at (is.Port time n) er in
      subst (λ (r : Option Record). step_with p at r ≡ Ok (Some e) → Wrote p at e) st.fields
      (alone-wrote p at e (event.Port w (word16 p (at + 9))) (at + 11) (pair_there p b at 7 (byte_of-kind (byte_at p at) kind.Port st.kind) st.whole)
      (simp (fits-there p b (at + 1), word_fits (at + 9)))) q
  with-wrote (Some (is.Txt time n)) er q =
      let st = stand p at (is.Txt time n) er in
      subst (λ (r : Option Record). step_with p at r ≡ Ok (Some e) → Wrote p at e) st.fields
      (data_wrote p at e (event.Txt w) (at + 11) (word16 p (at + 9)) (headed 8 w ++ bytes16 (word16 p (at + 9))) st.whole
      (pair_there p b at 8 (byte_of-kind (byte_at p at) kind.Txt st.kind) st.whole)
      (λ bytes size. (
        ap (λ (k : ℕ). (headed 8 w ++ bytes16 k) ++ pieces_for bytes) size,
        simp (size, fits-there p b (at + 1), word_fits (at + 9)),
      ))) q
  with-wrote None er q = not-refused q

  pub wrote : step_at p at ≡ Ok (Some e) → Wrote p at e
  unfolding step_at
  wrote q = go (leb (length p) at) q
    where
      go : (t : Bool) → cond t (Ok None) (step_with p at (record_at p at)) ≡ Ok (Some e) → Wrote p at e
      go true z = not_end z
      go false z = with-wrote (record_at p at) refl z
