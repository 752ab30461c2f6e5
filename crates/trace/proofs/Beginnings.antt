-- The records and pieces of a beginning of a trace: those that are whole in it are read as in the whole trace, those that are cut are malformed.
-- Assumes nothing.
use mathlib.Core.Path.{◌≡◌, refl, sym, ap, ◌∙◌}
use mathlib.Core.List.{List, ◌++◌}
use mathlib.Core.Bool.{Bool, true, false}
use Prim.Native.Nat.{ℕ, zero, suc, ◌+◌, ◌-◌, ◌*◌, ◌<◌, ◌≤◌}
use native.Mathlib.Omega.{arith}
use borrow.Author.Tests.{ltb-true, ltb-false}
use lib.ListN.{length, take, drop, length-append, length-drop, get_or-append, get_or-eq_default}
use lib.Seq.{take-append-le, drop-append-le}
use lib.Dec.{ltb}
use Rattle.std.specs.Prelude.{Option, Some, None}
use Rattle.wire.specs.octets.Octets.{byte_at, word16, word32}
use Rattle.trace.specs.records.Numbers.{word64}
use Rattle.trace.specs.records.Records.{kind_of, size_of, size_by, size_at, claim_of, kind_at, fields_at, record_at}
use Rattle.trace.specs.reading.Reading.{all_zero, padding_at, is_padded, is_piece}
use Rattle.trace.specs.reading.Events.{in_piece, data_from}
use Rattle.trace.specs.declared.records.Kind.{Kind}
use Rattle.trace.specs.declared.records.Kind.TheVariants as kind
use Rattle.trace.specs.declared.records.Record.{Record}
use Rattle.trace.specs.declared.records.Record.TheVariants as is
use Rattle.trace.proofs.records.Whole.{record_short, record_unknown, record_whole}
use Rattle.trace.proofs.records.Standing.{kind_in, stand, never}
use Rattle.trace.proofs.reading.Gathered.{in_piece_most}
use Rattle.trace.proofs.First.{piece_kind}

-- a beginning `p` of `p ++ more`
module _ (p more : List ℕ) where
  abbrev pub t : List ℕ
  t = p ++ more

  pub longer : length p ≤ length t
  longer = omega (arith, length-append p more)

  byte_same : (i : ℕ) → i < length p → byte_at p i ≡ byte_at t i
  byte_same i h = sym (get_or-append p more 0 i h)

  word16-same : (i : ℕ) → i + 2 ≤ length p → word16 p i ≡ word16 t i
  word16-same i h = omega (arith, byte_same i (omega arith), byte_same (i + 1) (omega arith))

  word32-same : (i : ℕ) → i + 4 ≤ length p → word32 p i ≡ word32 t i
  word32-same i h = omega (arith, word16-same i (omega arith), word16-same (i + 2) (omega arith))

  word64-same : (i : ℕ) → i + 8 ≤ length p → word64 p i ≡ word64 t i
  word64-same i h = omega (arith, word32-same i (omega arith), word32-same (i + 4) (omega arith))

  fields-same : (at : ℕ) (k : Kind) → at + size_of k ≤ length p → fields_at p at k ≡ fields_at t at k
  fields-same at kind.Tick h = ap (λ (n : ℕ). Some (is.Tick n)) (word64-same (at + 1) (omega arith))
  fields-same at kind.Packet h = λ i. Some (is.Packet (word64-same (at + 1) (omega arith) i) (word16-same (at + 9) (omega arith) i) (byte_same (at + 11) (omega arith) i) (word16-same (at + 12) (omega arith) i))
  fields-same at kind.Piece h = refl
  fields-same at kind.Claim h = λ i. claim_of (word64-same (at + 1) (omega arith) i) (byte_same (at + 9) (omega arith) i) (byte_same (at + 10) (omega arith) i)
  fields-same at kind.Source h = λ i. Some (is.Source (record { high = word64-same (at + 1) (omega arith) i; low = word64-same (at + 9) (omega arith) i }) (word16-same (at + 17) (omega arith) i))
  fields-same at kind.Stop h = ap (λ (n : ℕ). Some (is.Stop n)) (word64-same (at + 1) (omega arith))
  fields-same at kind.Port h = λ i. Some (is.Port (word64-same (at + 1) (omega arith) i) (word16-same (at + 9) (omega arith) i))
  fields-same at kind.Txt h = λ i. Some (is.Txt (word64-same (at + 1) (omega arith) i) (word16-same (at + 9) (omega arith) i))

  -- a record that is whole in the beginning is read there
  pub kept : (at : ℕ) (r : Record) → record_at t at ≡ Some r → at < length p → at + size_of (kind_in r) ≤ length p → record_at p at ≡ Some r
  kept at r er h size =
      let st = stand t at r er in
      sym (record_whole p at (kind_in r) (Some r) (sym (ap kind_of (byte_same at h) ∙ st.kind)) size (sym (fields-same at (kind_in r) size ∙ st.fields)))

  -- one that is not is malformed there
  no_more : (at : ℕ) → length p ≤ at → record_at p at ≡ None
  no_more at h = let zero-there : byte_at p at ≡ 0 = get_or-eq_default p 0 h in sym (record_unknown p at (sym (ap kind_of zero-there)))

  cut_by : (at : ℕ) → length p < at + size_at t at → (b : Bool) → ltb at (length p) ≡ b → record_at p at ≡ None
  cut_by at h true e =
      let inside : at < length p = ltb-true at (length p) e in
      sym (record_short p at (kind_at t at) (ap kind_of (sym (byte_same at inside))) h)
  cut_by at h false e = no_more at (ltb-false at (length p) e)

  pub cut : (at : ℕ) → length p < at + size_at t at → record_at p at ≡ None
  cut at h = cut_by at h (ltb at (length p)) refl

  -- ---- pieces

  part_same : (i n : ℕ) → i + n ≤ length p → take n (drop i t) ≡ take n (drop i p)
  part_same i n h =
      ap (take n) (drop-append-le i p more (omega arith)) ∙ take-append-le n (drop i p) more (omega (arith, length-drop i p))

  padding_by : (at left : ℕ) → at + 17 ≤ length p → (b : Bool) → ltb left 16 ≡ b → padding_at p at left ≡ padding_at t at left
  padding_by at left h true e = sym (part_same (at + 1 + left) (16 - left) (omega (arith, ltb-true left 16 e)))
  padding_by at left h false e =
      let z : 16 - left ≡ 0 = omega (arith, ltb-false left 16 e) in
      ap (λ (n : ℕ). take n (drop (at + 1 + left) p)) z ∙ sym (ap (λ (n : ℕ). take n (drop (at + 1 + left) t)) z)

  padded-same : (at left : ℕ) (r : Option Record) → at + 17 ≤ length p → is_padded p at left r ≡ is_padded t at left r
  padded-same at left (Some is.Piece) h = ap all_zero (padding_by at left h (ltb left 16) refl)
  padded-same at left (Some (is.Tick time)) h = refl
  padded-same at left (Some (is.Packet time q draw len)) h = refl
  padded-same at left (Some (is.Claim last k state)) h = refl
  padded-same at left (Some (is.Source from hold)) h = refl
  padded-same at left (Some (is.Stop time)) h = refl
  padded-same at left (Some (is.Port time q)) h = refl
  padded-same at left (Some (is.Txt time len)) h = refl
  padded-same at left None h = refl

  piece_is : (at left : ℕ) (r : Option Record) → is_padded t at left r ≡ true → r ≡ Some is.Piece
  piece_is at left (Some is.Piece) h = refl
  piece_is at left (Some (is.Tick time)) h = never h
  piece_is at left (Some (is.Packet time q draw len)) h = never h
  piece_is at left (Some (is.Claim last k state)) h = never h
  piece_is at left (Some (is.Source from hold)) h = never h
  piece_is at left (Some (is.Stop time)) h = never h
  piece_is at left (Some (is.Port time q)) h = never h
  piece_is at left (Some (is.Txt time len)) h = never h
  piece_is at left None h = never h

  pub piece_kept : (at left : ℕ) → is_piece t at left ≡ true → at + 17 ≤ length p → is_piece p at left ≡ true
  unfolding is_piece
  piece_kept at left e h =
      let is-piece = piece_is at left (record_at t at) e in
      let here = kept at is.Piece is-piece (omega arith) h in
      ap (is_padded p at left) here ∙ padded-same at left (Some is.Piece) h ∙ ap (is_padded t at left) (sym is-piece) ∙ e

  pub piece_cut : (at left : ℕ) → is_piece t at left ≡ true → length p < at + 17 → is_piece p at left ≡ false
  unfolding is_piece
  piece_cut at left e h =
      let size : at + size_at t at ≡ at + 17 = ap (λ (k : Option Kind). at + size_by k) (piece_kind t at left e) in
      ap (is_padded p at left) (cut at (omega arith))

  pub data_same : (k at left : ℕ) → at + 17 * k ≤ length p → data_from k p at left ≡ data_from k t at left
  unfolding data_from
  data_same zero at left h = refl
  data_same (suc k) at left h =
      let here = part_same (at + 1) (in_piece left) (omega (arith, in_piece_most left)) in
      let rest = data_same k (at + 17) (left - 16) (omega arith) in
      λ i. sym here i ++ rest i
