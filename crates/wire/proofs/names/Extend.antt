-- A name that is read in a packet is read the same where more bytes follow the packet, and where other bytes are in front of the name in the 255, as long
-- as they fit: a reading depends on nothing behind what it saw.
-- Assumes nothing.
use Prim.Native.Nat.{ℕ, zero, suc, ◌+◌, ◌*◌, ◌%◌, ◌<◌, ◌≤◌}
use mathlib.Core.Path.{◌≡◌, refl, sym, ap, ap₂, ◌∙◌}
use mathlib.Core.List.{List, ◌++◌}
use mathlib.Core.Bool.{Bool, true, false}
use native.Mathlib.Omega.{arith}
use borrow.Author.Tests.{ltb-true, ltb-false}
use lib.ListN.{length, get_or, take, drop, length-append, length-drop, get_or-append}
use lib.Seq.{take-append-le, drop-append-le, length-take-le}
use lib.Dec.{ltb}
use Rattle.wire.specs.declared.name_pieces.Piece.{Piece}
use Rattle.wire.specs.declared.name_pieces.Piece.TheVariants.{Root, Label, Pointer, Bad}
use Rattle.wire.specs.name_pieces.Pieces.{piece_at, target}
use Rattle.wire.specs.names.Names.{Reading, name, malformed, before, ending, read_piece, read_from, from_run, name_at}
use Rattle.wire.proofs.names.Rest.{unroll}
use Rattle.wire.proofs.name_pieces.Pieces.{is-root, is-label, is_pointer_lem, piece_past, piece_root, piece_label, piece_pointer}

-- a name has at least the zero byte
abbrev NonEmpty : Reading → Type 0
NonEmpty (name bs e) = 1 ≤ length bs
NonEmpty malformed = Unit {0}

nonempty_before : (xs : List ℕ) (x : Reading) → NonEmpty x → NonEmpty (before xs x)
nonempty_before xs (name ys e) h = omega (arith, length-append xs ys)
nonempty_before xs malformed h = tt

nonempty_ending : (e : ℕ) (x : Reading) → NonEmpty x → NonEmpty (ending e x)
nonempty_ending e (name ys d) h = h
nonempty_ending e malformed h = tt

nonempty_piece : (rest : ℕ → ℕ → ℕ → Reading) → ((s a u : ℕ) → NonEmpty (rest s a u)) → (p : List ℕ) (start at used : ℕ) (x : Piece) → NonEmpty (read_piece rest p start at used x)
nonempty_piece rest ih p start at used Root = omega arith
nonempty_piece rest ih p start at used (Label n) = nonempty_before (take (n + 1) (drop at p)) (rest start (at + 1 + n) (used + 1 + n)) (ih start (at + 1 + n) (used + 1 + n))
nonempty_piece rest ih p start at used (Pointer t) = nonempty_ending (at + 2) (rest t t used) (ih t t used)
nonempty_piece rest ih p start at used Bad = tt

nonempty : (f : ℕ) (p : List ℕ) (start at used : ℕ) → NonEmpty (read_from f p start at used)
unfolding read_from
nonempty zero p start at used = tt
nonempty (suc f) p start at used = nonempty_piece (read_from f p) (nonempty f p) p start at used (piece_at p start at used)

module _ (p q : List ℕ) where
  same_byte : (a : ℕ) → a < length p → get_or (p ++ q) a 0 ≡ get_or p a 0
  same_byte a h = get_or-append p q 0 a h

  same_part : (a n : ℕ) → a + n ≤ length p → take n (drop a (p ++ q)) ≡ take n (drop a p)
  same_part a n h =
      let k : n ≤ length (drop a p) = omega (arith, length-drop a p) in
      ap (take n) (drop-append-le a p q (omega arith)) ∙ take-append-le n (drop a p) q k

  -- one piece, where what follows it is read the same
  step : (rest : ℕ → ℕ → ℕ → Reading) → ((s a u : ℕ) → NonEmpty (rest s a u))
      → ((s a u u' : ℕ) (bs : List ℕ) (e : ℕ) → rest s a u ≡ name bs e → u' + length bs ≤ 255 → from_run (p ++ q) s a u' ≡ name bs e)
      → (start at used used' : ℕ) (bs : List ℕ) (e : ℕ) (x : Piece) → piece_at p start at used ≡ x → read_piece rest p start at used x ≡ name bs e → used' + length bs ≤ 255
      → from_run (p ++ q) start at used' ≡ name bs e
  step rest full ih start at used used' bs e Root is h fits =
      let f = is-root p start at used is in
      let m : at < length (p ++ q) = omega (arith, length-append p q, f.0) in
      unroll (p ++ q) start at used' ∙ ap (read_piece (from_run (p ++ q)) (p ++ q) start at used') (piece_root (p ++ q) start at used' m (same_byte at f.0 ∙ f.1)) ∙ h
  step rest full ih start at used used' bs e (Label n) is h fits = go (rest start (at + 1 + n) (used + 1 + n)) refl (full start (at + 1 + n) (used + 1 + n)) h
    where
      go : (x : Reading) → rest start (at + 1 + n) (used + 1 + n) ≡ x → NonEmpty x → before (take (n + 1) (drop at p)) x ≡ name bs e → from_run (p ++ q) start at used' ≡ name bs e
      go (name ys d) r some b =
          let f = is-label p start at used n is in
          let g : get_or (p ++ q) at 0 ≡ n = same_byte at f.0 ∙ f.5 in
          let k : n ≤ length (drop (at + 1) p) = omega (arith, length-drop (at + 1) p, f.3, f.5) in
          let body : take (n + 1) (drop at (p ++ q)) ≡ take (n + 1) (drop at p) = same_part at (n + 1) (omega (arith, f.3, f.5)) in
          let same : take (n + 1) (drop at p) ++ ys ≡ bs = cc in
          let end : d ≡ e = cc in
          let total : length bs ≡ n + 1 + length ys =
          ap length (sym same) ∙ length-append (take (n + 1) (drop at p)) ys
          ∙ ap (λ (m : ℕ). m + length ys) (length-take-le (n + 1) (drop at p) (omega (arith, length-drop at p, f.3, f.5))) in
          let at_label : piece_at (p ++ q) start at used' ≡ Label n =
          piece_label (p ++ q) start at used' (omega (arith, length-append p q, f.0)) (λ z. f.1 (sym (same_byte at f.0) ∙ z)) (omega (arith, f.2, f.5)) (omega (arith, length-append p q, f.3, f.5)) (omega arith)
          ∙ ap Label g in
          unroll (p ++ q) start at used' ∙ ap (read_piece (from_run (p ++ q)) (p ++ q) start at used') at_label
          ∙ ap₂ before body (ih start (at + 1 + n) (used + 1 + n) (used' + 1 + n) ys d r (omega arith)) ∙ b
      go malformed r some b = let z : ◌≡◌ {A = ℕ} 0 1 = cc in absurd (omega arith)
  step rest full ih start at used used' bs e (Pointer t) is h fits = go (rest t t used) refl h
    where
      go : (x : Reading) → rest t t used ≡ x → ending (at + 2) x ≡ name bs e → from_run (p ++ q) start at used' ≡ name bs e
      go (name ys d) r b =
          let f = is_pointer_lem p start at used t is in
          let same : ys ≡ bs = cc in
          let g : get_or (p ++ q) at 0 ≡ get_or p at 0 = same_byte at f.0 in
          let g' : get_or (p ++ q) (at + 1) 0 ≡ get_or p (at + 1) 0 = same_byte (at + 1) f.2 in
          let tt' : target (p ++ q) at ≡ target p at = ap₂ (λ (x y : ℕ). x % 64 * 256 + y) g g' in
          let at_pointer : piece_at (p ++ q) start at used' ≡ Pointer t =
          piece_pointer (p ++ q) start at used' (omega (arith, length-append p q, f.0)) (omega (arith, f.1)) (omega (arith, length-append p q, f.2)) (omega (arith, f.3)) (omega (arith, f.4))
          ∙ ap Pointer (tt' ∙ f.5) in
          unroll (p ++ q) start at used' ∙ ap (read_piece (from_run (p ++ q)) (p ++ q) start at used') at_pointer
          ∙ ap (ending (at + 2)) (ih t t used used' ys d r (omega (arith, ap length same))) ∙ b
      go malformed r b = let z : ◌≡◌ {A = ℕ} 0 1 = cc in absurd (omega arith)
  step rest full ih start at used used' bs e Bad is h fits = let z : ◌≡◌ {A = ℕ} 0 1 = cc in absurd (omega arith)

  extend : (f start at used used' : ℕ) (bs : List ℕ) (e : ℕ) → read_from f p start at used ≡ name bs e → used' + length bs ≤ 255 → from_run (p ++ q) start at used' ≡ name bs e
  unfolding read_from
  extend zero start at used used' bs e h fits = let z : ◌≡◌ {A = ℕ} 0 1 = cc in absurd (omega arith)
  extend (suc f) start at used used' bs e h fits =
      step (read_from f p) (nonempty f p) (extend f) start at used used' bs e (piece_at p start at used) refl h fits

  -- a name that was read on from a place where `used` bytes were read, read on from one where `used'` were
  pub read_moved : (o used used' : ℕ) (bs : List ℕ) (e : ℕ) → from_run p o o used ≡ name bs e → used' + length bs ≤ 255 → from_run (p ++ q) o o used' ≡ name bs e
  unfolding from_run
  read_moved o used used' bs e h fits = extend (o + 256) o o used used' bs e h fits

  -- a name at an offset, read on from a place where `used` bytes were read
  pub read_on : (o used : ℕ) (bs : List ℕ) (e : ℕ) → name_at p o ≡ name bs e → used + length bs ≤ 255 → from_run (p ++ q) o o used ≡ name bs e
  unfolding name_at from_run
  read_on o used bs e h fits = extend (o + 256) o o 0 used bs e h fits

-- a name at an offset starts in the packet
pub within : (p : List ℕ) (o : ℕ) (bs : List ℕ) (e : ℕ) → name_at p o ≡ name bs e → o < length p
unfolding name_at
within p o bs e h = go (ltb o (length p)) refl
  where
    go : (b : Bool) → ltb o (length p) ≡ b → o < length p
    go true t = ltb-true o (length p) t
    go false t =
        let m : from_run p o o 0 ≡ malformed = unroll p o o 0 ∙ ap (read_piece (from_run p) p o o 0) (piece_past p o o 0 (ltb-false o (length p) t)) in
        let z : ◌≡◌ {A = ℕ} 0 1 = cc in absurd (omega arith)
