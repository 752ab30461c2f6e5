-- A name written: the bytes that are kept, and a pointer or the zero byte. Assumes nothing.
use mathlib.Core.Path.{◌≡◌, refl, sym, ap, ap₂, ◌∙◌}
use mathlib.Core.List.{List, [], ◌∷◌, ◌++◌}
use Prim.Native.Nat.{ℕ, ◌+◌, ◌/◌, ◌%◌, ◌<◌, ◌≤◌}
use native.Mathlib.Omega.{arith}
use lib.ListN.{length, take, set, length-append, length-take}
use lib.Seq.{sets, length-take-le}
use Rattle.wire.proofs.octets.Sets.{sets-append}
use Rattle.writer.specs.declared.compression.Cut.{Cut}
use Rattle.writer.specs.compression.Compression.{cut_of, pointer_to, end_of, name_bytes, name_places}
use Rattle.wire.specs.labels.Counted.{starts}
use Rattle.writer.proofs.compression.Written.{name-short, places-few, cut-within, kept-most}
use Rattle.writer.specs.Items.{u16}
use Rattle.writer.specs.Writer.{spot_of, Wrote, NameReady}
use Rattle.std.specs.Prelude.{Option, Some, None}

-- a pointer's two bytes as one number
pointer_word : (x : ℕ) → u16 (49152 + x) ≡ pointer_to x
pointer_word x =
    let a : (49152 + x) / 256 ≡ 192 + x / 256 = omega arith in
    let b : (49152 + x) % 256 ≡ x % 256 = omega arith in ap₂ (λ (m n : ℕ). m ∷ n ∷ []) a b

module _ (known at count tried : ℕ) (name o pl : List ℕ) (ready : NameReady known at count tried name o pl) (cut : Cut)
    (e : cut ≡ cut_of (take known o) (take tried pl) name) where
  pub kept-fits : cut.kept ≤ length name
  kept-fits = omega (arith, ap (λ (c : Cut). c.kept) e, kept-most (take known o) (take tried pl) 0 name)

  pub kept-long : cut.kept ≡ length (take cut.kept name)
  kept-long = sym (length-take-le cut.kept name kept-fits)

  bytes_are : name_bytes (take known o) (take tried pl) name ≡ take cut.kept name ++ end_of cut.place
  unfolding name_bytes
  bytes_are = ap (λ (c : Cut). take c.kept name ++ end_of c.place) (sym e)

  places-are : name_places (take known o) (take tried pl) at name ≡ starts at 0 (take cut.kept name)
  unfolding name_places
  places-are = ap (λ (c : Cut). starts at 0 (take c.kept name)) (sym e)

  end_fits : cut.kept + length (end_of cut.place) ≤ length name
  end_fits =
      omega (
        arith,
        name-short (take known o) (take tried pl) name ready.named,
        ap length bytes_are,
        length-append (take cut.kept name) (end_of cut.place),
        kept-long,
      )

  pub room-kept : at + length (take cut.kept name) ≤ length o
  room-kept = omega (arith, ready.room, kept-fits, kept-long)

  pub room_noted : count + length (starts at 0 (take cut.kept name)) ≤ length pl
  room_noted = omega (arith, ready.slots, places-few (take known o) (take tried pl) name at, ap length places-are)

  -- the end of the name
  pub room-end : (x : Option ℕ) → cut.place ≡ x → at + cut.kept + length (end_of x) ≤ length o
  room-end x q = omega (arith, ready.room, end_fits, ap (λ (y : Option ℕ). length (end_of y)) q)

  pub pointer_small : (x : ℕ) → cut.place ≡ Some x → x < 16384
  pointer_small x q =
      omega (arith, ready.known_small, cut-within (take known o) (take tried pl) 0 name x (ap (λ (c : Cut). c.place) (sym e) ∙ q), length-take known o)

  module _ (n : ℕ) (o₁ pl' : List ℕ) (w₁ : o₁ ≡ sets o at (take cut.kept name)) (cn : n ≡ count + length (starts at 0 (take cut.kept name)))
      (wn : pl' ≡ sets pl count (starts at 0 (take cut.kept name)))
    where
      whole : (x : Option ℕ) → cut.place ≡ x → (o₂ : List ℕ) → o₂ ≡ sets o₁ (at + cut.kept) (end_of x)
          → Wrote (name_bytes (take known o) (take tried pl) name) (name_places (take known o) (take tried pl) at name) at count o pl
          (spot_of (at + cut.kept + length (end_of x)) n) o₂ pl'
      whole x q o₂ w₂ =
          let end : at + cut.kept ≡ at + length (take cut.kept name) = ap (λ (k : ℕ). at + k) kept-long in
          let all : take cut.kept name ++ end_of x ≡ name_bytes (take known o) (take tried pl) name = ap (λ (y : Option ℕ). take cut.kept name ++ end_of y)
          (sym q) ∙ sym bytes_are in
          record {
            bytes = w₂ ∙ ap₂ (λ (l : List ℕ) (k : ℕ). sets l k (end_of x)) w₁ end ∙ sets-append o at (take cut.kept name) (end_of x) ∙ ap (sets o at) all;
            places = wn ∙ ap (sets pl count) (sym places-are);
            ended = omega (arith, ap length all, length-append (take cut.kept name) (end_of x), kept-long);
            counted = cn ∙ ap (λ (l : List ℕ). count + length l) (sym places-are);
          }

      pub wrote_pointer : (x : ℕ) → cut.place ≡ Some x → (o₂ : List ℕ) → o₂ ≡ sets o₁ (at + cut.kept) (u16 (49152 + x))
          → Wrote (name_bytes (take known o) (take tried pl) name) (name_places (take known o) (take tried pl) at name) at count o pl
          (spot_of (at + cut.kept + 2) n) o₂ pl'
      wrote_pointer x q o₂ w₂ = whole (Some x) q o₂ (w₂ ∙ ap (sets o₁ (at + cut.kept)) (pointer_word x))

      pub wrote_root : cut.place ≡ None
          → Wrote (name_bytes (take known o) (take tried pl) name) (name_places (take known o) (take tried pl) at name) at count o pl
          (spot_of (at + cut.kept + 1) n) (set o₁ (at + cut.kept) 0) pl'
      wrote_root q = whole None q (set o₁ (at + cut.kept) 0) refl
