-- A whole name: it has at most 255 bytes, so the buffer of zeros in which it is written holds it and zeros.
-- Assumes nothing.
use Rattle.std.specs.Prelude.{None, Option, Some}
use mathlib.Core.Path.{◌≡◌, refl, sym, ap, ◌∙◌}
use mathlib.Core.List.{List, ◌++◌}
use Prim.Native.Nat.{ℕ, zero, suc, ◌+◌, ◌-◌, ◌<◌, ◌≤◌}
use native.Mathlib.Nat.{zero-add}
use native.Mathlib.Omega.{arith}
use lib.ListN.{length, take, drop, replicate, length-append, length-take}
use lib.Seq.{take_at, length-take-le}
use Rattle.wire.specs.declared.name_pieces.Piece.{Piece}
use Rattle.wire.specs.declared.name_pieces.Piece.TheVariants.{Root, Label, Pointer, Bad}
use Rattle.wire.specs.name_pieces.Pieces.{piece_at}
use Rattle.wire.specs.names.Names.{Reading, name, malformed, before, ending, read_piece, read_from, from_run, name_at}
use Rattle.wire.specs.names.Answers.{span_of, reach_of, Wrote, expanded}
use Rattle.wire.specs.declared.names.Reach.{Reach}
use Rattle.wire.specs.declared.names.Span.{Span}
use Rattle.wire.specs.declared.names.Expanded.{Expanded}
use Rattle.wire.proofs.name_pieces.Pieces.{label-room}
use Rattle.wire.proofs.octets.Sets.{filled}

-- a name of which `used` bytes were read before has at most 255 in all
abbrev pub Short : ℕ → Reading → Type 0
Short used (name bs e) = used + length bs ≤ 255
Short used malformed = Unit {0}

short_before : (used n : ℕ) (xs : List ℕ) → length (take (n + 1) xs) ≤ n + 1 → (x : Reading) → Short (used + 1 + n) x → Short used (before (take (n + 1) xs) x)
short_before used n xs h (name ys e) s = omega (arith, length-append (take (n + 1) xs) ys)
short_before used n xs h malformed s = tt

short_ending : (used e : ℕ) (x : Reading) → Short used x → Short used (ending e x)
short_ending used e (name ys d) s = s
short_ending used e malformed s = tt

short_piece : (rest : ℕ → ℕ → ℕ → Reading) → ((s a u : ℕ) → u < 255 → Short u (rest s a u)) → (p : List ℕ) (start at used : ℕ) → used < 255
    → (x : Piece) → piece_at p start at used ≡ x → Short used (read_piece rest p start at used x)
short_piece rest ih p start at used h Root e = omega arith
short_piece rest ih p start at used h (Label n) e =
    short_before used n (drop at p) (omega (arith, length-take (n + 1) (drop at p))) (rest start (at + 1 + n) (used + 1 + n)) (ih start (at + 1 + n) (used + 1 + n) (label-room p start at used n e))
short_piece rest ih p start at used h (Pointer t) e = short_ending used (at + 2) (rest t t used) (ih t t used h)
short_piece rest ih p start at used h Bad e = tt

pub short : (f : ℕ) (p : List ℕ) (start at used : ℕ) → used < 255 → Short used (read_from f p start at used)
unfolding read_from
short zero p start at used h = tt
short (suc f) p start at used h = short_piece (read_from f p) (short f p) p start at used h (piece_at p start at used) refl

module _ (p : List ℕ) (at : ℕ) (r : (Option Reach)) (o' : List ℕ) (w : Wrote (from_run p at at 0) 0 (replicate 255 0) r o') where
  module _ (s : Reach) (is : r ≡ Some s) where
    -- the name that was copied stands in front of zeros
    copied_name : (bs : List ℕ) × (name_at p at ≡ name bs s.end) × (length bs ≡ s.len) × (o' ≡ bs ++ replicate (255 - length bs) 0)
    unfolding name_at from_run
    copied_name = go (from_run p at at 0) w (short (at + 256) p at at 0 (omega arith))
      where
        go : (x : Reading) → Wrote x 0 (replicate 255 0) r o' → Short 0 x
            → (bs : List ℕ) × (x ≡ name bs s.end) × (length bs ≡ s.len) × (o' ≡ bs ++ replicate (255 - length bs) 0)
        go (name bs e) g b =
            let h : Some s ≡ Some (reach_of e (0 + length bs)) = sym is ∙ g.answer in
            let k : s ≡ reach_of e (0 + length bs) = cc in (
              bs,
              ap (name bs) (sym (ap (λ (y : Reach). y.end) k)),
              sym (ap (λ (y : Reach). y.len) k ∙ zero-add (length bs)),
              g.bytes ∙ filled 255 bs (omega arith),
            )
        go malformed g b = let h : r ≡ None = g.answer in let z : ◌≡◌ {A = ℕ} 0 1 = cc in absurd (omega arith)

    pub copied_fits : s.len ≤ length o'
    copied_fits =
        let f = copied_name in
        omega (arith, ap length f.3, length-append f.0 (replicate (255 - length f.0) 0), f.2)

    pub copied_long : s.len ≡ length (take s.len o')
    copied_long = sym (length-take-le s.len o' copied_fits)

    -- its labels are counted, and the first is measured, in front of the zeros
    pub whole-found : (x : Span) (e : ℕ) → x ≡ span_of (take s.len o') e
        → ◌≡◌ {A = Expanded} (record { name = Some (record { end = s.end; len = s.len; labels = x.labels; first = x.first }); bytes = o' }) (expanded (name_at p at))
    whole-found x e counted =
        let f = copied_name in
        let front : take s.len o' ≡ f.0 = ap (take s.len) f.3 ∙ take_at f.0 (replicate (255 - length f.0) 0) s.len f.2 in
        let is : x ≡ span_of f.0 e = counted ∙ ap (λ (l : List ℕ). span_of l e) front in
        (λ i. record { name = Some (record { end = s.end; len = sym f.2 i; labels = (is i).labels; first = (is i).first }); bytes = f.3 i })
        ∙ ap expanded (sym f.1)

  pub whole-bad : r ≡ None → ◌≡◌ {A = Expanded} (record { name = None; bytes = replicate 255 0 }) (expanded (name_at p at))
  unfolding name_at from_run
  whole-bad is = go (from_run p at at 0) w
    where
      go : (x : Reading) → Wrote x 0 (replicate 255 0) r o' → ◌≡◌ {A = Expanded} (record { name = None; bytes = replicate 255 0 }) (expanded x)
      go (name bs e) g = let h : r ≡ Some (reach_of e (0 + length bs)) = g.answer in let z : ◌≡◌ {A = ℕ} 0 1 = cc in absurd (omega arith)
      go malformed g = refl
