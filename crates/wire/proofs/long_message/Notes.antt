-- What is noted stays true: a name to which a pointer leads is as long wherever it is read from. Assumes nothing.
use mathlib.Core.Path.{◌≡◌, refl, sym, ap, ◌∙◌}
use mathlib.Core.Logic.{◌⊎◌, inl, inr}
use mathlib.Core.List.{List, [], ◌∷◌, ◌++◌, append-nil}
use mathlib.Core.Bool.{Bool, true, false}
use Prim.Native.Nat.{ℕ, zero, suc, ◌+◌, ◌-◌, ◌<◌, ◌≤◌}
use native.Mathlib.Omega.{arith}
use borrow.Author.Tests.{eqb-true, eqb-false}
use lib.Dec.{eqb}
use lib.ListN.{length, take, drop, get_or, set, replicate, length-append}
use lib.Seq.{get_or-set_other}
use Rattle.wire.specs.name_pieces.Pieces.{piece_at}
use Rattle.wire.specs.names.Names.{Reading, name, malformed, before, ending, from_run, name_at}
use Rattle.wire.specs.long_message.Noted.{Noted, length_of}
use Rattle.wire.specs.declared.name_pieces.Piece.{Piece}
use Rattle.wire.specs.declared.name_pieces.Piece.TheVariants.{Label, Pointer}
use Rattle.wire.proofs.name_pieces.Pieces.{label-in}
use Rattle.wire.proofs.names.Rest.{read_at}
use Rattle.wire.proofs.names.Walked.{label-long}
use Rattle.wire.proofs.names.Whole.{Short, short}
use Rattle.wire.proofs.names.Use.{at_most-255}
use Rattle.wire.proofs.names.Extend.{read_moved}

-- a name at an offset does not depend on how many bytes were read before it, as long as it fits
pub moved : (p : List ℕ) (t used used' : ℕ) (bs : List ℕ) (e : ℕ) → from_run p t t used ≡ name bs e → used' + length bs ≤ 255 → from_run p t t used' ≡ name bs e
moved p t used used' bs e h fits = sym (ap (λ (l : List ℕ). from_run l t t used') (append-nil p)) ∙ read_moved p [] t used used' bs e h fits

pub fits-255 : (p : List ℕ) (start at used : ℕ) (bs : List ℕ) (e : ℕ) → used < 255 → from_run p start at used ≡ name bs e → used + length bs ≤ 255
unfolding from_run
fits-255 p start at used bs e u h = let s : Short used (name bs e) = rw h at (short (start + 256) p start at used u) in omega arith

-- the rest of a name of `len` bytes of which `used` were read
pub record Rest (p : List ℕ) (start at used len : ℕ) : Type 0 where
  pub bytes : List ℕ
  pub end : ℕ
  pub reads : from_run p start at used ≡ name bytes end
  pub long : used + length bytes ≡ len

pub rest_start : (p : List ℕ) (at len : ℕ) → 0 < len → len ≡ length_of (name_at p at) → Rest p at at 0 len
unfolding name_at
rest_start p at len some h = go (from_run p at at 0) refl h
  where
    go : (x : Reading) → from_run p at at 0 ≡ x → len ≡ length_of x → Rest p at at 0 len
    go (name bs e) r l = record { bytes = bs; end = e; reads = r; long = omega arith }
    go malformed r l = absurd (omega arith)

module _ (p : List ℕ) (start at used len : ℕ) (r : Piece) (is : r ≡ piece_at p start at used) (rest : Rest p start at used len) where
  here : (x : Piece) → r ≡ x → piece_at p start at used ≡ x
  here x e = sym is ∙ e

  pub rest_label : (n : ℕ) → r ≡ Label n → Rest p start (at + 1 + n) (used + 1 + n) len
  rest_label n e = go (from_run p start (at + 1 + n) (used + 1 + n)) refl (sym (read_at p start at used (Label n) (here (Label n) e)) ∙ rest.reads)
    where
      go : (x : Reading) → from_run p start (at + 1 + n) (used + 1 + n) ≡ x → before (take (n + 1) (drop at p)) x ≡ name rest.bytes rest.end
          → Rest p start (at + 1 + n) (used + 1 + n) len
      go (name ys d) g h =
          let same : take (n + 1) (drop at p) ++ ys ≡ rest.bytes = cc in
          let long : length (take (n + 1) (drop at p)) ≡ 1 + n = label-long p at n (label-in p start at used n (here (Label n) e)) in
          record { bytes = ys; end = d; reads = g; long = omega (arith, ap length same, length-append (take (n + 1) (drop at p)) ys, long, rest.long) }
      go malformed g h = let z : ◌≡◌ {A = ℕ} 0 1 = cc in absurd (omega arith)

  pub rest_pointer : (t : ℕ) → r ≡ Pointer t → Rest p t t used len
  rest_pointer t e = go (from_run p t t used) refl (sym (read_at p start at used (Pointer t) (here (Pointer t) e)) ∙ rest.reads)
    where
      go : (x : Reading) → from_run p t t used ≡ x → ending (at + 2) x ≡ name rest.bytes rest.end → Rest p t t used len
      go (name ys d) g h = let same : ys ≡ rest.bytes = cc in record { bytes = ys; end = d; reads = g; long = omega (arith, ap length same, rest.long) }
      go malformed g h = let z : ◌≡◌ {A = ℕ} 0 1 = cc in absurd (omega arith)

-- how long the rest of a name is where a pointer led to it, and that it is a number of a byte
module _ (p : List ℕ) (t used len : ℕ) (u : used < 255) (rest : Rest p t t used len) where
  pub rest_fits : len ≤ 255
  rest_fits = omega (arith, fits-255 p t t used rest.bytes rest.end u rest.reads, rest.long)

  pub rest_is : len - used ≡ length_of (name_at p t)
  unfolding name_at
  rest_is =
      let h : from_run p t t 0 ≡ name rest.bytes rest.end = moved p t used 0 rest.bytes rest.end rest.reads (omega (arith, rest_fits, rest.long)) in
      let k : len - used ≡ length rest.bytes = omega (arith, rest.long) in
      k ∙ sym (ap length_of h)

-- what is noted is a number of a byte
pub noted_small : (p noted : List ℕ) (t : ℕ) → Noted p noted → get_or noted t 0 ≤ 255
noted_small p noted t h = go (h.at t)
  where
    long : (x : Reading) → name_at p t ≡ x → length_of x ≤ 255
    long (name bs e) r = at_most-255 p t bs e r
    long malformed r = omega arith

    go : (get_or noted t 0 ≡ 0) ⊎ (get_or noted t 0 ≡ length_of (name_at p t)) → get_or noted t 0 ≤ 255
    go (inl z) = omega arith
    go (inr y) = omega (arith, long (name_at p t) refl)

-- nothing is noted at first
pub noted_none : (p : List ℕ) (n : ℕ) → Noted p (replicate n 0)
noted_none p n = record { at = λ t. inl (zeros n t) }
  where
    zeros : (n t : ℕ) → ◌≡◌ {A = ℕ} (get_or (replicate n 0) t 0) 0
    zeros zero t = refl
    zeros (suc n) zero = refl
    zeros (suc n) (suc t) = zeros n t

-- one note more
set_at : (l : List ℕ) (i v : ℕ) → (get_or (set l i v) i 0 ≡ 0) ⊎ (get_or (set l i v) i 0 ≡ v)
set_at [] i v = inl refl
set_at (x ∷ xs) zero v = inr refl
set_at (x ∷ xs) (suc i) v = set_at xs i v

pub noted_more : (p noted : List ℕ) (t v : ℕ) → Noted p noted → v ≡ length_of (name_at p t) → Noted p (set noted t v)
noted_more p noted t v h e = record { at = λ j. go j (eqb j t) refl }
  where
    Here : ℕ → Type 0
    Here j = (get_or (set noted t v) j 0 ≡ 0) ⊎ (get_or (set noted t v) j 0 ≡ length_of (name_at p j))

    stored : (get_or (set noted t v) t 0 ≡ 0) ⊎ (get_or (set noted t v) t 0 ≡ v) → Here t
    stored (inl z) = inl z
    stored (inr s) = inr (s ∙ e)

    kept : (j : ℕ) → get_or (set noted t v) j 0 ≡ get_or noted j 0 → (get_or noted j 0 ≡ 0) ⊎ (get_or noted j 0 ≡ length_of (name_at p j)) → Here j
    kept j s (inl z) = inl (s ∙ z)
    kept j s (inr y) = inr (s ∙ y)

    go : (j : ℕ) (b : Bool) → eqb j t ≡ b → Here j
    go j true q = rw (eqb-true j t q) (stored (set_at noted t v))
    go j false q = kept j (get_or-set_other noted t j v 0 (eqb-false j t q)) (h.at j)
