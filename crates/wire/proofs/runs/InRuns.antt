-- A name that is read run by run: its span, and the two runs that it may consist of. Assumes nothing.
use Rattle.std.specs.Prelude.{Some}
use mathlib.Core.Path.{◌≡◌, refl, sym, ap, ap₂, ◌∙◌}
use mathlib.Core.List.{List, [], ◌∷◌, ◌++◌, append_assoc, append-nil}
use mathlib.Core.Bool.{Bool, true, false, cond}
use Prim.Native.Nat.{ℕ, ◌+◌, ◌-◌, ◌≤◌}
use native.Mathlib.Omega.{arith}
use borrow.Author.Tests.{eqb-true, eqb-false}
use lib.Dec.{eqb}
use lib.ListN.{take, drop}
use lib.Seq.{take-add, drop-drop, drop-cons}
use Rattle.wire.specs.message.Layout.{bytes_of}
use Rattle.wire.specs.name_pieces.Pieces.{piece_at}
use Rattle.wire.specs.names.Names.{Reading, name, malformed, before, ending, from_run, name_at}
use Rattle.wire.specs.names.Answers.{or_later, seen_of}
use Rattle.wire.specs.declared.name_pieces.Piece.{Piece}
use Rattle.wire.specs.declared.name_pieces.Piece.TheVariants.{Root, Label, Pointer}
use Rattle.wire.proofs.names.Rest.{read_at}
use Rattle.wire.proofs.names.Walked.{root_seen, seen_pointer, passed}
use Rattle.wire.proofs.name_pieces.Pieces.{is-root}
use Rattle.wire.specs.runs.Runs.{from_of}

-- what is known is not over what comes later, and is 0 only if that is
pub later-most : (known later k : ℕ) → known ≤ later → k ≡ or_later known later → k ≤ later
later-most known later k h e = go (eqb known 0) refl e
  where
    go : (b : Bool) → eqb known 0 ≡ b → k ≡ cond b later known → k ≤ later
    go true t g = omega (arith, g)
    go false t g = omega (arith, g)

pub later-zero : (known later k : ℕ) → k ≡ or_later known later → k ≡ 0 → later ≡ 0
later-zero known later k e z = go (eqb known 0) refl e
  where
    go : (b : Bool) → eqb known 0 ≡ b → k ≡ cond b later known → later ≡ 0
    go true t g = sym g ∙ z
    go false t g = absurd (eqb-false known 0 t (sym g ∙ z))

module _ (p : List ℕ) (start at used end labels first : ℕ) (r : Piece) (is : r ≡ piece_at p start at used) where
  pub root_span : r ≡ Root → (e : ℕ) → e ≡ or_later end (at + 1)
      → Some (record { end = e; len = used + 1; labels = labels; first = first }) ≡ seen_of used end labels first (from_run p start at used)
  root_span k e h = root_seen p start at used end labels first r is e h k

  pub pointer_span : (t : ℕ) → r ≡ Pointer t → (e : ℕ) → e ≡ or_later end (at + 2)
      → seen_of used end labels first (from_run p start at used) ≡ seen_of used e labels first (from_run p t t used)
  pointer_span t k e h = seen_pointer p start at used end labels first r is t k ∙ sym (passed p t at used end labels first e h)

-- the bytes of two runs
abbrev pub both : (p : List ℕ) (from front start rest : ℕ) → List ℕ
both p from front start rest = take front (drop from p) ++ take rest (drop start p)

-- Of a name `x` that is to be read on as `y`, `used` bytes were read, `last` of them before the run at `start`: where these are `front`, those of the two
-- runs come first. Where a name ends in place is left out.
abbrev pub Kept : (p : List ℕ) (x : Reading) (from front start last used : ℕ) (y : Reading) → Type 0
Kept p x from front start last used y = front ≡ last → ending 0 x ≡ before (both p from front start (used - last)) (ending 0 y)

bytes_ending : (x : Reading) → bytes_of (ending 0 x) ≡ bytes_of x
bytes_ending (name bs e) = refl
bytes_ending malformed = refl

ending-twice : (e : ℕ) (x : Reading) → ending 0 (ending e x) ≡ ending 0 x
ending-twice e (name bs d) = refl
ending-twice e malformed = refl

before_more : (xs ys : List ℕ) (x : Reading) → before xs (ending 0 (before ys x)) ≡ before (xs ++ ys) (ending 0 x)
before_more xs ys (name bs e) = ap (λ (l : List ℕ). name l 0) (sym (append_assoc xs ys bs))
before_more xs ys malformed = refl

pub kept-start : (p : List ℕ) (at : ℕ) → Kept p (name_at p at) at 0 at 0 0 (from_run p at at 0)
unfolding name_at
kept-start p at h = go (from_run p at at 0)
  where
    go : (x : Reading) → ending 0 x ≡ before [] (ending 0 x)
    go (name bs e) = refl
    go malformed = refl

-- the second run goes on
more : (p : List ℕ) (from front start k m at : ℕ) → at ≡ start + k → both p from front start k ++ take m (drop at p) ≡ both p from front start (k + m)
more p from front start k m at h =
    append_assoc (take front (drop from p)) (take k (drop start p)) (take m (drop at p))
    ∙ ap (λ (l : List ℕ). take front (drop from p) ++ l)
    (ap (λ (l : List ℕ). take k (drop start p) ++ take m l) (ap (λ (j : ℕ). drop j p) h ∙ sym (drop-drop k start p)) ∙ sym (take-add k m (drop start p)))

module _ (p : List ℕ) (x : Reading) (from front start last at used : ℕ) (r : Piece) (is : r ≡ piece_at p start at used) (kept : Kept p x from front start last used (from_run p start at used)) where
  here : (y : Piece) → r ≡ y → piece_at p start at used ≡ y
  here y e = sym is ∙ e

  pub kept_label : last ≤ used → at ≡ start + (used - last) → (n : ℕ) → r ≡ Label n
      → Kept p x from front start last (used + 1 + n) (from_run p start (at + 1 + n) (used + 1 + n))
  kept_label l g n k h =
      let grown : used - last + (n + 1) ≡ used + 1 + n - last = omega arith in
      kept h ∙ ap (λ (y : Reading). before (both p from front start (used - last)) (ending 0 y)) (read_at p start at used (Label n) (here (Label n) k))
      ∙ before_more (both p from front start (used - last)) (take (n + 1) (drop at p)) (from_run p start (at + 1 + n) (used + 1 + n))
      ∙ ap (λ (l : List ℕ). before l (ending 0 (from_run p start (at + 1 + n) (used + 1 + n))))
      (more p from front start (used - last) (n + 1) at g ∙ ap (both p from front start) grown)

  pub kept-pointer : front ≤ last → last ≤ used → (front ≡ 0 → last ≡ 0) → (t : ℕ) → r ≡ Pointer t
      → (from' front' : ℕ) → from' ≡ from_of front from start → front' ≡ or_later front used → Kept p x from' front' t used used (from_run p t t used)
  kept-pointer l m z t k from' front' f g h =
      go (eqb front 0) refl f g
    where
      on : front ≡ last → both p from front start (used - last) ≡ both p from' front' t (used - used)
          → ending 0 x ≡ before (both p from' front' t (used - used)) (ending 0 (from_run p t t used))
      on s e =
          kept s ∙ ap (λ (y : Reading). before (both p from front start (used - last)) (ending 0 y)) (read_at p start at used (Pointer t) (here (Pointer t) k))
          ∙ ap₂ before e (ending-twice (at + 2) (from_run p t t used))

      none : both p from' front' t (used - used) ≡ take front' (drop from' p)
      none =
          let zero : used - used ≡ 0 = omega arith in
          ap (both p from' front' t) zero ∙ append-nil (take front' (drop from' p))

      go : (b : Bool) → eqb front 0 ≡ b → from' ≡ cond b start from → front' ≡ cond b used front
          → ending 0 x ≡ before (both p from' front' t (used - used)) (ending 0 (from_run p t t used))
      go true e f' g' =
          let a : front ≡ 0 = eqb-true front 0 e in
          let b : used - last ≡ front' = omega (arith, z a, g') in
          on (a ∙ sym (z a))
          (ap (λ (j : ℕ). both p from j start (used - last)) a ∙ ap₂ (λ (j i : ℕ). take j (drop i p)) b (sym f') ∙ sym none)
      go false e f' g' =
          let a : used - last ≡ 0 = omega (arith, g', h) in
          on (omega (arith, g', h))
          (ap (both p from front start) a ∙ append-nil (take front (drop from p)) ∙ ap₂ (λ (j i : ℕ). take j (drop i p)) (sym g') (sym f') ∙ sym none)

  pub kept-root : front ≤ last → last ≤ used → at ≡ start + (used - last) → r ≡ Root → eqb front last ≡ true
      → (front + (used + 1 - last) ≡ used + 1) × (bytes_of x ≡ both p from front start (used + 1 - last))
  kept-root m l g k w =
      let h : front ≡ last = eqb-true front last w in
      let f = is-root p start at used (here Root k) in
      let grown : used - last + 1 ≡ used + 1 - last = omega arith in
      let zero-byte : take 1 (drop at p) ≡ 0 ∷ [] = ap (take 1) (drop-cons p at 0 f.0) ∙ ap (λ (b : ℕ). b ∷ []) f.1 in (
        omega arith,
        sym (bytes_ending x) ∙ ap bytes_of (kept h ∙ ap (λ (y : Reading). before (both p from front start (used - last)) (ending 0 y)) (read_at p start at used Root (here Root k)))
            ∙ ap (λ (l : List ℕ). both p from front start (used - last) ++ l) (sym zero-byte)
            ∙ more p from front start (used - last) 1 at g ∙ ap (both p from front start) grown,
      )
