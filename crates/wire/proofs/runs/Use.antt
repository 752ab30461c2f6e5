-- What a caller of `name_into` learns of the buffer. Assumes nothing.
use Rattle.std.specs.Prelude.{Option, Some}
use mathlib.Core.Path.{◌≡◌, refl, sym, ap, ◌∙◌}
use mathlib.Core.List.{List, ◌++◌}
use mathlib.Core.Bool.{Bool, true, false, cond}
use Prim.Native.Nat.{ℕ, ◌<◌, ◌≤◌}
use native.Mathlib.Omega.{arith}
use borrow.Author.Tests.{le-leb, lt-leb, leb-true}
use lib.Dec.{leb}
use lib.ListN.{length, take, drop, length-append, length-drop}
use lib.Seq.{take_at}
use Rattle.wire.specs.names.Names.{Reading, name, malformed}
use Rattle.wire.specs.names.Answers.{span_of, found_of}
use Rattle.wire.specs.runs.Written.{with_name}
use Rattle.wire.specs.declared.names.Span.{Span}
use Rattle.wire.proofs.names.Use.{as_name}

module _ (out : List ℕ) (x : Reading) where
  -- a malformed name is not written
  pub with-malformed : x ≡ malformed → with_name out x ≡ out
  with-malformed is = ap (with_name out) is

  module _ (bs : List ℕ) (e : ℕ) (is : x ≡ name bs e) where
    -- a name that fits stands over the first bytes
    pub with-fitting : length bs ≤ length out → with_name out x ≡ bs ++ drop (length bs) out
    with-fitting l = ap (with_name out) is ∙ simp (le-leb _ _ l)

    pub with-front : length bs ≤ length out → take (length bs) (with_name out x) ≡ bs
    with-front l = ap (take (length bs)) (with-fitting l) ∙ take_at bs (drop (length bs) out) (length bs) refl

    -- a longer one is not written
    pub with-longer : length out < length bs → with_name out x ≡ out
    with-longer l = ap (with_name out) is ∙ simp (lt-leb _ _ l)

-- the buffer is as long as it was
pub with-length : (out : List ℕ) (x : Reading) → length (with_name out x) ≡ length out
with-length out (name bs e) = go (leb (length bs) (length out)) refl
  where
    go : (b : Bool) → leb (length bs) (length out) ≡ b → length (cond b (bs ++ drop (length bs) out) out) ≡ length out
    go true h =
        let l = leb-true (length bs) (length out) h in
        omega (arith, l, length-append bs (drop (length bs) out), length-drop (length bs) out)
    go false h = refl
with-length out malformed = refl

-- what stands in a buffer that the name was written into, by the answer that was matched
pub as_written : (out out' : List ℕ) (x : Reading) (r : (Option Span)) (s : Span) → out' ≡ with_name out x → r ≡ found_of x → r ≡ Some s → s.len ≤ length out
    → (bs : List ℕ) × (x ≡ name bs s.end) × (length bs ≡ s.len) × (s ≡ span_of bs s.end) × (out' ≡ bs ++ drop s.len out) × (take s.len out' ≡ bs)
as_written out out' x r s w h k l =
    let f = as_name x r s h k in
    let fits : length f.0 ≤ length out = omega (arith, f.2) in (
      f.0,
      f.1,
      f.2,
      f.3,
      w ∙ with-fitting out x f.0 _ f.1 fits ∙ ap (λ (n : ℕ). f.0 ++ drop n out) f.2,
      ap (λ (n : ℕ). take n out') (sym f.2) ∙ ap (take (length f.0)) w ∙ with-front out x f.0 _ f.1 fits,
    )
