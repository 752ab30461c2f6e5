-- What a caller of this module's functions learns of the reading from the answer that it matched. Assumes nothing.
use Rattle.std.specs.Prelude.{None, Option, Some}
use mathlib.Core.Path.{◌≡◌, refl, sym, ap, ◌∙◌}
use mathlib.Core.List.{List}
use Prim.Native.Nat.{ℕ, ◌+◌, ◌-◌, ◌≤◌}
use native.Mathlib.Omega.{arith}
use lib.ListN.{length, take, replicate}
use lib.Seq.{take_at}
use Rattle.wire.specs.names.Names.{Reading, name, malformed, name_at, from_run}
use Rattle.wire.specs.names.Answers.{span_of, found_of, expanded}
use Rattle.wire.specs.declared.names.Span.{Span}
use Rattle.wire.specs.declared.names.Expanded.{Expanded}
use Rattle.wire.proofs.names.Whole.{Short, short}

pub as_name : (x : Reading) (r : (Option Span)) (s : Span) → r ≡ found_of x → r ≡ Some s → (bs : List ℕ) × (x ≡ name bs s.end) × (length bs ≡ s.len) × (s ≡ span_of bs s.end)
as_name (name bs d) r s h k =
    let g : Some s ≡ Some (span_of bs d) = sym k ∙ h in
    let i : s ≡ span_of bs d = cc in
    let e : d ≡ s.end = sym (ap (λ (y : Span). y.end) i) in
    (bs, ap (name bs) e, sym (ap (λ (y : Span). y.len) i), i ∙ ap (span_of bs) e)
as_name malformed r s h k = let z : ◌≡◌ {A = ℕ} 0 1 = cc in absurd (omega arith)

pub as_malformed : (x : Reading) (r : (Option Span)) → r ≡ found_of x → r ≡ None → x ≡ malformed
as_malformed (name bs d) r h k = let z : ◌≡◌ {A = ℕ} 0 1 = cc in absurd (omega arith)
as_malformed malformed r h k = refl

-- a name has at most 255 bytes
pub at_most-255 : (p : List ℕ) (at : ℕ) (bs : List ℕ) (e : ℕ) → name_at p at ≡ name bs e → length bs ≤ 255
unfolding name_at from_run
at_most-255 p at bs e h = let s : Short 0 (name bs e) = rw h at (short (at + 256) p at at 0 (omega arith)) in omega arith

-- what an expanded name that was found holds: its first bytes are the name
pub as_expanded : (x : Reading) (r : Expanded) (n : (Option Span)) (s : Span) → r ≡ expanded x → n ≡ r.name → n ≡ Some s
    → (bs : List ℕ) × (x ≡ name bs s.end) × (length bs ≡ s.len) × (take s.len r.bytes ≡ bs)
as_expanded (name bs d) r n s h m k =
    let g : Some s ≡ Some (span_of bs d) = sym k ∙ m ∙ ap (λ (y : Expanded). y.name) h in
    let i : s ≡ span_of bs d = cc in
    let l : length bs ≡ s.len = sym (ap (λ (y : Span). y.len) i) in (
      bs,
      ap (name bs) (sym (ap (λ (y : Span). y.end) i)),
      l,
      ap (λ (y : Expanded). take s.len y.bytes) h ∙ take_at bs (replicate (255 - length bs) 0) s.len l,
    )
as_expanded malformed r n s h m k =
    let g : Some s ≡ None = sym k ∙ m ∙ ap (λ (y : Expanded). y.name) h in
    let z : ◌≡◌ {A = ℕ} 0 1 = cc in absurd (omega arith)

pub as_unexpanded : (x : Reading) (r : Expanded) (n : (Option Span)) → r ≡ expanded x → n ≡ r.name → n ≡ None → x ≡ malformed
as_unexpanded (name bs d) r n h m k =
    let g : None ≡ Some (span_of bs d) = sym k ∙ m ∙ ap (λ (y : Expanded). y.name) h in
    let z : ◌≡◌ {A = ℕ} 0 1 = cc in absurd (omega arith)
as_unexpanded malformed r n h m k = refl
