-- A name that was read run by run, written over the front of a buffer. Assumes nothing.
use Rattle.std.specs.Prelude.{None, Option, Some}
use mathlib.Core.Path.{◌≡◌, refl, sym, ap, ap₂, ◌∙◌}
use mathlib.Core.List.{List, [], ◌∷◌, ◌++◌}
use mathlib.Core.Bool.{true}
use Prim.Native.Nat.{ℕ, zero, suc, ◌+◌, ◌-◌, ◌<◌, ◌≤◌}
use native.Mathlib.Nat.{zero-add}
use native.Mathlib.Omega.{arith}
use lib.ListN.{length, take, drop, replicate, length-append}
use lib.Seq.{sets, sets-eq, take_at}
use Rattle.wire.specs.message.Layout.{bytes_of}
use Rattle.wire.specs.names.Names.{Reading, name}
use Rattle.wire.specs.names.Answers.{span_of, found_of, expanded}
use Rattle.wire.specs.declared.names.Expanded.{Expanded}
use Rattle.wire.proofs.octets.Sets.{sets-append}
use Rattle.wire.proofs.names.Use.{as_name, as_malformed}
use Rattle.wire.proofs.runs.Use.{with-fitting, with-longer, with-malformed}
use Rattle.wire.specs.runs.Runs.{span_in, Lies}
use Rattle.wire.specs.runs.Written.{with_name}
use Rattle.wire.specs.declared.runs.Runs.{Runs}

-- so many bytes at the most
take-most : (n : ℕ) (l : List ℕ) → length (take n l) ≤ n
take-most zero l = omega arith
take-most (suc n) [] = omega arith
take-most (suc n) (x ∷ l) = omega (arith, take-most n l)

-- bytes over the front of a list
over : (l bs : List ℕ) → length bs ≤ length l → sets l 0 bs ≡ bs ++ drop (length bs) l
over l bs h = sets-eq bs l 0 (omega arith) ∙ ap (λ (k : ℕ). bs ++ drop k l) (zero-add (length bs))

module _ (p : List ℕ) (x : Reading) (out : List ℕ) (r : (Option Runs)) (span : span_in r ≡ found_of x) (lies : Lies p x r) where
  pub into_bad : r ≡ None → (None ≡ found_of x) × (out ≡ with_name out x)
  into_bad k =
      let h : None ≡ found_of x = sym (ap span_in k) ∙ span in
      (h, sym (with-malformed out x (as_malformed x None h refl)))

  module _ (w : Runs) (k : r ≡ Some w) where
    pub into_span : Some w.span ≡ found_of x
    into_span = sym (ap span_in k) ∙ span

    found : (bs : List ℕ) × (x ≡ name bs w.span.end) × (length bs ≡ w.span.len) × (w.span ≡ span_of bs w.span.end)
    found = as_name x (Some w.span) w.span into_span refl

    pub into_short : length out < w.span.len → out ≡ with_name out x
    into_short h =
        let f = found in
        sym (with-longer out x f.0 _ f.1 (omega (arith, f.2)))

    module _ (fits : w.span.len ≤ length out) where
      written : (bs : List ℕ) → found.0 ≡ bs → (out' : List ℕ) → out' ≡ sets out 0 bs → out' ≡ with_name out x
      written bs is out' h =
          let f = found in
          let l : length f.0 ≤ length out = omega (arith, f.2) in
          h ∙ ap (sets out 0) (sym is) ∙ over out f.0 l ∙ sym (with-fitting out x f.0 _ f.1 l)

      pub into_runs : w.whole ≡ true → (out₁ out₂ : List ℕ) → out₁ ≡ sets out 0 (take w.front (drop w.from p))
          → out₂ ≡ sets out₁ w.front (take w.rest (drop w.start p)) → out₂ ≡ with_name out x
      into_runs whole out₁ out₂ h₁ h₂ =
          let f = found in
          let g = (rw k at lies) whole in
          let a = take w.front (drop w.from p) in
          let b = take w.rest (drop w.start p) in
          let is : f.0 ≡ a ++ b = sym (ap bytes_of f.1) ∙ g.1 in
          let long : w.front ≡ 0 + length a =
          omega (arith, f.2, g.0, ap length is, length-append a b, take-most w.front (drop w.from p), take-most w.rest (drop w.start p)) in
          written (a ++ b) is out₂ (h₂ ∙ ap₂ (λ (l : List ℕ) (j : ℕ). sets l j b) h₁ long ∙ sets-append out 0 a b)

      pub into_expanded : (e : Expanded) → e ≡ expanded x → (out' : List ℕ) → out' ≡ sets out 0 (take w.span.len e.bytes) → out' ≡ with_name out x
      into_expanded e is out' h =
          let f = found in
          written (take w.span.len e.bytes)
          (sym (ap (λ (y : Expanded). take w.span.len y.bytes) (is ∙ ap expanded f.1) ∙ take_at f.0 (replicate (255 - length f.0) 0) w.span.len f.2))
          out' h
