-- Where labels start, label by label. Assumes nothing.
use mathlib.Core.Path.{◌≡◌, refl, sym, ap, ap₂, ◌∙◌}
use mathlib.Core.List.{List, [], ◌∷◌}
use mathlib.Core.Bool.{Bool, true, false}
use Prim.Native.Nat.{ℕ, zero, suc, ◌+◌, ◌-◌, ◌<◌, ◌≤◌}
use native.Mathlib.Nat.{sub-zero, suc-sub-suc}
use native.Mathlib.Numerals.{add-one}
use native.Mathlib.Omega.{arith}
use borrow.Author.Tests.{ne_eqb, eqb-true, eqb-false}
use lib.ListN.{length, get_or, drop, length-drop}
use lib.Seq.{drop-cons, drop-drop}
use lib.Dec.{eqb}
use Rattle.proxy.specs.domains.Under.{starts_at}

-- the bytes of a label are passed over, and no label starts among them
pub starts-on : (k at : ℕ) (bs : List ℕ) → k ≤ at → at ≤ length bs → starts_at k at bs ≡ starts_at 0 (at - k) (drop k bs)
unfolding starts_at
starts-on zero at bs h l = ap (λ (n : ℕ). starts_at 0 n bs) (sym (sub-zero at))
starts-on (suc k) zero bs h l = absurd (omega arith)
starts-on (suc k) (suc at) [] h l = absurd (omega arith)
starts-on (suc k) (suc at) (b ∷ bs) h l = starts-on k at bs (omega arith) (omega arith) ∙ ap (λ (n : ℕ). starts_at 0 n (drop k bs)) (sym (suc-sub-suc at k))

pub starts-within : (k at : ℕ) (bs : List ℕ) → at < k → starts_at k at bs ≡ false
unfolding starts_at
starts-within zero at bs h = absurd (omega arith)
starts-within (suc k) zero bs h = ne_eqb (suc k) 0 (λ e. omega arith)
starts-within (suc k) (suc at) [] h = refl
starts-within (suc k) (suc at) (b ∷ bs) h = starts-within k at bs (omega arith)

-- a walk that has come to `i`, at or before the place or past it
abbrev pub Came : List ℕ → ℕ → ℕ → Type 0
Came name at i = (i ≤ at → starts_at 0 at name ≡ starts_at 0 (at - i) (drop i name)) × (at < i → starts_at 0 at name ≡ false)

pub at_first : (name : List ℕ) (at : ℕ) → Came name at 0
at_first name at = (λ h. ap (λ (n : ℕ). starts_at 0 n name) (sym (sub-zero at)), λ h. absurd (omega arith))

-- a label further
module _ (name : List ℕ) (at i : ℕ) (fits : at ≤ length name) (before : i < at) (inv : Came name at i) where
  here : starts_at 0 at name ≡ starts_at (get_or name i 0) (at - (i + 1)) (drop (i + 1) name)
  unfolding starts_at
  here =
      let some : at - i ≡ suc (at - (i + 1)) = omega arith in
      let long : i < length name = omega arith in
      inv.0 (omega arith) ∙ ap₂ (λ (n : ℕ) (l : List ℕ). starts_at 0 n l) some (drop-cons name i 0 long)
      ∙ ap (λ (n : ℕ). starts_at (get_or name i 0) (at - (i + 1)) (drop n name)) (sym (add-one i))

  pub came_further : (n : ℕ) → get_or name i 0 ≡ n → Came name at (i + 1 + n)
  came_further n e = (
    λ h. here ∙ ap (λ (k : ℕ). starts_at k (at - (i + 1)) (drop (i + 1) name)) e
        ∙ starts-on n (at - (i + 1)) (drop (i + 1) name) (omega arith) (room h)
        ∙ ap₂ (λ (m : ℕ) (l : List ℕ). starts_at 0 m l) (less h) (drop-drop n (i + 1) name),
    λ h. here ∙ ap (λ (k : ℕ). starts_at k (at - (i + 1)) (drop (i + 1) name)) e ∙ starts-within n (at - (i + 1)) (drop (i + 1) name) (omega arith),
  )
    where
      room : i + 1 + n ≤ at → at - (i + 1) ≤ length (drop (i + 1) name)
      room h = omega (arith, length-drop (i + 1) name)

      less : i + 1 + n ≤ at → at - (i + 1) - n ≡ at - (i + 1 + n)
      less h = omega arith

-- the walk's end
pub came_to : (name : List ℕ) (at i : ℕ) → at ≤ i → Came name at i → eqb i at ≡ starts_at 0 at name
unfolding starts_at
came_to name at i h inv = go (eqb i at) refl
  where
    go : (b : Bool) → eqb i at ≡ b → eqb i at ≡ starts_at 0 at name
    go true e =
        let s : i ≡ at = eqb-true i at e in
        let z : at - i ≡ 0 = omega arith in
        e ∙ sym (inv.0 (omega arith) ∙ ap (λ (n : ℕ). starts_at 0 n (drop i name)) z)
    go false e = let s : at < i = omega (arith, eqb-false i at e) in e ∙ sym (inv.1 s)
