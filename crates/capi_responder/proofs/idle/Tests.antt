-- Tests that all have to hold, in turn, as code puts them together. Assumes nothing.
use mathlib.Core.Path.{◌≡◌, sym, ap, ◌∙◌}
use mathlib.Core.Bool.{Bool, true, false, ◌&&◌, and_assoc}

-- the value as far as a test: that of the tests before it, or its own where they hold
pub on : {x y p q v : Bool} → p ≡ x → p ≡ true → v ≡ q → q ≡ y → v ≡ (x && y)
on {y = y} e t is h = is ∙ h ∙ sym (ap (λ (b : Bool). b && y) (sym e ∙ t))

pub off : {x p v : Bool} (y : Bool) → p ≡ x → p ≡ false → v ≡ p → v ≡ (x && y)
off y e f is = is ∙ f ∙ sym (ap (λ (b : Bool). b && y) (sym e ∙ f))

-- the tests of `nothing_due` as its definition puts them together
pub regroup : (p q r s t u v w : Bool) → (((((((p && q) && r) && s) && t) && u) && v) && w) ≡ (p && (q && (r && (s && (t && (u && (v && w)))))))
regroup p q r s t u v w = simp (and_assoc)
