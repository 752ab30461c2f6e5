-- A test on the records of several sections. Assumes nothing.
use mathlib.Core.Path.{◌≡◌, refl, sym, ap, ◌∙◌}
use mathlib.Core.List.{List, [], ◌∷◌, ◌++◌}
use mathlib.Core.Bool.{Bool, ◌||◌, or_assoc}
use Rattle.wire.specs.Lists.{some}

-- a test on two lists, one after the other
pub some_append : {A : Type 0} (test : A → Bool) (xs ys : List A) → some test (xs ++ ys) ≡ (some test xs || some test ys)
unfolding some
some_append test [] ys = refl
some_append test (x ∷ xs) ys = ap (λ (b : Bool). test x || b) (some_append test xs ys) ∙ sym (or_assoc (test x) (some test xs) (some test ys))
