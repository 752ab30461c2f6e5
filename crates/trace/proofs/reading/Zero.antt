-- Zero bytes, as a test of each. Assumes nothing.
use Rattle.std.proofs.Common.{◌≡◌, refl, ap}
use Rattle.std.specs.Prelude.{ℕ, List, [], ◌∷◌, ◌&&◌, eqb}
use Rattle.std.specs.List.{list_all}
use Rattle.trace.specs.reading.Reading.{all_zero}

pub each_zero : (s : List ℕ) → list_all (λ b. eqb b 0) s ≡ all_zero s
unfolding all_zero
each_zero [] = refl
each_zero (b ∷ s) = ap (λ t. eqb b 0 && t) (each_zero s)
