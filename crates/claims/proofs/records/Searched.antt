-- A list searched element by element, for one of which a test holds or fails. Assumes nothing.
use Prim.Native.Nat.{ℕ, ◌+◌, ◌<◌, ◌≤◌}
use mathlib.Core.Path.{◌≡◌, sym, ap, ◌∙◌}
use mathlib.Core.List.{List, ◌∷◌}
use mathlib.Core.Bool.{Bool, true, false, ◌&&◌, ◌||◌}
use native.Mathlib.Numerals.{add-one}
use lib.ListN.{length, get_or, drop, drop_of_length-le}
use lib.Seq.{drop-cons}
use Rattle.claims.specs.records.Sets.{some_of, every_of}

-- what is left of a list, from an index on
pub rest : {A : Type 0} (xs : List A) (i : ℕ) (d : A) → i < length xs → drop i xs ≡ get_or xs i d ∷ drop (i + 1) xs
rest xs i d h = drop-cons xs i d h ∙ ap (λ (k : ℕ). get_or xs i d ∷ drop k xs) (sym (add-one i))

module _ {A : Type 0} (test : A → Bool) (xs : List A) (i : ℕ) where
  -- nothing was found before `i`
  abbrev pub Some : Type 0
  Some = some_of test xs ≡ some_of test (drop i xs)

  abbrev pub Every : Type 0
  Every = every_of test xs ≡ every_of test (drop i xs)

  module _ (d : A) (h : i < length xs) (v : Bool) (is : v ≡ test (get_or xs i d)) where
    pub some-found : Some → v ≡ true → true ≡ some_of test xs
    unfolding some_of
    some-found e t = sym (e ∙ ap (some_of test) (rest xs i d h) ∙ ap (λ (b : Bool). b || some_of test (drop (i + 1) xs)) (sym is ∙ t))

    pub some_next : Some → v ≡ false → some_of test xs ≡ some_of test (drop (i + 1) xs)
    unfolding some_of
    some_next e f = e ∙ ap (some_of test) (rest xs i d h) ∙ ap (λ (b : Bool). b || some_of test (drop (i + 1) xs)) (sym is ∙ f)

    pub every-fails : Every → v ≡ false → false ≡ every_of test xs
    unfolding every_of
    every-fails e f = sym (e ∙ ap (every_of test) (rest xs i d h) ∙ ap (λ (b : Bool). b && every_of test (drop (i + 1) xs)) (sym is ∙ f))

    pub every-next : Every → v ≡ true → every_of test xs ≡ every_of test (drop (i + 1) xs)
    unfolding every_of
    every-next e t = e ∙ ap (every_of test) (rest xs i d h) ∙ ap (λ (b : Bool). b && every_of test (drop (i + 1) xs)) (sym is ∙ t)

  pub some-ends : Some → length xs ≤ i → false ≡ some_of test xs
  unfolding some_of
  some-ends e h = sym (e ∙ ap (some_of test) (drop_of_length-le xs h))

  pub every-ends : Every → length xs ≤ i → true ≡ every_of test xs
  unfolding every_of
  every-ends e h = sym (e ∙ ap (every_of test) (drop_of_length-le xs h))
