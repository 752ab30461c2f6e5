-- A call's tests: the refusal that they come to, and its number. Assumes nothing.
use Rattle.std.specs.Prelude.{◌≡◌, ◌<◌, Bool, true, false, cond, List, [], ◌∷◌, Result, Ok, Err}
use mathlib.Core.Path.{refl, ◌∙◌}
use native.Mathlib.Omega.{arith}
use Rattle.wire.specs.declared.refusals.Refusal.{Refusal}
use Rattle.wire.specs.declared.refusals.Refusal.TheVariants.{Time, Draw, Buffer, Length, Header, Malformed, Setup, Table, Key, Lost, TooSoon, Trace, TooLong}
use Rattle.wire.specs.refusals.Numbers.{number_of, number_in, refused_by, first_refusal}

-- a refusal has a number, and 0 is that of none
pub numbers_from-1 : (refusal : Refusal) → 0 < number_of refusal
numbers_from-1 Time = omega arith
numbers_from-1 Draw = omega arith
numbers_from-1 Buffer = omega arith
numbers_from-1 Length = omega arith
numbers_from-1 Header = omega arith
numbers_from-1 Malformed = omega arith
numbers_from-1 Setup = omega arith
numbers_from-1 Table = omega arith
numbers_from-1 Key = omega arith
numbers_from-1 Lost = omega arith
numbers_from-1 TooSoon = omega arith
numbers_from-1 Trace = omega arith
numbers_from-1 TooLong = omega arith

-- the number of the refusal that tests come to is that of the first that holds
pub number_by : (tests : List (Refusal × Bool)) → number_in (refused_by tests) ≡ first_refusal tests
number_by [] = refl
number_by (test ∷ tests) = go test.1 (number_by tests)
  where
    go : (b : Bool) → number_in (refused_by tests) ≡ first_refusal tests
        → number_in (cond b (Err test.0) (refused_by tests)) ≡ cond b (number_of test.0) (first_refusal tests)
    go true h = refl
    go false h = h

-- what has the number 0 is not refused
pub not_refused : {A : Type 0} (r : Result A Refusal) → number_in r ≡ 0 → (x : A) × (r ≡ Ok x)
not_refused (Ok x) h = (x, refl)
not_refused (Err refusal) h = absurd (omega (arith, numbers_from-1 refusal))

-- tests of which none holds by its number refuse nothing
pub none_by : (tests : List (Refusal × Bool)) → first_refusal tests ≡ 0 → refused_by tests ≡ Ok tt
none_by tests h = go (refused_by tests) (number_by tests ∙ h)
  where
    go : (r : Result (Unit {0}) Refusal) → number_in r ≡ 0 → r ≡ Ok tt
    go (Ok tt) k = refl
    go (Err refusal) k = absurd (omega (arith, numbers_from-1 refusal))
