-- What `take` answers (specification, 'The cache'). Assumes nothing: these are definitions.
use Rattle.std.specs.Prelude.{ℕ, List, cond, eqb}
use Rattle.cache.specs.declared.entries.Entry.{Entry}
use Rattle.cache.specs.entries.Cache.{Cache, take_refusal, take_in}
use Rattle.cache.specs.declared.Taken.{Taken}
use Rattle.cache.specs.declared.Taken.TheVariants as t

-- how many were turned away and how many passed over; or "A refusal returns the number alone"
abbrev pub taken_with : ℕ → Cache → Taken
taken_with number c = cond (eqb number 0) (t.Accepted (record { turned = c.turned; passed = c.passed })) (t.Refused number)

-- the specification's number for each answer: 0 where nothing is refused
abbrev pub taken_number : Taken → ℕ
taken_number (t.Refused number) = number
taken_number (t.Accepted c) = 0

unfoldable pub taken_of : ℕ → List Entry → List ℕ → ℕ → List ℕ → Taken
taken_of now es store port p = taken_with (take_refusal now es store port p) (take_in now es store port p)
