-- Refusals (specification, 'Refusal numbers'): "Each call tests those that apply to it in the order 1, 2, 3, 8, 4, 5, 6, 7, 9" and answers the first; 10 is
-- "tested after 9", 11 "after 10", 12 "after 11", 13 "last". A call's refusals are the list of its tests in that order, each with its number. Assumes nothing.
use Rattle.std.specs.Prelude.{ℕ, List, [], ◌∷◌, Bool, cond, Result, Ok, Err}
use Rattle.wire.specs.declared.refusals.Refusal.{Refusal}
use Rattle.wire.specs.declared.refusals.Refusal.TheVariants.{Time, Draw, Buffer, Length, Header, Malformed, Setup, Table, Key, Lost, TooSoon, Trace, TooLong}

abbrev pub TIME : ℕ
TIME = 1

abbrev pub DRAW : ℕ
DRAW = 2

abbrev pub BUFFER : ℕ
BUFFER = 3

abbrev pub LENGTH : ℕ
LENGTH = 4

abbrev pub HEADER : ℕ
HEADER = 5

abbrev pub MALFORMED : ℕ
MALFORMED = 6

abbrev pub SETUP : ℕ
SETUP = 7

abbrev pub TABLE : ℕ
TABLE = 8

abbrev pub KEY : ℕ
KEY = 9

abbrev pub LOST : ℕ
LOST = 10

abbrev pub TOO-SOON : ℕ
TOO-SOON = 11

abbrev pub TRACE : ℕ
TRACE = 12

abbrev pub TOO-LONG : ℕ
TOO-LONG = 13

-- the number of a refusal
abbrev pub number_of : Refusal → ℕ
number_of Time = TIME
number_of Draw = DRAW
number_of Buffer = BUFFER
number_of Length = LENGTH
number_of Header = HEADER
number_of Malformed = MALFORMED
number_of Setup = SETUP
number_of Table = TABLE
number_of Key = KEY
number_of Lost = LOST
number_of TooSoon = TOO-SOON
number_of Trace = TRACE
number_of TooLong = TOO-LONG

-- the number that a call answers: that of its refusal, 0 where it is not refused
abbrev pub number_in : {A : Type 0} → Result A Refusal → ℕ
number_in (Ok x) = 0
number_in (Err refusal) = number_of refusal

-- the first test that holds refuses
abbrev pub refused_by : List (Refusal × Bool) → Result (Unit {0}) Refusal
refused_by [] = Ok tt
refused_by (test ∷ tests) = cond test.1 (Err test.0) (refused_by tests)

-- the number of the first test that holds, 0 where none does
abbrev pub first_refusal : List (Refusal × Bool) → ℕ
first_refusal [] = 0
first_refusal (test ∷ tests) = cond test.1 (number_of test.0) (first_refusal tests)
