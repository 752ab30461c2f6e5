-- The lookup of a key in a received and a factory TXT: its refusals, its answer and the part that is shown (specification, 'TXT pairs' and 'Refusal
-- numbers'). Assumes nothing: these are definitions.
use Rattle.std.specs.Prelude.{ℕ, ◌+◌, List, [], ◌∷◌, Bool, not, ◌&&◌, ◌||◌, length, take, drop, ltb, eqb, Result, Ok, Err}
use Rattle.std.proofs.Math.Option.{Option, none, some}
use Rattle.wire.specs.Lists.{some as some_of}
use Rattle.wire.specs.refusals.Numbers.{number_of as refusal_number, refused_by, first_refusal}
use Rattle.wire.specs.declared.refusals.Refusal.{Refusal}
use Rattle.wire.specs.declared.refusals.Refusal.TheVariants.{Key, Malformed}
use Rattle.wire.specs.rdata.Rdata.{strings_fill}
use Rattle.txt.specs.Txt.{Text, text, strings, key_of, value_of, first_with}
use Rattle.txt.specs.declared.Buffer.{Buffer}
use Rattle.txt.specs.declared.Buffer.TheVariants.{Received, Factory}
use Rattle.txt.specs.declared.Held.{Held}
use Rattle.txt.specs.declared.Answer.{Answer}
use Rattle.txt.specs.declared.Answer.TheVariants.{Refused, Absent, Present, Empty, Value}

-- Refusal 9: "TXT key asked for is empty or has a byte outside 0x20..0x7E or an "=""
abbrev pub bad_byte : ℕ → Bool
bad_byte b = ltb b 32 || (ltb 126 b || eqb b 61)

unfoldable pub bad_key : List ℕ → Bool
bad_key key = eqb (length key) 0 || some_of bad_byte key

-- Refusal 6: "Both must be well formed", whichever would have answered
abbrev pub bad_txt : List ℕ → List ℕ → Bool
bad_txt received factory = not (strings_fill 0 received && strings_fill 0 factory)

-- The refusals of a lookup, which "tests 9 first".
abbrev pub lookup_tests : List ℕ → List ℕ → List ℕ → List (Refusal × Bool)
lookup_tests key received factory = (Key, bad_key key) ∷ ((Malformed, bad_txt received factory) ∷ [])

unfoldable pub refusal_of : List ℕ → List ℕ → List ℕ → ℕ
refusal_of key received factory = first_refusal (lookup_tests key received factory)

-- "present without value, empty value, or the value itself": a value of so many bytes that starts at `at` of a buffer
abbrev pub valued : Buffer → ℕ → Option (List ℕ) → Answer
valued b at none = Present
valued b at (some []) = Empty
valued b at (some (v ∷ vs)) = Value (record { buffer = b; at = at; len = length (v ∷ vs) })

-- what the string whose text starts at `at` of a buffer gives; its value stands after the key and the "="
unfoldable pub given_by : Buffer → ℕ → List ℕ → Answer
given_by b at s = valued b (at + length (key_of s) + 1) (value_of s)

-- "The first string whose key matches .. gives: absent, present without value, empty value, or the value itself."
abbrev pub answer_of : Buffer → Option Text → Answer
answer_of b none = Absent
answer_of b (some (text at s)) = given_by b at s

unfoldable pub in_txt : Buffer → List ℕ → List ℕ → Answer
in_txt b key txt = answer_of b (first_with key (strings txt))

-- "The mask asks the received TXT and then its factory TXT when absent"
abbrev pub when_absent : Answer → Answer → Answer
when_absent Absent other = other
when_absent (Refused n) other = Refused n
when_absent Present other = Present
when_absent Empty other = Empty
when_absent (Value h) other = Value h

abbrev pub unless_refused : Result (Unit {0}) Refusal → Answer → Answer
unless_refused (Ok u) answer = answer
unless_refused (Err refusal) answer = Refused (refusal_number refusal)

-- The answer of the lookup.
unfoldable pub lookup_of : List ℕ → List ℕ → List ℕ → Answer
lookup_of key received factory =
    unless_refused (refused_by (lookup_tests key received factory)) (when_absent (in_txt Received key received) (in_txt Factory key factory))

-- The number that each answer is, 0 where it is no refusal.
abbrev pub number_of : Answer → ℕ
number_of (Refused n) = n
number_of Absent = 0
number_of Present = 0
number_of Empty = 0
number_of (Value h) = 0

-- The part that each answer shows: the value itself, and "When absent, present without value, empty or refused, the part shown is the empty one
-- at the received TXT's start."
abbrev pub empty_part : Held
empty_part = record { buffer = Received; at = 0; len = 0 }

abbrev pub part_of : Answer → Held
part_of (Refused n) = empty_part
part_of Absent = empty_part
part_of Present = empty_part
part_of Empty = empty_part
part_of (Value h) = h

abbrev pub shown_of : List ℕ → List ℕ → List ℕ → Held
shown_of key received factory = part_of (lookup_of key received factory)

-- "the value shown is a part of whichever buffer held it": its bytes, and its start in memory, a block and an offset there
abbrev pub holder : {A : Type 0} → Buffer → A → A → A
holder Received received factory = received
holder Factory received factory = factory

abbrev pub bytes_of : Held → List ℕ → List ℕ → List ℕ
bytes_of h received factory = take h.len (drop h.at (holder h.buffer received factory))

abbrev pub stands_from : Held → ℕ × ℕ → ℕ × ℕ → ℕ × ℕ
stands_from h received factory = ((holder h.buffer received factory).0, h.at + (holder h.buffer received factory).1)
