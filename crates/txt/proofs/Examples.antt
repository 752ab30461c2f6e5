-- Worked cases of the lookup, evaluated in one statement: those of RFC 6763, 6.4 and 6.5, the specification's "PassReq", and the refusals. Assumes nothing.
use mathlib.Core.Path.{◌≡◌, refl}
use mathlib.Core.List.{List, [], ◌∷◌, ◌++◌}
use Prim.Native.Nat.{ℕ}
use Rattle.wire.specs.case_folding.Fold.{same_name}
use Rattle.wire.specs.rdata.Rdata.{strings_fill}
use Rattle.txt.specs.Txt.{strings_from, key_of, value_of, has_key, first_with}
use Rattle.wire.specs.Lists.{some as some_of}
use Rattle.txt.specs.Lookup.{bad_key, refusal_of, given_by, in_txt, lookup_of}
use Rattle.txt.specs.declared.Buffer.{Buffer}
use Rattle.txt.specs.declared.Buffer.TheVariants.{Received, Factory}
use Rattle.txt.specs.declared.Answer.{Answer}
use Rattle.txt.specs.declared.Answer.TheVariants.{Refused, Absent, Present, Empty, Value}

-- "PassReq", "PASSREQ=1"
abbrev pass_req : List ℕ
pass_req = 80 ∷ 97 ∷ 115 ∷ 115 ∷ 82 ∷ 101 ∷ 113 ∷ []

abbrev pass_req_one : List ℕ
pass_req_one = 80 ∷ 65 ∷ 83 ∷ 83 ∷ 82 ∷ 69 ∷ 81 ∷ 61 ∷ 49 ∷ []

-- "PlugIns", "PlugIns="
abbrev plug_ins : List ℕ
plug_ins = 80 ∷ 108 ∷ 117 ∷ 103 ∷ 73 ∷ 110 ∷ 115 ∷ []

abbrev plug_ins_none : List ℕ
plug_ins_none = plug_ins ++ 61 ∷ []

-- "paper", "paper=A4"
abbrev paper : List ℕ
paper = 112 ∷ 97 ∷ 112 ∷ 101 ∷ 114 ∷ []

abbrev paper_a4 : List ℕ
paper_a4 = paper ++ 61 ∷ 65 ∷ 52 ∷ []

-- "a=b=c"
abbrev two_equals : List ℕ
two_equals = 97 ∷ 61 ∷ 98 ∷ 61 ∷ 99 ∷ []

-- a value of so many bytes at a place of a buffer
abbrev at : ℕ → ℕ → Buffer → Answer
at place n b = Value (record { buffer = b; at = place; len = n })

abbrev pub Cases : Type 0
Cases =
    -- "Strings "PassReq", "PASSREQ=1": present without value"; the factory TXT is not asked
    (lookup_of pass_req (7 ∷ pass_req ++ 9 ∷ pass_req_one) (9 ∷ pass_req_one) ≡ Present)
    -- the other way round: the value, at place 9
    × (lookup_of pass_req (9 ∷ pass_req_one ++ 7 ∷ pass_req) [] ≡ at 9 1 Received)
    -- an empty value is no absence
    × (lookup_of plug_ins (8 ∷ plug_ins_none) (7 ∷ plug_ins) ≡ Empty)
    -- absent in the received TXT: the factory's value, past an empty string and a string that starts with "="
    × (lookup_of paper (8 ∷ plug_ins_none) (0 ∷ 1 ∷ 61 ∷ 8 ∷ paper_a4) ≡ at 10 2 Factory)
    -- a key that begins another is another key
    × (lookup_of (112 ∷ 97 ∷ []) (8 ∷ paper_a4) [] ≡ Absent)
    -- a value may hold an "="
    × (lookup_of (97 ∷ []) (5 ∷ two_equals) [] ≡ at 3 3 Received)
    -- refusal 9, for an empty key and for one with an "=", also where the TXT is malformed
    × (lookup_of [] (5 ∷ []) [] ≡ Refused 9)
    × (lookup_of (97 ∷ 61 ∷ []) (5 ∷ two_equals) [] ≡ Refused 9)
    -- refusal 6 for the factory TXT, although the received one has the value
    × (lookup_of (97 ∷ []) (5 ∷ two_equals) (1 ∷ []) ≡ Refused 6)

pub evaluated : Cases
unfolding lookup_of refusal_of bad_key some_of strings_fill in_txt first_with strings_from has_key key_of value_of given_by same_name
evaluated = (refl, refl, refl, refl, refl, refl, refl, refl, refl)
