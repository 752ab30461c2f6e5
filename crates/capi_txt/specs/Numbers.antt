-- The answer of a TXT lookup in numbers: the refusal, or 0; 0 absent, 1 present without value, 2 empty value, 3 the value itself; and the part shown.
-- Assumes nothing: these are definitions.
use Rattle.std.specs.Prelude.{ℕ}
use Rattle.txt.specs.declared.Buffer.{Buffer}
use Rattle.txt.specs.declared.Buffer.TheVariants.{Received, Factory}
use Rattle.txt.specs.declared.Answer.{Answer}
use Rattle.txt.specs.declared.Answer.TheVariants.{Refused, Absent, Present, Empty, Value}
use Rattle.txt.specs.Lookup.{number_of, part_of}
use Rattle.capi_txt.specs.declared.Pair.{Pair}

-- what the key says; a refused lookup found nothing
abbrev pub answer_number : Answer → ℕ
answer_number (Refused n) = 0
answer_number Absent = 0
answer_number Present = 1
answer_number Empty = 2
answer_number (Value h) = 3

-- which TXT the part shown is a part of: 0 received, 1 factory
abbrev pub buffer_number : Buffer → ℕ
buffer_number Received = 0
buffer_number Factory = 1

abbrev pub pair_of : Answer → Pair
pair_of a = record {
  refusal = number_of a;
  answer = answer_number a;
  buffer = buffer_number (part_of a).buffer;
  at = (part_of a).at;
  length = (part_of a).len;
}
