-- The answers in numbers: the specification's number and values for each case ('The cache'). Assumes nothing: these are definitions.
use Rattle.std.specs.Prelude.{ℕ, Bool, true, false, List}
use Rattle.wire.specs.labels.Counted.{labels_in, first_in}
use Rattle.cache.specs.Answers.{taken_number}
use Rattle.cache.specs.lookup.Answers.{looked_number}
use Rattle.cache.specs.declared.lookup.Looked.{Looked}
use Rattle.cache.specs.declared.lookup.Looked.TheVariants as l
use Rattle.cache.specs.declared.Taken.{Taken}
use Rattle.cache.specs.declared.Taken.TheVariants as t
use Rattle.capi_cache.specs.declared.TakenNumbers.{TakenNumbers}
use Rattle.capi_cache.specs.declared.LookedNumbers.{LookedNumbers}

-- The specification's values: the two counts, of an answer without them 0
abbrev pub turned_away : Taken → ℕ
turned_away (t.Refused number) = 0
turned_away (t.Accepted c) = c.turned

abbrev pub passed_over : Taken → ℕ
passed_over (t.Refused number) = 0
passed_over (t.Accepted c) = c.passed

-- the number and the values of an answer together
abbrev pub taken_numbers : Taken → TakenNumbers
taken_numbers answer = record { refusal = taken_number answer; turned = turned_away answer; passed = passed_over answer }

-- The specification's values: whether a slot was found, and the slot, of an answer without it 0
abbrev pub is_found : Looked → Bool
is_found (l.Refused number) = false
is_found (l.Found m) = true
is_found l.Nothing = false

abbrev pub found_slot : Looked → ℕ
found_slot (l.Refused number) = 0
found_slot (l.Found m) = m.slot
found_slot l.Nothing = 0

-- and of the name that was found, how many labels it has and how long the first is
abbrev pub found_labels : Looked → ℕ
found_labels (l.Refused number) = 0
found_labels (l.Found m) = m.labels
found_labels l.Nothing = 0

abbrev pub found_first : Looked → ℕ
found_first (l.Refused number) = 0
found_first (l.Found m) = m.first
found_first l.Nothing = 0

-- the number and the values of an answer together
abbrev pub looked_numbers : Looked → LookedNumbers
looked_numbers answer = record {
  refusal = looked_number answer;
  found = is_found answer;
  slot = found_slot answer;
  name_labels = found_labels answer;
  name_first_label = found_first answer;
}

-- the answers of `take` and of a lookup, case by case
abbrev pub refused_take : ℕ → TakenNumbers
refused_take number = record { refusal = number; turned = 0; passed = 0 }

abbrev pub counted_take : ℕ → ℕ → TakenNumbers
counted_take turned passed = record { refusal = 0; turned = turned; passed = passed }

abbrev pub refused_look : ℕ → LookedNumbers
refused_look number = record { refusal = number; found = false; slot = 0; name_labels = 0; name_first_label = 0 }

abbrev pub found_look : List ℕ → ℕ → LookedNumbers
found_look name i = record { refusal = 0; found = true; slot = i; name_labels = labels_in name; name_first_label = first_in name }

abbrev pub nothing_look : LookedNumbers
nothing_look = record { refusal = 0; found = false; slot = 0; name_labels = 0; name_first_label = 0 }
