-- What a question asks for (specification, 'Which answers go out'). Assumes nothing: these are definitions.
use Rattle.std.specs.Prelude.{ℕ, List, Bool, not, ◌&&◌, ◌||◌, eqb}
use Rattle.wire.specs.case_folding.Fold.{same_name}
use Rattle.wire.specs.message.Message.{Question, class_of, top_bit}

-- a type or a class that is asked for takes in another: it is that one, or 255
abbrev pub takes_in : ℕ → ℕ → Bool
takes_in asked own = eqb asked own || eqb asked 255

-- a question of a name and of "class 1 or 255", whose type takes in what is asked about or not, whatever its unicast bit
abbrev pub asks_by : List ℕ → Bool → Question → Bool
asks_by name takes q = same_name q.name name && (takes && takes_in (class_of q.class) 1)

-- "a question of a query has its name, its type or 255, and class 1 or 255"
abbrev pub asks_for : List ℕ → ℕ → Question → Bool
asks_for name rtype q = asks_by name (takes_in q.rtype rtype) q

-- "the top bit of a question's class": the answer is wanted by unicast (RFC 6762, section 5.4: a QU question, and without the bit a QM question)
abbrev pub is_qu : Question → Bool
is_qu q = top_bit q.class

abbrev pub is_qm : Question → Bool
is_qm q = not (is_qu q)
