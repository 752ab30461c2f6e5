-- Probes (specification, 'A claim's life'): "A probe is a query with a type 255, class 1 or 255 question for the claim's name and at least one Authority
-- record under it." Assumes nothing: these are definitions.
use Rattle.std.specs.Prelude.{ℕ, List, Bool, not, ◌&&◌}
use Rattle.wire.specs.Lists.{some}
use Rattle.wire.specs.case_folding.Fold.{same_name}
use Rattle.wire.specs.message.Message.{Question, Record, Message, is_response}
use Rattle.facts.specs.Questions.{asks_for}

-- a record is "under" a name when its owner equals it; class, type and TTL do not matter
abbrev pub under : List ℕ → Record → Bool
under name r = same_name r.owner name

-- "a type 255, class 1 or 255 question for the claim's name": what asks for type 255 is of type 255 (`asks-all` in proofs/probe/Probes.antt)
abbrev pub asks_all : List ℕ → Question → Bool
asks_all name = asks_for name 255

-- "a query with a .. question for the claim's name and at least one Authority record under it"
unfoldable pub is_probe : List ℕ → Message → Bool
is_probe name m = not (is_response m.flags) && (some (asks_all name) m.questions && some (under name) m.authorities)
