-- The two lists of a tiebreak (specification, 'A claim's life'): the message's Authority records under the claim's name, and the own records of the claim.
-- Assumes nothing: these are definitions.
use Rattle.std.specs.Prelude.{ℕ, List, [], ◌∷◌, Bool, cond, Option, Some, None}
use Rattle.wire.specs.message.Message.{Record, Message, class_of}
use Rattle.wire.specs.message.Layout.{record_at}
use Rattle.wire.specs.message.Readable.{readable}
use Rattle.wire.specs.declared.message.Section.{Section}
use Rattle.facts.specs.declared.tiebreak.OwnTypes.{OwnTypes}
use Rattle.facts.specs.probe.Probe.{under}
use Rattle.facts.specs.tiebreak.Later.{TieRecord}

-- "Class means the low 15 bits"; the TTL and the spelling of the owner do not enter
abbrev pub tie_record : Record → TieRecord
tie_record r = record { class = class_of r.class; rtype = r.rtype; rdata = r.rdata }

-- their list: every record under the name, in the packet's order, repeats with them
unfoldable pub list_under : List ℕ → List Record → List TieRecord
list_under name [] = []
list_under name (r ∷ rs) = cond (under name r) (tie_record r ∷ list_under name rs) (list_under name rs)

-- the same of a section as it lies
abbrev pub list_in : List ℕ → List ℕ → Section → List TieRecord
list_in name p s = list_under name (readable (record_at p) s.count s.at)

abbrev pub theirs : List ℕ → Message → List TieRecord
theirs name m = list_under name m.authorities

-- the own list of a claim: class 1, one record or two, each with its type and expanded rdata
abbrev pub own_record : ℕ → List ℕ → TieRecord
own_record rtype d = record { class = 1; rtype = rtype; rdata = d }

abbrev pub own_list : ℕ → List ℕ → Bool → ℕ → List ℕ → List TieRecord
own_list rtype d both rtype₂ d₂ = own_record rtype d ∷ cond both (own_record rtype₂ d₂ ∷ []) []

-- the same, by the types that are handed over
abbrev pub second_record : Option ℕ → List ℕ → List TieRecord
second_record None d = []
second_record (Some rtype) d = own_record rtype d ∷ []

abbrev pub own_records : OwnTypes → List ℕ → List ℕ → List TieRecord
own_records own d d₂ = own_record own.first d ∷ second_record own.second d₂
