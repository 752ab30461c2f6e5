-- What a lookup answers (specification, 'The cache'). Assumes nothing: these are definitions.
use Rattle.std.specs.Prelude.{ℕ, List, [], ◌∷◌, cond, not, length, eqb, Option, Some, None}
use Rattle.wire.specs.refusals.Numbers.{first_refusal}
use Rattle.wire.specs.declared.refusals.Refusal.TheVariants.{Malformed, Table}
use Rattle.cache.specs.declared.entries.Entry.{Entry}
use Rattle.cache.specs.entries.Cache.{is_store_of, bad_name, look_refusal, look_in}
use Rattle.wire.specs.labels.Counted.{labels_in, first_in}
use Rattle.cache.specs.declared.lookup.Met.{Met}
use Rattle.cache.specs.declared.lookup.Looked.{Looked}
use Rattle.cache.specs.declared.lookup.Looked.TheVariants as l

-- a slot that was found for a name, and the name's two numbers; the owner in the slot has the same (`owner-numbers` in proofs/lookup/Owners.antt)
abbrev pub met_at : List ℕ → ℕ → Met
met_at name i = record { slot = i; labels = labels_in name; first = first_in name }

-- the slot that a lookup gives, or none
abbrev pub looked_with : List ℕ → ℕ → Option ℕ → Looked
looked_with name number (Some i) = cond (eqb number 0) (l.Found (met_at name i)) (l.Refused number)
looked_with name number None = cond (eqb number 0) l.Nothing (l.Refused number)

-- the specification's number for each answer: 0 where nothing is refused
abbrev pub looked_number : Looked → ℕ
looked_number (l.Refused number) = number
looked_number (l.Found m) = 0
looked_number l.Nothing = 0

unfoldable pub looked_of : ℕ → List Entry → List ℕ → List ℕ → ℕ → ℕ → Looked
looked_of now es store name rtype from = looked_with name (look_refusal now es store name) (look_in now es store name rtype from)

-- a lookup's refusal, from that of the entries of its table of n
abbrev pub looked_refusal : ℕ → ℕ → List ℕ → List ℕ → ℕ
looked_refusal number n store name = cond (eqb number 0) (first_refusal ((Table, not (is_store_of n (length store))) ∷ ((Malformed, bad_name name) ∷ []))) number
