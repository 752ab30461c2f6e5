-- Entries of other types than a record's, passed over. Assumes nothing: these are definitions.
use Rattle.std.specs.Prelude.{ℕ, ◌≤◌, ◌≡◌, List, Bool, ◌||◌, drop, eqb}
use Rattle.cache.specs.entries.Tables.{slot_from}
use Rattle.cache.specs.declared.entries.Entry.{Entry}

-- an entry is of a type; one of four is
unfoldable pub of_type : ℕ → ℕ → Entry → Bool
of_type rtype i e = eqb e.rtype rtype

abbrev pub type_among : ℕ → Entry → Entry → Entry → Entry → Bool
type_among rtype a b c d = eqb a.rtype rtype || (eqb b.rtype rtype || (eqb c.rtype rtype || eqb d.rtype rtype))

-- the lowest entry of a type is the same from either of two slots on, the second not before the first
abbrev pub Passed : ℕ → List Entry → ℕ → ℕ → Type 0
Passed rtype es from to = (from ≤ to) × (slot_from (of_type rtype) to (drop to es) ≡ slot_from (of_type rtype) from (drop from es))
