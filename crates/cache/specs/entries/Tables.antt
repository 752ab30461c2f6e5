-- A whole table: the list of its entries, of any length, each with its slot. Assumes nothing: these are definitions.
use Rattle.std.specs.Prelude.{ℕ, suc, List, [], ◌∷◌, Bool, cond, Option, Some, None}
use Rattle.cache.specs.declared.entries.Entry.{Entry}

-- the lowest slot whose entry passes a test; the list's first entry is in slot i
unfoldable pub lowest : (ℕ → Entry → Bool) → ℕ → List Entry → Option ℕ
lowest test i [] = None
lowest test i (e ∷ es) = cond (test i e) (Some i) (lowest test (suc i) es)

-- the same as a number; where none passes it is the slot past the last
unfoldable pub slot_from : (ℕ → Entry → Bool) → ℕ → List Entry → ℕ
slot_from test i [] = i
slot_from test i (e ∷ es) = cond (test i e) i (slot_from test (suc i) es)

-- a rule on every entry
unfoldable pub each : (ℕ → Entry → Entry) → ℕ → List Entry → List Entry
each rule i [] = []
each rule i (e ∷ es) = rule i e ∷ each rule (suc i) es
