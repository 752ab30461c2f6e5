-- The order in which a lookup tests an entry: the type, the owner's length, and only then the names with letters folded. Statement; proved in
-- proofs/laws/Order.antt. Assumes nothing.
use Rattle.std.specs.Prelude.{◌≡◌, List, Bool, ◌&&◌, ℕ, leb, eqb}
use Rattle.wire.specs.case_folding.Fold.{same_name}
use Rattle.cache.specs.entries.Entries.{owner_held, is_live}
use Rattle.cache.specs.entries.Tables.{lowest}
use Rattle.cache.specs.entries.Cache.{look_in, look_refusal}
use Rattle.cache.specs.declared.entries.Entry.{Entry}

-- a live match from a slot on, told the other way round: the names first, then the type; the lengths by themselves not at all
unfoldable pub matches_by_name : ℕ → List ℕ → List ℕ → ℕ → ℕ → ℕ → Entry → Bool
matches_by_name now store name rtype from i e =
    same_name (owner_held store i e) name && (eqb e.rtype rtype && (is_live now e && leb from i))

-- `order-free`: every lookup that is not refused finds what it finds by names first
abbrev pub OrderFree : Type 0
OrderFree =
    (now : ℕ) (es : List Entry) (store name : List ℕ) (rtype from : ℕ) → look_refusal now es store name ≡ 0
    → look_in now es store name rtype from ≡ lowest (matches_by_name now store name rtype from) 0 es
