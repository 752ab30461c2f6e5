-- What the private functions of this module answer: how many records of a list stand earlier than an own record, and how many equal it. The verdict
-- is a function of these counts (`tie-one` and `tie-two` in proofs/Counting.antt). Assumes nothing: these are definitions.
use Rattle.std.specs.declared.cmp.Ordering.{Ordering}
use Rattle.std.specs.declared.cmp.Ordering.TheVariants.{Less, Equal, Greater}
use Rattle.std.specs.Prelude.{ℕ, ◌+◌, List, [], ◌∷◌, Bool, cond, ltb}
use Rattle.facts.specs.declared.tiebreak.Counts.{Counts}
use Rattle.facts.specs.tiebreak.Later.{TieRecord, compare_records}

-- one more record, which compares so with the own one
abbrev pub count_one : Ordering → Counts → Counts
count_one Less c = record { all = c.all + 1; earlier = c.earlier + 1; same = c.same }
count_one Equal c = record { all = c.all + 1; earlier = c.earlier; same = c.same + 1 }
count_one Greater c = record { all = c.all + 1; earlier = c.earlier; same = c.same }

-- one record more, if it is under the name
abbrev pub count_met : Bool → TieRecord → TieRecord → Counts → Counts
count_met is_under t x c = cond is_under (count_one (compare_records t x) c) c

-- all records of a list, on top of counts
unfoldable pub count_all : TieRecord → List TieRecord → Counts → Counts
count_all x [] c = c
count_all x (t ∷ ts) c = count_all x ts (count_one (compare_records t x) c)

abbrev pub none_counted : Counts
none_counted = record { all = 0; earlier = 0; same = 0 }

-- how the record at place `k` of the sorted list compares with the own one; a list that has run out there is earlier
unfoldable pub placed : ℕ → Counts → Ordering
placed k c = cond (ltb k c.earlier) Less (cond (ltb k (c.earlier + c.same)) Equal (cond (ltb k c.all) Greater Less))

-- the own list has run out after `k` records that were the same
unfoldable pub beyond : ℕ → Counts → Ordering
beyond k c = cond (ltb k c.all) Greater Equal
