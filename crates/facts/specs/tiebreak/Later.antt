-- The order of lists of records (specification, 'A claim's life', "Later"; RFC 6762, 8.2): "sort each list by class, type, rdata bytes as 0..255; the
-- longer of two equal beginnings is later. Compare in turn; a list that runs out first is earlier." Assumes nothing: these are definitions.
use Rattle.std.specs.declared.cmp.Ordering.{Ordering}
use Rattle.std.specs.declared.cmp.Ordering.TheVariants.{Less, Equal, Greater}
use Rattle.std.specs.Ordering.{is_gt, ordering_then, nat_cmp}
use Rattle.std.specs.Prelude.{ℕ, List, [], ◌∷◌, Bool, cond, ℤ, pos, negsuc}

-- "The comparison gives -1, 0 or 1": the specification's number for each verdict (`negsuc 0` is -1)
abbrev pub number_of : Ordering → ℤ
number_of Less = negsuc 0
number_of Equal = pos 0
number_of Greater = pos 1

-- the list or record that is compared is later
abbrev pub is_later : Ordering → Bool
is_later verdict = is_gt verdict

-- the first verdict decides, unless it is Equal: then the second does
abbrev pub unless_same : Ordering → Ordering → Ordering
unless_same u v = ordering_then u v

-- two numbers; a byte is one of 0..255
unfoldable pub compare_numbers : ℕ → ℕ → Ordering
compare_numbers a b = nat_cmp a b

-- "Compare in turn; a list that runs out first is earlier"
unfoldable pub in_turn : {A : Type 0} → (A → A → Ordering) → List A → List A → Ordering
in_turn by [] [] = Equal
in_turn by [] (y ∷ ys) = Less
in_turn by (x ∷ xs) [] = Greater
in_turn by (x ∷ xs) (y ∷ ys) = unless_same (by x y) (in_turn by xs ys)

-- "rdata bytes as 0..255; the longer of two equal beginnings is later"
abbrev pub compare_bytes : List ℕ → List ℕ → Ordering
compare_bytes = in_turn compare_numbers

-- what the tiebreak sees of a record: its class, "the low 15 bits"; its type; its rdata, names in PTR and SRV expanded
pub record TieRecord : Type 0 where
  pub class : ℕ
  pub rtype : ℕ
  pub rdata : List ℕ

-- "by class, type, rdata bytes"
unfoldable pub compare_records : TieRecord → TieRecord → Ordering
compare_records a b = unless_same (compare_numbers a.class b.class) (unless_same (compare_numbers a.rtype b.rtype) (compare_bytes a.rdata b.rdata))

-- "sort each list", the earliest first; "Repeats stay."
unfoldable pub insert_by : {A : Type 0} → (A → A → Ordering) → A → List A → List A
insert_by by x [] = x ∷ []
insert_by by x (y ∷ ys) = cond (is_later (by x y)) (y ∷ insert_by by x ys) (x ∷ (y ∷ ys))

unfoldable pub sort_by : {A : Type 0} → (A → A → Ordering) → List A → List A
sort_by by [] = []
sort_by by (x ∷ xs) = insert_by by x (sort_by by xs)

-- how their list stands to the own one: Greater where "theirs is later", Equal where "equal lists: no one defers"
unfoldable pub tie : List TieRecord → List TieRecord → Ordering
tie theirs own = in_turn compare_records (sort_by compare_records theirs) (sort_by compare_records own)
