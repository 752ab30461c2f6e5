-- The laws of the tiebreak (specification, 'A claim's life', "Later"): it is a total order on sorted lists, and does not depend on the order in which
-- records stand in a packet. Assumes nothing.
use Rattle.std.specs.declared.cmp.Ordering.TheVariants.{Less, Equal, Greater}
use mathlib.Core.Path.{◌≡◌, refl, sym, ap, ◌∙◌}
use mathlib.Core.List.{List, [], ◌∷◌, Permᴰ}
use mathlib.Core.Bool.{Bool, true, false}
use Prim.Native.Nat.{ℕ, ◌<◌}
use native.Mathlib.Omega.{arith}
use lib.IntN.{neg_ℤ}
use Rattle.facts.specs.tiebreak.Later.{number_of, is_later, in_turn, TieRecord, compare_records, sort_by, tie}
use Rattle.std.specs.Bool.{then_some}
use Rattle.facts.specs.tiebreak.Lists.{own_record, own_list, own_records}
use Rattle.facts.proofs.tiebreak.Orders.{opposite, opposite_number, Order, number-earlier, number_same, lists_order, records-order}
use Rattle.facts.proofs.tiebreak.Sorting.{Least, none, and, Sorted, empty, first, perm_sort, sorted_sort}

-- the order of sorted lists
sorted_order : Order (in_turn compare_records)
sorted_order = lists_order compare_records records-order

-- the order of one record list, sorted
abbrev pub sorted : List TieRecord → List TieRecord
sorted = sort_by compare_records

module _ (a b : List TieRecord) where
  -- antisymmetric: seen from the other side the verdict is the opposite one, its number the negative one
  pub tie-swap : tie b a ≡ opposite (tie a b)
  unfolding tie
  tie-swap = sorted_order.swap (sorted a) (sorted b)

  pub tie-negates : number_of (tie b a) ≡ neg_ℤ (number_of (tie a b))
  tie-negates = ap number_of tie-swap ∙ opposite_number (tie a b)

  -- so never do both sides win, nor both lose
  pub one-wins : tie a b ≡ Less → tie b a ≡ Greater
  one-wins e = tie-swap ∙ ap opposite e

  -- Same exactly when the sorted lists are equal
  pub same_sorted : tie a b ≡ Equal → sorted a ≡ sorted b
  unfolding tie
  same_sorted e = sorted_order.equal (sorted a) (sorted b) e

  pub sorted_same : sorted a ≡ sorted b → tie a b ≡ Equal
  unfolding tie
  sorted_same e = ap (λ (t : List TieRecord). in_turn compare_records t (sorted b)) e ∙ sorted_order.same (sorted b)

  -- the order of records in the packet does not matter
  pub perm_tie : Permᴰ a b → (own : List TieRecord) → tie a own ≡ tie b own
  unfolding tie
  perm_tie d own = ap (λ (t : List TieRecord). in_turn compare_records t (sorted own)) (perm_sort compare_records records-order d)

-- transitive
module _ (a b c : List TieRecord) where
  pub tie-trans : tie a b ≡ Less → tie b c ≡ Less → tie a c ≡ Less
  unfolding tie
  tie-trans e f = sorted_order.trans (sorted a) (sorted b) (sorted c) e f

-- Own lists: one record of each type, by rising type, all of one class.
pub data Rising : List TieRecord → Type 0 where
  alone : {x : TieRecord} → Rising (x ∷ [])
  then : {x y : TieRecord} {xs : List TieRecord} → x.class ≡ y.class → x.rtype < y.rtype → Rising (y ∷ xs) → Rising (x ∷ (y ∷ xs))

-- a record of a lower type is earlier
lower-type : (x y : TieRecord) → x.class ≡ y.class → x.rtype < y.rtype → is_later (compare_records x y) ≡ false
unfolding compare_records
lower-type x y e h = simp (number_same x.class y.class (omega arith) (omega arith), number-earlier x.rtype y.rtype h)

rising_least : (x y : TieRecord) (xs : List TieRecord) → x.class ≡ y.class → x.rtype < y.rtype → Rising (y ∷ xs) → Least compare_records x (y ∷ xs)
rising_least x y [] e h alone = and (lower-type x y e h) none
rising_least x y (z ∷ xs) e h (then f k r) = and (lower-type x y e h) (rising_least x z xs (e ∙ f) (omega arith) r)

pub rising_sorted : {xs : List TieRecord} → Rising xs → Sorted compare_records xs
rising_sorted alone = first none empty
rising_sorted (then {x} {y} {xs} e h r) = first (rising_least x y xs e h r) (rising_sorted r)

pub rising_sort : {xs : List TieRecord} → Rising xs → sorted xs ≡ xs
rising_sort {xs} r = sorted_sort compare_records records-order xs (rising_sorted r)

-- For two own lists: Same only if both claims carry the same types with the same data.
module _ {a b : List TieRecord} (ra : Rising a) (rb : Rising b) where
  pub own_same : tie a b ≡ Equal → a ≡ b
  own_same e = sym (rising_sort ra) ∙ same_sorted a b e ∙ rising_sort rb

-- the own list, by the types that are handed over
pub as_list : (rtype : ℕ) (d : List ℕ) (both : Bool) (rtype₂ : ℕ) (d₂ : List ℕ)
    → own_records (record { first = rtype; second = then_some both rtype₂ }) d d₂ ≡ own_list rtype d both rtype₂ d₂
as_list rtype d true rtype₂ d₂ = refl
as_list rtype d false rtype₂ d₂ = refl

-- the own list of a claim is such a list
pub own_one : (t : ℕ) (d : List ℕ) (s : ℕ) (e : List ℕ) → Rising (own_list t d false s e)
own_one t d s e = alone

pub own_two : (t : ℕ) (d : List ℕ) (s : ℕ) (e : List ℕ) → t < s → Rising (own_list t d true s e)
own_two t d s e h = then refl h alone

-- what equal own lists say of the claims
pub own_parts : (t : ℕ) (d : List ℕ) (both : Bool) (s : ℕ) (e : List ℕ) (t' : ℕ) (d' : List ℕ) (both' : Bool) (s' : ℕ) (e' : List ℕ)
    → own_list t d both s e ≡ own_list t' d' both' s' e'
    → (t ≡ t') × (d ≡ d') × (both ≡ both') × (both ≡ true → (s ≡ s') × (e ≡ e'))
own_parts t d both s e t' d' both' s' e' h = go both both' h
  where
    go : (b b' : Bool) → own_list t d b s e ≡ own_list t' d' b' s' e' → (t ≡ t') × (d ≡ d') × (b ≡ b') × (b ≡ true → (s ≡ s') × (e ≡ e'))
    go true true h =
        let i : own_record t d ≡ own_record t' d' = cc in
        let j : own_record s e ≡ own_record s' e' = cc in (
          ap (λ (r : TieRecord). r.rtype) i,
          ap (λ (r : TieRecord). r.rdata) i,
          refl,
          λ k. (ap (λ (r : TieRecord). r.rtype) j, ap (λ (r : TieRecord). r.rdata) j),
        )
    go false false h =
        let i : own_record t d ≡ own_record t' d' = cc in
        (ap (λ (r : TieRecord). r.rtype) i, ap (λ (r : TieRecord). r.rdata) i, refl, λ k. let z : ◌≡◌ {A = ℕ} 0 1 = cc in absurd (omega arith))
    go true false h = let z : ◌≡◌ {A = ℕ} 0 1 = cc in absurd (omega arith)
    go false true h = let z : ◌≡◌ {A = ℕ} 0 1 = cc in absurd (omega arith)
