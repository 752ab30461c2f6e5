-- What is lent of a table and of its store, by the lesser of two sizes. Assumes nothing.
use mathlib.Core.Path.{◌≡◌, refl, sym, ap, ◌∙◌}
use mathlib.Core.Bool.{Bool, true, false}
use mathlib.Core.List.{List, ◌++◌}
use Prim.Native.Nat.{ℕ, ◌≤◌, min}
use native.Mathlib.Omega.{arith}
use lib.Dec.{ltb}
use lib.ListN.{length, take, drop, drop_of_length-le}
use lib.Seq.{take_all}
use borrow.Author.Tests.{ltb-false}
use Rattle.std.proofs.lemmas.Bool.Decides.{nat_tests}
use Rattle.cache.specs.entries.Cache.{Cache, take_in}
use Rattle.cache.specs.Answers.{taken_of}
use Rattle.cache.specs.lookup.Answers.{looked_of}
use Rattle.cache.specs.declared.entries.Entry.{Entry}
use Rattle.cache.specs.declared.Taken.{Taken}
use Rattle.capi_cache.specs.Numbers.{taken_numbers, looked_numbers}
use Rattle.capi_cache.specs.declared.LookedNumbers.{LookedNumbers}
use Rattle.console_table.specs.Table.{least, first_taken, lent_entries, lent_bytes, taken_into, store_after}
use Rattle.console_table.specs.declared.Table.{Table}
use Rattle.console_table.specs.declared.FirstTaken.{FirstTaken}
use Rattle.console_table.specs.declared.AfterTake.{AfterTake}

pub min_least : (a b : ℕ) → min a b ≡ least a b
min_least a b = grind (arith, nat_tests)

-- the first k of a list, and the others, where k may be more than there are
module _ {X : Type 0} (k n : ℕ) (l : List X) (len : length l ≡ n) where
  is-most : ltb k n ≡ false → length l ≤ k
  is-most e = let h : n ≤ k = ltb-false k n e in omega arith

  take-least : (r : ℕ) → r ≡ least k n → take r l ≡ take k l
  take-least r is = go (ltb k n) refl
    where
      go : (t : Bool) → ltb k n ≡ t → take r l ≡ take k l
      go true e = let q : r ≡ k = is ∙ simp e in ap (λ (i : ℕ). take i l) q
      go false e =
          let q : r ≡ n = is ∙ simp e in
          let p : length l ≤ r = omega arith in
          take_all r l p ∙ sym (take_all k l (is-most e))

  drop-least : (r : ℕ) → r ≡ least k n → drop r l ≡ drop k l
  drop-least r is = go (ltb k n) refl
    where
      go : (t : Bool) → ltb k n ≡ t → drop r l ≡ drop k l
      go true e = let q : r ≡ k = is ∙ simp e in ap (λ (i : ℕ). drop i l) q
      go false e =
          let q : r ≡ n = is ∙ simp e in
          let p : length l ≤ r = omega arith in
          drop_of_length-le l p ∙ sym (drop_of_length-le l (is-most e))

module _ (t : Table) (len : length t.entries ≡ 513) (store : List ℕ) (n m : ℕ)
    (n-is : n ≡ least t.count 513) (m-is : m ≡ least t.room (length store)) where
  entries-lent : take n t.entries ≡ lent_entries t
  entries-lent = take-least t.count 513 t.entries len n n-is

  bytes_lent : take m store ≡ lent_bytes t store
  bytes_lent = take-least t.room (length store) store refl m m-is

  -- what holds of the parts that were cut holds of what is lent
  pub lent : {X : Type 0} (f : List Entry → List ℕ → X) → f (take n t.entries) (take m store) ≡ f (lent_entries t) (lent_bytes t store)
  lent f = λ i. f (entries-lent i) (bytes_lent i)

  pub looked : (time : ℕ) (name : List ℕ) (rtype from : ℕ) (r : LookedNumbers)
      → r ≡ looked_numbers (looked_of time (take n t.entries) (take m store) name rtype from)
      → r ≡ looked_numbers (looked_of time (lent_entries t) (lent_bytes t store) name rtype from)
  looked time name rtype from r is = is ∙ lent (λ es bytes. looked_numbers (looked_of time es bytes name rtype from))

  abbrev with-sizes : FirstTaken → AfterTake
  with-sizes x = record { numbers = x.numbers; table = record { entries = x.entries; count = t.count; room = t.room } }

  -- what the call gave, with the cache c, its answer, and the entries that are not lent
  abbrev given : Taken → Cache → List Entry → AfterTake
  given answer c es = record { numbers = taken_numbers answer; table = record { entries = c.entries ++ es; count = t.count; room = t.room } }

  pub taken : (time port : ℕ) (p : List ℕ) (first : FirstTaken) (last : List ℕ) (r : AfterTake)
      → (first ≡ first_taken time n t.entries (take m store) port p) × (last ≡ (take_in time (take n t.entries) (take m store) port p).store)
      → r ≡ with-sizes first → (r ≡ taken_into time t store port p) × (last ++ drop m store ≡ store_after time t store port p)
  unfolding taken_into store_after
  taken time port p first last r are r-is =
      let c : take_in time (take n t.entries) (take m store) port p ≡ take_in time (lent_entries t) (lent_bytes t store) port p =
      lent (λ es bytes. take_in time es bytes port p) in
      let o : taken_of time (take n t.entries) (take m store) port p ≡ taken_of time (lent_entries t) (lent_bytes t store) port p =
      lent (λ es bytes. taken_of time es bytes port p) in (
        r-is ∙ ap with-sizes are.0 ∙ (λ i. given (o i) (c i) (drop-least t.count 513 t.entries len n n-is i)),
        ap (λ (l : List ℕ). l ++ drop m store) are.1 ∙ (λ i. (c i).store ++ drop-least t.room (length store) store refl m m-is i),
      )
