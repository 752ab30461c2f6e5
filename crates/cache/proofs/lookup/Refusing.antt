-- The refusals that both calls begin with, those of a table, and what a lookup that is not refused has passed. Assumes nothing.
use mathlib.Core.Path.{◌≡◌, refl}
use mathlib.Core.List.{List, ◌++◌}
use mathlib.Core.Bool.{Bool, true, false, cond, not, ◌&&◌, ◌||◌}
use Prim.Native.Nat.{ℕ, ◌≤◌, ◌^◌}
use native.Mathlib.Omega.{arith}
use lib.ListN.{length}
use lib.Dec.{ltb, leb, eqb}
use borrow.Author.Tests.{ltb-false, leb-true}
use Rattle.cache.specs.entries.Entries.{heard_ahead, too_long}
use Rattle.wire.specs.Lists.{some}
use Rattle.wire.specs.names.Names.{is_name}
use Rattle.wire.specs.refusals.Numbers.{first_refusal}
use Rattle.wire.specs.declared.refusals.Refusal.{Refusal}
use Rattle.cache.specs.entries.Cache.{is_size, bad_time, bad_table, bad_store, table_tests, entries_refusal, look_refusal}
use Rattle.cache.specs.declared.entries.Entry.{Entry}

-- what a size is

pub size_most : (n : ℕ) → is_size n ≡ true → n ≤ 512
unfolding is_size
size_most n h = go (leb 1 n) (leb n 512) refl h
  where
    go : (a b : Bool) → leb n 512 ≡ b → (a && b) ≡ true → n ≤ 512
    go true true e k = leb-true n 512 e
    go true false e k = let z : ◌≡◌ {A = ℕ} 0 1 = cc in absurd (omega arith)
    go false b e k = let z : ◌≡◌ {A = ℕ} 0 1 = cc in absurd (omega arith)

-- the entries of a table
module _ (now : ℕ) (es : List Entry) where
  -- a time that was not refused
  pub not_late : entries_refusal now es ≡ 0 → now ≤ 2 ^ 62
  unfolding entries_refusal
  not_late e = go (ltb (2 ^ 62) now) refl e
    where
      go : (b : Bool) → ltb (2 ^ 62) now ≡ b → ◌≡◌ {A = ℕ} (cond (b || some (heard_ahead now) es) 1 (cond (not (is_size (length es)) || some too_long es) 8 0)) 0 → now ≤ 2 ^ 62
      go true h k = absurd (omega arith)
      go false h k = ltb-false (2 ^ 62) now h

  -- a size that was not refused
  pub has-size : entries_refusal now es ≡ 0 → is_size (length es) ≡ true
  unfolding entries_refusal
  has-size e = go (bad_time now es) (is_size (length es)) e
    where
      go : (a b : Bool) → ◌≡◌ {A = ℕ} (cond a 1 (cond (not b || some too_long es) 8 0)) 0 → b ≡ true
      go true b k = absurd (omega arith)
      go false true k = refl
      go false false k = absurd (omega arith)

-- behind the refusals of a table come those of the call
pub table_first : (now : ℕ) (es : List Entry) (tests : List (Refusal × Bool))
    → first_refusal (table_tests now es ++ tests) ≡ cond (eqb (entries_refusal now es) 0) (first_refusal tests) (entries_refusal now es)
unfolding entries_refusal
table_first now es tests = go (bad_time now es) (bad_table es)
  where
    go : (a b : Bool) → cond a 1 (cond b 8 (first_refusal tests)) ≡ cond (eqb (cond a 1 (cond b 8 0)) 0) (first_refusal tests) (cond a 1 (cond b 8 0))
    go true b = refl
    go false true = refl
    go false false = refl

-- a lookup that is not refused: of a good table, with its store, for a name
pub look-accepted : (now : ℕ) (es : List Entry) (store name : List ℕ) → look_refusal now es store name ≡ 0
    → (bad_table es ≡ false) × (bad_store es store ≡ false) × (is_name name ≡ true)
unfolding look_refusal
look-accepted now es store name h = go (bad_time now es) (bad_table es) (bad_store es store) (is_name name) h
  where
    go : (a b c d : Bool) → ◌≡◌ {A = ℕ} (cond a 1 (cond b 8 (cond c 8 (cond (not d) 6 0)))) 0 → (b ≡ false) × (c ≡ false) × (d ≡ true)
    go true b c d k = absurd (omega arith)
    go false true c d k = absurd (omega arith)
    go false false true d k = absurd (omega arith)
    go false false false true k = (refl, refl, refl)
    go false false false false k = absurd (omega arith)
