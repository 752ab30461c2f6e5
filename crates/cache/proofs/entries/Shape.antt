-- What the rules leave as it is: the number of entries, the number of bytes; and that a record is counted at most once. Assumes nothing.
use Rattle.std.proofs.Common.{None, Option, Some}
use mathlib.Core.Path.{◌≡◌, refl, ap, ◌∙◌}
use mathlib.Core.List.{List, [], ◌∷◌, ◌++◌}
use mathlib.Core.Bool.{Bool, true, false, cond}
use Prim.Native.Nat.{ℕ, suc, ◌+◌, ◌*◌, ◌≤◌}
use native.Mathlib.Omega.{arith}
use lib.ListN.{length, get_or, length-set}
use lib.Seq.{length-sets}
use lib.Dec.{ltb, eqb}
use Rattle.wire.specs.message.Message.{Record, top_bit}
use Rattle.cache.specs.entries.Entries.{blank, soon, flushed, refreshed}
use Rattle.cache.specs.entries.Tables.{each}
use Rattle.cache.specs.entries.Cache.{Cache, with_entries, is_cached, rule1, goodbye, entry_for, slot_for, taken, renewed, equal_slot, free_slot, rule23, after_rule1, take_record, take_records}
use Rattle.cache.specs.declared.entries.Entry.{Entry}

pub record Shaped (c d : Cache) (n : ℕ) : Type 0 where
  pub entries : length d.entries ≡ length c.entries
  pub store : length d.store ≡ length c.store
  pub turned : d.turned ≤ c.turned + n
  pub passed : d.passed ≤ c.passed + n

pub length-each : (rule : ℕ → Entry → Entry) (i : ℕ) (es : List Entry) → length (each rule i es) ≡ length es
unfolding each
length-each rule i [] = refl
length-each rule i (e ∷ es) = ap suc (length-each rule (suc i) es)

same : (c : Cache) (n : ℕ) → Shaped c c n
same c n = record { entries = refl; store = refl; turned = omega arith; passed = omega arith }

module _ (now : ℕ) (x : Record) (c : Cache) where
  goodbye-shape : (s : Option ℕ) → Shaped c (goodbye now c s) 1
  goodbye-shape (Some i) = record { entries = length-set c.entries i (soon now (get_or c.entries i blank)); store = refl; turned = omega arith; passed = omega arith }
  goodbye-shape None = same c 1

  taken-shape : (s : Option ℕ) → Shaped c (taken now x c s) 1
  taken-shape (Some i) = record { entries = length-set c.entries i (entry_for now x); store = length-sets c.store (1024 * i) (slot_for x); turned = omega arith; passed = omega arith }
  taken-shape None = record { entries = refl; store = refl; turned = omega arith; passed = omega arith }

  renewed-shape : (s : Option ℕ) → Shaped c (renewed now x c s) 1
  renewed-shape (Some i) = record { entries = length-set c.entries i (refreshed now x.ttl (get_or c.entries i blank)); store = refl; turned = omega arith; passed = omega arith }
  renewed-shape None = taken-shape (free_slot now c)

  pub rule1-shape : Shaped c (rule1 now x c) 0
  unfolding rule1
  rule1-shape = go (top_bit x.class)
    where
      go : (b : Bool) → Shaped c (cond b (with_entries (each (flushed now c.store x.owner x.rtype) 0 c.entries) c) c) 0
      go true = record { entries = length-each (flushed now c.store x.owner x.rtype) 0 c.entries; store = refl; turned = omega arith; passed = omega arith }
      go false = same c 0

  after-shape : Shaped c (after_rule1 now x c) 1
  unfolding after_rule1 rule23
  after-shape = go (ltb 768 (length x.rdata)) (eqb x.ttl 0)
    where
      go : (a b : Bool)
          → Shaped c (cond a (record { entries = c.entries; store = c.store; turned = c.turned; passed = c.passed + 1 }) (cond b (goodbye now c (equal_slot now x c)) (renewed now x c (equal_slot now x c)))) 1
      go true b = record { entries = refl; store = refl; turned = omega arith; passed = omega arith }
      go false true = goodbye-shape (equal_slot now x c)
      go false false = renewed-shape (equal_slot now x c)

chain : (c d e : Cache) (m n : ℕ) → Shaped c d m → Shaped d e n → Shaped c e (m + n)
chain c d e m n a b = record { entries = b.entries ∙ a.entries; store = b.store ∙ a.store; turned = omega arith; passed = omega arith }

pub record_shape : (now : ℕ) (x : Record) (c : Cache) → Shaped c (take_record now x c) 1
unfolding take_record
record_shape now x c = go (is_cached x)
  where
    go : (b : Bool) → Shaped c (cond b (after_rule1 now x (rule1 now x c)) c) 1
    go true = chain c (rule1 now x c) (after_rule1 now x (rule1 now x c)) 0 1 (rule1-shape now x c) (after-shape now x (rule1 now x c))
    go false = same c 1

-- the records of one list after those of another
pub records-append : (now : ℕ) (xs ys : List Record) (c : Cache) → take_records now (xs ++ ys) c ≡ take_records now ys (take_records now xs c)
unfolding take_records
records-append now [] ys c = refl
records-append now (x ∷ xs) ys c = records-append now xs ys (take_record now x c)

pub records-shape : (now : ℕ) (xs : List Record) (c : Cache) → Shaped c (take_records now xs c) (length xs)
unfolding take_records
records-shape now [] c = same c 0
records-shape now (x ∷ xs) c =
    let a = chain c (take_record now x c) (take_records now xs (take_record now x c)) 1 (length xs) (record_shape now x c) (records-shape now xs (take_record now x c)) in
    record { entries = a.entries; store = a.store; turned = omega (arith, a.turned); passed = omega (arith, a.passed) }
