-- Lemmas: what each rule leaves as it is. Assumes nothing.
use mathlib.Core.Path.{◌≡◌, refl, sym, ap, ◌∙◌}
use mathlib.Core.List.{List}
use mathlib.Core.Bool.{Bool, true, false, cond, not, ◌&&◌}
use mathlib.Core.Logic.{◌⊎◌, inl, inr}
use Prim.Native.Nat.{ℕ, ◌+◌, ◌<◌, ◌≤◌}
use native.Mathlib.Omega.{arith}
use lib.ListN.{length, get_or}
use lib.Dec.{ltb, leb, eqb}
use borrow.Author.Tests.{lt-ltb, leb-true, leb-false}
use Rattle.wire.specs.case_folding.Fold.{same_name}
use Rattle.wire.specs.expansion.Equal.{same_bytes}
use Rattle.wire.specs.message.Message.{Record, top_bit}
use Rattle.cache.specs.entries.Entries.{blank, owner_held, rdata_held, is_live, is_free, is_of, live_of, holds, soon, is_old, flushed}
use Rattle.cache.specs.entries.Tables.{each}
use Rattle.cache.specs.entries.Cache.{Cache, with_entries, rule1, equal_slot, free_slot}
use Rattle.cache.specs.declared.entries.Entry.{Entry}
use Rattle.cache.specs.laws.Slots.{entry_at}
use Rattle.cache.proofs.laws.Slots.{at_each, lowest-each}

-- ---- "the lesser of itself and now plus 1,000"
pub soon-by : (now : ℕ) (e : Entry) → (soon now e).expiry ≤ now + 1000
unfolding soon
soon-by now e = go (leb e.expiry (now + 1000)) refl
  where
    go : (b : Bool) → leb e.expiry (now + 1000) ≡ b → cond b e.expiry (now + 1000) ≤ now + 1000
    go true h = leb-true e.expiry (now + 1000) h
    go false h = omega arith

pub live_soon : (now : ℕ) (e : Entry) → is_live now (soon now e) ≡ is_live now e
unfolding soon
live_soon now e = go (leb e.expiry (now + 1000)) refl
  where
    go : (b : Bool) → leb e.expiry (now + 1000) ≡ b → ltb now (cond b e.expiry (now + 1000)) ≡ ltb now e.expiry
    go true h = refl
    go false h =
        let l : now + 1000 < e.expiry = leb-false e.expiry (now + 1000) h in
        let a : now < now + 1000 = omega arith in
        let b : now < e.expiry = omega arith in
        lt-ltb _ _ a ∙ sym (lt-ltb _ _ b)

-- ---- a test looks at the expiry only to see whether the entry is live
module _ (now : ℕ) (store name : List ℕ) (rtype i : ℕ) (e : Entry) where
  pub of_soon : is_of store name rtype i (soon now e) ≡ is_of store name rtype i e
  unfolding is_of soon
  of_soon = refl

  pub live_of-soon : live_of now store name rtype i (soon now e) ≡ live_of now store name rtype i e
  unfolding live_of is_of soon
  live_of-soon = ap (λ (b : Bool). b && (eqb e.rtype rtype && (eqb e.owner (length name) && same_name (owner_held store i e) name))) (live_soon now e)

  pub holds-soon : (d : List ℕ) → holds now store name rtype d i (soon now e) ≡ holds now store name rtype d i e
  unfolding holds soon
  holds-soon d = ap (λ (b : Bool). b && (eqb e.rdata (length d) && same_bytes (rdata_held store i e) d)) live_of-soon

module _ (now : ℕ) (store name : List ℕ) (rtype i : ℕ) (e : Entry) where
  pub flushed-cases : (flushed now store name rtype i e ≡ e) ⊎ (flushed now store name rtype i e ≡ soon now e)
  unfolding flushed
  flushed-cases = go (live_of now store name rtype i e && is_old now e)
    where
      go : (b : Bool) → (cond b (soon now e) e ≡ e) ⊎ (cond b (soon now e) e ≡ soon now e)
      go true = inr refl
      go false = inl refl

  -- rule 1 lets every test answer as before
  pub holds-flushed : (o : List ℕ) (t : ℕ) (d : List ℕ) → holds now store o t d i (flushed now store name rtype i e) ≡ holds now store o t d i e
  holds-flushed o t d = go flushed-cases
    where
      go : (flushed now store name rtype i e ≡ e) ⊎ (flushed now store name rtype i e ≡ soon now e) → holds now store o t d i (flushed now store name rtype i e) ≡ holds now store o t d i e
      go (inl h) = ap (holds now store o t d i) h
      go (inr h) = ap (holds now store o t d i) h ∙ holds-soon now store o t i e d

  pub free_flushed : is_free now i (flushed now store name rtype i e) ≡ is_free now i e
  unfolding is_free
  free_flushed = go flushed-cases
    where
      go : (flushed now store name rtype i e ≡ e) ⊎ (flushed now store name rtype i e ≡ soon now e) → not (is_live now (flushed now store name rtype i e)) ≡ not (is_live now e)
      go (inl h) = ap (λ (y : Entry). not (is_live now y)) h
      go (inr h) = ap (λ (y : Entry). not (is_live now y)) h ∙ ap not (live_soon now e)

-- ---- rule 1 on a cache
module _ (now : ℕ) (x : Record) (c : Cache) where
  pub rule1-store : (rule1 now x c).store ≡ c.store
  unfolding rule1
  rule1-store = go (top_bit x.class)
    where
      go : (b : Bool) → (cond b (with_entries (each (flushed now c.store x.owner x.rtype) 0 c.entries) c) c).store ≡ c.store
      go true = refl
      go false = refl

  pub rule1-turned : (rule1 now x c).turned ≡ c.turned
  unfolding rule1
  rule1-turned = go (top_bit x.class)
    where
      go : (b : Bool) → (cond b (with_entries (each (flushed now c.store x.owner x.rtype) 0 c.entries) c) c).turned ≡ c.turned
      go true = refl
      go false = refl

  pub rule1-passed : (rule1 now x c).passed ≡ c.passed
  unfolding rule1
  rule1-passed = go (top_bit x.class)
    where
      go : (b : Bool) → (cond b (with_entries (each (flushed now c.store x.owner x.rtype) 0 c.entries) c) c).passed ≡ c.passed
      go true = refl
      go false = refl

  -- the searches find what they found
  pub rule1-equal : equal_slot now x (rule1 now x c) ≡ equal_slot now x c
  unfolding rule1 equal_slot
  rule1-equal = go (top_bit x.class)
    where
      go : (b : Bool) → equal_slot now x (cond b (with_entries (each (flushed now c.store x.owner x.rtype) 0 c.entries) c) c) ≡ equal_slot now x c
      go true = lowest-each (holds now c.store x.owner x.rtype x.rdata) (flushed now c.store x.owner x.rtype)
          (λ j e. holds-flushed now c.store x.owner x.rtype j e x.owner x.rtype x.rdata) 0 c.entries
      go false = refl

  pub rule1-free : free_slot now (rule1 now x c) ≡ free_slot now c
  unfolding rule1 free_slot
  rule1-free = go (top_bit x.class)
    where
      go : (b : Bool) → free_slot now (cond b (with_entries (each (flushed now c.store x.owner x.rtype) 0 c.entries) c) c) ≡ free_slot now c
      go true = lowest-each (is_free now) (flushed now c.store x.owner x.rtype) (λ j e. free_flushed now c.store x.owner x.rtype j e) 0 c.entries
      go false = refl

  -- an entry after rule 1: as it was, or with the lesser expiry
  pub rule1-at : (i : ℕ) → i < length c.entries → (entry_at (rule1 now x c) i ≡ entry_at c i) ⊎ (entry_at (rule1 now x c) i ≡ soon now (entry_at c i))
  unfolding rule1
  rule1-at i h = go (top_bit x.class)
    where
      on : (flushed now c.store x.owner x.rtype i (entry_at c i) ≡ entry_at c i) ⊎ (flushed now c.store x.owner x.rtype i (entry_at c i) ≡ soon now (entry_at c i))
          → (get_or (each (flushed now c.store x.owner x.rtype) 0 c.entries) i blank ≡ entry_at c i) ⊎ (get_or (each (flushed now c.store x.owner x.rtype) 0 c.entries) i blank ≡ soon now (entry_at c i))
      on (inl k) = inl (at_each (flushed now c.store x.owner x.rtype) c.entries i h ∙ k)
      on (inr k) = inr (at_each (flushed now c.store x.owner x.rtype) c.entries i h ∙ k)

      go : (b : Bool) → (entry_at (cond b (with_entries (each (flushed now c.store x.owner x.rtype) 0 c.entries) c) c) i ≡ entry_at c i)
          ⊎ (entry_at (cond b (with_entries (each (flushed now c.store x.owner x.rtype) 0 c.entries) c) c) i ≡ soon now (entry_at c i))
      go true = on (flushed-cases now c.store x.owner x.rtype i (entry_at c i))
      go false = inl refl

  -- with the top class bit an old live entry of the name and type gets the lesser expiry
  pub rule1-old : top_bit x.class ≡ true → (i : ℕ) → i < length c.entries → live_of now c.store x.owner x.rtype i (entry_at c i) ≡ true → (entry_at c i).received + 1000 < now
      → entry_at (rule1 now x c) i ≡ soon now (entry_at c i)
  unfolding rule1 flushed
  rule1-old t i h l o =
      ap (λ (b : Bool). entry_at (cond b (with_entries (each (flushed now c.store x.owner x.rtype) 0 c.entries) c) c) i) t
      ∙ at_each (flushed now c.store x.owner x.rtype) c.entries i h ∙ simp (l, lt-ltb _ _ o)
