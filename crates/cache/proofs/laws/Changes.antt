-- Lemma: the four things that the rules after rule 1 can make of one entry. Assumes nothing.
use Rattle.std.proofs.Common.{None, Option, Some}
use mathlib.Core.Path.{◌≡◌, refl, ap, ◌∙◌}
use mathlib.Core.Bool.{Bool, true, false, cond}
use mathlib.Core.Logic.{◌⊎◌, inl, inr}
use Prim.Native.Nat.{ℕ, ◌+◌, ◌<◌}
use lib.ListN.{length, get_or, set}
use lib.Dec.{ltb, eqb}
use borrow.Author.Tests.{eqb-false}
use Rattle.wire.specs.message.Message.{Record}
use Rattle.cache.specs.entries.Entries.{blank, soon, refreshed}
use Rattle.cache.specs.entries.Cache.{Cache, goodbye, entry_for, taken, renewed, equal_slot, free_slot, rule23, after_rule1}
use Rattle.cache.specs.declared.entries.Entry.{Entry}
use Rattle.cache.specs.laws.Slots.{entry_at}
use Rattle.cache.proofs.laws.Slots.{at_set}

-- the entry of slot i is as it was; or goes with a goodbye; or is that of the record, renewed; or was free and takes the record
pub data Change (now : ℕ) (x : Record) (c : Cache) (i : ℕ) (e : Entry) : Type 0 where
  as_was : e ≡ entry_at c i → Change now x c i e
  aged : e ≡ soon now (entry_at c i) → Change now x c i e
  again : equal_slot now x c ≡ Some i → (x.ttl ≡ 0 → ⊥) → e ≡ refreshed now x.ttl (entry_at c i) → Change now x c i e
  fresh : free_slot now c ≡ Some i → (x.ttl ≡ 0 → ⊥) → e ≡ entry_for now x → Change now x c i e

module _ (now : ℕ) (x : Record) (c : Cache) (i : ℕ) (h : i < length c.entries) where
  of_goodbye : (s : Option ℕ) → Change now x c i (entry_at (goodbye now c s) i)
  of_goodbye (Some j) = go (at_set c.entries i j (soon now (entry_at c j)) h)
    where
      go : ((j ≡ i) × (get_or (set c.entries j (soon now (entry_at c j))) i blank ≡ soon now (entry_at c j))) ⊎ (get_or (set c.entries j (soon now (entry_at c j))) i blank ≡ entry_at c i)
          → Change now x c i (get_or (set c.entries j (soon now (entry_at c j))) i blank)
      go (inl k) = aged (k.1 ∙ ap (λ (m : ℕ). soon now (entry_at c m)) k.0)
      go (inr k) = as_was k
  of_goodbye None = as_was refl

  of_taken : (x.ttl ≡ 0 → ⊥) → (s : Option ℕ) → free_slot now c ≡ s → Change now x c i (entry_at (taken now x c s) i)
  of_taken z (Some j) f = go (at_set c.entries i j (entry_for now x) h)
    where
      go : ((j ≡ i) × (get_or (set c.entries j (entry_for now x)) i blank ≡ entry_for now x)) ⊎ (get_or (set c.entries j (entry_for now x)) i blank ≡ entry_at c i)
          → Change now x c i (get_or (set c.entries j (entry_for now x)) i blank)
      go (inl k) = fresh (f ∙ ap Some k.0) z k.1
      go (inr k) = as_was k
  of_taken z None f = as_was refl

  of_renewed : (x.ttl ≡ 0 → ⊥) → (s : Option ℕ) → equal_slot now x c ≡ s → Change now x c i (entry_at (renewed now x c s) i)
  of_renewed z (Some j) f = go (at_set c.entries i j (refreshed now x.ttl (entry_at c j)) h)
    where
      go : ((j ≡ i) × (get_or (set c.entries j (refreshed now x.ttl (entry_at c j))) i blank ≡ refreshed now x.ttl (entry_at c j))) ⊎ (get_or (set c.entries j (refreshed now x.ttl (entry_at c j))) i blank ≡ entry_at c i)
          → Change now x c i (get_or (set c.entries j (refreshed now x.ttl (entry_at c j))) i blank)
      go (inl k) = again (f ∙ ap Some k.0) z (k.1 ∙ ap (λ (m : ℕ). refreshed now x.ttl (entry_at c m)) k.0)
      go (inr k) = as_was k
  of_renewed z None f = of_taken z (free_slot now c) refl

  pub change : Change now x c i (entry_at (after_rule1 now x c) i)
  unfolding after_rule1 rule23
  change = go (ltb 768 (length x.rdata)) (eqb x.ttl 0) refl
    where
      go : (a b : Bool) → eqb x.ttl 0 ≡ b
          → Change now x c i (entry_at (cond a (record { entries = c.entries; store = c.store; turned = c.turned; passed = c.passed + 1 }) (cond b (goodbye now c (equal_slot now x c)) (renewed now x c (equal_slot now x c)))) i)
      go true b e = as_was refl
      go false true e = of_goodbye (equal_slot now x c)
      go false false e = of_renewed (eqb-false x.ttl 0 e) (equal_slot now x c) refl
