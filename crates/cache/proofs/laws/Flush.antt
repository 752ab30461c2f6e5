-- Theorems on the cache flush bit and on goodbyes (RFC 6762, 10.2 and 10.1). Assumes nothing.
use Rattle.std.proofs.Common.{Some}
use mathlib.Core.Path.{◌≡◌, refl, sym, ap, ◌∙◌}
use mathlib.Core.List.{List}
use mathlib.Core.Bool.{Bool, true, false, cond, not}
use mathlib.Core.Logic.{◌⊎◌, inl, inr}
use Prim.Native.Nat.{ℕ, ◌+◌, ◌<◌, ◌≤◌}
use native.Mathlib.Omega.{arith}
use lib.ListN.{length}
use lib.Seq.{get_or-set_same}
use borrow.Author.Tests.{le-ltb, eq-eqb}
use mathlib.Mathlib.Data.Bool.Basic.{and-eq-true-eq-eq-true-and-eq-true as both}
use Rattle.wire.specs.message.Message.{Record}
use Rattle.cache.specs.entries.Entries.{blank, is_live, is_free, is_of, live_of, holds, soon}
use Rattle.cache.specs.entries.Cache.{Cache, is_cached, rule1, goodbye, equal_slot, free_slot, rule23, after_rule1, take_record}
use Rattle.cache.specs.declared.entries.Entry.{Entry}
use Rattle.cache.specs.laws.Slots.{entry_at}
use Rattle.cache.specs.laws.Flush.{FlushDone, GoodbyeDone}
use Rattle.cache.proofs.entries.Searches.{found_at}
use Rattle.cache.proofs.entries.Shape.{rule1-shape}
use Rattle.cache.proofs.laws.Steps.{soon-by, rule1-equal, rule1-free, rule1-old}
use Rattle.cache.proofs.laws.Changes.{Change, as_was, aged, again, fresh, change}

-- a record that is cached goes by the rules
pub ruled : (now : ℕ) (x : Record) (c : Cache) → is_cached x ≡ true → take_record now x c ≡ after_rule1 now x (rule1 now x c)
unfolding take_record
ruled now x c k = ap (λ (b : Bool). cond b (after_rule1 now x (rule1 now x c)) c) k

-- what the two searches say of an entry
pub equal_holds : (now : ℕ) (x : Record) (c : Cache) (i : ℕ) → equal_slot now x c ≡ Some i
    → (i < length c.entries) × (holds now c.store x.owner x.rtype x.rdata i (entry_at c i) ≡ true)
unfolding equal_slot
equal_holds now x c i h = found_at (holds now c.store x.owner x.rtype x.rdata) c.entries i h

pub free_dead : (now : ℕ) (c : Cache) (i : ℕ) → free_slot now c ≡ Some i → (i < length c.entries) × (is_live now (entry_at c i) ≡ false)
unfolding free_slot is_free
free_dead now c i h = let k = found_at (is_free now) c.entries i h in (k.0, flip (is_live now (entry_at c i)) k.1)
  where
    flip : (b : Bool) → not b ≡ true → b ≡ false
    flip true e = let z : ◌≡◌ {A = ℕ} 0 1 = cc in absurd (omega arith)
    flip false e = refl

pub live_first : (now : ℕ) (store name : List ℕ) (rtype i : ℕ) (e : Entry) → live_of now store name rtype i e ≡ true → (is_live now e ≡ true) × (is_of store name rtype i e ≡ true)
unfolding live_of
live_first now store name rtype i e h = (both (is_live now e) (is_of store name rtype i e)).0 h

pub flush_done : FlushDone
flush_done now x c cached top i h live old = go (change now x (rule1 now x c) i within)
  where
    within : i < length (rule1 now x c).entries
    within = omega (arith, (rule1-shape now x c).entries)

    flushed-is : entry_at (rule1 now x c) i ≡ soon now (entry_at c i)
    flushed-is = rule1-old now x c top i h live old

    after_is : (e : Entry) → entry_at (after_rule1 now x (rule1 now x c)) i ≡ e → (entry_at (take_record now x c) i).expiry ≡ e.expiry
    after_is e k = ap (λ (d : Cache). (entry_at d i).expiry) (ruled now x c cached) ∙ ap (λ (y : Entry). y.expiry) k

    by : (e : Entry) → (entry_at (take_record now x c) i).expiry ≡ (soon now e).expiry → (entry_at (take_record now x c) i).expiry ≤ now + 1000
    by e k = omega (arith, soon-by now e)

    go : Change now x (rule1 now x c) i (entry_at (after_rule1 now x (rule1 now x c)) i)
        → ((entry_at (take_record now x c) i).expiry ≤ now + 1000) ⊎ (holds now c.store x.owner x.rtype x.rdata i (entry_at c i) ≡ true)
    go (as_was k) = inl (by (entry_at c i) (after_is (soon now (entry_at c i)) (k ∙ flushed-is)))
    go (aged k) = inl (by (entry_at (rule1 now x c) i) (after_is (soon now (entry_at (rule1 now x c) i)) k))
    go (again f z k) = inr (equal_holds now x c i (sym (rule1-equal now x c) ∙ f)).1
    go (fresh f z k) =
        let dead : is_live now (entry_at c i) ≡ false = (free_dead now c i (sym (rule1-free now x c) ∙ f)).1 in
        let alive : is_live now (entry_at c i) ≡ true = (live_first now c.store x.owner x.rtype i (entry_at c i) live).0 in
        let z : ◌≡◌ {A = ℕ} 0 1 = cc in absurd (omega arith)

pub goodbye-done : GoodbyeDone
unfolding after_rule1 rule23
goodbye-done now x c cached z fits i k =
    let c₁ = rule1 now x c in
    let there : i < length c₁.entries = omega (arith, (rule1-shape now x c).entries, (equal_holds now x c i k).0) in
    let after : after_rule1 now x c₁ ≡ goodbye now c₁ (Some i) =
    simp (le-ltb _ _ fits, eq-eqb _ _ z) (ap (goodbye now c₁) (rule1-equal now x c ∙ k)) in
    let is : entry_at (take_record now x c) i ≡ soon now (entry_at c₁ i) =
    ap (λ (d : Cache). entry_at d i) (ruled now x c cached ∙ after) ∙ get_or-set_same c₁.entries i (soon now (entry_at c₁ i)) blank there in
    omega (arith, soon-by now (entry_at c₁ i), ap (λ (e : Entry). e.expiry) is)
