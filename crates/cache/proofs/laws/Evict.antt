-- Theorem: no live entry is ever evicted. Assumes nothing.
use Rattle.std.proofs.Common.{None, Option, Some}
use mathlib.Core.Path.{◌≡◌, refl, sym, ap, subst, ◌∙◌}
use mathlib.Core.List.{List, [], ◌∷◌, ◌++◌}
use mathlib.Core.Bool.{Bool, true, false, cond}
use mathlib.Core.Logic.{◌⊎◌, inl, inr}
use Prim.Native.Nat.{ℕ, zero, suc, ◌+◌, ◌*◌, ◌<◌}
use native.Mathlib.Omega.{arith}
use lib.ListN.{length}
use lib.Seq.{sets}
use lib.Dec.{ltb, eqb}
use borrow.Author.Tests.{lt-ltb}
use Rattle.wire.specs.message.Message.{Record, Message, is_response}
use Rattle.wire.specs.message.Layout.{Reads, read, refused, message_at}
use Rattle.cache.specs.entries.Entries.{slot_of, is_live, soon, refreshed}
use Rattle.cache.specs.entries.Cache.{Cache, at_start, is_cached, rule1, goodbye, slot_for, taken, renewed, equal_slot, free_slot, rule23, after_rule1, take_record, take_records, take_message, take_read, take_refusal, take_in}
use Rattle.cache.specs.declared.entries.Entry.{Entry}
use Rattle.cache.specs.laws.Slots.{entry_at}
use Rattle.cache.specs.laws.Evict.{Stays, NeverEvicted}
use Rattle.cache.proofs.entries.Shape.{rule1-shape, record_shape}
use Rattle.cache.proofs.laws.Slots.{slot-other}
use Rattle.cache.proofs.laws.Steps.{live_soon, rule1-store, rule1-at}
use Rattle.cache.proofs.laws.Changes.{Change, as_was, aged, again, fresh, change}
use Rattle.cache.proofs.laws.Flush.{ruled, free_dead}

on : (now : ℕ) (c d e : Cache) (i : ℕ) → Stays now c d i → Stays now d e i → Stays now c e i
on now c d e i a b =
    record { rtype = b.rtype ∙ a.rtype; owner = b.owner ∙ a.owner; rdata = b.rdata ∙ a.rdata; bytes = b.bytes ∙ a.bytes; live = b.live }

same : (now : ℕ) (c : Cache) (i : ℕ) → is_live now (entry_at c i) ≡ true → Stays now c c i
same now c i l = record { rtype = refl; owner = refl; rdata = refl; bytes = refl; live = l }

-- an entry made from the one before, with the bytes of its slot as they were
made : (now : ℕ) (c d : Cache) (i : ℕ) (e : Entry) → entry_at d i ≡ e → e.rtype ≡ (entry_at c i).rtype → e.owner ≡ (entry_at c i).owner → e.rdata ≡ (entry_at c i).rdata → slot_of d.store i ≡ slot_of c.store i → is_live now e ≡ true → Stays now c d i
made now c d i e h t o r b l =
    record {
      rtype = ap (λ (y : Entry). y.rtype) h ∙ t;
      owner = ap (λ (y : Entry). y.owner) h ∙ o;
      rdata = ap (λ (y : Entry). y.rdata) h ∙ r;
      bytes = b;
      live = ap (is_live now) h ∙ l;
    }

-- only a slot that is free is written
store-after : (now : ℕ) (x : Record) (c : Cache) → ((after_rule1 now x c).store ≡ c.store) ⊎ ((j : ℕ) × ((free_slot now c ≡ Some j) × ((after_rule1 now x c).store ≡ sets c.store (1024 * j) (slot_for x))))
unfolding after_rule1 rule23
store-after now x c = go (ltb 768 (length x.rdata)) (eqb x.ttl 0)
  where
    of_goodbye : (s : Option ℕ) → (goodbye now c s).store ≡ c.store
    of_goodbye (Some j) = refl
    of_goodbye None = refl

    of_taken : (s : Option ℕ) → free_slot now c ≡ s → ((taken now x c s).store ≡ c.store) ⊎ ((j : ℕ) × ((free_slot now c ≡ Some j) × ((taken now x c s).store ≡ sets c.store (1024 * j) (slot_for x))))
    of_taken (Some j) f = inr (j, (f, refl))
    of_taken None f = inl refl

    of_renewed : (s : Option ℕ) → ((renewed now x c s).store ≡ c.store) ⊎ ((j : ℕ) × ((free_slot now c ≡ Some j) × ((renewed now x c s).store ≡ sets c.store (1024 * j) (slot_for x))))
    of_renewed (Some j) = inl refl
    of_renewed None = of_taken (free_slot now c) refl

    go : (a b : Bool) → ((cond a (record { entries = c.entries; store = c.store; turned = c.turned; passed = c.passed + 1 }) (cond b (goodbye now c (equal_slot now x c)) (renewed now x c (equal_slot now x c)))).store ≡ c.store)
        ⊎ ((j : ℕ) × ((free_slot now c ≡ Some j) × ((cond a (record { entries = c.entries; store = c.store; turned = c.turned; passed = c.passed + 1 }) (cond b (goodbye now c (equal_slot now x c)) (renewed now x c (equal_slot now x c)))).store ≡ sets c.store (1024 * j) (slot_for x))))
    go true b = inl refl
    go false true = inl (of_goodbye (equal_slot now x c))
    go false false = of_renewed (equal_slot now x c)

-- a TTL that is not 0 ends after now
pub still : (n t : ℕ) → (t ≡ 0 → ⊥) → n < n + 1000 * t
still n zero z = absurd (z refl)
still n (suc t) z = omega arith

module _ (now : ℕ) (x : Record) (c : Cache) (i : ℕ) (h : i < length c.entries) (l : is_live now (entry_at c i) ≡ true) where
  not_free : (j : ℕ) → free_slot now c ≡ Some j → j ≡ i → ⊥
  not_free j f e =
      let dead : is_live now (entry_at c i) ≡ false = ap (λ (k : ℕ). is_live now (entry_at c k)) (sym e) ∙ (free_dead now c j f).1 in
      let z : ◌≡◌ {A = ℕ} 0 1 = cc in omega arith

  bytes_after_lem : slot_of (after_rule1 now x c).store i ≡ slot_of c.store i
  bytes_after_lem = go (store-after now x c)
    where
      go : ((after_rule1 now x c).store ≡ c.store) ⊎ ((j : ℕ) × ((free_slot now c ≡ Some j) × ((after_rule1 now x c).store ≡ sets c.store (1024 * j) (slot_for x)))) → slot_of (after_rule1 now x c).store i ≡ slot_of c.store i
      go (inl k) = ap (λ (s : List ℕ). slot_of s i) k
      go (inr k) = ap (λ (s : List ℕ). slot_of s i) k.1.1 ∙ slot-other c.store k.0 i x (not_free k.0 k.1.0)

  after-stays : Stays now c (after_rule1 now x c) i
  unfolding soon
  after-stays = go (change now x c i h)
    where
      go : Change now x c i (entry_at (after_rule1 now x c) i) → Stays now c (after_rule1 now x c) i
      go (as_was k) = made now c (after_rule1 now x c) i (entry_at c i) k refl refl refl bytes_after_lem l
      go (aged k) = made now c (after_rule1 now x c) i (soon now (entry_at c i)) k refl refl refl bytes_after_lem (live_soon now (entry_at c i) ∙ l)
      go (again f z k) =
          let later : now < now + 1000 * x.ttl = still now x.ttl z in
          made now c (after_rule1 now x c) i (refreshed now x.ttl (entry_at c i)) k refl refl refl bytes_after_lem (lt-ltb _ _ later)
      go (fresh f z k) = absurd (not_free i f refl)

  rule1-stays : Stays now c (rule1 now x c) i
  unfolding soon
  rule1-stays = go (rule1-at now x c i h)
    where
      go : (entry_at (rule1 now x c) i ≡ entry_at c i) ⊎ (entry_at (rule1 now x c) i ≡ soon now (entry_at c i)) → Stays now c (rule1 now x c) i
      go (inl k) = made now c (rule1 now x c) i (entry_at c i) k refl refl refl (ap (λ (s : List ℕ). slot_of s i) (rule1-store now x c)) l
      go (inr k) = made now c (rule1 now x c) i (soon now (entry_at c i)) k refl refl refl (ap (λ (s : List ℕ). slot_of s i) (rule1-store now x c)) (live_soon now (entry_at c i) ∙ l)

-- the rules for one record evict no live entry
pub record_evicts_none : (now : ℕ) (x : Record) (c : Cache) (i : ℕ) → i < length c.entries → is_live now (entry_at c i) ≡ true → Stays now c (take_record now x c) i
unfolding take_record
record_evicts_none now x c i h l = go (is_cached x) refl
  where
    go : (b : Bool) → is_cached x ≡ b → Stays now c (take_record now x c) i
    go true e =
        let a = rule1-stays now x c i h l in
        let within : i < length (rule1 now x c).entries = omega (arith, (rule1-shape now x c).entries) in
        subst (λ (d : Cache). Stays now c d i) (sym (ruled now x c e)) (on now c (rule1 now x c) (after_rule1 now x (rule1 now x c)) i a (after-stays now x (rule1 now x c) i within a.live))
    go false e = subst (λ (d : Cache). Stays now c d i) (sym (ap (λ (b : Bool). cond b (after_rule1 now x (rule1 now x c)) c) e)) (same now c i l)

pub records-evict_none : (now : ℕ) (xs : List Record) (c : Cache) (i : ℕ) → i < length c.entries → is_live now (entry_at c i) ≡ true → Stays now c (take_records now xs c) i
unfolding take_records
records-evict_none now [] c i h l = same now c i l
records-evict_none now (x ∷ xs) c i h l =
    let a = record_evicts_none now x c i h l in
    let within : i < length (take_record now x c).entries = omega (arith, (record_shape now x c).entries) in
    on now c (take_record now x c) (take_records now xs (take_record now x c)) i a (records-evict_none now xs (take_record now x c) i within a.live)

pub never_evicted : NeverEvicted
unfolding take_in take_message
never_evicted now es store port p i h l = go (eqb (take_refusal now es store port p) 0) (message_at p)
  where
    of_message : (m : Message) (b : Bool) → Stays now (at_start es store) (cond b (take_records now (m.answers ++ m.additionals) (at_start es store)) (at_start es store)) i
    of_message m true = records-evict_none now (m.answers ++ m.additionals) (at_start es store) i h l
    of_message m false = same now (at_start es store) i l

    go : (b : Bool) (r : Reads) → Stays now (at_start es store) (cond b (take_read now (at_start es store) r) (at_start es store)) i
    go true (read k m) = of_message m (is_response m.flags)
    go true (refused n) = same now (at_start es store) i l
    go false r = same now (at_start es store) i l
