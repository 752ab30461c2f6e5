-- Theorems: where an entry's TTL comes from, and what it says of the two times, after any run of calls. Assumes nothing.
use mathlib.Core.Path.{◌≡◌, refl, sym, ap, subst, ◌∙◌}
use mathlib.Core.List.{List, [], ◌∷◌, ◌++◌}
use mathlib.Core.Bool.{Bool, true, false, cond, ◌&&◌, ◌||◌}
use mathlib.Core.Logic.{◌⊎◌, inl, inr}
use Prim.Native.Nat.{ℕ, zero, suc, ◌+◌, ◌*◌, ◌^◌, ◌<◌, ◌≤◌}
use native.Mathlib.Omega.{arith}
use lib.ListN.{length, get_or, replicate, length-replicate}
use lib.Dec.{ltb, leb, eqb}
use borrow.Author.Tests.{ltb-false, leb-false, eqb-true}
use mathlib.Mathlib.Data.Bool.Basic.{and-eq-true-eq-eq-true-and-eq-true as both, or-eq-false-eq-eq-false-and-eq-false as neither}
use Rattle.wire.specs.Lists.{some}
use Rattle.wire.specs.case_folding.Fold.{same_name}
use Rattle.wire.specs.message.Message.{Record, Message, is_response}
use Rattle.wire.specs.message.Layout.{Reads, read, refused, message_at}
use Rattle.cache.specs.entries.Entries.{blank, owner_held, is_of, soon, refreshed, heard_ahead}
use Rattle.cache.specs.entries.Cache.{Cache, at_start, is_cached, rule1, entry_for, after_rule1, take_record, take_records, take_message, take_read, bad_table, take_tests, take_refusal, take_in}
use Rattle.cache.specs.declared.entries.Entry.{Entry}
use Rattle.cache.specs.laws.Slots.{entry_at}
use Rattle.cache.specs.laws.Ttl.{Call, run, records_read, Among, first, later, Heard, unused, heard, Lasts, whole, cut, TtlHeard, TtlLasts, EndsBy}
use Rattle.wire.specs.refusals.Numbers.{first_refusal}
use Rattle.cache.proofs.entries.Shape.{rule1-shape, record_shape, records-shape}
use Rattle.cache.proofs.laws.Steps.{rule1-at}
use Rattle.cache.proofs.laws.Changes.{Change, as_was, aged, again, fresh, change}
use Rattle.cache.proofs.laws.Flush.{ruled, equal_holds}
use Rattle.cache.proofs.laws.Found.{holds_of}

-- ---- what each of the rules keeps of one entry, a list of records keeps of every entry

-- a property of entries that rule 1, rule 2 and rule 3 keep for a record at a time
record Keeps (P : Entry → Type 0) (now : ℕ) (x : Record) : Type 0 where
  shorter : (e : Entry) → P e → P (soon now e)
  renewed : (e : Entry) → e.rtype ≡ x.rtype → (x.ttl ≡ 0 → ⊥) → P (refreshed now x.ttl e)
  entered : (x.ttl ≡ 0 → ⊥) → P (entry_for now x)

abbrev Every : (Entry → Type 0) → List Entry → Type 0
Every P es = (i : ℕ) → i < length es → P (get_or es i blank)

of_type_lem : (store name : List ℕ) (rtype i : ℕ) (e : Entry) → is_of store name rtype i e ≡ true → e.rtype ≡ rtype
unfolding is_of
of_type_lem store name rtype i e h = eqb-true e.rtype rtype ((both (eqb e.rtype rtype) (eqb e.owner (length name) && same_name (owner_held store i e) name)).0 h).0

module _ (P : Entry → Type 0) (now : ℕ) where
  rule1-keeps : (x : Record) (c : Cache) → Keeps P now x → Every P c.entries → Every P (rule1 now x c).entries
  rule1-keeps x c k all i h = go (rule1-at now x c i within)
    where
      within : i < length c.entries
      within = omega (arith, (rule1-shape now x c).entries)

      go : (entry_at (rule1 now x c) i ≡ entry_at c i) ⊎ (entry_at (rule1 now x c) i ≡ soon now (entry_at c i)) → P (entry_at (rule1 now x c) i)
      go (inl e) = subst P (sym e) (all i within)
      go (inr e) = subst P (sym e) (k.shorter (entry_at c i) (all i within))

  after-keeps : (x : Record) (c : Cache) → Keeps P now x → Every P c.entries → (i : ℕ) → i < length c.entries → P (entry_at (after_rule1 now x c) i)
  after-keeps x c k all i h = go (change now x c i h)
    where
      go : Change now x c i (entry_at (after_rule1 now x c) i) → P (entry_at (after_rule1 now x c) i)
      go (as_was e) = subst P (sym e) (all i h)
      go (aged e) = subst P (sym e) (k.shorter (entry_at c i) (all i h))
      go (again f z e) =
          let held = (equal_holds now x c i f).1 in
          subst P (sym e) (k.renewed (entry_at c i) (of_type_lem c.store x.owner x.rtype i (entry_at c i) (holds_of now c.store x.owner x.rtype x.rdata i (entry_at c i) held)) z)
      go (fresh f z e) = subst P (sym e) (k.entered z)

  record_keeps : (x : Record) (c : Cache) → Keeps P now x → Every P c.entries → Every P (take_record now x c).entries
  unfolding take_record
  record_keeps x c k all i h = go (is_cached x) refl
    where
      go : (b : Bool) → is_cached x ≡ b → P (entry_at (take_record now x c) i)
      go true e =
          let within : i < length (rule1 now x c).entries = omega (arith, (record_shape now x c).entries, (rule1-shape now x c).entries) in
          subst (λ (d : Cache). P (entry_at d i)) (sym (ruled now x c e)) (after-keeps x (rule1 now x c) k (rule1-keeps x c k all) i within)
      go false e =
          let same : take_record now x c ≡ c = ap (λ (b : Bool). cond b (after_rule1 now x (rule1 now x c)) c) e in
          subst (λ (d : Cache). P (entry_at d i)) (sym same) (all i (omega (arith, (record_shape now x c).entries)))

  records-keep : (xs : List Record) (c : Cache) → ((x : Record) → Among x xs → Keeps P now x) → Every P c.entries → Every P (take_records now xs c).entries
  unfolding take_records
  records-keep [] c k all = all
  records-keep (x ∷ xs) c k all = records-keep xs (take_record now x c) (λ y a. k y (later a)) (record_keeps x c (k x first) all)

-- ---- one call

-- no entry of a call that is not refused was received after now
not-ahead : (now : ℕ) (es : List Entry) → some (heard_ahead now) es ≡ false → Every (λ (e : Entry). e.received ≤ now) es
unfolding some
not-ahead now [] h i l = absurd (omega arith)
not-ahead now (e ∷ es) h zero l = ltb-false now e.received ((neither (heard_ahead now e) (some (heard_ahead now) es)).0 h).0
not-ahead now (e ∷ es) h (suc i) l = not-ahead now es ((neither (heard_ahead now e) (some (heard_ahead now) es)).0 h).1 i (omega arith)

timely : (now : ℕ) (es : List Entry) (store : List ℕ) (port : ℕ) (p : List ℕ) → take_refusal now es store port p ≡ 0 → Every (λ (e : Entry). e.received ≤ now) es
unfolding take_refusal
timely now es store port p h = not-ahead now es (go (ltb (2 ^ 62) now) (some (heard_ahead now) es) refl h)
  where
    go : (a b : Bool) → some (heard_ahead now) es ≡ b → ◌≡◌ {A = ℕ} (cond (a || b) 1 (cond (bad_table es) 8 (first_refusal (take_tests es store port p)))) 0 → b ≡ false
    go true b e k = absurd (omega arith)
    go false true e k = absurd (omega arith)
    go false false e k = refl

-- what holds of an entry in a run
record Kept (calls : List Call) (e : Entry) : Type 0 where
  came : Heard calls e
  lasts : Lasts calls e

-- in a call at a time no entry is of a later one
record Timely (calls : List Call) (now : ℕ) (e : Entry) : Type 0 where
  kept : Kept calls e
  by : e.received ≤ now

module _ (calls : List Call) (c : Call) (called : Among c calls) where
  abbrev now : ℕ
  now = c.time

  sooner : (e : Entry) → Timely calls now e → Timely calls now (soon now e)
  unfolding soon
  sooner e k = go (leb e.expiry (now + 1000)) refl
    where
      come : Heard calls e → (t : ℕ) → (e.expiry ≡ 0 → t ≡ 0) → Heard calls (record { rtype = e.rtype; owner = e.owner; rdata = e.rdata; received = e.received; expiry = t; ttl = e.ttl })
      come (unused z) t f = unused (f z)
      come (heard d x a b r y s n) t f = heard d x a b r y s n

      over : Lasts calls e → e.expiry ≤ e.received + 1000 * e.ttl
      over (whole w) = omega arith
      over (cut d a r w l) = omega arith

      go : (b : Bool) → leb e.expiry (now + 1000) ≡ b
          → Timely calls now (record { rtype = e.rtype; owner = e.owner; rdata = e.rdata; received = e.received; expiry = cond b e.expiry (now + 1000); ttl = e.ttl })
      go true h = k
      go false h =
          let after : now + 1000 < e.expiry = leb-false e.expiry (now + 1000) h in
          record {
            kept = record {
              came = come k.kept.came (now + 1000) (λ z. absurd (omega arith));
              lasts = cut c called k.by refl (omega (arith, over k.kept.lasts));
            };
            by = k.by;
          }

  keeps : (x : Record) → Among x (records_read (message_at c.packet)) → Keeps (Timely calls now) now x
  keeps x a = record {
    shorter = sooner;
    renewed = λ e t z. record { kept = record { came = heard c x called a refl t refl z; lasts = whole refl }; by = omega arith };
    entered = λ z. record { kept = record { came = heard c x called a refl refl refl z; lasts = whole refl }; by = omega arith };
  }

  call-keeps : (es : List Entry) (store : List ℕ) → Every (Kept calls) es → Every (Kept calls) (take_in now es store c.port c.packet).entries
  unfolding take_in take_message
  call-keeps es store all = go (eqb (take_refusal now es store c.port c.packet) 0) refl (message_at c.packet) (λ x a. keeps x a)
    where
      of_message : (m : Message) (b : Bool) → ((x : Record) → Among x (cond b (m.answers ++ m.additionals) []) → Keeps (Timely calls now) now x) → Every (Timely calls now) es
          → Every (Kept calls) (cond b (take_records now (m.answers ++ m.additionals) (at_start es store)) (at_start es store)).entries
      of_message m true k at i h = (records-keep (Timely calls now) now (m.answers ++ m.additionals) (at_start es store) k at i h).kept
      of_message m false k at i h = all i h

      go : (b : Bool) → eqb (take_refusal now es store c.port c.packet) 0 ≡ b → (r : Reads) → ((x : Record) → Among x (records_read r) → Keeps (Timely calls now) now x)
          → Every (Kept calls) (cond b (take_read now (at_start es store) r) (at_start es store)).entries
      go true e (read l m) k =
          let before = timely now es store c.port c.packet (eqb-true (take_refusal now es store c.port c.packet) 0 e) in
          of_message m (is_response m.flags) k (λ i h. record { kept = all i h; by = before i h })
      go true e (refused n) k = all
      go false e r k = all

-- ---- a run
run-keeps : (calls xs : List Call) → ((c : Call) → Among c xs → Among c calls) → (es : List Entry) (store : List ℕ) → Every (Kept calls) es → Every (Kept calls) (run xs es store).entries
unfolding run
run-keeps calls [] part es store all = all
run-keeps calls (x ∷ xs) part es store all =
    let d = take_in x.time es store x.port x.packet in
    run-keeps calls xs (λ c a. part c (later a)) d.entries d.store (call-keeps calls x (part x first) es store all)

call_length : (now : ℕ) (es : List Entry) (store : List ℕ) (port : ℕ) (p : List ℕ) → length (take_in now es store port p).entries ≡ length es
unfolding take_in take_message
call_length now es store port p = go (eqb (take_refusal now es store port p) 0) (message_at p)
  where
    of_message : (m : Message) (b : Bool) → length (cond b (take_records now (m.answers ++ m.additionals) (at_start es store)) (at_start es store)).entries ≡ length es
    of_message m true = (records-shape now (m.answers ++ m.additionals) (at_start es store)).entries
    of_message m false = refl

    go : (b : Bool) (r : Reads) → length (cond b (take_read now (at_start es store) r) (at_start es store)).entries ≡ length es
    go true (read l m) = of_message m (is_response m.flags)
    go true (refused n) = refl
    go false r = refl

run_length : (xs : List Call) (es : List Entry) (store : List ℕ) → length (run xs es store).entries ≡ length es
unfolding run
run_length [] es store = refl
run_length (x ∷ xs) es store =
    let d = take_in x.time es store x.port x.packet in
    run_length xs d.entries d.store ∙ call_length x.time es store x.port x.packet

-- an entry of zeros
blanks : (n i : ℕ) → get_or (replicate n blank) i blank ≡ blank
blanks zero i = refl
blanks (suc n) zero = refl
blanks (suc n) (suc i) = blanks n i

kept-after : (calls : List Call) (n : ℕ) (store : List ℕ) (i : ℕ) → i < n → Kept calls (entry_at (run calls (replicate n blank) store) i)
kept-after calls n store i h =
    let len : length (run calls (replicate n blank) store).entries ≡ n = run_length calls (replicate n blank) store ∙ length-replicate {A = Entry} n blank in
    run-keeps calls calls (λ c a. a) (replicate n blank) store (λ j l. subst (Kept calls) (sym (blanks n j)) (record { came = unused refl; lasts = whole refl })) i (omega (arith, len))

pub ttl_heard : TtlHeard
ttl_heard calls n store i h = (kept-after calls n store i h).came

pub ttl_lasts : TtlLasts
ttl_lasts calls n store i h = (kept-after calls n store i h).lasts

pub ends_by : EndsBy
ends_by calls n store i e h is = go (subst (Lasts calls) (sym is) (ttl_lasts calls n store i h))
  where
    go : Lasts calls e → e.expiry ≤ e.received + 1000 * e.ttl
    go (whole w) = omega arith
    go (cut c a r w l) = omega arith
