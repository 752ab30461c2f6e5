-- The call `take`, from what the code has found: its refusal, what the records make, and what is answered. Assumes nothing.
use Rattle.std.proofs.Common.{Err, Ok, Result}
use mathlib.Core.Path.{◌≡◌, refl, sym, ap, subst, ◌∙◌}
use mathlib.Core.List.{List}
use mathlib.Core.Bool.{Bool, true, false, cond, not, ◌&&◌}
use Prim.Native.Nat.{ℕ, ◌*◌, ◌<◌, ◌≤◌}
use native.Mathlib.Omega.{arith}
use lib.ListN.{length}
use lib.Dec.{eqb}
use borrow.Author.Tests.{eq-eqb, ne_eqb, eqb-true, lt-leb, le-leb}
use Rattle.wire.specs.refusals.Numbers.{number_of}
use Rattle.wire.specs.declared.refusals.Refusal.{Refusal}
use Rattle.wire.specs.message.Message.{Message}
use Rattle.wire.specs.message.Layout.{message_at, read_of}
use Rattle.wire.specs.message.Readable.{message_in}
use Rattle.wire.specs.message.Refusals.{message_refusal, message_from}
use Rattle.wire.specs.declared.message.Layout.{Layout}
use Rattle.wire.proofs.message.Walk.{layout_shows}
use Rattle.wire.proofs.message.Refused.{taken-from, refused_from}
use Rattle.cache.specs.entries.Cache.{Cache, at_start, is_size, is_store_of, entries_refusal, take_records, take_message, take_read, take_tests, take_refusal, take_in}
use Rattle.cache.specs.declared.entries.Entry.{Entry}
use Rattle.cache.specs.declared.Counts.{Counts}
use Rattle.cache.proofs.entries.Shape.{records-append}
use Rattle.cache.proofs.lookup.Refusing.{table_first, not_late, has-size}
use Rattle.cache.specs.Answers.{taken_with, taken_of}
use Rattle.capi_cache.specs.Numbers.{refused_take, counted_take, taken_numbers}
use Rattle.capi_cache.specs.Sections.{Taking, records_of, cache_with, counts_in}

store_is : (n bytes : ℕ) → is_store_of n bytes ≡ true → bytes ≡ 1024 * n
unfolding is_store_of
store_is n bytes h = go (is_size n) (eqb bytes (1024 * n)) refl h
  where
    go : (a b : Bool) → eqb bytes (1024 * n) ≡ b → (a && b) ≡ true → bytes ≡ 1024 * n
    go true true e k = eqb-true bytes (1024 * n) e
    go true false e k = let z : ◌≡◌ {A = ℕ} 0 1 = cc in absurd (omega arith)
    go false b e k = let z : ◌≡◌ {A = ℕ} 0 1 = cc in absurd (omega arith)

module _ (now : ℕ) (es : List Entry) (store : List ℕ) (port : ℕ) (p : List ℕ) where
  abbrev early : ℕ
  early = entries_refusal now es

  -- a refusal keeps all
  refused_with : (number : ℕ) → (number ≡ 0 → ⊥) → number ≡ take_refusal now es store port p
      → (refused_take number ≡ taken_numbers (taken_of now es store port p)) × ((es ≡ (take_in now es store port p).entries) × (store ≡ (take_in now es store port p).store))
  unfolding take_in taken_of
  refused_with number z is =
      let kept : take_in now es store port p ≡ at_start es store =
      ap (λ (n : ℕ). cond (eqb n 0) (take_read now (at_start es store) (message_at p)) (at_start es store)) (sym is) ∙ simp (ne_eqb number 0 z) in (
        sym (ap (λ (n : ℕ). taken_numbers (taken_with n (take_in now es store port p))) (sym is) ∙ simp (ne_eqb number 0 z)),
        (ap (λ (c : Cache). c.entries) (sym kept), ap (λ (c : Cache). c.store) (sym kept)),
      )

  -- the refusals in their order
  in-order : take_refusal now es store port p ≡ cond (eqb early 0) (cond (not (is_store_of (length es) (length store))) 8 (message_refusal port p)) early
  unfolding take_refusal message_refusal
  in-order = table_first now es (take_tests es store port p)

  pub refused_entries : (early ≡ 0 → ⊥)
      → (refused_take early ≡ taken_numbers (taken_of now es store port p)) × ((es ≡ (take_in now es store port p).entries) × (store ≡ (take_in now es store port p).store))
  refused_entries z = refused_with early z (sym (in-order ∙ simp (ne_eqb early 0 z)))

  module _ (z : early ≡ 0) where
    pub refused_store : is_store_of (length es) (length store) ≡ false
        → (refused_take 8 ≡ taken_numbers (taken_of now es store port p)) × ((es ≡ (take_in now es store port p).entries) × (store ≡ (take_in now es store port p).store))
    refused_store s = refused_with 8 (λ e. omega arith) (sym (in-order ∙ simp (eq-eqb early 0 z, s)))

    module _ (s : is_store_of (length es) (length store) ≡ true) (a : Result Layout Refusal) (is : a ≡ read_of (message_from port p)) where
      in_message : take_refusal now es store port p ≡ message_refusal port p
      in_message = in-order ∙ simp (eq-eqb early 0 z, s)

      pub refused_message : (refusal : Refusal) → a ≡ Err refusal
          → (refused_take (number_of refusal) ≡ taken_numbers (taken_of now es store port p)) × ((es ≡ (take_in now es store port p).entries) × (store ≡ (take_in now es store port p).store))
      refused_message refusal e = let r = refused_from p port a is refusal e in refused_with (number_of refusal) r.1 (sym (in_message ∙ r.0))

      pub taking : Taking now (length es) (length store)
      taking = record { early = not_late now es z; size = has-size now es z; slots = store_is (length es) (length store) s }

      -- after a section too, which leaves the table and the store as long as they were
      pub taking_after : (zs : List Entry) (cs : List ℕ) → length zs ≡ length es → length cs ≡ length store → Taking now (length zs) (length cs)
      taking_after zs cs n m = subst (λ (k : ℕ). Taking now k (length cs)) (sym n) (subst (λ (k : ℕ). Taking now (length es) k) (sym m) taking)

      module _ (l : Layout) (e : a ≡ Ok l) where
        takes_layout : take_in now es store port p ≡ take_message now (message_in p l) (at_start es store)
        unfolding take_in
        takes_layout =
            let t = taken-from p port a is l e in
            ap (λ (n : ℕ). cond (eqb n 0) (take_read now (at_start es store) (message_at p)) (at_start es store)) (in_message ∙ t.0)
            ∙ ap (take_read now (at_start es store)) t.2
            ∙ ap (λ (says : Message). take_message now says (at_start es store)) (sym (layout_shows p l t.1 t.2))

        accepted : (c : Cache) → c ≡ take_in now es store port p
            → (counted_take c.turned c.passed ≡ taken_numbers (taken_of now es store port p)) × ((c.entries ≡ (take_in now es store port p).entries) × (c.store ≡ (take_in now es store port p).store))
        unfolding taken_of
        accepted c same =
            let t = taken-from p port a is l e in (
              sym (ap (λ (n : ℕ). taken_numbers (taken_with n (take_in now es store port p))) (in_message ∙ t.0) ∙ ap (λ (k : Cache). taken_numbers (taken_with 0 k)) (sym same)),
              (ap (λ (k : Cache). k.entries) same, ap (λ (k : Cache). k.store) same),
            )

        pub a-query : l.flags < 32768
            → (counted_take 0 0 ≡ taken_numbers (taken_of now es store port p)) × ((es ≡ (take_in now es store port p).entries) × (store ≡ (take_in now es store port p).store))
        unfolding take_message message_in
        a-query f = accepted (at_start es store) (sym (takes_layout ∙ simp (lt-leb _ _ f)))

        -- the records of both sections, each as the code has taken it
        pub a-response : 32768 ≤ l.flags → (b : Counts) (zs : List Entry) (cs : List ℕ)
            → (let d : Cache = take_records now (records_of p l.answers) (at_start es store) in (b ≡ counts_in d) × ((zs ≡ d.entries) × (cs ≡ d.store)))
            → (n : Counts) (ys : List Entry) (bs : List ℕ)
            → (let d : Cache = take_records now (records_of p l.additionals) (cache_with b zs cs) in (n ≡ counts_in d) × ((ys ≡ d.entries) × (bs ≡ d.store)))
            → (counted_take n.turned n.passed ≡ taken_numbers (taken_of now es store port p)) × ((ys ≡ (take_in now es store port p).entries) × (bs ≡ (take_in now es store port p).store))
        unfolding take_message message_in records_of
        a-response f b zs cs first n ys bs last =
            let same : cache_with b zs cs ≡ take_records now (records_of p l.answers) (at_start es store) = λ i. cache_with (first.0 i) (first.1.0 i) (first.1.1 i) in
            let whole : cache_with n ys bs ≡ take_in now es store port p =
            (λ i. cache_with (last.0 i) (last.1.0 i) (last.1.1 i)) ∙ ap (take_records now (records_of p l.additionals)) same
            ∙ sym (takes_layout ∙ simp (le-leb _ _ f) (records-append now _ _ (at_start es store))) in
            accepted (cache_with n ys bs) whole
