-- Theorem: a record that was taken is found after the whole message, until its entry expires. Assumes nothing.
use Rattle.std.proofs.Common.{Some}
use mathlib.Core.Path.{◌≡◌, sym, ap, subst, ◌∙◌}
use mathlib.Core.List.{List, ◌∷◌}
use mathlib.Core.Bool.{true, ◌&&◌}
use Prim.Native.Nat.{ℕ, ◌<◌}
use native.Mathlib.Omega.{arith}
use lib.ListN.{length, take}
use lib.Dec.{leb, eqb}
use borrow.Author.Tests.{lt-ltb, ltb-true}
use mathlib.Mathlib.Data.Bool.Basic.{and-eq-true-eq-eq-true-and-eq-true as both}
use Rattle.wire.specs.case_folding.Fold.{same_name}
use Rattle.wire.specs.message.Message.{Record}
use Rattle.cache.specs.entries.Entries.{is_of, live_of, matches}
use Rattle.cache.specs.entries.Cache.{Cache, take_record, take_records, look_in}
use Rattle.cache.specs.laws.Slots.{entry_at}
use Rattle.cache.specs.laws.Found.{Entered, Remains, FoundAfter}
use Rattle.cache.specs.laws.Evict.{Stays}
use Rattle.cache.proofs.entries.Searches.{found_at}
use Rattle.cache.proofs.entries.Shape.{records-append, records-shape}
use Rattle.cache.proofs.laws.Flush.{live_first}
use Rattle.cache.proofs.laws.Found.{look-here, taken-found}
use Rattle.cache.proofs.laws.Evict.{still, records-evict_none}

-- what a lookup finds is of the name and type that it looks for
of_found : (t : ℕ) (d : Cache) (name : List ℕ) (rtype i : ℕ) → look_in t d.entries d.store name rtype i ≡ Some i → (i < length d.entries) × (is_of d.store name rtype i (entry_at d i) ≡ true)
unfolding look_in matches
of_found t d name rtype i k =
    let a = found_at (matches t d.store name rtype i) d.entries i k in
    (a.0, (live_first t d.store name rtype i (entry_at d i) ((both (leb i i) (live_of t d.store name rtype i (entry_at d i))).0 a.1).1).1)

-- an entry that stays is of the name and type that it was of
of_stays : (now : ℕ) (c d : Cache) (name : List ℕ) (rtype i : ℕ) → Stays now c d i → is_of d.store name rtype i (entry_at d i) ≡ is_of c.store name rtype i (entry_at c i)
unfolding is_of
of_stays now c d name rtype i s =
    λ j. eqb (s.rtype j) rtype && (eqb (s.owner j) (length name) && same_name (take (s.owner j) (s.bytes j)) name)

-- the records after the one that was taken
after : (now : ℕ) (x : Record) (xs : List Record) (i : ℕ) (d : Cache) → (x.ttl ≡ 0 → ⊥) → Entered now x i d → Remains now x i (take_records now xs d)
after now x xs i d z k =
    let later : now < (entry_at d i).expiry = omega (arith, still now x.ttl z, k.expiry) in
    let o = of_found now d x.owner x.rtype i (k.found now later) in
    let e = take_records now xs d in
    let s : Stays now d e i = records-evict_none now xs d i o.0 (lt-ltb now (entry_at d i).expiry later) in
    let within : i < length e.entries = omega (arith, o.0, (records-shape now xs d).entries) in
    let is : is_of e.store x.owner x.rtype i (entry_at e i) ≡ true = of_stays now d e x.owner x.rtype i s ∙ o.1 in
    record {
      live = ltb-true now (entry_at e i).expiry s.live;
      found = λ t l. look-here t e.entries e.store x.owner x.rtype i within (lt-ltb t (entry_at e i).expiry l) is;
    }

pub found_after : FoundAfter
unfolding take_records
found_after now before x later c₀ i c e owner rdata slots cached z k =
    subst (Remains now x i) (sym (records-append now before (x ∷ later) c₀ ∙ ap (λ (d : Cache). take_records now later (take_record now x d)) (sym e)))
    (after now x later i (take_record now x c) z (taken-found now x c i owner rdata slots cached z k))
