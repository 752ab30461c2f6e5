-- Theorem: the order of a lookup's tests changes no answer. Assumes nothing.
use Rattle.std.proofs.Common.{Some}
use mathlib.Core.Path.{◌≡◌, refl, sym, ap, ◌∙◌}
use mathlib.Core.List.{List, [], ◌∷◌}
use mathlib.Core.Bool.{Bool, true, false, cond, not, ◌&&◌}
use Prim.Native.Nat.{ℕ, suc, ◌+◌, ◌*◌, ◌≤◌}
use native.Mathlib.Omega.{arith}
use lib.ListN.{length, drop, replicate, length-drop}
use lib.Seq.{length-take-le}
use lib.Dec.{ltb, leb, eqb}
use borrow.Author.Tests.{eq-eqb, eqb-true, ltb-false, not-false}
use mathlib.Mathlib.Data.Bool.Basic.{and-eq-true-eq-eq-true-and-eq-true as both, or-eq-false-eq-eq-false-and-eq-false as neither}
use Rattle.wire.specs.Lists.{some}
use Rattle.wire.specs.case_folding.Fold.{same_name}
use Rattle.wire.specs.names.Names.{labels_fill}
use Rattle.wire.proofs.case_folding.Equal.{same_length}
use Rattle.cache.specs.entries.Entries.{blank, slot_of, owner_held, is_live, is_of, live_of, matches, too_long}
use Rattle.cache.specs.entries.Tables.{lowest}
use Rattle.cache.specs.entries.Cache.{is_size, is_store_of, look_in, look_refusal}
use Rattle.cache.specs.declared.entries.Entry.{Entry}
use Rattle.cache.proofs.lookup.Refusing.{look-accepted}
use Rattle.cache.specs.laws.Order.{matches_by_name, OrderFree}

-- five tests in two orders, of which the one by length holds wherever that of the names does
turned : (from live type len names : Bool) → (names ≡ true → len ≡ true) → from && (live && (type && (len && names))) ≡ names && (type && (live && from))
turned true true true true false h = refl
turned true true true true true h = refl
turned true true true false false h = refl
turned true true true false true h = h refl
turned true true false len false h = refl
turned true true false len true h = refl
turned true false type len false h = refl
turned true false true len true h = refl
turned true false false len true h = refl
turned false live type len false h = refl
turned false live false len true h = refl
turned false true true len true h = refl
turned false false true len true h = refl

module _ (now : ℕ) (store name : List ℕ) (rtype from : ℕ) where
  -- an entry whose slot the store has whole is a match in either order
  one : (i : ℕ) (e : Entry) → too_long e ≡ false → 1024 * i + 1024 ≤ length store → matches now store name rtype from i e ≡ matches_by_name now store name rtype from i e
  unfolding matches live_of is_of matches_by_name
  one i e short room =
      turned (leb from i) (is_live now e) (eqb e.rtype rtype) (eqb e.owner (length name)) (same_name (owner_held store i e) name)
      (λ h. eq-eqb e.owner (length name) (sym held ∙ same_length (owner_held store i e) name h))
    where
      held : length (owner_held store i e) ≡ e.owner
      held =
          let fits : e.owner ≤ 255 = ltb-false 255 e.owner ((neither (ltb 255 e.owner) (ltb 768 e.rdata)).0 short).0 in
          let slot : length (slot_of store i) ≡ 1024 = length-take-le 1024 (drop (1024 * i) store) (omega (arith, length-drop (1024 * i) store)) in
          length-take-le e.owner (slot_of store i) (omega arith)

  -- and so is the lowest of several
  all : (i : ℕ) (es : List Entry) → some too_long es ≡ false → 1024 * (i + length es) ≤ length store
      → lowest (matches now store name rtype from) i es ≡ lowest (matches_by_name now store name rtype from) i es
  unfolding lowest some
  all i [] short room = refl
  all i (e ∷ es) short room =
      let now-and-later = (neither (too_long e) (some too_long es)).0 short in
      ap (λ (b : Bool). cond b (Some i) (lowest (matches now store name rtype from) (suc i) es)) (one i e now-and-later.0 (omega arith))
      ∙ ap (cond (matches_by_name now store name rtype from i e) (Some i)) (all (suc i) es now-and-later.1 (omega arith))

-- a lookup that is not refused has a table of entries that fit, and a store with a slot for each
fits : (now : ℕ) (es : List Entry) (store name : List ℕ) → look_refusal now es store name ≡ 0 → (some too_long es ≡ false) × (1024 * length es ≤ length store)
unfolding is_store_of
fits now es store name none =
    let passed = look-accepted now es store name none in
    let short = ((neither (not (is_size (length es))) (some too_long es)).0 passed.0).1 in
    let sized = ((both (is_size (length es)) (eqb (length store) (1024 * length es))).0 (not-false (is_store_of (length es) (length store)) passed.1)).1 in
    let room : length store ≡ 1024 * length es = eqb-true (length store) (1024 * length es) sized in
    (short, omega arith)

pub order_free : OrderFree
unfolding look_in
order_free now es store name rtype from none =
    let f = fits now es store name none in
    all now store name rtype from 0 es f.0 (omega (arith, f.1))

-- a lookup for which the premise holds: for the root, in a table of one entry that is not used
witness : look_refusal 0 (blank ∷ []) (replicate 1024 0) (0 ∷ []) ≡ 0
unfolding look_refusal is_size is_store_of some labels_fill
witness = refl
