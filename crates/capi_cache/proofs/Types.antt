-- Entries of other types, passed over four at a time: the lowest that may hold a record stays. Assumes nothing.
use mathlib.Core.Path.{◌≡◌, refl, sym, ap, ◌∙◌}
use mathlib.Core.List.{List}
use mathlib.Core.Bool.{Bool, true, false, ◌||◌}
use Prim.Native.Nat.{ℕ, ◌+◌, ◌-◌, ◌<◌, ◌≤◌}
use native.Mathlib.Omega.{arith}
use lib.ListN.{length, get_or, drop}
use lib.Dec.{leb, eqb}
use borrow.Author.Tests.{le-leb, lt-leb, leb-true, leb-false}
use Rattle.cache.specs.entries.Entries.{blank}
use Rattle.cache.specs.entries.Tables.{slot_from}
use Rattle.cache.specs.declared.entries.Entry.{Entry}
use Rattle.cache.specs.declared.records.Heard.{Heard}
use Rattle.cache.specs.records.Heard.{holds_heard}
use Rattle.cache.proofs.records.Rules.{may_wider, type_wider}
use Rattle.cache.proofs.records.Seeking.{seek_on, steps-over}
use Rattle.capi_cache.specs.Types.{of_type, type_among, Passed}

none_of : (a b c d : Bool) → (a || (b || (c || d))) ≡ false → (a ≡ false) × ((b ≡ false) × ((c ≡ false) × (d ≡ false)))
none_of true b c d k = let z : ◌≡◌ {A = ℕ} 0 1 = cc in absurd (omega arith)
none_of false true c d k = let z : ◌≡◌ {A = ℕ} 0 1 = cc in absurd (omega arith)
none_of false false true d k = let z : ◌≡◌ {A = ℕ} 0 1 = cc in absurd (omega arith)
none_of false false false true k = let z : ◌≡◌ {A = ℕ} 0 1 = cc in absurd (omega arith)
none_of false false false false k = (refl, (refl, (refl, refl)))

module _ (rtype : ℕ) (es : List Entry) (from i : ℕ) where
  abbrev found : ℕ → ℕ
  found j = slot_from (of_type rtype) j (drop j es)

  one : (j : ℕ) → j < length es → eqb (get_or es j blank).rtype rtype ≡ false → found (j + 1) ≡ found j
  unfolding of_type
  one j l n = seek_on (of_type rtype) es j l n

  pub passed_four : i + 4 ≤ length es → type_among rtype (get_or es i blank) (get_or es (i + 1) blank) (get_or es (i + 2) blank) (get_or es (i + 3) blank) ≡ false → Passed rtype es from i → Passed rtype es from (i + 4)
  passed_four l k p =
      let n = none_of _ _ _ _ k in (
        omega (arith, p.0),
        ap found (omega arith) ∙ one (i + 3) (omega (arith, l)) n.1.1.1 ∙ ap found (omega arith) ∙ one (i + 2) (omega (arith, l)) n.1.1.0
            ∙ ap found (omega arith) ∙ one (i + 1) (omega (arith, l)) n.1.0 ∙ one i (omega (arith, l)) n.0 ∙ p.1,
      )

-- an entry that holds a record is of its type
pub passed_equal : (now : ℕ) (store slot : List ℕ) (h : Heard) (es : List Entry) (from to : ℕ) → Passed h.at.rtype es from to
    → slot_from (holds_heard now store slot h) to (drop to es) ≡ slot_from (holds_heard now store slot h) from (drop from es)
unfolding of_type
passed_equal now store slot h es from to p =
    let test : ℕ → Entry → Bool = holds_heard now store slot h in
    let over : (i : ℕ) → slot_from test (slot_from (of_type h.at.rtype) i (drop i es)) (drop (slot_from (of_type h.at.rtype) i (drop i es)) es) ≡ slot_from test i (drop i es) =
    steps-over test (of_type h.at.rtype) (λ i e n. may_wider now store slot h i e (type_wider now h e n)) es in
    sym (over to) ∙ ap (λ (j : ℕ). slot_from test j (drop j es)) p.1 ∙ over from

-- whether there are four, and whether one of them is of a type, from what the code has tested
pub four_none : (n i : ℕ) → n < i → false ≡ leb (i + 4) n
four_none n i l = sym (lt-leb (i + 4) n (omega (arith, l)))

pub four_left : (n i : ℕ) → i ≤ n → leb 4 (n - i) ≡ leb (i + 4) n
four_left n i l = go (leb 4 (n - i)) refl
  where
    go : (t : Bool) → leb 4 (n - i) ≡ t → leb 4 (n - i) ≡ leb (i + 4) n
    go true e = let m = leb-true 4 (n - i) e in e ∙ sym (le-leb (i + 4) n (omega (arith, m, l)))
    go false e = let m = leb-false 4 (n - i) e in e ∙ sym (lt-leb (i + 4) n (omega (arith, m, l)))
