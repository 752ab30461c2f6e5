-- Where a section ends, an item at a time. One law for questions and records. Assumes nothing.
use Rattle.std.specs.Prelude.{None, Option, Some}
use mathlib.Core.Path.{◌≡◌, refl, sym, ap, ◌∙◌}
use mathlib.Core.List.{[]}
use Prim.Native.Nat.{ℕ, zero, suc, ◌-◌, ◌<◌, ◌≤◌}
use native.Mathlib.Omega.{arith}
use Rattle.wire.specs.message.Layout.{Item, item, broken, Listing, listing, cut, first, and_on, list_from}
use Rattle.wire.specs.message.Places.{past_item, past_list}

module _ {A : Type 0} (part : ℕ → Item A) (n at : ℕ) where
  -- one item, and the others
  pub list_one : 0 < n → list_from part n at ≡ and_on (list_from part (n - 1)) (part at)
  unfolding list_from
  list_one lt = go n lt
    where
      go : (m : ℕ) → 0 < m → list_from part m at ≡ and_on (list_from part (m - 1)) (part at)
      go zero l = absurd (omega arith)
      go (suc m) l = let e : m ≡ suc m - 1 = omega arith in ap (λ (j : ℕ). and_on (list_from part j) (part at)) e

  pub list_none : n ≤ 0 → list_from part n at ≡ listing [] at
  unfolding list_from
  list_none h = go n h
    where
      go : (m : ℕ) → m ≤ 0 → list_from part m at ≡ listing [] at
      go zero l = refl
      go (suc m) l = absurd (omega arith)

  module _ (r : (Option ℕ)) (lt : 0 < n) (h : r ≡ past_item (part at)) where
    pub ends_next : (next : ℕ) → r ≡ Some next → past_list (list_from part n at) ≡ past_list (list_from part (n - 1) next)
    ends_next next e = ap past_list (list_one lt) ∙ go (part at) (sym h ∙ e)
      where
        past : (x : A) (l : Listing A) → past_list (first x l) ≡ past_list l
        past x (listing xs end) = refl
        past x cut = refl

        go : (y : Item A) → past_item y ≡ Some next → past_list (and_on (list_from part (n - 1)) y) ≡ past_list (list_from part (n - 1) next)
        go (item x m) g = let k : m ≡ next = cc in past x (list_from part (n - 1) m) ∙ ap (λ (j : ℕ). past_list (list_from part (n - 1) j)) k
        go broken g = let z : ◌≡◌ {A = ℕ} 0 1 = cc in absurd (omega arith)

    pub ends_bad : r ≡ None → past_list (list_from part n at) ≡ None
    ends_bad e = ap past_list (list_one lt) ∙ go (part at) (sym h ∙ e)
      where
        go : (y : Item A) → past_item y ≡ None → past_list (and_on (list_from part (n - 1)) y) ≡ None
        go (item x m) g = let z : ◌≡◌ {A = ℕ} 0 1 = cc in absurd (omega arith)
        go broken g = refl
