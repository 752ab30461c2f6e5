-- A table an entry at a time, for the loops over it: `lowest`, `each` and `some` from slot i on. Assumes nothing.
use Rattle.std.proofs.Common.{None, Some}
use mathlib.Core.Path.{◌≡◌, refl, sym, ap, ◌∙◌}
use mathlib.Core.List.{List, [], ◌∷◌}
use mathlib.Core.Bool.{Bool, true, false, cond}
use Prim.Native.Nat.{ℕ, zero, suc, ◌+◌, ◌<◌, ◌≤◌}
use native.Mathlib.Numerals.{add-one}
use native.Mathlib.Nat.{add-zero, zero-add, add-suc, suc-add}
use native.Mathlib.Omega.{arith}
use lib.ListN.{length, get_or, drop, drop_of_length-le}
use lib.Seq.{drop-cons}
use Rattle.cache.specs.entries.Entries.{blank, matches}
use Rattle.cache.proofs.entries.Single.{match_before}
use Rattle.cache.specs.entries.Tables.{lowest}
use Rattle.cache.specs.declared.entries.Entry.{Entry}

-- the first of the entries from slot i on
pub at_slot : (es : List Entry) (i : ℕ) → i < length es → drop i es ≡ get_or es i blank ∷ drop (i + 1) es
at_slot es i h = drop-cons es i blank h ∙ ap (λ (k : ℕ). get_or es i blank ∷ drop k es) (sym (add-one i))

-- a search, of which the slots below i are done
module _ (test : ℕ → Entry → Bool) (es : List Entry) (i : ℕ) (inv : lowest test 0 es ≡ lowest test i (drop i es)) where
  pub lowest-here : i < length es → test i (get_or es i blank) ≡ true → Some i ≡ lowest test 0 es
  unfolding lowest
  lowest-here h t = sym (inv ∙ rw (at_slot es i h) (simp t))

  pub lowest-on : i < length es → test i (get_or es i blank) ≡ false → lowest test 0 es ≡ lowest test (i + 1) (drop (i + 1) es)
  unfolding lowest
  lowest-on h t = inv ∙ rw (at_slot es i h) (simp t (ap (λ (k : ℕ). lowest test k (drop (i + 1) es)) (sym (add-one i))))

  pub lowest-end : length es ≤ i → None ≡ lowest test 0 es
  unfolding lowest
  lowest-end h = sym (inv ∙ rw (drop_of_length-le es h))

-- what a search that found a slot says: the slot is one of the table, and its entry passes the test
found_from : (test : ℕ → Entry → Bool) (k : ℕ) (es : List Entry) (i : ℕ) → lowest test k es ≡ Some i → (j : ℕ) × ((i ≡ k + j) × ((j < length es) × (test i (get_or es j blank) ≡ true)))
unfolding lowest
found_from test k [] i h = let z : ◌≡◌ {A = ℕ} 0 1 = cc in absurd (omega arith)
found_from test k (e ∷ es) i h = go (test k e) refl h (found_from test (suc k) es i)
  where
    go : (b : Bool) → test k e ≡ b → cond b (Some k) (lowest test (suc k) es) ≡ Some i
        → (lowest test (suc k) es ≡ Some i → (j : ℕ) × ((i ≡ suc k + j) × ((j < length es) × (test i (get_or es j blank) ≡ true))))
        → (j : ℕ) × ((i ≡ k + j) × ((j < suc (length es)) × (test i (get_or (e ∷ es) j blank) ≡ true)))
    go true t g ih =
        let same : k ≡ i = cc in
        (0, (omega arith, (omega arith, ap (λ (x : ℕ). test x e) (sym same) ∙ t)))
    go false t g ih =
        let d = ih g in
        (suc d.0, (omega (arith, d.1.0), (omega (arith, d.1.1.0), d.1.1.1)))

pub found_at : (test : ℕ → Entry → Bool) (es : List Entry) (i : ℕ) → lowest test 0 es ≡ Some i → (i < length es) × (test i (get_or es i blank) ≡ true)
found_at test es i h =
    let d = found_from test 0 es i h in
    let same : d.0 ≡ i = omega (arith, d.1.0) in
    (omega (arith, d.1.1.0, same), ap (λ (j : ℕ). test i (get_or es j blank)) (sym same) ∙ d.1.1.1)

-- slots whose entries cannot pass are left out of a search
pub skipped : (test : ℕ → Entry → Bool) (k n : ℕ) (es : List Entry) → ((j : ℕ) (e : Entry) → j < k + n → test j e ≡ false) → lowest test k es ≡ lowest test (k + n) (drop n es)
unfolding lowest
skipped test k zero es h = ap (λ (m : ℕ). lowest test m es) (sym (add-zero k))
skipped test k (suc n) [] h = refl
skipped test k (suc n) (e ∷ es) h =
    simp (h k e (omega arith)) (skipped test (suc k) n es (λ j x l. h j x (omega arith)) ∙ ap (λ (m : ℕ). lowest test m (drop n es)) (suc-add k n ∙ sym (add-suc k n)))

-- a lookup begins at the slot from which it is to search
pub from-slot : (now : ℕ) (store name : List ℕ) (rtype from : ℕ) (es : List Entry) → lowest (matches now store name rtype from) 0 es ≡ lowest (matches now store name rtype from) from (drop from es)
from-slot now store name rtype from es =
    skipped (matches now store name rtype from) 0 from es (λ (j : ℕ) (e : Entry) (l : j < 0 + from). match_before now store name rtype from j e (omega arith))
    ∙ ap (λ (k : ℕ). lowest (matches now store name rtype from) k (drop from es)) (zero-add from)
