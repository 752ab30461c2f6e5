-- The refusal of a table by the greatest numbers of its entries: after i entries, and at the end. Assumes nothing.
use mathlib.Core.Path.{◌≡◌, refl, sym, ap, ap₂, ◌∙◌}
use mathlib.Core.List.{List, [], ◌∷◌}
use mathlib.Core.Bool.{Bool, true, false, cond, not, ◌||◌}
use Prim.Native.Nat.{ℕ, ◌+◌, ◌<◌, ◌≤◌, ◌^◌, max}
use native.Mathlib.Omega.{arith}
use lib.ListN.{length, get_or, drop, drop_of_length-le}
use lib.Dec.{ltb}
use borrow.Author.Tests.{lt-ltb, le-ltb, ltb-true, ltb-false}
use Rattle.cache.specs.entries.Entries.{blank, heard_ahead, too_long}
use Rattle.wire.specs.Lists.{some}
use Rattle.cache.specs.entries.Cache.{is_size, entries_refusal}
use Rattle.cache.specs.declared.entries.Entry.{Entry}
use Rattle.cache.proofs.entries.Searches.{at_slot}
use Rattle.capi_cache.specs.Refusals.{no_most, most_with, ended}
use Rattle.capi_cache.specs.declared.Most.{Most}

-- what is answered where m is of the entries so far and the entries es are left of n
unfoldable pub rest_of : ℕ → ℕ → Most → List Entry → ℕ
rest_of now n m [] = ended now m n
rest_of now n m (e ∷ es) = rest_of now n (most_with m e) es

-- the number of two tests
abbrev num : Bool → Bool → ℕ
num a b = cond a 1 (cond b 8 0)

or_assoc : (a b c : Bool) → ((a || b) || c) ≡ (a || (b || c))
or_assoc true b c = refl
or_assoc false b c = refl

or_false : (a : Bool) → (a || false) ≡ a
or_false true = refl
or_false false = refl

-- two tests of each of two, and more
or_four : (a b c d x : Bool) → (((a || b) || (c || d)) || x) ≡ ((a || c) || ((b || d) || x))
or_four true b c d x = refl
or_four false true true d x = refl
or_four false true false d x = refl
or_four false false true d x = refl
or_four false false false d x = refl

-- the greater of two is over a number where one of them is
over_max : (k a b : ℕ) → ltb k (max a b) ≡ (ltb k a || ltb k b)
over_max k a b = go (ltb k a) refl (ltb k b) refl
  where
    go : (u : Bool) → ltb k a ≡ u → (v : Bool) → ltb k b ≡ v → ltb k (max a b) ≡ (u || v)
    go true e v f = lt-ltb k (max a b) (omega (arith, ltb-true k a e))
    go false e true f = lt-ltb k (max a b) (omega (arith, ltb-true k b f))
    go false e false f = le-ltb k (max a b) (omega (arith, ltb-false k a e, ltb-false k b f))

rest_is : (now n : ℕ) (m : Most) (es : List Entry)
    → rest_of now n m es ≡ num (ltb (2 ^ 62) now || (ltb now m.received || some (heard_ahead now) es)) (not (is_size n) || ((ltb 255 m.owner || ltb 768 m.rdata) || some too_long es))
unfolding rest_of most_with ended some
rest_is now n m [] =
    ap₂ (λ (a b : Bool). num (ltb (2 ^ 62) now || a) (not (is_size n) || b)) (sym (or_false (ltb now m.received))) (sym (or_false (ltb 255 m.owner || ltb 768 m.rdata)))
rest_is now n m (e ∷ es) =
    rest_is now n (most_with m e) es
    ∙ ap₂ (λ (a b : Bool). num (ltb (2 ^ 62) now || a) (not (is_size n) || b))
    (ap (λ (a : Bool). a || some (heard_ahead now) es) (over_max now m.received e.received) ∙ or_assoc (ltb now m.received) (ltb now e.received) (some (heard_ahead now) es))
    (ap₂ (λ (a b : Bool). (a || b) || some too_long es) (over_max 255 m.owner e.owner) (over_max 768 m.rdata e.rdata)
    ∙ or_four (ltb 255 m.owner) (ltb 255 e.owner) (ltb 768 m.rdata) (ltb 768 e.rdata) (some too_long es))

pub scan_start : (now : ℕ) (es : List Entry) → rest_of now (length es) no_most es ≡ entries_refusal now es
unfolding entries_refusal
scan_start now es =
    rest_is now (length es) no_most es
    ∙ ap (λ (a : Bool). num (ltb (2 ^ 62) now || (a || some (heard_ahead now) es)) (not (is_size (length es)) || some too_long es)) (le-ltb now 0 (omega arith))

pub scan_on : (now n : ℕ) (m : Most) (es : List Entry) (i : ℕ) → i < length es → rest_of now n m (drop i es) ≡ rest_of now n (most_with m (get_or es i blank)) (drop (i + 1) es)
unfolding rest_of
scan_on now n m es i h = ap (rest_of now n m) (at_slot es i h)

pub scan_end : (now n : ℕ) (m : Most) (es : List Entry) (i : ℕ) → length es ≤ i → rest_of now n m (drop i es) ≡ ended now m n
unfolding rest_of
scan_end now n m es i h = ap (rest_of now n m) (drop_of_length-le es h)

-- the number of a whole table fits a byte
