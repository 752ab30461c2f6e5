-- Whether a slot is listed, an entry below it at a time; and the lowest listed slot from a slot on. Assumes nothing.
use Rattle.std.proofs.Common.{None, Some}
use mathlib.Core.Path.{◌≡◌, refl, sym, ap, ◌∙◌}
use mathlib.Core.Bool.{Bool, true, false, cond, not, ◌&&◌, ◌||◌}
use mathlib.Core.List.{List, [], ◌∷◌, ◌++◌}
use Prim.Native.Nat.{ℕ, zero, suc, ◌+◌, ◌-◌, ◌<◌, ◌≤◌}
use native.Mathlib.Omega.{arith}
use native.Mathlib.Numerals.{add-one}
use lib.ListN.{length, get_or, take, get_or-eq_default}
use lib.Seq.{take-suc, take_all, length-take-le}
use lib.Dec.{ltb}
use borrow.Author.Tests.{ltb-true, ltb-false, le-ltb}
use Rattle.wire.specs.names.Names.{is_name}
use Rattle.wire.specs.case_folding.Fold.{same_name}
use Rattle.cache.specs.declared.entries.Entry.{Entry}
use Rattle.cache.specs.entries.Entries.{blank, is_of, live_of, rdata_held}
use Rattle.cache.specs.laws.Counts.{any_from}
use Rattle.browser.specs.declared.Browser.{Browser}
use Rattle.browser.specs.service.Service.{service_name}
use Rattle.browser.specs.list.Listing.{is_shown, shows_too, is_listed, first_of}

-- one entry more
any_more : (f : ℕ → Entry → Bool) (k : ℕ) (xs : List Entry) (x : Entry) → any_from f k (xs ++ (x ∷ [])) ≡ (any_from f k xs || f (k + length xs) x)
unfolding any_from
any_more f k [] x = last (f k x) ∙ ap (λ (n : ℕ). f n x) here
  where
    here : k ≡ k + 0
    here = omega arith

    last : (c : Bool) → (c || false) ≡ c
    last true = refl
    last false = refl
any_more f k (y ∷ ys) x =
    ap (λ (c : Bool). f k y || c) (any_more f (suc k) ys x ∙ ap (λ (n : ℕ). any_from f (suc k) ys || f n x) same)
    ∙ grouped (f k y) (any_from f (suc k) ys) (f (k + length (y ∷ ys)) x)
  where
    same : suc k + length ys ≡ k + length (y ∷ ys)
    same = omega arith

    grouped : (p q r : Bool) → (p || (q || r)) ≡ ((p || q) || r)
    grouped true q r = refl
    grouped false q r = refl

module _ (now : ℕ) (store : List ℕ) (b : Browser) where
  -- an entry of zeros is never shown
  pub blank-hidden : (j : ℕ) → is_shown now store b j blank ≡ false
  unfolding is_shown live_of
  blank-hidden j =
      let dead : ltb now 0 ≡ false = le-ltb now 0 (omega arith) in
      ap (λ (c : Bool). (c && is_of store (service_name b) 12 j blank) && is_name (rdata_held store j blank)) dead

  module _ (es : List Entry) (i : ℕ) where
    -- slot i is shown, and no entry below slot j shows its target
    abbrev pub listed_to : ℕ → Bool
    listed_to j = is_shown now store b i (get_or es i blank) && not (any_from (shows_too now store b i (get_or es i blank)) 0 (take j es))

    pub listed_start : is_shown now store b i (get_or es i blank) ≡ listed_to 0
    unfolding any_from
    listed_start = go (is_shown now store b i (get_or es i blank))
      where
        go : (c : Bool) → c ≡ (c && true)
        go true = refl
        go false = refl

    pub listed-on : (j : ℕ) → (listed_to j && not (shows_too now store b i (get_or es i blank) j (get_or es j blank))) ≡ listed_to (j + 1)
    unfolding shows_too
    listed-on j = go (ltb j (length es)) refl
      where
        f : ℕ → Entry → Bool
        f = shows_too now store b i (get_or es i blank)

        s : Bool
        s = is_shown now store b i (get_or es i blank)

        spread : (p q r : Bool) → ((p && not q) && not r) ≡ (p && not (q || r))
        spread true true r = refl
        spread true false r = refl
        spread false q r = refl

        none : (p q : Bool) → ((p && not q) && true) ≡ (p && not q)
        none true true = refl
        none true false = refl
        none false q = refl

        go : (t : Bool) → ltb j (length es) ≡ t → (listed_to j && not (f j (get_or es j blank))) ≡ listed_to (j + 1)
        go true e =
            let l : j < length es = ltb-true j (length es) e in
            let more : any_from f 0 (take (j + 1) es) ≡ (any_from f 0 (take j es) || f j (get_or es j blank)) =
            ap (λ (n : ℕ). any_from f 0 (take n es)) (add-one j) ∙ ap (any_from f 0) (take-suc es j blank l) ∙ any_more f 0 (take j es) (get_or es j blank)
            ∙ ap (λ (n : ℕ). any_from f 0 (take j es) || f n (get_or es j blank)) (place l) in
            spread s (any_from f 0 (take j es)) (f j (get_or es j blank)) ∙ ap (λ (c : Bool). s && not c) (sym more)
          where
            place : j < length es → 0 + length (take j es) ≡ j
            place l = let k : length (take j es) ≡ j = length-take-le j es (omega arith) in omega arith
        go false e =
            let l : length es ≤ j = ltb-false j (length es) e in
            let m : length es ≤ j + 1 = omega arith in
            let dead : f j (get_or es j blank) ≡ false =
            ap (λ (d : Entry). f j d) (get_or-eq_default es blank l) ∙ hidden in
            ap (λ (c : Bool). listed_to j && not c) dead ∙ none s (any_from f 0 (take j es))
            ∙ ap (λ (xs : List Entry). s && not (any_from f 0 xs)) (take_all j es l ∙ sym (take_all (j + 1) es m))
          where
            hidden : f j blank ≡ false
            hidden = ap (λ (c : Bool). c && same_name (rdata_held store j blank) (rdata_held store i (get_or es i blank))) (blank-hidden j)

    pub listed-end : listed_to i ≡ is_listed now store b es i
    unfolding is_listed
    listed-end = refl

-- the lowest of some slots: at i what is left of them is searched
module _ (test : ℕ → Bool) where
  pub first-here : (i n : ℕ) → i < n → test i ≡ true → first_of test i (n - i) ≡ Some i
  unfolding first_of
  first-here i n l t = go (n - i) (omega arith)
    where
      go : (m : ℕ) → 0 < m → first_of test i m ≡ Some i
      go zero h = absurd (omega arith)
      go (suc m) h = ap (λ (c : Bool). cond c (Some i) (first_of test (suc i) m)) t

  pub first_on : (i n : ℕ) → i < n → test i ≡ false → first_of test i (n - i) ≡ first_of test (i + 1) (n - (i + 1))
  unfolding first_of
  first_on i n l t = go (n - i) (n - (i + 1)) (omega arith)
    where
      go : (m k : ℕ) → m ≡ k + 1 → first_of test i m ≡ first_of test (i + 1) k
      go zero k h = absurd (omega arith)
      go (suc m) k h =
          let same : m ≡ k = omega arith in
          ap (λ (c : Bool). cond c (Some i) (first_of test (suc i) m)) t ∙ ap (first_of test (suc i)) same ∙ ap (λ (j : ℕ). first_of test j k) (sym (add-one i))

  pub first-end : (i n : ℕ) → n ≤ i → first_of test i (n - i) ≡ None
  unfolding first_of
  first-end i n l = let none : n - i ≡ 0 = omega arith in ap (first_of test i) none
