-- Labels and the bytes of a name say the same: labels make an uncompressed name, every uncompressed name is made of labels, and only of these; names that
-- are equal have the same number of labels. Assumes nothing.
use mathlib.Core.Path.{◌≡◌, refl, sym, ap, ap₂, ◌∙◌}
use mathlib.Core.List.{List, [], ◌∷◌, ◌++◌}
use mathlib.Core.Bool.{true}
use Prim.Native.Nat.{ℕ, zero, suc, ◌<◌, ◌≤◌}
use native.Mathlib.Omega.{arith}
use borrow.Author.Tests.{lt-ltb, le-leb, lt-leb, ltb-true, leb-true, eqb-true}
use lib.ListN.{length, take, drop}
use lib.Seq.{take_at, drop_at}
use lib.Dec.{ltb, leb, eqb}
use mathlib.Mathlib.Data.Bool.Basic.{and-eq-true-eq-eq-true-and-eq-true as both}
use Rattle.wire.specs.case_folding.Fold.{lower, same_name}
use Rattle.wire.specs.names.Names.{labels_fill, is_name}
use Rattle.wire.specs.labels.Labels.{encode, Labels, none, one, IsName}

pub encode-pos : (ls : List (List ℕ)) → 1 ≤ length (encode ls)
encode-pos [] = omega arith
encode-pos (l ∷ ls) = omega arith

-- the bytes of a label are passed over
skip : (xs ys : List ℕ) → labels_fill (length xs) (xs ++ ys) ≡ labels_fill 0 ys
unfolding labels_fill
skip [] ys = refl
skip (x ∷ xs) ys = skip xs ys

pub fills : {ls : List (List ℕ)} → Labels ls → labels_fill 0 (encode ls) ≡ true
unfolding labels_fill
fills none = refl
fills (one {l = []} {ls = ls} lo hi rest) = absurd (omega arith)
fills (one {l = x ∷ xs} {ls = ls} lo hi rest) = simp (lt-ltb _ _ hi) (skip xs (encode ls) ∙ fills rest)

-- labels make an uncompressed name
pub is_name_lem : {ls : List (List ℕ)} → IsName ls → is_name (encode ls) ≡ true
is_name_lem n = simp (fills n.labels, le-leb _ _ n.short)

-- labels, of which the first has `k` bytes to come, from bytes that they fill
split : (k : ℕ) (bs : List ℕ) → labels_fill k bs ≡ true → (l : List ℕ) × (ls : List (List ℕ)) × (length l ≡ k) × (Labels ls) × (bs ≡ l ++ encode ls)
unfolding labels_fill
split k [] h = let z : ◌≡◌ {A = ℕ} 0 1 = cc in absurd (omega arith)
split (suc k) (b ∷ bs) h = let f = split k bs h in (b ∷ f.0, f.1, ap suc f.2, f.3, ap (λ (x : List ℕ). b ∷ x) f.4)
split zero (zero ∷ []) h = ([], [], refl, none, refl)
split zero (zero ∷ (c ∷ cs)) h = let z : ◌≡◌ {A = ℕ} 0 1 = cc in absurd (omega arith)
split zero (suc n ∷ bs) h =
    let g = (both (ltb (suc n) 64) (labels_fill (suc n) bs)).0 h in
    let f = split (suc n) bs g.1 in
    let hi : suc n < 64 = ltb-true _ _ g.0 in
    let some : 1 ≤ length f.0 = omega (arith, f.2) in
    let few : length f.0 < 64 = omega (arith, f.2) in
    ([], f.0 ∷ f.1, refl, one some few f.3, ap₂ (λ (x : ℕ) (y : List ℕ). x ∷ y) (sym f.2) f.4)

-- every uncompressed name is made of labels
pub made_of : (bs : List ℕ) → is_name bs ≡ true → (ls : List (List ℕ)) × (IsName ls) × (bs ≡ encode ls)
made_of bs h =
    let g = (both (labels_fill 0 bs) (leb (length bs) 255)).0 h in
    let f = split 0 bs g.0 in go f.0 f.1 f.2 f.3 f.4 (leb-true _ _ g.1)
  where
    go : (l : List ℕ) (ls : List (List ℕ)) → length l ≡ 0 → Labels ls → bs ≡ l ++ encode ls → length bs ≤ 255 → (ls : List (List ℕ)) × (IsName ls) × (bs ≡ encode ls)
    go [] ls z ok e k = (ls, record { labels = ok; short = omega (arith, ap length e) }, e)
    go (x ∷ xs) ls z ok e k = absurd (omega arith)

-- and of one list of labels only
pub encode-unique : {ls ms : List (List ℕ)} → Labels ls → Labels ms → encode ls ≡ encode ms → ls ≡ ms
encode-unique none none e = refl
encode-unique none (one {l = m} {ls = ms} lo hi rest) e = let h : 0 ≡ length m = cc in absurd (omega arith)
encode-unique (one {l = l} {ls = ls} lo hi rest) none e = let h : length l ≡ 0 = cc in absurd (omega arith)
encode-unique (one {l = l} {ls = ls} lo hi rest) (one {l = m} {ls = ms} lo' hi' rest') e =
    let n : length l ≡ length m = cc in
    let t : l ++ encode ls ≡ m ++ encode ms = cc in
    let same : l ≡ m = sym (take_at l (encode ls) (length l) refl) ∙ ap (take (length l)) t ∙ take_at m (encode ms) (length l) (sym n) in
    let left : encode ls ≡ encode ms = sym (drop_at l (encode ls) (length l) refl) ∙ ap (drop (length l)) t ∙ drop_at m (encode ms) (length l) (sym n) in
    ap₂ (λ (x : List ℕ) (xs : List (List ℕ)). x ∷ xs) same (encode-unique rest rest' left)

-- a length byte is below every letter, so it is not folded
length-kept : (n : ℕ) → n < 64 → lower n ≡ n
length-kept n h = let k : n < 65 = omega arith in simp (lt-leb 65 n k)

-- two labels of one length are passed over together
past : (l m x y : List ℕ) → length l ≡ length m → same_name (l ++ x) (m ++ y) ≡ true → same_name x y ≡ true
unfolding same_name
past [] [] x y n h = h
past [] (b ∷ m) x y n h = absurd (omega arith)
past (a ∷ l) [] x y n h = absurd (omega arith)
past (a ∷ l) (b ∷ m) x y n h = past l m x y (omega arith) ((both (eqb (lower a) (lower b)) (same_name (l ++ x) (m ++ y))).0 h).1

-- equal names have as many labels
pub same_count : {ls ms : List (List ℕ)} → Labels ls → Labels ms → same_name (encode ls) (encode ms) ≡ true → length ls ≡ length ms
unfolding same_name
same_count none none h = refl
same_count none (one {l = m} {ls = ms} lo hi rest) h =
    let g = (both (eqb (lower 0) (lower (length m))) (same_name [] (m ++ encode ms))).0 h in
    let e : 0 ≡ lower (length m) = eqb-true _ _ g.0 in absurd (omega (arith, length-kept (length m) hi))
same_count (one {l = l} {ls = ls} lo hi rest) none h =
    let g = (both (eqb (lower (length l)) (lower 0)) (same_name (l ++ encode ls) [])).0 h in
    let e : lower (length l) ≡ 0 = eqb-true _ _ g.0 in absurd (omega (arith, length-kept (length l) hi))
same_count (one {l = l} {ls = ls} lo hi rest) (one {l = m} {ls = ms} lo' hi' rest') h =
    let g = (both (eqb (lower (length l)) (lower (length m))) (same_name (l ++ encode ls) (m ++ encode ms))).0 h in
    let e : lower (length l) ≡ lower (length m) = eqb-true _ _ g.0 in
    let n : length l ≡ length m = omega (arith, length-kept (length l) hi, length-kept (length m) hi') in
    ap suc (same_count rest rest' (past l m (encode ls) (encode ms) n g.1))
