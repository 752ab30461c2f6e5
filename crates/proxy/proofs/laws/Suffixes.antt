-- Names, their suffixes of whole labels, and domains: laws of the definitions. Assumes nothing.
use mathlib.Core.Path.{◌≡◌, refl, sym, ap, ap₂, ◌∙◌}
use mathlib.Core.List.{List, [], ◌∷◌, ◌++◌}
use mathlib.Core.Bool.{Bool, true, false, cond, ◌&&◌}
use Prim.Native.Nat.{ℕ, zero, suc, ◌+◌, ◌<◌, ◌≤◌}
use native.Mathlib.Nat.{zero-add, suc-add}
use native.Mathlib.Omega.{arith}
use borrow.Author.Tests.{lt-ltb, ltb-true, leb-true, eqb-true, eq-eqb}
use mathlib.Mathlib.Data.Bool.Basic.{and-eq-true-eq-eq-true-and-eq-true as both}
use lib.ListN.{length, take, drop}
use lib.Dec.{ltb, leb}
use Rattle.wire.specs.case_folding.Fold.{lower, same_name}
use Rattle.wire.specs.names.Names.{labels_fill, is_name}
use Rattle.wire.proofs.case_folding.Equal.{heads}
use Rattle.proxy.specs.domains.Under.{starts_at, front_of, is_under}

-- equal names: parts, and behind the same bytes
pub same_drop : (n : ℕ) (a b : List ℕ) → same_name a b ≡ true → same_name (drop n a) (drop n b) ≡ true
unfolding same_name
same_drop zero a b h = h
same_drop (suc n) [] [] h = refl
same_drop (suc n) [] (y ∷ ys) h = let z : ◌≡◌ {A = ℕ} 0 1 = cc in absurd (omega arith)
same_drop (suc n) (x ∷ xs) [] h = let z : ◌≡◌ {A = ℕ} 0 1 = cc in absurd (omega arith)
same_drop (suc n) (x ∷ xs) (y ∷ ys) h = same_drop n xs ys (heads x y xs ys h).1

pub same_behind : (front a b : List ℕ) → same_name a b ≡ true → same_name (front ++ a) (front ++ b) ≡ true
unfolding same_name
same_behind [] a b h = h
same_behind (x ∷ xs) a b h = simp (eq-eqb (lower x) (lower x) refl, same_behind xs a b h)

-- a length byte is below every letter: what equals it, folded, is the same byte
unfolded : (x y : ℕ) → x < 64 → lower x ≡ lower y → x ≡ y
unfolded x y h e = go (leb 65 x) refl (leb 65 y) refl (leb y 90) refl
  where
    go : (a : Bool) → leb 65 x ≡ a → (b : Bool) → leb 65 y ≡ b → (c : Bool) → leb y 90 ≡ c → x ≡ y
    go true p b q c r = absurd (omega (arith, leb-true 65 x p))
    go false p true q true r =
        let k : x ≡ y + 32 = sym (ap (λ (t : Bool). cond (t && leb x 90) (x + 32) x) p) ∙ e ∙ ap₂ (λ (s t : Bool). cond (s && t) (y + 32) y) q r in
        absurd (omega (arith, leb-true 65 y q))
    go false p true q false r = sym (ap (λ (t : Bool). cond (t && leb x 90) (x + 32) x) p) ∙ e ∙ ap₂ (λ (s t : Bool). cond (s && t) (y + 32) y) q r
    go false p false q c r = sym (ap (λ (t : Bool). cond (t && leb x 90) (x + 32) x) p) ∙ e ∙ ap (λ (t : Bool). cond (t && leb y 90) (y + 32) y) q

-- a label that starts behind a start is one of the rest
pub starts-behind : (k a b : ℕ) (bs : List ℕ) → starts_at k a bs ≡ true → a ≤ length bs → starts_at k (a + b) bs ≡ starts_at 0 b (drop a bs)
unfolding starts_at
starts-behind k zero b bs h l = ap₂ (λ (m n : ℕ). starts_at m n bs) (eqb-true k 0 h) (zero-add b)
starts-behind k (suc a) b [] h l = absurd (omega arith)
starts-behind zero (suc a) b (x ∷ xs) h l = ap (λ (n : ℕ). starts_at 0 n (x ∷ xs)) (suc-add a b) ∙ starts-behind x a b xs h (omega arith)
starts-behind (suc k) (suc a) b (x ∷ xs) h l = ap (λ (n : ℕ). starts_at (suc k) n (x ∷ xs)) (suc-add a b) ∙ starts-behind k a b xs h (omega arith)

-- equal names have their labels at the same places
pub starts-same : (k at : ℕ) (a b : List ℕ) → labels_fill k a ≡ true → same_name a b ≡ true → starts_at k at a ≡ starts_at k at b
unfolding starts_at labels_fill same_name
starts-same k zero a b f h = refl
starts-same k (suc at) [] b f h = let z : ◌≡◌ {A = ℕ} 0 1 = cc in absurd (omega arith)
starts-same k (suc at) (x ∷ xs) [] f h = let z : ◌≡◌ {A = ℕ} 0 1 = cc in absurd (omega arith)
starts-same (suc k) (suc at) (x ∷ xs) (y ∷ ys) f h = starts-same k at xs ys f (heads x y xs ys h).1
starts-same zero (suc at) (zero ∷ []) (y ∷ []) f h = ap (λ (n : ℕ). starts_at n at []) (unfolded 0 y (omega arith) (heads 0 y [] [] h).0)
starts-same zero (suc at) (zero ∷ []) (y ∷ (w ∷ ws)) f h =
    let g : same_name [] (w ∷ ws) ≡ true = (heads 0 y [] (w ∷ ws) h).1 in
    let z : ◌≡◌ {A = ℕ} 0 1 = cc in absurd (omega arith)
starts-same zero (suc at) (zero ∷ (c ∷ cs)) (y ∷ ys) f h = let z : ◌≡◌ {A = ℕ} 0 1 = cc in absurd (omega arith)
starts-same zero (suc at) (suc n ∷ xs) (y ∷ ys) f h =
    let g = (both (ltb (suc n) 64) (labels_fill (suc n) xs)).0 f in
    let p = heads (suc n) y xs ys h in
    starts-same (suc n) at xs ys g.1 p.1 ∙ ap (λ (m : ℕ). starts_at m at ys) (unfolded (suc n) y (ltb-true (suc n) 64 g.0) p.0)

-- from where a label starts on there is a name
pub fills_behind : (k at : ℕ) (bs : List ℕ) → labels_fill k bs ≡ true → starts_at k at bs ≡ true → at < length bs → labels_fill 0 (drop at bs) ≡ true
unfolding starts_at labels_fill
fills_behind k zero bs f h l = sym (ap (λ (n : ℕ). labels_fill n bs) (eqb-true k 0 h)) ∙ f
fills_behind k (suc at) [] f h l = absurd (omega arith)
fills_behind (suc k) (suc at) (x ∷ xs) f h l = fills_behind k at xs f h (omega arith)
fills_behind zero (suc at) (zero ∷ []) f h l = absurd (omega arith)
fills_behind zero (suc at) (zero ∷ (c ∷ cs)) f h l = let z : ◌≡◌ {A = ℕ} 0 1 = cc in absurd (omega arith)
fills_behind zero (suc at) (suc n ∷ xs) f h l = fills_behind (suc n) at xs ((both (ltb (suc n) 64) (labels_fill (suc n) xs)).0 f).1 h (omega arith)

-- the labels before a place and a name behind them are a name
pub fills_joined : (k at : ℕ) (bs to : List ℕ) → labels_fill k bs ≡ true → starts_at k at bs ≡ true → at < length bs → labels_fill 0 to ≡ true
    → labels_fill k (take at bs ++ to) ≡ true
unfolding starts_at labels_fill
fills_joined k zero bs to f h l g = ap (λ (n : ℕ). labels_fill n to) (eqb-true k 0 h) ∙ g
fills_joined k (suc at) [] to f h l g = absurd (omega arith)
fills_joined (suc k) (suc at) (x ∷ xs) to f h l g = fills_joined k at xs to f h (omega arith) g
fills_joined zero (suc at) (zero ∷ []) to f h l g = absurd (omega arith)
fills_joined zero (suc at) (zero ∷ (c ∷ cs)) to f h l g = let z : ◌≡◌ {A = ℕ} 0 1 = cc in absurd (omega arith)
fills_joined zero (suc at) (suc n ∷ xs) to f h l g =
    let p = (both (ltb (suc n) 64) (labels_fill (suc n) xs)).0 f in
    simp p.0 (fills_joined (suc n) at xs to p.1 h (omega arith) g)

-- and the place is still where a label starts
pub starts-joined : (k at : ℕ) (bs to : List ℕ) → starts_at k at bs ≡ true → at ≤ length bs → starts_at k at (take at bs ++ to) ≡ true
unfolding starts_at
starts-joined k zero bs to h l = h
starts-joined k (suc at) [] to h l = absurd (omega arith)
starts-joined zero (suc at) (x ∷ xs) to h l = starts-joined x at xs to h (omega arith)
starts-joined (suc k) (suc at) (x ∷ xs) to h l = starts-joined k at xs to h (omega arith)

-- what "under" says, and what it takes
pub under-parts : (domain name : List ℕ) → is_under domain name ≡ true
    → (length domain < length name) × (starts_at 0 (front_of domain name) name ≡ true) × (same_name (drop (front_of domain name) name) domain ≡ true)
unfolding is_under
under-parts domain name h =
    let p = (both (ltb (length domain) (length name)) (starts_at 0 (front_of domain name) name && same_name (drop (front_of domain name) name) domain)).0 h in
    let q = (both (starts_at 0 (front_of domain name) name) (same_name (drop (front_of domain name) name) domain)).0 p.1 in
    (ltb-true (length domain) (length name) p.0, q.0, q.1)

pub under-made : (domain name : List ℕ) → length domain < length name → starts_at 0 (front_of domain name) name ≡ true
    → same_name (drop (front_of domain name) name) domain ≡ true → is_under domain name ≡ true
unfolding is_under
under-made domain name l s e = simp (lt-ltb (length domain) (length name) l, s, e)

-- the labels of a name
pub name-fills : (bs : List ℕ) → is_name bs ≡ true → labels_fill 0 bs ≡ true
name-fills bs h = ((both (labels_fill 0 bs) (leb (length bs) 255)).0 h).0

pub name-short : (bs : List ℕ) → is_name bs ≡ true → length bs ≤ 255
name-short bs h = leb-true (length bs) 255 ((both (labels_fill 0 bs) (leb (length bs) 255)).0 h).1
