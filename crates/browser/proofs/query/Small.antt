-- The header of a query, how many known answers a plan has, and where it stops. Assumes nothing.
use Rattle.std.proofs.Common.{None, Some}
use mathlib.Core.Path.{◌≡◌, refl, sym, ap, ap₂, ◌∙◌}
use mathlib.Core.List.{List, [], ◌∷◌, map}
use mathlib.Core.Bool.{Bool, true, false, cond}
use Prim.Native.Nat.{ℕ, zero, suc, ◌/◌, ◌%◌, ◌≤◌, ◌<◌, min}
use native.Mathlib.Omega.{arith}
use lib.ListN.{length, get_or, drop, length-take}
use lib.Seq.{get_or-take}
use Rattle.browser.specs.declared.known_answers.Known.{Known}
use Rattle.browser.specs.declared.known_answers.Plan.{Plan}
use Rattle.browser.specs.known_answers.Plans.{no_answer, planned}
use Rattle.browser.specs.query.Query.{first_slot}
use Rattle.browser.specs.query.Drafts.{stop_at, head_bytes}

pub head_is : (asks : Bool) (k : ℕ) (truncated : Bool) (f q : ℕ) → f ≡ cond truncated 2 0 → q ≡ cond asks 1 0
    → (0 ∷ 0 ∷ f ∷ 0 ∷ 0 ∷ q ∷ (k / 256) ∷ (k % 256) ∷ 0 ∷ 0 ∷ 0 ∷ 0 ∷ []) ≡ head_bytes asks k truncated
head_is asks k truncated f q e g = ap₂ (λ (x y : ℕ). 0 ∷ 0 ∷ x ∷ 0 ∷ 0 ∷ y ∷ (k / 256) ∷ (k % 256) ∷ 0 ∷ 0 ∷ 0 ∷ 0 ∷ []) e g ∙ go truncated asks
  where
    go : (t a : Bool) → (0 ∷ 0 ∷ cond t 2 0 ∷ 0 ∷ 0 ∷ cond a 1 0 ∷ (k / 256) ∷ (k % 256) ∷ 0 ∷ 0 ∷ 0 ∷ 0 ∷ []) ≡ head_bytes a k t
    go true true = refl
    go true false = refl
    go false true = refl
    go false false = refl

-- a plan in an array of 121
module _ (p : Plan) (sized : length p.known ≡ 121) where
  pub count_least : min p.n 121 ≡ length (planned p)
  count_least = omega (arith, length-take p.n p.known, sized)

map_at : (f : Known → ℕ) (ks : List Known) (k : ℕ) → k < length ks → first_slot (drop k (map f ks)) ≡ Some (f (get_or ks k no_answer))
map_at f [] k h = absurd (omega arith)
map_at f (x ∷ xs) zero h = refl
map_at f (x ∷ xs) (suc k) h = map_at f xs k (omega arith)

map-past : (f : Known → ℕ) (ks : List Known) (k : ℕ) → length ks ≤ k → first_slot (drop k (map f ks)) ≡ None
map-past f [] zero h = refl
map-past f [] (suc k) h = refl
map-past f (x ∷ xs) zero h = absurd (omega arith)
map-past f (x ∷ xs) (suc k) h = map-past f xs k (omega arith)

pub stop-here : (p : Plan) (k n : ℕ) → n ≡ length (planned p) → k < n → Some (get_or p.known k no_answer).slot ≡ stop_at p k
unfolding stop_at
stop-here p k n is h =
    let l : k < length (planned p) = omega arith in
    let m : length (planned p) ≤ p.n = let t = length-take p.n p.known in omega arith in
    let same : get_or (planned p) k no_answer ≡ get_or p.known k no_answer = get_or-take p.n p.known k no_answer (omega arith) in
    sym (map_at (λ (x : Known). x.slot) (planned p) k l ∙ ap (λ (x : Known). Some x.slot) same)

pub stop-none : (p : Plan) (k n : ℕ) → n ≡ length (planned p) → n ≤ k → None ≡ stop_at p k
unfolding stop_at
stop-none p k n is h = sym (map-past (λ (x : Known). x.slot) (planned p) k (omega arith))

pub plan_few : (p : Plan) → length p.known ≡ 121 → length (planned p) ≤ 121
plan_few p sized = let t = length-take p.n p.known in omega arith

pub planned-within : (p : Plan) (n : ℕ) → n ≡ length (planned p) → n ≤ length p.known
planned-within p n e = let t = length-take p.n p.known in omega arith
