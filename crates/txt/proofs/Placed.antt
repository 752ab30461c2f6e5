-- A string of a TXT lies at its place there. Assumes nothing.
use mathlib.Core.Path.{◌≡◌, refl, sym, ap, ◌∙◌}
use mathlib.Core.List.{List, [], ◌∷◌, ◌++◌}
use mathlib.Core.Option.{some}
use mathlib.Core.Bool.{Bool, true, false, cond}
use Prim.Native.Nat.{ℕ, zero, suc, ◌+◌, ◌-◌, ◌≤◌}
use native.Mathlib.Omega.{arith}
use lib.ListN.{length, take, drop, length-take, length-drop, take-append-drop}
use lib.Seq.{drop-drop, drop-append-le, take_at}
use Rattle.txt.specs.Txt.{text, strings_from, strings, has_key, first_with}

-- the rest of a list past its first element
past : (txt : List ℕ) (at b : ℕ) (bs : List ℕ) → drop at txt ≡ b ∷ bs → (drop (at + 1) txt ≡ bs) × (at + 1 ≤ length txt)
past txt at b bs e =
    let l : length txt - at ≡ suc (length bs) = sym (length-drop at txt) ∙ ap length e in
    (sym (drop-drop 1 at txt) ∙ ap (drop 1) e, omega arith)

-- a beginning of a list is as long as it is
beginning : (n : ℕ) (l : List ℕ) → take (length (take n l)) l ≡ take n l
beginning zero l = refl
beginning (suc n) [] = refl
beginning (suc n) (x ∷ xs) = ap (λ (t : List ℕ). x ∷ t) (beginning n xs)

-- a string lies at its place in the TXT
pub record Placed (txt : List ℕ) (at : ℕ) (s : List ℕ) : Type 0 where
  pub ends : at + length s ≤ length txt
  pub bytes : take (length s) (drop at txt) ≡ s

placed-here : (txt : List ℕ) (at n : ℕ) (bs : List ℕ) → drop at txt ≡ bs → at ≤ length txt → Placed txt at (take n bs)
placed-here txt at n bs e h =
    let l : length txt - at ≡ length bs = sym (length-drop at txt) ∙ ap length e in
    record { ends = simp length-take (omega arith); bytes = rw e (beginning n bs) }

placed-from : (key txt d : List ℕ) (at k : ℕ) → drop at txt ≡ d → at ≤ length txt → (p : ℕ) (s : List ℕ) → first_with key (strings_from at k d) ≡ some (text p s) → Placed txt p s
unfolding strings_from first_with
placed-from key txt [] at k e h p s m = let z : ◌≡◌ {A = ℕ} 0 1 = cc in absurd (omega arith)
placed-from key txt (b ∷ bs) at (suc k) e h p s m =
    let f = past txt at b bs e in
    placed-from key txt bs (at + 1) k f.0 f.1 p s m
placed-from key txt (b ∷ bs) at zero e h p s m =
    let f = past txt at b bs e in
    go (has_key key (take b bs)) m (placed-here txt (at + 1) b bs f.0 f.1) (placed-from key txt bs (at + 1) b f.0 f.1 p s)
  where
    go : (t : Bool) → cond t (some (text (at + 1) (take b bs))) (first_with key (strings_from (at + 1) b bs)) ≡ some (text p s) → Placed txt (at + 1) (take b bs) → (first_with key (strings_from (at + 1) b bs) ≡ some (text p s) → Placed txt p s) → Placed txt p s
    go true m here later =
        let ep : at + 1 ≡ p = cc in
        let es : take b bs ≡ s = cc in
        rw (← ep, ← es) here
    go false m here later = later m

pub placed : (key txt : List ℕ) (p : ℕ) (s : List ℕ) → first_with key (strings txt) ≡ some (text p s) → Placed txt p s
placed key txt p s m = placed-from key txt txt 0 0 refl (omega arith) p s m

-- what follows the first bytes of a string that lies at a place
pub rest_placed : (txt : List ℕ) (at : ℕ) (s : List ℕ) (m : ℕ) (v : List ℕ) → Placed txt at s → m ≤ length s → drop m s ≡ v → take (length v) (drop (at + m) txt) ≡ v
rest_placed txt at s m v w h e =
    let whole : drop at txt ≡ s ++ drop (length s) (drop at txt) = sym (take-append-drop (length s) (drop at txt)) ∙ rw w.bytes in
    let tail : drop (at + m) txt ≡ v ++ drop (length s) (drop at txt) =
    sym (drop-drop m at txt) ∙ ap (drop m) whole ∙ drop-append-le m s (drop (length s) (drop at txt)) h ∙ rw e in
    ap (take (length v)) tail ∙ take_at v (drop (length s) (drop at txt)) (length v) refl
