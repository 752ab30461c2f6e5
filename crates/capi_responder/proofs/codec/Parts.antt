-- Parts copied from a buffer. Assumes nothing.
use mathlib.Core.Path.{◌≡◌, ap, ◌∙◌}
use mathlib.Core.List.{List, ◌++◌, append-nil}
use Prim.Native.Nat.{ℕ, ◌+◌, ◌-◌, ◌≤◌}
use native.Mathlib.Omega.{arith}
use lib.ListN.{length, take, drop, length-drop, drop_of_length-le}
use lib.Seq.{sets, sets-eq, length-take-le}

-- what is laid over a buffer of its own length is all of it
sets_over : (l vs : List ℕ) → length vs ≡ length l → sets l 0 vs ≡ vs
sets_over l vs e =
    let h : 0 + length vs ≤ length l = omega arith in
    let k : length l ≤ 0 + length vs = omega arith in
    sets-eq vs l 0 h ∙ ap (λ (r : List ℕ). vs ++ r) (drop_of_length-le l k) ∙ append-nil vs

-- a buffer filled with the bytes from `at` on
pub filled : (at : ℕ) (b z out : List ℕ) → at + length z ≤ length b → out ≡ sets z 0 (take ((at + length z) - at) (drop at b))
    → out ≡ take (length z) (drop at b)
filled at b z out h e =
    let k : (at + length z) - at ≡ length z = omega arith in
    let m : length z ≤ length (drop at b) = rw (length-drop at b) (omega arith) in
    rw k at e ∙ sets_over z (take (length z) (drop at b)) (length-take-le (length z) (drop at b) m)
