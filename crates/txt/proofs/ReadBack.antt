-- `strings` reads what RFC 6763, 6.1 has written: strings, each after its length byte, are read back as they were, and the strings of a TXT that
-- is filled exactly are all that it holds. Assumes nothing.
use mathlib.Core.Path.{◌≡◌, refl, ap}
use mathlib.Core.List.{List, [], ◌∷◌, ◌++◌}
use mathlib.Core.Bool.{true}
use Prim.Native.Nat.{ℕ, zero, suc, ◌+◌, ◌≤◌}
use native.Mathlib.Omega.{arith}
use lib.ListN.{length, take, length-append}
use lib.Seq.{length-take-le, take-append_seam, drop-append_seam}
use Rattle.wire.specs.rdata.Rdata.{strings_fill}
use Rattle.txt.specs.Txt.{Text, text, strings_from, strings}
use Rattle.txt.proofs.Strings.{passed}

-- a string after its length byte, and the next
unfoldable pub written : List (List ℕ) → List ℕ
written [] = []
written (t ∷ ts) = length t ∷ (t ++ written ts)

unfoldable pub texts : List Text → List (List ℕ)
texts [] = []
texts (text at s ∷ rest) = s ∷ texts rest

back_from : (ts : List (List ℕ)) (at : ℕ) → texts (strings_from at 0 (written ts)) ≡ ts
unfolding strings_from written texts
back_from [] at = refl
back_from (t ∷ ts) at =
    let h : length t ≤ length (t ++ written ts) = omega (arith, length-append t (written ts)) in
    rw (passed (length t) (at + 1) (t ++ written ts) h, take-append_seam t (written ts), drop-append_seam t (written ts))
    (ap (λ (l : List (List ℕ)). t ∷ l) (back_from ts (at + 1 + length t)))

pub read_back : (ts : List (List ℕ)) → texts (strings (written ts)) ≡ ts
read_back ts = back_from ts 0

room : (k : ℕ) (d : List ℕ) → strings_fill k d ≡ true → k ≤ length d
unfolding strings_fill
room zero d e = omega arith
room (suc k) [] e = let z : ◌≡◌ {A = ℕ} 0 1 = cc in absurd (omega arith)
room (suc k) (b ∷ bs) e = let h = room k bs e in omega arith

-- of bytes that the rest of a string and further strings fill: those, and the strings written again
whole_from_lem : (d : List ℕ) (at k : ℕ) → strings_fill k d ≡ true → take k d ++ written (texts (strings_from at k d)) ≡ d
unfolding strings_fill strings_from written texts
whole_from_lem [] at zero e = refl
whole_from_lem [] at (suc k) e = let z : ◌≡◌ {A = ℕ} 0 1 = cc in absurd (omega arith)
whole_from_lem (b ∷ bs) at (suc k) e = ap (λ (l : List ℕ). b ∷ l) (whole_from_lem bs (at + 1) k e)
whole_from_lem (b ∷ bs) at zero e = rw (length-take-le b bs (room b bs e)) (ap (λ (l : List ℕ). b ∷ l) (whole_from_lem bs (at + 1) b e))

pub whole : (txt : List ℕ) → strings_fill 0 txt ≡ true → written (texts (strings txt)) ≡ txt
whole txt e = whole_from_lem txt 0 0 e
