-- Strings that fill a list of bytes, a string at a time. Assumes nothing.
use mathlib.Core.Path.{◌≡◌, refl, sym, ap, ◌∙◌}
use mathlib.Core.List.{List, [], ◌∷◌}
use mathlib.Core.Bool.{true, false}
use Prim.Native.Nat.{ℕ, zero, suc, ◌+◌, ◌<◌, ◌≤◌}
use native.Mathlib.Numerals.{add-one}
use native.Mathlib.Omega.{arith}
use lib.ListN.{length, get_or, drop, drop_of_length-le, length-drop}
use lib.Seq.{drop-cons, drop-drop}
use Rattle.wire.specs.rdata.Rdata.{strings_fill}

-- the bytes of a string are passed over
skip : (k : ℕ) (d : List ℕ) → k ≤ length d → strings_fill k d ≡ strings_fill 0 (drop k d)
unfolding strings_fill
skip zero d h = refl
skip (suc k) [] h = absurd (omega arith)
skip (suc k) (b ∷ bs) h = skip k bs (omega arith)

over : (k : ℕ) (d : List ℕ) → length d < k → strings_fill k d ≡ false
unfolding strings_fill
over zero d h = absurd (omega arith)
over (suc k) [] h = refl
over (suc k) (b ∷ bs) h = over k bs (omega arith)

module _ (d : List ℕ) (at n : ℕ) (lt : at < length d) (is : n ≡ get_or d at 0) (inv : strings_fill 0 d ≡ strings_fill 0 (drop at d)) where
  next : strings_fill 0 d ≡ strings_fill n (drop (at + 1) d)
  unfolding strings_fill
  next = inv ∙ rw (is, add-one, drop-cons d at 0 lt)

  pub string_fits : at + 1 + n ≤ length d → strings_fill 0 d ≡ strings_fill 0 (drop (at + 1 + n) d)
  string_fits h = next ∙ skip n (drop (at + 1) d) (simp length-drop (omega arith)) ∙ ap (strings_fill 0) (drop-drop n (at + 1) d)

  pub string_over : length d < at + 1 + n → false ≡ strings_fill 0 d
  string_over h = sym (next ∙ over n (drop (at + 1) d) (simp length-drop (omega arith)))

pub strings-end : (d : List ℕ) (at : ℕ) → length d ≤ at → strings_fill 0 d ≡ strings_fill 0 (drop at d) → true ≡ strings_fill 0 d
unfolding strings_fill
strings-end d at h inv = sym (inv ∙ rw (drop_of_length-le d h))
