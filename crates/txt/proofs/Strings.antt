-- The strings of a TXT, a string at a time. Assumes nothing.
use mathlib.Core.Path.{◌≡◌, refl, sym, ap, ◌∙◌}
use mathlib.Core.List.{List, [], ◌∷◌}
use mathlib.Core.Bool.{Bool, true, false}
use Prim.Native.Nat.{ℕ, zero, suc, ◌+◌, ◌-◌, ◌<◌, ◌≤◌}
use native.Mathlib.Nat.{add-sub_cancel_left}
use native.Mathlib.Numerals.{add-one}
use native.Mathlib.Omega.{arith}
use lib.ListN.{length, get_or, take, drop, drop_of_length-le, length-drop}
use lib.Seq.{drop-cons, drop-drop}
use lib.Dec.{leb}
use borrow.Author.Tests.{leb-true, leb-false}
use Rattle.wire.specs.rdata.Rdata.{strings_fill}
use Rattle.wire.proofs.rdata.Strings.{string_fits, string_over}
use Rattle.txt.specs.Txt.{Text, text, strings_from, has_key, first_with}
use Rattle.txt.specs.Lookup.{answer_of, given_by, in_txt}
use Rattle.txt.specs.declared.Buffer.{Buffer}
use Rattle.txt.specs.declared.Answer.TheVariants.{Absent}

-- the bytes of the string before are passed over
pub passed : (k at : ℕ) (d : List ℕ) → k ≤ length d → strings_from at k d ≡ strings_from (at + k) 0 (drop k d)
unfolding strings_from
passed zero at d h = ap (λ (a : ℕ). strings_from a 0 d) (omega arith)
passed (suc k) at [] h = absurd (omega arith)
passed (suc k) at (b ∷ bs) h =
    passed k (at + 1) bs (omega arith) ∙ ap (λ (a : ℕ). strings_from a 0 (drop k bs)) (omega arith)

-- the string at `at`, whose length byte is `n`, and those after it
module _ (txt : List ℕ) (at n : ℕ) (lt : at < length txt) (is : n ≡ get_or txt at 0) (fill : strings_fill 0 txt ≡ true) (rest : strings_fill 0 txt ≡ strings_fill 0 (drop at txt)) where
  pub string_in : at + 1 + n ≤ length txt
  string_in = go (leb (at + 1 + n) (length txt)) refl
    where
      go : (t : Bool) → leb (at + 1 + n) (length txt) ≡ t → at + 1 + n ≤ length txt
      go true e = leb-true _ _ e
      go false e =
          let f : false ≡ true = string_over txt at n lt is rest (leb-false _ _ e) ∙ fill in
          let z : ◌≡◌ {A = ℕ} 0 1 = cc in
          absurd (omega arith)

  pub fill_rest : strings_fill 0 txt ≡ strings_fill 0 (drop (at + 1 + n) txt)
  fill_rest = string_fits txt at n lt is rest string_in

  first : drop at txt ≡ n ∷ drop (at + 1) txt
  first = rw (is, add-one, drop-cons txt at 0 lt)

  abbrev here : List ℕ
  here = take (at + 1 + n - (at + 1)) (drop (at + 1) txt)

  string_at_lem : strings_from at 0 (drop at txt) ≡ text (at + 1) here ∷ strings_from (at + 1 + n) 0 (drop (at + 1 + n) txt)
  unfolding strings_from
  string_at_lem =
      let h = string_in in
      rw (add-sub_cancel_left (at + 1) n)
      (ap (strings_from at 0) first ∙ ap (λ (l : List Text). text (at + 1) (take n (drop (at + 1) txt)) ∷ l) (passed n (at + 1) (drop (at + 1) txt) (simp length-drop (omega arith)) ∙ ap (strings_from (at + 1 + n) 0) (drop-drop n (at + 1) txt)))

  module _ (key : List ℕ) (b : Buffer) (inv : in_txt b key txt ≡ answer_of b (first_with key (strings_from at 0 (drop at txt)))) where
    pub found : has_key key here ≡ true → in_txt b key txt ≡ given_by b (at + 1) here
    unfolding first_with
    found e = inv ∙ rw string_at_lem (simp e)

    pub not_found : has_key key here ≡ false → in_txt b key txt ≡ answer_of b (first_with key (strings_from (at + 1 + n) 0 (drop (at + 1 + n) txt)))
    unfolding first_with
    not_found e = inv ∙ rw string_at_lem (simp e)

pub from_start : (key txt : List ℕ) (b : Buffer) → in_txt b key txt ≡ answer_of b (first_with key (strings_from 0 0 (drop 0 txt)))
unfolding in_txt
from_start key txt b = refl

pub no_more : (key txt : List ℕ) (b : Buffer) (at : ℕ) → length txt ≤ at → in_txt b key txt ≡ answer_of b (first_with key (strings_from at 0 (drop at txt))) → Absent ≡ in_txt b key txt
unfolding strings_from first_with
no_more key txt b at h inv = sym (inv ∙ rw (drop_of_length-le txt h))
