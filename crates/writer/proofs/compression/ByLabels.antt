-- The bytes of a name label by label: what the definition, which goes byte by byte, gives for a name that is made of labels. Assumes nothing.
use mathlib.Core.Path.{◌≡◌, refl, ap, ap₂, ◌∙◌}
use mathlib.Core.List.{List, [], ◌∷◌, ◌++◌, append_assoc}
use Prim.Native.Nat.{ℕ, suc, ◌+◌}
use native.Mathlib.Omega.{arith}
use lib.ListN.{length, take}
use Rattle.wire.specs.labels.Labels.{encode, Labels, none, one}
use Rattle.writer.specs.compression.Compression.{place_of, onward, cut_here, cut_from, cut_of, pointer_to, end_of, name_bytes, name_places}
use Rattle.wire.specs.labels.Counted.{starts}
use Rattle.std.specs.Prelude.{Option, Some, None}

-- a pointer where the suffix stands earlier, else its first label and what follows
abbrev pub cut_at : Option ℕ → List ℕ → List ℕ
cut_at (Some o) go_on = pointer_to o
cut_at None go_on = go_on

abbrev pub none_at : Option ℕ → List ℕ → List ℕ
none_at (Some o) go_on = []
none_at None go_on = go_on

-- the bytes of a name from its labels, and the offsets at which those of them start that are written
unfoldable pub by_labels : List ℕ → List ℕ → List (List ℕ) → List ℕ
by_labels p os [] = 0 ∷ []
by_labels p os (l ∷ ls) = cut_at (place_of p (encode (l ∷ ls)) os) (length l ∷ (l ++ by_labels p os ls))

unfoldable pub places_by : List ℕ → List ℕ → ℕ → List (List ℕ) → List ℕ
places_by p os at [] = []
places_by p os at (l ∷ ls) = none_at (place_of p (encode (l ∷ ls)) os) (at ∷ places_by p os (at + 1 + length l) ls)

module _ (p os : List ℕ) where
  -- the bytes of a label are kept
  kept_on_lem : (xs ys : List ℕ) → take (cut_from p os (length xs) (xs ++ ys)).kept (xs ++ ys) ≡ xs ++ take (cut_of p os ys).kept ys
  unfolding cut_from
  kept_on_lem [] ys = refl
  kept_on_lem (x ∷ xs) ys = ap (λ (l : List ℕ). x ∷ l) (kept_on_lem xs ys)

  place-on : (xs ys : List ℕ) → (cut_from p os (length xs) (xs ++ ys)).place ≡ (cut_of p os ys).place
  unfolding cut_from
  place-on [] ys = refl
  place-on (x ∷ xs) ys = place-on xs ys

  pub starts-on : (at : ℕ) (xs ys : List ℕ) → starts at (length xs) (xs ++ ys) ≡ starts (at + length xs) 0 ys
  unfolding starts
  starts-on at [] ys = let e : at ≡ at + 0 = omega arith in ap (λ (n : ℕ). starts n 0 ys) e
  starts-on at (x ∷ xs) ys = let e : suc at + length xs ≡ at + suc (length xs) = omega arith in starts-on (suc at) xs ys ∙ ap (λ (n : ℕ). starts n 0 ys) e

  pub by-labels : {ls : List (List ℕ)} → Labels ls → name_bytes p os (encode ls) ≡ by_labels p os ls
  unfolding name_bytes by_labels cut_from
  by-labels none = refl
  by-labels (one {l = []} {ls = ls} lo hi rest) = absurd (omega arith)
  by-labels (one {l = x ∷ xs} {ls = ls} lo hi rest) = go (place_of p (encode ((x ∷ xs) ∷ ls)) os) (by-labels rest)
    where
      go : (y : Option ℕ) → name_bytes p os (encode ls) ≡ by_labels p os ls
          → take (cut_here y (onward (onward (cut_from p os (length xs) (xs ++ encode ls))))).kept (length (x ∷ xs) ∷ (x ∷ (xs ++ encode ls))) ++ end_of
          (cut_here y (onward (onward (cut_from p os (length xs) (xs ++ encode ls))))).place
          ≡ cut_at y (length (x ∷ xs) ∷ (x ∷ (xs ++ by_labels p os ls)))
      go (Some o) ih = refl
      go None ih =
          ap (λ (l : List ℕ). length (x ∷ xs) ∷ (x ∷ l))
          (ap₂ (λ (l : List ℕ) (q : Option ℕ). l ++ end_of q) (kept_on_lem xs (encode ls)) (place-on xs (encode ls)) ∙ append_assoc xs
          (take (cut_of p os (encode ls)).kept (encode ls)) (end_of (cut_of p os (encode ls)).place)
          ∙ ap (λ (l : List ℕ). xs ++ l) ih)

  pub places-by : {ls : List (List ℕ)} (at : ℕ) → Labels ls → name_places p os at (encode ls) ≡ places_by p os at ls
  unfolding name_places places_by cut_from starts
  places-by at none = refl
  places-by at (one {l = []} {ls = ls} lo hi rest) = absurd (omega arith)
  places-by at (one {l = x ∷ xs} {ls = ls} lo hi rest) = go (place_of p (encode ((x ∷ xs) ∷ ls)) os) (places-by (at + 1 + length (x ∷ xs)) rest)
    where
      go : (y : Option ℕ) → name_places p os (at + 1 + length (x ∷ xs)) (encode ls) ≡ places_by p os (at + 1 + length (x ∷ xs)) ls
          → starts at 0 (take (cut_here y (onward (onward (cut_from p os (length xs) (xs ++ encode ls))))).kept (length (x ∷ xs) ∷ (x ∷ (xs ++ encode ls))))
          ≡ none_at y (at ∷ places_by p os (at + 1 + length (x ∷ xs)) ls)
      go (Some o) ih = refl
      go None ih =
          let e : suc (suc at) + length xs ≡ at + 1 + suc (length xs) = omega arith in
          ap (λ (l : List ℕ). at ∷ l)
          (ap (starts (suc (suc at)) (length xs)) (kept_on_lem xs (encode ls)) ∙ starts-on (suc (suc at)) xs (take (cut_of p os (encode ls)).kept (encode ls))
          ∙ ap (λ (n : ℕ). starts n 0 (take (cut_of p os (encode ls)).kept (encode ls))) e ∙ ih)
