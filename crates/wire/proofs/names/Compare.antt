-- The comparison of a name in a packet with an uncompressed one, a label at a time. Assumes nothing.
use mathlib.Core.Path.{◌≡◌, refl, sym, ap, ◌∙◌}
use mathlib.Core.List.{List, [], ◌∷◌, ◌++◌}
use mathlib.Core.Bool.{Bool, true, false, ◌&&◌, and_assoc}
use Prim.Native.Nat.{ℕ, ◌+◌, ◌-◌, ◌<◌, ◌≤◌}
use native.Mathlib.Omega.{arith}
use lib.ListN.{length, take, drop, length-drop, length-append}
use lib.Seq.{take_all, drop-cons, drop-drop}
use lib.Dec.{eqb}
use Rattle.wire.specs.case_folding.Fold.{lower, same_name}
use Rattle.wire.proofs.case_folding.Equal.{same_lengths}
use Rattle.wire.specs.name_pieces.Pieces.{piece_at}
use Rattle.wire.specs.names.Names.{Reading, name, malformed, before, ending, from_run, name_at}
use Rattle.wire.specs.names.Answers.{same_as, name_is}
use Rattle.wire.specs.declared.name_pieces.Piece.{Piece}
use Rattle.wire.specs.declared.name_pieces.Piece.TheVariants.{Root, Label, Pointer, Bad}
use Rattle.wire.proofs.names.Rest.{read_at}
use Rattle.wire.proofs.name_pieces.Pieces.{is-root, label-in}
use Rattle.wire.proofs.names.Walked.{label-long}

-- two lists one after the other are compared one after the other
split : (xs ys q : List ℕ) → length xs ≤ length q → same_name (xs ++ ys) q ≡ (same_name xs (take (length xs) q) && same_name ys (drop (length xs) q))
unfolding same_name
split [] ys q h = refl
split (x ∷ xs) ys [] h = absurd (omega arith)
split (x ∷ xs) ys (y ∷ q) h =
    ap (λ (b : Bool). eqb (lower x) (lower y) && b) (split xs ys q (omega arith))
    ∙ sym (and_assoc (eqb (lower x) (lower y)) (same_name xs (take (length xs) q)) (same_name ys (drop (length xs) q)))

-- a part up to the end of a list
pub to_end : (l : List ℕ) (a : ℕ) → take (length l - a) (drop a l) ≡ drop a l
to_end l a = take_all (length l - a) (drop a l) (omega (arith, length-drop a l))

pub is-start : (p : List ℕ) (at : ℕ) (q : List ℕ) → name_is p at q ≡ same_as (drop 0 q) (from_run p at at 0)
unfolding name_is name_at
is-start p at q = refl

same_ending : (q : List ℕ) (e : ℕ) (x : Reading) → same_as q (ending e x) ≡ same_as q x
same_ending q e (name ys d) = refl
same_ending q e malformed = refl

module _ (p : List ℕ) (start at used : ℕ) (q : List ℕ) (r : Piece) (is : r ≡ piece_at p start at used) where
  here : (x : Piece) → r ≡ x → piece_at p start at used ≡ x
  here x e = sym is ∙ e

  pub is-root_then : r ≡ Root → (v : Bool) → v ≡ same_name (take (at + 1 - at) (drop at p)) (take (length q - used) (drop used q)) → v ≡ same_as (drop used q) (from_run p start at used)
  is-root_then e v h =
      let f = is-root p start at used (here Root e) in
      let one : at + 1 - at ≡ 1 = omega arith in
      let zero-byte : take (at + 1 - at) (drop at p) ≡ 0 ∷ [] =
      ap (λ (k : ℕ). take k (drop at p)) one ∙ ap (take 1) (drop-cons p at 0 f.0) ∙ ap (λ (b : ℕ). b ∷ []) f.1 in
      h ∙ ap (λ (l : List ℕ). same_name l (take (length q - used) (drop used q))) zero-byte ∙ ap (same_name (0 ∷ [])) (to_end q used)
      ∙ sym (ap (same_as (drop used q)) (read_at p start at used Root (here Root e)))

  module _ (n : ℕ) (e : r ≡ Label n) where
    xs : List ℕ
    xs = take (n + 1) (drop at p)

    long : length xs ≡ 1 + n
    unfolding xs
    long = label-long p at n (label-in p start at used n (here (Label n) e))

    rest : Reading
    rest = from_run p start (at + 1 + n) (used + 1 + n)

    opened : same_as (drop used q) (from_run p start at used) ≡ same_as (drop used q) (before xs rest)
    unfolding xs rest
    opened = ap (same_as (drop used q)) (read_at p start at used (Label n) (here (Label n) e))

    pub is-label_over : length q < used + 1 + n → false ≡ same_as (drop used q) (from_run p start at used)
    is-label_over h = sym (opened ∙ go rest)
      where
        go : (x : Reading) → same_as (drop used q) (before xs x) ≡ false
        go (name ys d) = same_lengths (xs ++ ys) (drop used q) (λ z. omega (arith, length-append xs ys, long, length-drop used q))
        go malformed = refl

    module _ (fits : used + 1 + n ≤ length q) (v : Bool) (h : v ≡ same_name (take (at + 1 + n - at) (drop at p)) (take (used + 1 + n - used) (drop used q))) where
      label_same : same_as (drop used q) (from_run p start at used) ≡ (v && same_as (drop (used + 1 + n) q) rest)
      unfolding xs
      label_same = opened ∙ go rest
        where
          a : at + 1 + n - at ≡ n + 1
          a = omega arith

          b : used + 1 + n - used ≡ length xs
          b = omega (arith, long)

          c : used + length xs ≡ used + 1 + n
          c = omega (arith, long)

          first : same_name xs (take (length xs) (drop used q)) ≡ v
          first =
              ap (λ (k : ℕ). same_name xs (take k (drop used q))) (sym b)
              ∙ ap (λ (k : ℕ). same_name (take k (drop at p)) (take (used + 1 + n - used) (drop used q))) (sym a) ∙ sym h

          go : (x : Reading) → same_as (drop used q) (before xs x) ≡ (v && same_as (drop (used + 1 + n) q) x)
          go (name ys d) =
              split xs ys (drop used q) (omega (arith, long, length-drop used q))
              ∙ ap (λ (t : Bool). t && same_name ys (drop (length xs) (drop used q))) first
              ∙ ap (λ (l : List ℕ). v && same_name ys l) (drop-drop (length xs) used q ∙ ap (λ (k : ℕ). drop k q) c)
          go malformed = no v
            where
              no : (t : Bool) → false ≡ (t && false)
              no true = refl
              no false = refl

      pub is-label_differs : v ≡ false → false ≡ same_as (drop used q) (from_run p start at used)
      is-label_differs f = sym (label_same ∙ rw f)

      pub is-label_on : v ≡ true → same_as (drop used q) (from_run p start at used) ≡ same_as (drop (used + 1 + n) q) (from_run p start (at + 1 + n) (used + 1 + n))
      unfolding rest
      is-label_on t = label_same ∙ rw t

  pub is-pointer_on : (t : ℕ) → r ≡ Pointer t → same_as (drop used q) (from_run p start at used) ≡ same_as (drop used q) (from_run p t t used)
  is-pointer_on t e =
      ap (same_as (drop used q)) (read_at p start at used (Pointer t) (here (Pointer t) e)) ∙ same_ending (drop used q) (at + 2) (from_run p t t used)

  pub is-bad : r ≡ Bad → false ≡ same_as (drop used q) (from_run p start at used)
  is-bad e = sym (ap (same_as (drop used q)) (read_at p start at used Bad (here Bad e)))
