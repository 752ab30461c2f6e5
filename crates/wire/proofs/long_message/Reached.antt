-- How far a name has been read while its length and its end are looked for. Assumes nothing.
use Rattle.std.specs.Prelude.{None, Option, Some}
use Rattle.wire.specs.declared.names.Span.{Span}
use mathlib.Core.Path.{◌≡◌, refl, sym, ap, ◌∙◌}
use mathlib.Core.Logic.{◌⊎◌, inl, inr}
use mathlib.Core.List.{List}
use Prim.Native.Nat.{ℕ, ◌+◌, ◌<◌, ◌≤◌}
use native.Mathlib.Omega.{arith}
use borrow.Author.Tests.{eq-eqb, ne_eqb}
use lib.ListN.{length, get_or}
use Rattle.wire.specs.name_pieces.Pieces.{piece_at}
use Rattle.wire.specs.names.Names.{Reading, name, malformed, ending, from_run, name_at}
use Rattle.wire.specs.names.Answers.{reach_of, or_later, seen_of}
use Rattle.wire.specs.long_message.Noted.{Noted, length_of, past_name}
use Rattle.wire.specs.declared.name_pieces.Piece.{Piece}
use Rattle.wire.specs.declared.name_pieces.Piece.TheVariants.{Root, Label, Pointer, Bad}
use Rattle.wire.specs.declared.names.Reach.{Reach}
use Rattle.wire.proofs.names.Walked.{seen_root, seen_root_after, seen_label, seen_pointer, seen_bad, passed_first, passed_later}
use Rattle.wire.proofs.long_message.Notes.{moved, fits-255}

-- of a name of which `used` bytes were read before, its end in place and its length; `end` is past the first pointer, and 0 where none was followed
unfoldable pub reached : ℕ → ℕ → Reading → (Option Reach)
reached used end (name bs e) = Some (reach_of (or_later end e) (used + length bs))
reached used end malformed = None

abbrev reached_by : (Option Span) → (Option Reach)
reached_by (Some s) = Some (reach_of s.end s.len)
reached_by None = None

of_seen : (used end labels first : ℕ) (x : Reading) → reached_by (seen_of used end labels first x) ≡ reached used end x
unfolding reached
of_seen used end labels first (name bs e) = refl
of_seen used end labels first malformed = refl

pub reached_start : (p : List ℕ) (at : ℕ) → reached 0 0 (name_at p at) ≡ reached 0 0 (from_run p at at 0)
unfolding name_at
reached_start p at = refl

-- the whole name, once it has been read
module _ (x : Reading) (e n : ℕ) (h : reached 0 0 x ≡ Some (reach_of e n)) where
  pub past_found : Some e ≡ past_name x
  unfolding reached
  past_found = go x h
    where
      go : (y : Reading) → reached 0 0 y ≡ Some (reach_of e n) → Some e ≡ past_name y
      go (name bs d) k = let s : reach_of (or_later 0 d) (0 + length bs) ≡ reach_of e n = cc in ap Some (sym (ap (λ (y : Reach). y.end) s))
      go malformed k = let z : ◌≡◌ {A = ℕ} 0 1 = cc in absurd (omega arith)

  pub long_found : n ≡ length_of x
  unfolding reached
  long_found = go x h
    where
      go : (y : Reading) → reached 0 0 y ≡ Some (reach_of e n) → n ≡ length_of y
      go (name bs d) k = let s : reach_of (or_later 0 d) (0 + length bs) ≡ reach_of e n = cc in omega (arith, ap (λ (y : Reach). y.len) s)
      go malformed k = let z : ◌≡◌ {A = ℕ} 0 1 = cc in absurd (omega arith)

pub past_malformed : (x : Reading) → reached 0 0 x ≡ None → None ≡ past_name x
unfolding reached
past_malformed (name bs d) k = let z : ◌≡◌ {A = ℕ} 0 1 = cc in absurd (omega arith)
past_malformed malformed k = refl

module _ (p : List ℕ) (start at used end : ℕ) (r : Piece) (is : r ≡ piece_at p start at used) where
  pub reached_root : r ≡ Root → end ≡ 0 → reached used end (from_run p start at used) ≡ Some (reach_of (at + 1) (used + 1))
  reached_root e z = sym (of_seen used end 0 0 (from_run p start at used)) ∙ sym (ap reached_by (seen_root p start at used end 0 0 r is e z))

  pub reached_root_after : r ≡ Root → (end ≡ 0 → ⊥) → reached used end (from_run p start at used) ≡ Some (reach_of end (used + 1))
  reached_root_after e z = sym (of_seen used end 0 0 (from_run p start at used)) ∙ sym (ap reached_by (seen_root_after p start at used end 0 0 r is e z))

  pub reached_bad : r ≡ Bad → reached used end (from_run p start at used) ≡ None
  reached_bad e = sym (of_seen used end 0 0 (from_run p start at used)) ∙ sym (ap reached_by (seen_bad p start at used end 0 0 r is e))

  pub reached_label : (n : ℕ) → r ≡ Label n → reached used end (from_run p start at used) ≡ reached (used + 1 + n) end (from_run p start (at + 1 + n) (used + 1 + n))
  reached_label n e =
      sym (of_seen used end 0 0 (from_run p start at used)) ∙ ap reached_by (seen_label p start at used end 0 0 r is n e (or_later 0 n) refl)
      ∙ of_seen (used + 1 + n) end (0 + 1) (or_later 0 n) (from_run p start (at + 1 + n) (used + 1 + n))

  module _ (t : ℕ) (e : r ≡ Pointer t) where
    to_target : reached used end (from_run p start at used) ≡ reached_by (seen_of used end 0 0 (ending (at + 2) (from_run p t t used)))
    to_target = sym (of_seen used end 0 0 (from_run p start at used)) ∙ ap reached_by (seen_pointer p start at used end 0 0 r is t e)

    pub reached_first : end ≡ 0 → reached used end (from_run p start at used) ≡ reached used (at + 2) (from_run p t t used)
    reached_first z = to_target ∙ sym (ap reached_by (passed_first p t at used end 0 0 z)) ∙ of_seen used (at + 2) 0 0 (from_run p t t used)

    pub reached_later : (end ≡ 0 → ⊥) → reached used end (from_run p start at used) ≡ reached used end (from_run p t t used)
    reached_later z = to_target ∙ sym (ap reached_by (passed_later p t at used end 0 0 z)) ∙ of_seen used end 0 0 (from_run p t t used)

    -- a pointer to a name whose length is noted
    module _ (noted : List ℕ) (h : Noted p noted) (some : 0 < get_or noted t 0) where
      is-long : get_or noted t 0 ≡ length_of (name_at p t)
      is-long = go (h.at t)
        where
          go : (get_or noted t 0 ≡ 0) ⊎ (get_or noted t 0 ≡ length_of (name_at p t)) → get_or noted t 0 ≡ length_of (name_at p t)
          go (inl z) = absurd (omega arith)
          go (inr y) = y

      known-name : (bs : List ℕ) × (d : ℕ) × (from_run p t t 0 ≡ name bs d) × (length bs ≡ get_or noted t 0)
      unfolding name_at
      known-name = go (from_run p t t 0) refl is-long
        where
          go : (x : Reading) → from_run p t t 0 ≡ x → get_or noted t 0 ≡ length_of x → (bs : List ℕ) × (d : ℕ) × (from_run p t t 0 ≡ name bs d) × (length bs ≡ get_or noted t 0)
          go (name bs d) g l = (bs, d, g, sym l)
          go malformed g l = absurd (omega arith)

      known : used + get_or noted t 0 ≤ 255
          → reached used end (from_run p start at used) ≡ Some (reach_of (or_later end (at + 2)) (used + get_or noted t 0))
      known fits =
          let k = known-name in
          let m : from_run p t t used ≡ name k.0 k.1 = moved p t 0 used k.0 k.1 k.2 (omega (arith, k.3)) in
          to_target ∙ ap (λ (x : Reading). reached_by (seen_of used end 0 0 (ending (at + 2) x))) m
          ∙ ap (λ (n : ℕ). Some (reach_of (or_later end (at + 2)) (used + n))) k.3

      pub known-first : end ≡ 0 → used + get_or noted t 0 ≤ 255 → reached used end (from_run p start at used) ≡ Some (reach_of (at + 2) (used + get_or noted t 0))
      known-first z fits = known fits ∙ ap (λ (d : ℕ). Some (reach_of d (used + get_or noted t 0))) (simp (eq-eqb _ _ z))

      pub known-later : (end ≡ 0 → ⊥) → used + get_or noted t 0 ≤ 255 → reached used end (from_run p start at used) ≡ Some (reach_of end (used + get_or noted t 0))
      known-later z fits = known fits ∙ ap (λ (d : ℕ). Some (reach_of d (used + get_or noted t 0))) (simp (ne_eqb _ _ z))

      pub known_over : used < 255 → 255 < used + get_or noted t 0 → reached used end (from_run p start at used) ≡ None
      known_over u over = to_target ∙ ap (λ (x : Reading). reached_by (seen_of used end 0 0 (ending (at + 2) x))) (go (from_run p t t used) refl)
        where
          go : (x : Reading) → from_run p t t used ≡ x → x ≡ malformed
          go (name bs d) g =
              let k = known-name in
              let f : used + length bs ≤ 255 = fits-255 p t t used bs d u g in
              let m : from_run p t t 0 ≡ name bs d = moved p t used 0 bs d g (omega arith) in
              let n : name k.0 k.1 ≡ name bs d = sym k.2 ∙ m in
              let same : k.0 ≡ bs = cc in
              absurd (omega (arith, ap length same, k.3))
          go malformed g = refl
