-- Pieces, one at a time. Assumes nothing.
use mathlib.Core.Path.{◌≡◌, refl, sym, ap, ◌∙◌}
use mathlib.Core.List.{List}
use mathlib.Core.Bool.{Bool, true, false}
use Prim.Native.Nat.{ℕ, suc, ◌+◌, ◌-◌, ◌<◌, ◌≤◌}
use native.Mathlib.Omega.{arith}
use lib.ListN.{length, take, drop}
use Rattle.std.specs.Prelude.{Option, Some, None, Ok}
use Rattle.trace.specs.reading.Reading.{refused}
use Rattle.trace.specs.records.Records.{record_at}
use Rattle.trace.specs.reading.Reading.{all_zero, pieces_of, is_padded, is_piece, pieces_at}
use Rattle.trace.specs.declared.records.Record.{Record}
use Rattle.trace.specs.declared.records.Record.TheVariants as is
use Rattle.trace.proofs.records.Standing.{stand, never}

-- one piece more
pub pieces_more : (left : ℕ) → 0 < left → pieces_of left ≡ suc (pieces_of (left - 16))
pieces_more left h = omega arith

module _ (p : List ℕ) (at left : ℕ) where
  pub padded-whole : (r : Option Record) → record_at p at ≡ r → is_padded p at left r ≡ true → at + 17 ≤ length p
  padded-whole (Some is.Piece) e h = (stand p at is.Piece e).whole
  padded-whole (Some (is.Tick time)) e h = never h
  padded-whole (Some (is.Packet time port draw len)) e h = never h
  padded-whole (Some (is.Claim last claim state)) e h = never h
  padded-whole (Some (is.Source from hold)) e h = never h
  padded-whole (Some (is.Stop time)) e h = never h
  padded-whole (Some (is.Port time port)) e h = never h
  padded-whole (Some (is.Txt time len)) e h = never h
  padded-whole None e h = never h

  pub piece_whole : is_piece p at left ≡ true → at + 17 ≤ length p
  unfolding is_piece
  piece_whole h = padded-whole (record_at p at) refl h

  module _ (r : Option Record) (e : r ≡ record_at p at) where
    pub told-whole : r ≡ Some is.Piece → at + 17 ≤ length p
    told-whole er = (stand p at is.Piece (sym e ∙ er)).whole

    pub piece_full : r ≡ Some is.Piece → 16 ≤ left → true ≡ is_piece p at left
    unfolding is_piece all_zero
    piece_full er h = let z : 16 - left ≡ 0 = omega arith in rw (← e, er, z)

    pub piece_padded : r ≡ Some is.Piece → (b : Bool) → b ≡ all_zero (take (at + 17 - (at + 1 + left)) (drop (at + 1 + left) p)) → b ≡ is_piece p at left
    unfolding is_piece
    piece_padded er b eb =
        let z : at + 17 - (at + 1 + left) ≡ 16 - left = omega arith in
        eb ∙ ap (λ (n : ℕ). all_zero (take n (drop (at + 1 + left) p))) z ∙ rw (← e, er)

    pub piece_other : (q : Record) → r ≡ Some q → (q ≡ is.Piece → ⊥) → false ≡ is_piece p at left
    unfolding is_piece
    piece_other q eq h = go q h ∙ ap (is_padded p at left) (sym eq ∙ e)
      where
        go : (q : Record) → (q ≡ is.Piece → ⊥) → false ≡ is_padded p at left (Some q)
        go (is.Tick time) h = refl
        go (is.Packet time port draw len) h = refl
        go is.Piece h = absurd (h refl)
        go (is.Claim last claim state) h = refl
        go (is.Source from hold) h = refl
        go (is.Stop time) h = refl
        go (is.Port time port) h = refl
        go (is.Txt time len) h = refl

    pub piece_none : r ≡ None → false ≡ is_piece p at left
    unfolding is_piece
    piece_none eq = ap (is_padded p at left) (sym eq ∙ e)

-- a turn of the loop over pieces
module _ (p : List ℕ) (at left : ℕ) (h : 0 < left) where
  pub pieces_turn : is_piece p at left ≡ true → pieces_at (pieces_of left) p at left ≡ pieces_at (pieces_of (left - 16)) p (at + 17) (left - 16)
  unfolding pieces_at
  pieces_turn e = rw (pieces_more left h, e)

  pub pieces_stop : is_piece p at left ≡ false → refused at ≡ pieces_at (pieces_of left) p at left
  unfolding pieces_at
  pieces_stop e = rw (pieces_more left h, e)

pub pieces_none : (p : List ℕ) (at : ℕ) → Ok at ≡ pieces_at (pieces_of 0) p at 0
unfolding pieces_at
pieces_none p at = refl
