use mathlib.Core.Path.{◌≡◌, refl, sym, ap, ◌∙◌}
use Prim.Native.Nat.{ℕ, ◌+◌}
use native.Mathlib.Omega.{arith}
use Rattle.trace.specs.reading.Reading.{pieces_of, pieces_at}
use Rattle.trace.proofs.reading.Owed.{piece_whole, pieces_turn, pieces_stop, pieces_none}
use Rattle.trace.proofs.reading.pieces_end.Goals as goal

pub loop-left-init : goal.loop-left-init
loop-left-init c = (omega arith, refl)

pub returns-then-not-is_piece : goal.returns-then-not-is_piece
returns-then-not-is_piece c = pieces_stop _ _ _ (omega arith) (sym c.is_piece.ensures ∙ c.if-not-is_piece.true) ∙ sym c.loop-left.invariant.1

pub overflow_add-at : goal.overflow_add-at
overflow_add-at c = omega (arith, piece_whole _ _ _ (sym c.is_piece.ensures ∙ c.if-not-is_piece.false))

pub loop-left-smaller : goal.loop-left-smaller
loop-left-smaller c = omega (arith, c.saturating_sub-left.ensures)

pub loop-left-preserved : goal.loop-left-preserved
loop-left-preserved c = let a = c.args in
    let l = c.loop-left in (
      piece_whole _ _ _ (sym c.is_piece.ensures ∙ c.if-not-is_piece.false),
      l.invariant.1
          ∙ pieces_turn a.trace.now l.at l.left (omega arith) (sym c.is_piece.ensures ∙ c.if-not-is_piece.false)
          ∙ ap (λ (n : ℕ). pieces_at (pieces_of n) a.trace.now (l.at + 17) n) (sym c.saturating_sub-left.ensures),
    )

pub returns : goal.returns
returns c = let a = c.args in
    let l = c.loop-left in
    let z : l.left ≡ 0 = omega arith in
    pieces_none a.trace.now l.at ∙ ap (λ (n : ℕ). pieces_at (pieces_of n) a.trace.now l.at n) (sym z) ∙ sym l.invariant.1
