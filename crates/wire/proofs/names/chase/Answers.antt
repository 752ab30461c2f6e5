use mathlib.Core.Path.{refl, sym, ap, ◌∙◌}
use Rattle.wire.specs.names.Answers.{is_pointer}
use Rattle.wire.proofs.name_pieces.Pieces.{pointer_back}
use Rattle.wire.proofs.names.Walked.{chased_on, chased_none, no_pointer}
use Rattle.wire.proofs.names.chase.Goals as goal

pub loop-t-init : goal.loop-t-init
loop-t-init c = chased_none _ _ _

pub loop-t-smaller : goal.loop-t-smaller
loop-t-smaller c = pointer_back _ _ _ _ _ (sym c.piece_at.ensures ∙ c.in-Pointer.is)

pub loop-t-preserved : goal.loop-t-preserved
loop-t-preserved c = chased_on _ _ _ _ _ c.piece_at.ensures _ _ c.in-Pointer.is refl c.loop-t.invariant

pub returns-in_default : goal.returns-in_default
returns-in_default c = record { chain = c.loop-t.invariant; end = ap is_pointer (sym c.piece_at.ensures) ∙ no_pointer _ c.in_default.not-Pointer }
