use mathlib.Core.Path.{sym, ◌∙◌}
use native.Mathlib.Omega.{arith}
use Rattle.wire.proofs.name_pieces.Pieces.{is-root, label-in, label-room, pointer_in, pointer_back}
use Rattle.wire.proofs.long_message.Reached.{reached_start, reached_root, reached_root_after, reached_label, reached_first, reached_later, reached_bad}
use Rattle.wire.proofs.long_message.Reached.{known-first, known-later, known_over, past_found, past_malformed, long_found}
use Rattle.wire.proofs.long_message.past_name.Goals as goal

pub loop-noted-init : goal.loop-noted-init
loop-noted-init c = (omega arith, omega arith, c.requires.noted, reached_start _ _)

pub overflow_add-result : goal.overflow_add-result
overflow_add-result c = omega (arith, is-root _ _ _ _ (sym c.piece_at.ensures ∙ c.in-Root.is))

pub returns-then-end-eq0 : goal.returns-then-end-eq0
returns-then-end-eq0 c = record { answer = past_found _ _ _ (c.loop-noted.invariant.3 ∙ reached_root _ _ _ _ _ _ c.piece_at.ensures c.in-Root.is c.if-end-eq0.true); notes = c.loop-noted.invariant.2 }

pub note-requires : goal.note-requires
note-requires c = record { p_len_bound = omega arith; len_nonzero = omega arith; len_value = long_found _ _ _ (c.loop-noted.invariant.3 ∙ reached_root_after _ _ _ _ _ _ c.piece_at.ensures c.in-Root.is c.if-end-eq0.false); noted = c.loop-noted.invariant.2 }

pub returns-in-Root : goal.returns-in-Root
returns-in-Root c = record { answer = past_found _ _ _ (c.loop-noted.invariant.3 ∙ reached_root_after _ _ _ _ _ _ c.piece_at.ensures c.in-Root.is c.if-end-eq0.false); notes = c.note.ensures }

pub overflow_add-here : goal.overflow_add-here
overflow_add-here c = omega (arith, label-in _ _ _ _ _ (sym c.piece_at.ensures ∙ c.in-Label.is))

pub overflow_add-here-in-Label : goal.overflow_add-here-in-Label
overflow_add-here-in-Label c = omega (arith, label-in _ _ _ _ _ (sym c.piece_at.ensures ∙ c.in-Label.is))

pub overflow_add-used-in-Label-2 : goal.overflow_add-used-in-Label-2
overflow_add-used-in-Label-2 c = omega (arith, label-room _ _ _ _ _ (sym c.piece_at.ensures ∙ c.in-Label.is))

pub loop-noted-smaller-in-Label : goal.loop-noted-smaller-in-Label
loop-noted-smaller-in-Label c = omega (arith, label-room _ _ _ _ _ (sym c.piece_at.ensures ∙ c.in-Label.is))

pub loop-noted-preserved-in-Label : goal.loop-noted-preserved-in-Label
loop-noted-preserved-in-Label c = (
  label-room _ _ _ _ _ (sym c.piece_at.ensures ∙ c.in-Label.is),
  omega arith,
  c.loop-noted.invariant.2,
  c.loop-noted.invariant.3 ∙ reached_label _ _ _ _ _ _ c.piece_at.ensures _ c.in-Label.is,
)

pub bounds-noted-target : goal.bounds-noted-target
bounds-noted-target c = omega (arith, pointer_back _ _ _ _ _ (sym c.piece_at.ensures ∙ c.in-Pointer.is), pointer_in _ _ _ _ _ (sym c.piece_at.ensures ∙ c.in-Pointer.is))

pub returns-then-used-rest : goal.returns-then-used-rest
returns-then-used-rest c = record { answer = past_malformed _ (c.loop-noted.invariant.3 ∙ known_over _ _ _ _ _ _ c.piece_at.ensures _ c.in-Pointer.is _ c.loop-noted.invariant.2 c.if-rest-gt0.true c.loop-noted.invariant.0 (omega arith)); notes = c.loop-noted.invariant.2 }

pub overflow_add-result-then-end-eq0-2 : goal.overflow_add-result-then-end-eq0-2
overflow_add-result-then-end-eq0-2 c = omega (arith, pointer_in _ _ _ _ _ (sym c.piece_at.ensures ∙ c.in-Pointer.is))

pub returns-then-end-eq0-2 : goal.returns-then-end-eq0-2
returns-then-end-eq0-2 c = record { answer = past_found _ _ _ (c.loop-noted.invariant.3 ∙ known-first _ _ _ _ _ _ c.piece_at.ensures _ c.in-Pointer.is _ c.loop-noted.invariant.2 c.if-rest-gt0.true c.if-end-eq0-2.true (omega arith)); notes = c.loop-noted.invariant.2 }

pub note-requires-then-rest-gt0 : goal.note-requires-then-rest-gt0
note-requires-then-rest-gt0 c = record { p_len_bound = omega arith; len_nonzero = omega arith; len_value = long_found _ _ _ (c.loop-noted.invariant.3 ∙ known-later _ _ _ _ _ _ c.piece_at.ensures _ c.in-Pointer.is _ c.loop-noted.invariant.2 c.if-rest-gt0.true c.if-end-eq0-2.false (omega arith)); noted = c.loop-noted.invariant.2 }

pub returns-then-rest-gt0 : goal.returns-then-rest-gt0
returns-then-rest-gt0 c = record { answer = past_found _ _ _ (c.loop-noted.invariant.3 ∙ known-later _ _ _ _ _ _ c.piece_at.ensures _ c.in-Pointer.is _ c.loop-noted.invariant.2 c.if-rest-gt0.true c.if-end-eq0-2.false (omega arith)); notes = c.note-then-rest-gt0.ensures }

pub overflow_add-end : goal.overflow_add-end
overflow_add-end c = omega (arith, pointer_in _ _ _ _ _ (sym c.piece_at.ensures ∙ c.in-Pointer.is))

pub loop-noted-smaller-then-end-eq0-3 : goal.loop-noted-smaller-then-end-eq0-3
loop-noted-smaller-then-end-eq0-3 c = omega (arith, pointer_back _ _ _ _ _ (sym c.piece_at.ensures ∙ c.in-Pointer.is))

pub loop-noted-preserved-then-end-eq0-3 : goal.loop-noted-preserved-then-end-eq0-3
loop-noted-preserved-then-end-eq0-3 c = (c.loop-noted.invariant.0, omega arith, c.loop-noted.invariant.2, c.loop-noted.invariant.3 ∙ reached_first _ _ _ _ _ _ c.piece_at.ensures _ c.in-Pointer.is c.if-end-eq0-3.true)

pub loop-noted-smaller : goal.loop-noted-smaller
loop-noted-smaller c = omega (arith, pointer_back _ _ _ _ _ (sym c.piece_at.ensures ∙ c.in-Pointer.is))

pub loop-noted-preserved : goal.loop-noted-preserved
loop-noted-preserved c = (c.loop-noted.invariant.0, omega arith, c.loop-noted.invariant.2, c.loop-noted.invariant.3 ∙ reached_later _ _ _ _ _ _ c.piece_at.ensures _ c.in-Pointer.is c.if-end-eq0-3.false)

pub returns-in-Bad : goal.returns-in-Bad
returns-in-Bad c = record { answer = past_malformed _ (c.loop-noted.invariant.3 ∙ reached_bad _ _ _ _ _ _ c.piece_at.ensures c.in-Bad.is); notes = c.loop-noted.invariant.2 }
