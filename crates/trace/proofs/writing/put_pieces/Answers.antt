use Rattle.std.proofs.Common.{sym, ap, ◌∙◌, length, arith}
use Rattle.std.specs.Prelude.{min}
use Rattle.std.specs.Slice.Iter.{chunks_rest}
use lib.Seq.{length-sets}
use Rattle.trace.proofs.writing.Turned.{turn_part, pieces_left, no_pieces}
use Rattle.trace.proofs.writing.put_pieces.Goals as goal

pub loop-piece-preserved : goal.loop-piece-preserved
loop-piece-preserved c =
    let l = c.loop-piece in
    let s = c.in-Some.ensures.steps in
    let bytes = chunks_rest l.piece-iterator in
    let rest = chunks_rest c.next.new.self in
    let size = s.1.1 ∙ ap (λ n. min n (length bytes)) l.invariant.sixteen in
    let turn = turn_part bytes c.in-Some.piece.now rest s.1.0 size s.1.2 l.out l.at in
    record {
      sixteen = s.0 ∙ l.invariant.sixteen;
      room = omega (arith, pieces_left bytes c.in-Some.piece.now rest s.1.0 size s.1.2, l.invariant.room);
      kept = rw c.put_piece.ensures (simp length-sets l.invariant.kept);
      laid = rw c.put_piece.ensures (l.invariant.laid ∙ turn);
    }

pub returns : goal.returns
returns c = let l = c.loop-piece in
    let z = c.in-None.ensures.steps.1.0 in
    sym (l.invariant.laid ∙ rw z (no_pieces l.out (chunks_rest l.piece-iterator) l.at))
