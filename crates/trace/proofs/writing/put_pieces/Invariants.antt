use Rattle.std.proofs.Common.{◌≡◌, ◌+◌, ◌*◌, ◌≤◌, length}
use Rattle.std.specs.Slice.Iter.{chunks_rest, chunks_size}
use lib.Seq.{sets}
use Rattle.trace.specs.reading.Reading.{pieces_of}
use Rattle.trace.specs.writing.Bytes.{pieces_over, pieces_for}
use Rattle.trace.proofs.writing.put_pieces.Given as goal

abbrev pub invariant-loop-piece : goal.invariant-loop-piece
invariant-loop-piece l = record {
  sixteen : chunks_size l.piece-iterator ≡ 16;
  room : l.at + pieces_of (length (chunks_rest l.piece-iterator)) * 17 ≤ length l.initial.out;
  kept : length l.out ≡ length l.initial.out;
  laid : sets l.initial.out l.first (pieces_for l.bytes)
      ≡ sets l.out l.at (pieces_over (pieces_of (length (chunks_rest l.piece-iterator))) (chunks_rest l.piece-iterator));
}
