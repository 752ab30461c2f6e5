use lib.ListN.{length-set}
use native.Mathlib.Omega.{arith}
use Rattle.writer.proofs.Starts.{noting, noted_end, noted_root, noted_room, noted_on}
use Rattle.writer.proofs.note_starts.Goals as goal

pub loop-i-init : goal.loop-i-init
loop-i-init c = (omega arith, noting _ _ _ _)

pub returns-then-n-eq0 : goal.returns-then-n-eq0
returns-then-n-eq0 c = let all = noted_root _ _ _ _ _ _ c.loop-i.i c.loop-i.invariant.1 (omega arith) c.if-n-eq0.true in record { value = all.0; places_after = all.1 }

pub bounds-places-next : goal.bounds-places-next
bounds-places-next c = noted_room _ _ _ _ _ _ c.loop-i.i c.loop-i.invariant.1 (omega arith) c.if-n-eq0.false
    c.requires.0

pub overflow_add-i-in-loop-i : goal.overflow_add-i-in-loop-i
overflow_add-i-in-loop-i c = omega (arith, c.shared_slice_known-1.given c.loop-i.i)

pub loop-i-preserved : goal.loop-i-preserved
loop-i-preserved c = (
  omega (arith, c.shared_slice_known-1.given c.loop-i.i),
  noted_on _ _ _ _ _ _ c.loop-i.i
      c.loop-i.invariant.1 (omega arith) c.if-n-eq0.false
      (length-set c.loop-i.places c.loop-i.next _),
)

pub returns : goal.returns
returns c = let all = noted_end _ _ _ _ _ _ c.loop-i.i c.loop-i.invariant.1 (omega arith) in record { value = all.0; places_after = all.1 }
