use native.Mathlib.Omega.{arith}
use Rattle.wire.proofs.rdata.Fits.{part_none, part_rest, part_whole, start-past, start-inside}
use Rattle.wire.proofs.rdata.part.Goals as goal

pub returns-then-size-at : goal.returns-then-size-at
returns-then-size-at c = let a = c.args in record { bytes = part_none a.p.now a.at a.len c.if-size-at.true; start = start-past a.p.now a.at a.p.ref_ptr c.if-size-at.true }

pub returns-then-size-at-2 : goal.returns-then-size-at-2
returns-then-size-at-2 c = let a = c.args in record { bytes = part_rest a.p.now a.at a.len (omega arith) (omega arith); start = start-inside a.p.now a.at a.p.ref_ptr (omega arith) }

pub returns : goal.returns
returns c = let a = c.args in record { bytes = part_whole a.p.now a.at a.len; start = start-inside a.p.now a.at a.p.ref_ptr (omega arith) }
