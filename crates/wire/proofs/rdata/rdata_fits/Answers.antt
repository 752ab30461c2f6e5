use Rattle.std.proofs.Common.{rules}
use native.Mathlib.Omega.{arith}
use mathlib.Core.Path.{sym}
use Rattle.wire.proofs.rdata.Fits.{fits-past, fits-within}
use Rattle.wire.proofs.rdata.Restricted.{never_unfit}
use Rattle.wire.proofs.rdata.rdata_fits.Goals as goal

pub returns-then-p-at : goal.returns-then-p-at
returns-then-p-at c = fits-past _ _ (omega arith)

pub returns-then-p-at-2 : goal.returns-then-p-at-2
returns-then-p-at-2 c = fits-past _ _ (omega arith)

pub returns-then-f-eq-NSEC : goal.returns-then-f-eq-NSEC
returns-then-f-eq-NSEC c = sym (never_unfit _ _ (omega arith) (omega arith))

pub part_fits-requires : goal.part_fits-requires
part_fits-requires c = record { d_in_bounds = search rules; fact = λ e. omega arith }

pub returns : goal.returns
returns c = fits-within _ _ (omega arith) _ c.part_fits.ensures
