use native.Mathlib.Omega.{arith}
use mathlib.Core.Path.{refl}
use Rattle.wire.proofs.rdata.Parts.{address_is, address-not}
use Rattle.wire.proofs.rdata.address_in.Goals as goal

pub returns-then-d-address_bytes : goal.returns-then-d-address_bytes
returns-then-d-address_bytes c = record { bytes = address_is c.args.rtype _ c.address_bytes.ensures _ (omega arith); start = refl }

pub returns-else-d-address_bytes : goal.returns-else-d-address_bytes
returns-else-d-address_bytes c = let a = c.args in record { bytes = address-not a.rtype _ c.address_bytes.ensures a.d.now c.if-d-address_bytes.false; start = refl }
