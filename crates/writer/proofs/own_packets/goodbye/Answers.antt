use mathlib.Core.Path.{refl}
use native.Mathlib.Omega.{arith}
use Rattle.writer.specs.own_packets.Ready.{fixed}
use Rattle.writer.proofs.own_packets.goodbye.Goals as goal

pub write_chosen-requires : goal.write_chosen-requires
write_chosen-requires c = rw c.goodbye_style.ensures (record { unasked = refl; counts = fixed {ttl = 0} (omega arith) })
