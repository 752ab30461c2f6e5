use mathlib.Core.Path.{refl}
use Rattle.writer.specs.own_packets.Ready.{each}
use Rattle.writer.proofs.own_packets.respond.Goals as goal

pub write_chosen-requires : goal.write_chosen-requires
write_chosen-requires c = rw c.response_style.ensures (record { unasked = refl; counts = each })
