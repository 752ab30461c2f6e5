use mathlib.Core.List.{map}
use Rattle.claims.specs.records.Own.{record_at}
use Rattle.writer.specs.Items.{put_record}
use Rattle.writer.specs.own_packets.Packets.{put_all}
use Rattle.writer.specs.Writer.{held_in}
use Rattle.writer.specs.own_packets.Styles.{own_record}
use Rattle.writer.proofs.own_packets.Owned.{Going}
use Rattle.writer.proofs.own_packets.write_list.Given as goal

abbrev pub invariant-loop-i : goal.invariant-loop-i
invariant-loop-i l = Going l.s l.style (map record_at l.i-items) (put_all (put_record l.style.whole) (held_in l.initial.out l.initial.places l.at l.count)
    (map (own_record l.s l.style) (map record_at l.i-items))) l.initial.out l.initial.places l.out l.places l.end l.noted l.i-index
