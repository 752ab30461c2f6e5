-- The theorems on a goodbye. Assumes nothing.
use Prim.Native.Nat.{◌≤◌}
use mathlib.Core.Path.{refl, ap, ◌∙◌}
use mathlib.Core.List.{List, [], ◌∷◌, map}
use mathlib.Core.Bool.{false}
use native.Mathlib.Omega.{arith}
use lib.ListN.{length}
use Rattle.wire.specs.message.Layout.{message_at}
use Rattle.claims.specs.declared.records.Own.{Own}
use Rattle.claims.specs.declared.records.Set.{Set}
use Rattle.own.specs.declared.records.Setup.{Setup}
use Rattle.own.proofs.records.Valid.{Valid, valid}
use Rattle.writer.specs.own_packets.Styles.{own_record, packet_in}
use Rattle.writer.specs.own_packets.Own.{response_records, none_if_empty}
use Rattle.writer.specs.own_packets.Goodbye.{goodbye_style, goodbye_of, goodbye_packet}
use Rattle.writer.specs.own_packets.Ready.{TtlSmall, fixed}
use Rattle.writer.proofs.own_packets.Room.{response_size}
use Rattle.roundtrip.specs.Writable.{Each, none, one}
use Rattle.roundtrip.specs.Goodbye.{GoodbyeBack, Ends, GoodbyeEnds, GoodbyeFits, GoodbyeComposed}
use Rattle.roundtrip.proofs.Composed.{composed}
use Rattle.roundtrip.proofs.OwnPackets.{style_long, style_writable, style_back, unasked, some}

counts : TtlSmall goodbye_style.ttl
counts = fixed {ttl = 0} (omega arith)

long : (s : Setup) → Valid s → (chosen : Set) → length (packet_in s goodbye_style [] (response_records s chosen)) ≤ 1370
long s ok chosen = omega (arith, style_long s ok goodbye_style [] unasked (response_records s chosen), response_size s ok chosen)

pub goodbye-fits : GoodbyeFits
unfolding goodbye_packet
goodbye-fits s h chosen = go (response_records s chosen)
  where
    go : (os : List Own) → length (none_if_empty os (packet_in s goodbye_style [] (response_records s chosen))) ≤ 1370
    go [] = omega arith
    go (o ∷ os) = long s (valid s h) chosen

pub goodbye-back : GoodbyeBack
unfolding goodbye_packet goodbye_of
goodbye-back s h chosen nz =
    ap message_at (some (response_records s chosen) (packet_in s goodbye_style [] (response_records s chosen)) nz)
    ∙ style_back s h goodbye_style counts refl [] unasked (response_records s chosen) (omega (arith, long s (valid s h) chosen))

pub goodbye-ends : GoodbyeEnds
unfolding goodbye_of own_record
goodbye-ends s chosen = go (response_records s chosen)
  where
    go : (os : List Own) → Each Ends (map (own_record s goodbye_style) os)
    go [] = none
    go (o ∷ os) = one refl (go os)

pub goodbye-composed : GoodbyeComposed
unfolding goodbye_of
goodbye-composed s h chosen = (composed false _ (style_writable s (valid s h) goodbye_style [] unasked (response_records s chosen) counts refl)).0
