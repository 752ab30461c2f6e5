-- A goodbye (specification, 'Stops and updates'; RFC 6762, section 10.1): "one packet with the held claims' records, own classes, TTL 0, in 01's order; nothing
-- where no claim is held". Assumes nothing: these are definitions.
use Rattle.std.specs.Prelude.{ℕ, List, [], true, false, Some, None}
use Rattle.claims.specs.declared.records.Set.{Set}
use Rattle.wire.specs.message.Message.{Message}
use Rattle.own.specs.declared.records.Setup.{Setup}
use Rattle.writer.specs.own_packets.Styles.{styled_message, packet_in}
use Rattle.writer.specs.own_packets.Own.{response_records, none_if_empty}
use Rattle.writer.specs.declared.own_packets.Style.{Style}

-- a response of ID 0 whose records have TTL 0
abbrev pub goodbye_style : Style
goodbye_style = record {
  id = 0;
  flags = 0x8400;
  asks = None;
  authority = false;
  ttl = Some 0;
  flush = true;
  whole = false;
}

-- the chosen records that the set-up has, in the order of a response
unfoldable pub goodbye_of : Setup → Set → Message
goodbye_of s chosen = styled_message s goodbye_style [] (response_records s chosen)

unfoldable pub goodbye_packet : Setup → Set → List ℕ
goodbye_packet s chosen = none_if_empty (response_records s chosen) (packet_in s goodbye_style [] (response_records s chosen))
