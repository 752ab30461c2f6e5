-- What is promised of a goodbye (specification, 'Stops and updates'), as statements. Each is proved in proofs/Goodbye under the name that its comment gives.
-- Assumes nothing.
use Rattle.std.specs.Prelude.{◌≤◌, ◌≡◌, [], true, false, length}
use Rattle.wire.specs.message.Message.{Record}
use Rattle.wire.specs.message.Layout.{read, message_at}
use Rattle.claims.specs.declared.records.Set.{Set}
use Rattle.own.specs.declared.records.Setup.{Setup}
use Rattle.own.specs.records.Setups.{valid_setup}
use Rattle.writer.specs.own_packets.Packets.{written}
use Rattle.writer.specs.own_packets.Own.{response_records}
use Rattle.writer.specs.own_packets.Goodbye.{goodbye_of, goodbye_packet}
use Rattle.roundtrip.specs.Writable.{Each, layout_of}
use Rattle.roundtrip.specs.Composed.{MessageLaid}

-- `goodbye-back`: a goodbye of at least one record is read as a response of exactly those, in the order of a response
abbrev pub GoodbyeBack : Type 0
GoodbyeBack =
    (s : Setup) → valid_setup s ≡ true → (chosen : Set) → (response_records s chosen ≡ [] → ⊥)
    → message_at (goodbye_packet s chosen) ≡ read (layout_of false (goodbye_of s chosen)) (goodbye_of s chosen)

-- `goodbye-ends`: "TTL 0", of each of them
abbrev pub Ends : Record → Type 0
Ends r = r.ttl ≡ 0

abbrev pub GoodbyeEnds : Type 0
GoodbyeEnds = (s : Setup) (chosen : Set) → Each Ends (goodbye_of s chosen).answers

-- `goodbye-fits`: it has at most 1,370 bytes
abbrev pub GoodbyeFits : Type 0
GoodbyeFits = (s : Setup) → valid_setup s ≡ true → (chosen : Set) → length (goodbye_packet s chosen) ≤ 1370

-- `goodbye-composed`: its names are cut as the sentence says
abbrev pub GoodbyeComposed : Type 0
GoodbyeComposed = (s : Setup) → valid_setup s ≡ true → (chosen : Set) → MessageLaid false (goodbye_of s chosen) (written false (goodbye_of s chosen))
