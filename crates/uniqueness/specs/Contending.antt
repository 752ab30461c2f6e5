-- Contention ends, on three lists: three responders with the same two names and different data, switched on in one millisecond; the two of `rivals`,
-- without the cut; and the two of `contest`, of which the second, with the later records, starts when the first holds. Assumes nothing: these are
-- definitions.
use Rattle.std.specs.Prelude.{false, List, [], ◌∷◌, ◌++◌, replicate, take, ℕ}
use Rattle.own.specs.declared.records.Setup.{Setup}
use Rattle.claims.specs.records.Sets.{records_of}
use Rattle.claims.specs.declared.records.Claim.TheVariants.{Instance, Host}
use Rattle.writer.specs.own_packets.Own.{response_packet, probe_packet}
use Rattle.link.specs.Entries.{starts, Entry}
use Rattle.uniqueness.specs.Responder.{responder}
use Rattle.uniqueness.specs.Example.{at, tick_at, hear_at, addresses, rivals, contest}

-- instance "A" of "_x._udp.local" and host "h", with a port and an address of its own, 10.0.0.x
unfoldable pub alike : ℕ → ℕ → Setup
alike port last = record {
  instance = record { bytes = 0x41 ∷ replicate 62 0; len = 1 };
  service = record { bytes = 0x5f ∷ 0x78 ∷ replicate 14 0; len = 2 };
  protocol = 0x5f ∷ 0x75 ∷ 0x64 ∷ 0x70 ∷ [];
  host = record { bytes = 0x68 ∷ replicate 62 0; len = 1 };
  domain = 0x6c ∷ 0x6f ∷ 0x63 ∷ 0x61 ∷ 0x6c ∷ [];
  port = port;
  txt = record { bytes = replicate 400 0; len = 1 };
  a = 10 ∷ 0 ∷ 0 ∷ last ∷ [];
  hasaaaa = false;
  aaaa = replicate 16 0;
}

abbrev pub early : Setup
early = alike 515 7

abbrev pub middle : Setup
middle = alike 516 8

abbrev pub latest : Setup
latest = alike 517 9

abbrev pub at_once_at : ℕ → List ℕ
at_once_at = addresses ((0, 1) ∷ (1, 2) ∷ (2, 3) ∷ [])

-- All start in one millisecond, with equal draws. The second's probe defers the first, the third's the second; the third comes to hold both names, its steps
-- 0, 50, 20 and 30 ms late, and by its announcements the others lose them. The third's clock is 5,000 ms ahead.
unfoldable pub at_once : List (Entry responder)
at_once =
    at 0 (starts early 0 0)
    ∷ at 0 (starts middle 0 0)
    ∷ at 0 (starts latest 5000 0)
    ∷ tick_at 0 0 0
    ∷ tick_at 0 0 0
    ∷ tick_at 1 0 0
    ∷ tick_at 1 0 0
    ∷ tick_at 2 5000 0
    ∷ tick_at 2 5000 0
    ∷ hear_at 0 0 40 2 (probe_packet middle Instance)
    ∷ hear_at 0 0 40 2 (probe_packet middle Host)
    ∷ hear_at 2 5000 50 1 (probe_packet early Instance)
    ∷ hear_at 2 5000 50 1 (probe_packet early Host)
    ∷ hear_at 1 0 60 1 (probe_packet early Instance)
    ∷ hear_at 1 0 60 1 (probe_packet early Host)
    ∷ hear_at 1 0 90 3 (probe_packet latest Instance)
    ∷ hear_at 1 0 90 3 (probe_packet latest Host)
    ∷ hear_at 2 5000 95 2 (probe_packet middle Instance)
    ∷ hear_at 2 5000 95 2 (probe_packet middle Host)
    ∷ hear_at 0 0 100 3 (probe_packet latest Instance)
    ∷ hear_at 0 0 100 3 (probe_packet latest Host)
    ∷ tick_at 2 5000 300
    ∷ tick_at 2 5000 300
    ∷ hear_at 0 0 310 3 (probe_packet latest Instance)
    ∷ hear_at 0 0 310 3 (probe_packet latest Host)
    ∷ hear_at 1 0 400 3 (probe_packet latest Instance)
    ∷ hear_at 1 0 400 3 (probe_packet latest Host)
    ∷ tick_at 2 5000 570
    ∷ tick_at 2 5000 570
    ∷ hear_at 1 0 580 3 (probe_packet latest Instance)
    ∷ hear_at 1 0 580 3 (probe_packet latest Host)
    ∷ hear_at 0 0 600 3 (probe_packet latest Instance)
    ∷ hear_at 0 0 600 3 (probe_packet latest Host)
    ∷ tick_at 2 5000 850
    ∷ tick_at 2 5000 850
    ∷ hear_at 0 0 900 3 (response_packet latest 0 (records_of Instance false))
    ∷ hear_at 0 0 900 3 (response_packet latest 0 (records_of Host false))
    ∷ hear_at 1 0 950 3 (response_packet latest 0 (records_of Instance false))
    ∷ hear_at 1 0 950 3 (response_packet latest 0 (records_of Host false))
    ∷ tick_at 2 5000 1201
    ∷ []

-- `rivals` up to the cut, and a tick more than 1,200 ms after both started
unfoldable pub rivals_on : List (Entry responder)
rivals_on = take 29 rivals ++ (tick_at 1 5000 1260 ∷ [])

-- `contest`, and a tick more than 1,200 ms after the second started
unfoldable pub contest_on : List (Entry responder)
contest_on = contest ++ (tick_at 0 0 2201 ∷ [])
