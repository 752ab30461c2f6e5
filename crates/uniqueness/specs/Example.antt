-- Six lists on which the theorem says something: a responder alone, as late as the premises allow; two that want one instance name with different SRV
-- data, one after the other, where the name is defended by unicast alone; two at once, with refused calls, a power cut and a new start at the address of the
-- one that was cut; three, of which one answers a question for its service, gives its name up to a stranger and takes it again; one that holds a truncated
-- query; and two, of which the first answers one probe to all and to the asker. Assumes nothing: these are definitions.
use Rattle.std.specs.Prelude.{false, List, [], ◌∷◌, map, replicate, ℕ, ◌+◌, ◌-◌}
use Rattle.own.specs.declared.records.Setup.{Setup}
use Rattle.claims.specs.records.Sets.{only, at_once, records_of}
use Rattle.claims.specs.declared.records.Claim.TheVariants.{Instance, Host}
use Rattle.claims.specs.declared.records.Own.TheVariants.{Ptr, Srv, Txt}
use Rattle.claims.specs.declared.records.Set.{Set}
use Rattle.claims.specs.declared.holds.Address.{Address}
use Rattle.writer.specs.own_packets.Own.{response_packet, probe_packet}
use Rattle.link.specs.Entries.{Call, starts, ticks, receives, cut, Entry}
use Rattle.link.specs.Witness.{address_in}
use Rattle.responder.specs.Handed.{Arrival}
use Rattle.uniqueness.specs.Responder.{halves, responder}

-- an instance of one letter of "_x._udp.local", a host of one letter, its port, an empty TXT string, 10.0.0.7, no AAAA
unfoldable pub setup_of : ℕ → ℕ → ℕ → Setup
setup_of instance host port = record {
  instance = record { bytes = instance ∷ replicate 62 0; len = 1 };
  service = record { bytes = 0x5f ∷ 0x78 ∷ replicate 14 0; len = 2 };
  protocol = 0x5f ∷ 0x75 ∷ 0x64 ∷ 0x70 ∷ [];
  host = record { bytes = host ∷ replicate 62 0; len = 1 };
  domain = 0x6c ∷ 0x6f ∷ 0x63 ∷ 0x61 ∷ 0x6c ∷ [];
  port = port;
  txt = record { bytes = replicate 400 0; len = 1 };
  a = 10 ∷ 0 ∷ 0 ∷ 7 ∷ [];
  hasaaaa = false;
  aaaa = replicate 16 0;
}

-- instance "A", hosts "h" and "i", ports 515 and 516
abbrev pub one : Setup
one = setup_of 0x41 0x68 515

abbrev pub other : Setup
other = setup_of 0x41 0x69 516

-- instance "B", host "j"
abbrev pub third : Setup
third = setup_of 0x42 0x6a 517

-- a device that is no responder of the list, with the instance "A" and host "k"
abbrev pub stranger : Setup
stranger = setup_of 0x41 0x6b 518

-- what answers a probe for the instance name; its first announcement has PTR too
abbrev pub srv_and_txt : Set
srv_and_txt = at_once (records_of Instance false)

abbrev pub at : ℕ → Call responder → Entry responder
at t c = record { time = t; call = c }

-- the clock of a responder that is so far ahead of the link's time
abbrev pub tick_at : ℕ → ℕ → ℕ → Entry responder
tick_at d ahead t = at t (ticks d (record { time = t + ahead; room = 1452 }))

-- an address of the link: fe80::1 is that of the instance "A" with host "h", fe80::2 of that with "i", fe80::3 of "B"; others are of strangers
abbrev pub somewhere : ℕ → Address
somewhere n = record { high = 0xfe80000000000000; low = n }

-- a packet that comes at a time, by a clock, from an address and port
abbrev pub arrival : ℕ → ℕ → ℕ → List ℕ → Arrival
arrival now from port p =
    record { time = now; from = somewhere from; port = port; draw = 20; hold = 400; packet = p; room = 1452; unicastroom = 1452 }

abbrev pub hear_at : ℕ → ℕ → ℕ → ℕ → List ℕ → Entry responder
hear_at d ahead t from p = at t (receives d (arrival (t + ahead) from 5353 p))

-- a query that comes from a plain resolver, and one for the address of "h"
abbrev pub ask_at : ℕ → ℕ → ℕ → List ℕ → Entry responder
ask_at d ahead t p = at t (receives d (arrival (t + ahead) 9 1024 p))

-- the addresses of responders, by their numbers
abbrev pub addresses : List (ℕ × ℕ) → ℕ → List ℕ
addresses pairs = address_in (map (λ (p : ℕ × ℕ). (p.0, halves (somewhere p.1))) pairs)

abbrev pub alone_at : ℕ → List ℕ
alone_at = addresses ((0, 1) ∷ [])

abbrev pub contest_at : ℕ → List ℕ
contest_at = addresses ((0, 1) ∷ (9, 2) ∷ [])

abbrev pub rivals_at : ℕ → List ℕ
rivals_at = addresses ((0, 1) ∷ (1, 2) ∷ (30, 1) ∷ [])

abbrev pub three_at : ℕ → List ℕ
three_at = addresses ((0, 2) ∷ (16, 1) ∷ (30, 3) ∷ [])

abbrev pub divided_at : ℕ → List ℕ
divided_at = addresses ((0, 1) ∷ (11, 2) ∷ [])

unfoldable pub plain_query : List ℕ
plain_query =
    0x12 ∷ 0x34 ∷ 1 ∷ 0 ∷ 0 ∷ 1 ∷ 0 ∷ 0 ∷ 0 ∷ 0 ∷ 0 ∷ 0
    ∷ 1 ∷ 0x68 ∷ 5 ∷ 0x6c ∷ 0x6f ∷ 0x63 ∷ 0x61 ∷ 0x6c ∷ 0 ∷ 0 ∷ 1 ∷ 0 ∷ 1 ∷ []

-- The largest draw, and every step 50 ms late: both names are held 1,200 ms after the start.
unfoldable pub alone : List (Entry responder)
alone =
    at 0 (starts one 0 250)
    ∷ tick_at 0 0 300
    ∷ tick_at 0 0 300
    ∷ tick_at 0 0 600
    ∷ tick_at 0 0 600
    ∷ tick_at 0 0 900
    ∷ tick_at 0 0 900
    ∷ tick_at 0 0 1200
    ∷ tick_at 0 0 1200
    ∷ tick_at 0 0 1201
    ∷ []

-- The first holds its names when the second starts, whose clock is 5,000 ms ahead; steps come up to 50 ms late, packets up to 100 ms. The first answers the
-- second's probe by unicast alone, since it has just announced; the second hears it and loses the instance name; its host name it comes to hold. At the end
-- the first answers a plain resolver, which the second need not hear.
unfoldable pub contest : List (Entry responder)
contest =
    at 0 (starts one 0 0)
    ∷ tick_at 0 0 0
    ∷ tick_at 0 0 0
    ∷ tick_at 0 0 270
    ∷ tick_at 0 0 270
    ∷ tick_at 0 0 530
    ∷ tick_at 0 0 530
    ∷ tick_at 0 0 800
    ∷ tick_at 0 0 800
    ∷ at 1000 (starts other 6000 0)
    ∷ tick_at 9 5000 1000
    ∷ tick_at 9 5000 1000
    ∷ hear_at 0 0 1080 2 (probe_packet other Instance)
    ∷ hear_at 0 0 1100 2 (probe_packet other Host)
    ∷ hear_at 9 5000 1150 1 (response_packet one 0 srv_and_txt)
    ∷ tick_at 9 5000 1300
    ∷ hear_at 0 0 1310 2 (probe_packet other Host)
    ∷ tick_at 9 5000 1560
    ∷ hear_at 0 0 1580 2 (probe_packet other Host)
    ∷ tick_at 9 5000 1840
    ∷ tick_at 0 0 1850
    ∷ tick_at 0 0 1850
    ∷ hear_at 0 0 1870 2 (response_packet other 0 (records_of Host false))
    ∷ hear_at 9 5000 1900 1 (response_packet one 0 (records_of Instance false))
    ∷ hear_at 9 5000 1905 1 (response_packet one 0 (records_of Host false))
    ∷ ask_at 0 0 1910 plain_query
    ∷ tick_at 0 0 2011
    ∷ []

-- Both start in one millisecond. The first hears the second's probe, whose records are later, and is deferred; then its announcement, and loses the
-- instance name. It is cut when it holds its host name. Started anew at the same address, it probes for the name, hears the second's answer, which goes to
-- that address, and loses again. A tick with a clock that is behind and a packet of one byte are refused.
unfoldable pub rivals : List (Entry responder)
rivals =
    at 0 (starts one 0 0)
    ∷ at 0 (starts other 5000 0)
    ∷ tick_at 0 0 0
    ∷ tick_at 0 0 0
    ∷ tick_at 1 5000 0
    ∷ tick_at 1 5000 0
    ∷ hear_at 0 0 60 2 (probe_packet other Instance)
    ∷ hear_at 0 0 60 2 (probe_packet other Host)
    ∷ hear_at 1 5000 100 1 (probe_packet one Instance)
    ∷ hear_at 1 5000 100 1 (probe_packet one Host)
    ∷ at 120 (ticks 0 (record { time = 0; room = 1452 }))
    ∷ tick_at 1 5000 250
    ∷ tick_at 1 5000 250
    ∷ tick_at 0 0 290
    ∷ hear_at 0 0 300 2 (probe_packet other Instance)
    ∷ hear_at 0 0 300 2 (probe_packet other Host)
    ∷ hear_at 1 5000 300 1 (probe_packet one Host)
    ∷ tick_at 1 5000 500
    ∷ tick_at 1 5000 500
    ∷ tick_at 0 0 560
    ∷ hear_at 0 0 570 2 (probe_packet other Instance)
    ∷ hear_at 0 0 570 2 (probe_packet other Host)
    ∷ hear_at 1 5000 600 1 (probe_packet one Host)
    ∷ tick_at 1 5000 750
    ∷ tick_at 1 5000 750
    ∷ hear_at 0 0 790 2 (response_packet other 0 (records_of Instance false))
    ∷ hear_at 0 0 790 2 (response_packet other 0 (records_of Host false))
    ∷ tick_at 0 0 820
    ∷ hear_at 1 5000 850 1 (response_packet one 0 (records_of Host false))
    ∷ at 900 (cut 0)
    ∷ at 950 (starts one 950 0)
    ∷ tick_at 30 0 950
    ∷ tick_at 30 0 950
    ∷ hear_at 1 5000 1010 1 (probe_packet one Instance)
    ∷ hear_at 1 5000 1010 1 (probe_packet one Host)
    ∷ hear_at 1 5000 1020 9 (0 ∷ [])
    ∷ hear_at 30 0 1050 2 (response_packet other 0 srv_and_txt)
    ∷ tick_at 30 0 1200
    ∷ hear_at 1 5000 1230 1 (probe_packet one Host)
    ∷ tick_at 1 5000 1260
    ∷ []

-- a question for the PTR record of "_x._udp.local"
unfoldable pub ptr_query : List ℕ
ptr_query =
    0 ∷ 0 ∷ 0 ∷ 0 ∷ 0 ∷ 1 ∷ 0 ∷ 0 ∷ 0 ∷ 0 ∷ 0 ∷ 0
    ∷ 2 ∷ 0x5f ∷ 0x78 ∷ 4 ∷ 0x5f ∷ 0x75 ∷ 0x64 ∷ 0x70 ∷ 5 ∷ 0x6c ∷ 0x6f ∷ 0x63 ∷ 0x61 ∷ 0x6c ∷ 0 ∷ 0 ∷ 12 ∷ 0 ∷ 1 ∷ []

-- the same with the TC bit: more known answers follow
unfoldable pub truncated_query : List ℕ
truncated_query =
    0 ∷ 0 ∷ 2 ∷ 0 ∷ 0 ∷ 1 ∷ 0 ∷ 0 ∷ 0 ∷ 0 ∷ 0 ∷ 0
    ∷ 2 ∷ 0x5f ∷ 0x78 ∷ 4 ∷ 0x5f ∷ 0x75 ∷ 0x64 ∷ 0x70 ∷ 5 ∷ 0x6c ∷ 0x6f ∷ 0x63 ∷ 0x61 ∷ 0x6c ∷ 0 ∷ 0 ∷ 12 ∷ 0 ∷ 1 ∷ []

-- A responder that holds its names holds a truncated query for its service, and answers it 400 ms later.
unfoldable pub held : List (Entry responder)
held =
    at 0 (starts one 0 0)
    ∷ tick_at 0 0 0
    ∷ tick_at 0 0 0
    ∷ tick_at 0 0 250
    ∷ tick_at 0 0 250
    ∷ tick_at 0 0 500
    ∷ tick_at 0 0 500
    ∷ tick_at 0 0 750
    ∷ tick_at 0 0 750
    ∷ tick_at 0 0 1750
    ∷ tick_at 0 0 1750
    ∷ hear_at 0 0 2400 9 truncated_query
    ∷ tick_at 0 0 2800
    ∷ tick_at 0 0 2801
    ∷ []

-- The first holds its names for 38 s when the second starts. It answers the second's probe with the SRV record to all, as its last multicast is more than a
-- quarter of its TTL ago, and with the TXT record to the second alone; the second hears both.
unfoldable pub divided : List (Entry responder)
divided =
    at 0 (starts one 0 0)
    ∷ tick_at 0 0 0
    ∷ tick_at 0 0 0
    ∷ tick_at 0 0 250
    ∷ tick_at 0 0 250
    ∷ tick_at 0 0 500
    ∷ tick_at 0 0 500
    ∷ tick_at 0 0 750
    ∷ tick_at 0 0 750
    ∷ tick_at 0 0 1750
    ∷ tick_at 0 0 1750
    ∷ at 40000 (starts other 40000 0)
    ∷ tick_at 11 0 40000
    ∷ tick_at 11 0 40000
    ∷ hear_at 0 0 40010 2 (probe_packet other Instance)
    ∷ hear_at 0 0 40010 2 (probe_packet other Host)
    ∷ hear_at 11 0 40060 1 (response_packet one 0 (only Srv))
    ∷ hear_at 11 0 40060 1 (response_packet one 0 (only Txt))
    ∷ tick_at 11 0 40250
    ∷ []

-- the clock of a responder that is so far behind the link's time
abbrev pub tick_behind : ℕ → ℕ → ℕ → Entry responder
tick_behind d behind t = at t (ticks d (record { time = t - behind; room = 1452 }))

abbrev pub hear_behind : ℕ → ℕ → ℕ → ℕ → List ℕ → Entry responder
hear_behind d behind t from p = at t (receives d (arrival (t - behind) from 5353 p))

-- The first holds its names, hears its own packets and answers a question for its service. A stranger's response with other data makes it give up the
-- instance name; it probes again, against a second responder that wants the name, and holds it again: the second hears its probe, whose records are later,
-- and is deferred, then its announcement, and loses. A third, with names of its own and a clock that is behind, starts meanwhile.
unfoldable pub three : List (Entry responder)
three =
    at 0 (starts other 0 0)
    ∷ tick_at 0 0 0
    ∷ tick_at 0 0 0
    ∷ hear_at 0 0 10 2 (probe_packet other Instance)
    ∷ tick_at 0 0 250
    ∷ tick_at 0 0 250
    ∷ tick_at 0 0 500
    ∷ tick_at 0 0 500
    ∷ tick_at 0 0 750
    ∷ tick_at 0 0 750
    ∷ hear_at 0 0 770 2 (response_packet other 0 (records_of Instance false))
    ∷ tick_at 0 0 1750
    ∷ tick_at 0 0 1750
    ∷ hear_at 0 0 2760 9 ptr_query
    ∷ tick_at 0 0 2780
    ∷ hear_at 0 0 2785 2 (response_packet other 0 (only Ptr))
    ∷ at 2790 (starts one 7790 250)
    ∷ hear_at 0 0 2800 9 (response_packet stranger 0 srv_and_txt)
    ∷ tick_at 0 0 2800
    ∷ hear_at 16 5000 2850 2 (probe_packet other Instance)
    ∷ tick_at 16 5000 3040
    ∷ tick_at 16 5000 3040
    ∷ tick_at 0 0 3050
    ∷ hear_at 0 0 3060 1 (probe_packet one Instance)
    ∷ hear_at 0 0 3060 1 (probe_packet one Host)
    ∷ hear_at 16 5000 3070 1 (probe_packet one Instance)
    ∷ hear_at 16 5000 3100 2 (probe_packet other Instance)
    ∷ tick_at 16 5000 3290
    ∷ tick_at 0 0 3300
    ∷ hear_at 0 0 3310 1 (probe_packet one Host)
    ∷ at 3310 (starts third 310 250)
    ∷ hear_at 16 5000 3400 2 (probe_packet other Instance)
    ∷ tick_at 16 5000 3540
    ∷ tick_at 0 0 3550
    ∷ hear_at 0 0 3560 1 (probe_packet one Host)
    ∷ hear_behind 30 3000 3560 1 (probe_packet one Host)
    ∷ tick_behind 30 3000 3560
    ∷ tick_behind 30 3000 3560
    ∷ hear_at 16 5000 3600 2 (response_packet other 0 (records_of Instance false))
    ∷ hear_behind 30 3000 3600 2 (response_packet other 0 (records_of Instance false))
    ∷ hear_at 0 0 3620 3 (probe_packet third Instance)
    ∷ hear_at 0 0 3620 3 (probe_packet third Host)
    ∷ hear_at 16 5000 3620 3 (probe_packet third Instance)
    ∷ hear_at 16 5000 3620 3 (probe_packet third Host)
    ∷ tick_behind 30 3000 3780
    ∷ []
