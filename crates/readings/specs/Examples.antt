-- What the starred readings speak of: the specification's example "dock.local" with the address 10.0.0.7, messages about it, and one entry of a cache.
-- Assumes nothing: these are definitions.
use Rattle.std.specs.Prelude.{ℕ, ◌-◌, List, [], ◌∷◌, ◌++◌, false, length, replicate, None}
use Rattle.wire.specs.message.Message.{Record, Message}
use Rattle.own.specs.declared.records.Setup.{Setup}
use Rattle.own.specs.records.Setups.{tcp, local}
use Rattle.own.specs.records.Records.{own_name, own_rdata}
use Rattle.claims.specs.records.Own.{own_type}
use Rattle.claims.specs.Time.{never_sent}
use Rattle.claims.specs.declared.records.Own.{Own}
use Rattle.claims.specs.declared.ClaimState.TheVariants.{Held}
use Rattle.claims.specs.declared.Progress.{Progress}
use Rattle.writer.specs.own_packets.Packets.{packet_of}
use Rattle.claims.specs.holds.Holds.{no_holds}
use Rattle.claims.specs.declared.holds.Address.{Address}
use Rattle.responder.specs.Handed.{Arrival}
use Rattle.responder.specs.declared.State.{State}
use Rattle.cache.specs.entries.Cache.{Cache, at_start}

-- bytes at the front of an array of so many
abbrev pub padded : ℕ → List ℕ → List ℕ
padded n bs = bs ++ replicate (n - length bs) 0

abbrev pub host_label : List ℕ
host_label = 100 ∷ (111 ∷ (99 ∷ (107 ∷ [])))

abbrev pub address : List ℕ
address = 10 ∷ (0 ∷ (0 ∷ (7 ∷ [])))

-- instance "booth", service "_voice", protocol "_tcp", host "dock", domain "local", port 4000, one empty string, no AAAA
unfoldable pub example : Setup
example = record {
  instance = record { bytes = padded 63 (98 ∷ (111 ∷ (111 ∷ (116 ∷ (104 ∷ []))))); len = 5 };
  service = record { bytes = padded 16 (95 ∷ (118 ∷ (111 ∷ (105 ∷ (99 ∷ (101 ∷ [])))))); len = 6 };
  protocol = tcp;
  host = record { bytes = padded 63 host_label; len = 4 };
  domain = local;
  port = 4000;
  txt = record { bytes = padded 400 (0 ∷ []); len = 1 };
  a = address;
  hasaaaa = false;
  aaaa = replicate 16 0;
}

-- both claims held, and nothing multicast
unfoldable pub holding : Progress
holding = record {
  instance = Held;
  host = Held;
  sent = never_sent;
  reply = None;
  holds = no_holds;
  updated = None;
  draw = 0;
  last = 0;
}

-- a query that asks for an own record and carries it as a known answer, with a TTL
unfoldable pub asking : Own → ℕ → Message
asking o ttl = record {
  id = 0;
  flags = 0;
  questions = record { name = own_name example o; rtype = own_type o; class = 1 } ∷ [];
  answers = record { owner = own_name example o; rtype = own_type o; class = 1; ttl = ttl; rdata = own_rdata example o } ∷ [];
  authorities = [];
  additionals = [];
}

-- its packet, received by a responder that holds both names, at 0 ms with a draw of 20
abbrev pub holder : State
holder = record { setup = example; progress = holding }

-- an address of the link, fe80::1
abbrev pub somewhere : Address
somewhere = record { high = 0xfe80000000000000; low = 1 }

abbrev pub asked : Own → ℕ → Arrival
asked o ttl = record {
  time = 0;
  from = somewhere;
  port = 5353;
  draw = 20;
  hold = 400;
  packet = packet_of false (asking o ttl);
  room = 1452;
  unicastroom = 1452;
}

-- "dock.local" as it stands in a packet
abbrev pub host_name : List ℕ
host_name = 4 ∷ (100 ∷ (111 ∷ (99 ∷ (107 ∷ (5 ∷ (108 ∷ (111 ∷ (99 ∷ (97 ∷ (108 ∷ (0 ∷ [])))))))))))

-- a cache of one entry for the address, received at a time and expiring at 100,000
unfoldable pub cached : ℕ → Cache
cached received = at_start (record { rtype = 1; owner = 12; rdata = 4; received = received; expiry = 100000; ttl = 100 } ∷ []) (padded 256 host_name ++ address)

-- another address of that name, with the cache flush bit
unfoldable pub announced : Record
announced = record { owner = host_name; rtype = 1; class = 0x8001; ttl = 120; rdata = 10 ∷ (0 ∷ (0 ∷ (8 ∷ []))) }

-- a query whose one question's name is a pointer at 12 to 12
abbrev pub self_pointing : List ℕ
self_pointing = 0 ∷ (0 ∷ (0 ∷ (0 ∷ (0 ∷ (1 ∷ (0 ∷ (0 ∷ (0 ∷ (0 ∷ (0 ∷ (0 ∷ (192 ∷ (12 ∷ (0 ∷ (1 ∷ (0 ∷ (1 ∷ [])))))))))))))))))

-- "00 00 84 00 00 00 00 01 00 00 00 00 04 64 6f 63 6b 05 6c 6f 63 61 6c 00 00 01 80 01 00 00 00 78 00 04 0a 00 00 07"
abbrev pub announcement : List ℕ
announcement =
    0 ∷ (0 ∷ (132 ∷ (0 ∷ (0 ∷ (0 ∷ (0 ∷ (1 ∷ (0 ∷ (0 ∷ (0 ∷ (0 ∷ (4 ∷ (100 ∷ (111 ∷ (99 ∷ (107 ∷ (5 ∷ (108 ∷ (111 ∷ (99 ∷ (97 ∷ (108 ∷ (0 ∷
    (0 ∷ (1 ∷ (128 ∷ (1 ∷ (0 ∷ (0 ∷ (0 ∷ (120 ∷ (0 ∷ (4 ∷ (10 ∷ (0 ∷ (0 ∷ (7 ∷ [])))))))))))))))))))))))))))))))))))))
