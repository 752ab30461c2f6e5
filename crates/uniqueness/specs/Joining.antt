-- Two links joined: two responders hold one name with different data, each on a link of its own, when a cable joins the links. Assumes nothing: these are
-- definitions.
use Rattle.std.specs.Prelude.{List, [], ◌∷◌, ℕ}
use Rattle.claims.specs.records.Sets.{only}
use Rattle.claims.specs.declared.records.Claim.TheVariants.{Instance}
use Rattle.claims.specs.declared.records.Own.TheVariants.{Srv}
use Rattle.writer.specs.own_packets.Own.{response_packet, probe_packet}
use Rattle.link.specs.Entries.{starts, Entry}
use Rattle.uniqueness.specs.Responder.{responder}
use Rattle.uniqueness.specs.Example.{one, other, srv_and_txt, at, tick_at, hear_at, addresses}

abbrev pub joined_at : ℕ → List ℕ
joined_at = addresses ((0, 1) ∷ (1, 2) ∷ [])

-- both clocks are the link's time
abbrev pub no_shift : ℕ → ℕ × ℕ
no_shift d = (0, 0)

-- a question for the SRV record of "A._x._udp.local"
unfoldable pub srv_query : List ℕ
srv_query =
    0 ∷ 0 ∷ 0 ∷ 0 ∷ 0 ∷ 1 ∷ 0 ∷ 0 ∷ 0 ∷ 0 ∷ 0 ∷ 0
    ∷ 1 ∷ 0x41 ∷ 2 ∷ 0x5f ∷ 0x78 ∷ 4 ∷ 0x5f ∷ 0x75 ∷ 0x64 ∷ 0x70 ∷ 5 ∷ 0x6c ∷ 0x6f ∷ 0x63 ∷ 0x61 ∷ 0x6c ∷ 0 ∷ 0 ∷ 33 ∷ 0 ∷ 1 ∷ []

-- Up to entry 22 the two do not hear each other, and both come to hold the name. Then, from 2,000 ms on, the links are joined: the first answers a question to
-- all, the second hears it, gives the name up and probes, is answered by the first, and has lost the name.
unfoldable pub joined : List (Entry responder)
joined =
    at 0 (starts one 0 0)
    ∷ at 0 (starts other 0 0)
    ∷ tick_at 0 0 0
    ∷ tick_at 0 0 0
    ∷ tick_at 1 0 0
    ∷ tick_at 1 0 0
    ∷ tick_at 0 0 250
    ∷ tick_at 0 0 250
    ∷ tick_at 1 0 250
    ∷ tick_at 1 0 250
    ∷ tick_at 0 0 500
    ∷ tick_at 0 0 500
    ∷ tick_at 1 0 500
    ∷ tick_at 1 0 500
    ∷ tick_at 0 0 750
    ∷ tick_at 0 0 750
    ∷ tick_at 1 0 750
    ∷ tick_at 1 0 750
    ∷ tick_at 0 0 1750
    ∷ tick_at 0 0 1750
    ∷ tick_at 1 0 1750
    ∷ tick_at 1 0 1750
    ∷ hear_at 0 0 3000 9 srv_query
    ∷ hear_at 1 0 3050 1 (response_packet one 0 (only Srv))
    ∷ tick_at 1 0 3050
    ∷ hear_at 0 0 3060 2 (probe_packet other Instance)
    ∷ hear_at 1 0 3070 1 (response_packet one 0 srv_and_txt)
    ∷ tick_at 0 0 3200
    ∷ []
