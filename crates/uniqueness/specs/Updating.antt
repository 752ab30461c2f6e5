-- Lists with updates and stops: two with the same data, of which one is updated while both hold, so that two hold with different data until the other hears
-- it; one that is stopped, and a new one at its address; and one that is updated while it probes. Assumes nothing: these are definitions.
use Rattle.std.specs.Prelude.{false, List, [], ◌∷◌, ℕ}
use Rattle.own.specs.declared.records.Setup.{Setup}
use Rattle.own.specs.changes.Changes.{new_port, with_port}
use Rattle.claims.specs.records.Sets.{only, records_of}
use Rattle.claims.specs.declared.records.Claim.TheVariants.{Instance, Host}
use Rattle.claims.specs.declared.records.Own.TheVariants.{Srv}
use Rattle.writer.specs.own_packets.Own.{response_packet, probe_packet}
use Rattle.link.specs.Entries.{starts, stops, updates, Entry}
use Rattle.uniqueness.specs.Responder.{responder}
use Rattle.uniqueness.specs.Example.{one, at, tick_at, hear_at, addresses}

abbrev pub update_at : ℕ → ℕ → ℕ → Entry responder
update_at d t port = at t (updates d (record { time = t; room = 1452; new = new_port port }))

abbrev pub stop_at : ℕ → ℕ → Entry responder
stop_at d t = at t (stops d (record { time = t; room = 1452 }))

-- the set-up with the new port
abbrev pub renewed : Setup
renewed = with_port one 600

abbrev pub overlap_at : ℕ → List ℕ
overlap_at = addresses ((0, 1) ∷ (1, 2) ∷ [])

-- Two with the same names and data come to hold both. The first takes another port; 100 ms later the second hears it, gives the name up and probes.
unfoldable pub overlap : List (Entry responder)
overlap =
    at 0 (starts one 0 0)
    ∷ at 0 (starts one 0 0)
    ∷ tick_at 0 0 0
    ∷ tick_at 0 0 0
    ∷ tick_at 1 0 0
    ∷ tick_at 1 0 0
    ∷ hear_at 0 0 50 2 (probe_packet one Instance)
    ∷ hear_at 0 0 50 2 (probe_packet one Host)
    ∷ hear_at 1 0 50 1 (probe_packet one Instance)
    ∷ hear_at 1 0 50 1 (probe_packet one Host)
    ∷ tick_at 0 0 250
    ∷ tick_at 0 0 250
    ∷ tick_at 1 0 250
    ∷ tick_at 1 0 250
    ∷ hear_at 0 0 300 2 (probe_packet one Instance)
    ∷ hear_at 0 0 300 2 (probe_packet one Host)
    ∷ hear_at 1 0 300 1 (probe_packet one Instance)
    ∷ hear_at 1 0 300 1 (probe_packet one Host)
    ∷ tick_at 0 0 500
    ∷ tick_at 0 0 500
    ∷ tick_at 1 0 500
    ∷ tick_at 1 0 500
    ∷ hear_at 0 0 550 2 (probe_packet one Instance)
    ∷ hear_at 0 0 550 2 (probe_packet one Host)
    ∷ hear_at 1 0 550 1 (probe_packet one Instance)
    ∷ hear_at 1 0 550 1 (probe_packet one Host)
    ∷ tick_at 0 0 750
    ∷ tick_at 0 0 750
    ∷ tick_at 1 0 750
    ∷ tick_at 1 0 750
    ∷ hear_at 0 0 800 2 (response_packet one 0 (records_of Instance false))
    ∷ hear_at 0 0 800 2 (response_packet one 0 (records_of Host false))
    ∷ hear_at 1 0 800 1 (response_packet one 0 (records_of Instance false))
    ∷ hear_at 1 0 800 1 (response_packet one 0 (records_of Host false))
    ∷ update_at 0 820 600
    ∷ hear_at 1 0 920 1 (response_packet renewed 0 (only Srv))
    ∷ tick_at 1 0 920
    ∷ tick_at 0 0 921
    ∷ []

abbrev pub stopped_at : ℕ → List ℕ
stopped_at = addresses ((0, 1) ∷ (10, 1) ∷ [])

-- One holds its names, and is stopped; a new one at its address comes to hold them.
unfoldable pub stopped : List (Entry responder)
stopped =
    at 0 (starts one 0 0)
    ∷ tick_at 0 0 0
    ∷ tick_at 0 0 0
    ∷ tick_at 0 0 250
    ∷ tick_at 0 0 250
    ∷ tick_at 0 0 500
    ∷ tick_at 0 0 500
    ∷ tick_at 0 0 750
    ∷ tick_at 0 0 750
    ∷ stop_at 0 800
    ∷ at 850 (starts one 850 0)
    ∷ tick_at 10 0 850
    ∷ tick_at 10 0 850
    ∷ tick_at 10 0 1100
    ∷ tick_at 10 0 1100
    ∷ tick_at 10 0 1350
    ∷ tick_at 10 0 1350
    ∷ tick_at 10 0 1600
    ∷ tick_at 10 0 1600
    ∷ tick_at 0 0 1610
    ∷ []

abbrev pub revised_at : ℕ → List ℕ
revised_at = addresses ((0, 1) ∷ [])

-- One is updated between its second and its third probe, probes anew and holds the instance name with the new port; an update 100 ms later is refused.
unfoldable pub revised : List (Entry responder)
revised =
    at 0 (starts one 0 0)
    ∷ tick_at 0 0 0
    ∷ tick_at 0 0 0
    ∷ tick_at 0 0 250
    ∷ tick_at 0 0 250
    ∷ update_at 0 300 600
    ∷ tick_at 0 0 300
    ∷ update_at 0 400 700
    ∷ tick_at 0 0 500
    ∷ tick_at 0 0 550
    ∷ tick_at 0 0 750
    ∷ tick_at 0 0 800
    ∷ tick_at 0 0 1050
    ∷ tick_at 0 0 1501
    ∷ []
