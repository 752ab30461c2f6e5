-- A stop taken leaves both claims lost, and whatever calls follow, they stay lost and no name is held again; to which records it says goodbye. Assumes nothing.
use mathlib.Core.Path.{◌≡◌, ap}
use mathlib.Core.Bool.{false, ◌&&◌}
use mathlib.Core.List.{List}
use Rattle.claims.specs.Claims.{held_now, claim_of}
use Rattle.claims.specs.records.Own.{claim_for, has}
use Rattle.claims.specs.records.Sets.{records_of}
use Rattle.claims.specs.declared.ClaimState.TheVariants.{Lost}
use Rattle.claims.specs.declared.records.Claim.{Claim}
use Rattle.claims.specs.declared.records.Own.{Own}
use Rattle.claims.proofs.changes.Stops as laws
use Rattle.writer.specs.own_packets.Goodbye.{goodbye_packet}
use Rattle.responder.specs.Handed.{Tick}
use Rattle.responder.specs.Refusals.{tick_refusal}
use Rattle.responder.specs.changes.Changes.{ended_of, stopped_packet, stop_of}
use Rattle.responder.specs.Runs.{Call, run}
use Rattle.responder.specs.declared.State.{State}
use Rattle.responder.proofs.Runs.{run-lost}

module _ (s : State) (t : Tick) (taken : tick_refusal s t ≡ 0) where
  -- "leaves both claims lost"
  pub stop-lost : (k : Claim) → claim_of k (stop_of s t).state.progress ≡ Lost
  unfolding stop_of
  stop-lost k = rw taken (laws.stop-lost s.progress t.time s.setup.hasaaaa k)

  -- for good: no call makes a claim held again
  pub lost_for_good : (k : Claim) (cs : List Call) → claim_of k (run (stop_of s t).state cs).progress ≡ Lost
  lost_for_good k cs = run-lost k (stop_of s t).state cs (stop-lost k)

  pub never_held_again : (k : Claim) (cs : List Call) → held_now (claim_of k (run (stop_of s t).state cs).progress) ≡ false
  never_held_again k cs = ap held_now (lost_for_good k cs)

  -- "sends the held records": a record is in the goodbye exactly where its claim was held and it is one of those that are announced for it
  pub goodbye-exactly : (o : Own) → has o (ended_of s t.time).goodbye
      ≡ (held_now (claim_of (claim_for o) s.progress) && has o (records_of (claim_for o) s.setup.hasaaaa))
  goodbye-exactly o = laws.goodbye-records s.progress t.time s.setup.hasaaaa o

  pub goodbye-sent : stopped_packet s t ≡ goodbye_packet s.setup (ended_of s t.time).goodbye
  unfolding stopped_packet
  goodbye-sent = simp taken
