-- The data of a run (specification, 'Stops and updates'): "a dock's data are those after its last update taken". What each call sends is written of the data
-- after it. Assumes nothing: these are definitions.
use Rattle.std.specs.Prelude.{ℕ, ◌+◌, ◌≤◌, cond, List, [], ◌∷◌, ◌++◌, eqb, Option, Some, None}
use Rattle.wire.specs.message.Message.{Question}
use Rattle.own.specs.declared.records.Setup.{Setup}
use Rattle.own.specs.changes.Changes.{NewData, revised}
use Rattle.claims.specs.declared.records.Claim.{Claim}
use Rattle.claims.specs.declared.records.Set.{Set}
use Rattle.writer.specs.own_packets.Own.{response_packet, probe_packet, plain_packet}
use Rattle.writer.specs.own_packets.Goodbye.{goodbye_packet}
use Rattle.responder.specs.changes.Changes.{update_refusal}
use Rattle.responder.specs.Runs.{Call, received, ticked, stopped, updated, state_after}
use Rattle.responder.specs.declared.State.{State}

-- the new data of the updates that a call, and a list of calls, take
abbrev pub taken_by : State → Call → List NewData
taken_by s (received a) = []
taken_by s (ticked t) = []
taken_by s (stopped t) = []
taken_by s (updated u) = cond (eqb (update_refusal s u) 0) (u.new ∷ []) []

abbrev pub taken : State → List Call → List NewData
taken s [] = []
taken s (c ∷ cs) = taken_by s c ++ taken (state_after s c) cs

-- a set-up after some updates, one after the other
abbrev pub revised_all : Setup → List NewData → Setup
revised_all s [] = s
revised_all s (d ∷ ds) = revised_all (revised s d) ds

-- a packet that is written of a set-up, or none
pub data WrittenOf (s : Setup) : List ℕ → Type 0 where
  nothing : WrittenOf s []
  probe : (k : Claim) → WrittenOf s (probe_packet s k)
  response : (id : ℕ) (set : Set) → WrittenOf s (response_packet s id set)
  reply : (set : Set) (id : ℕ) (q : Question) → WrittenOf s (plain_packet s set id q)
  goodbye : (set : Set) → WrittenOf s (goodbye_packet s set)

-- the times of the updates that are taken, each at least 6,000 ms after the one before it
abbrev pub update_times : State → List Call → List ℕ
update_times s [] = []
update_times s (received a ∷ cs) = update_times (state_after s (received a)) cs
update_times s (ticked t ∷ cs) = update_times (state_after s (ticked t)) cs
update_times s (stopped t ∷ cs) = update_times (state_after s (stopped t)) cs
update_times s (updated u ∷ cs) =
    cond (eqb (update_refusal s u) 0) (u.time ∷ update_times (state_after s (updated u)) cs) (update_times (state_after s (updated u)) cs)

abbrev pub LateAfter : Option ℕ → ℕ → Type 0
LateAfter None time = Unit {0}
LateAfter (Some last) time = last + 6000 ≤ time

pub data Apart : Option ℕ → List ℕ → Type 0 where
  none : {last : Option ℕ} → Apart last []
  next : {last : Option ℕ} {time : ℕ} {times : List ℕ} → LateAfter last time → Apart (Some time) times → Apart last (time ∷ times)
