-- A claim, and what moves it but for its own steps (specification, 'A claim's life'): the start, a conflict, a probe. Assumes nothing: these are
-- definitions.
use Rattle.std.specs.Prelude.{ℕ, Bool, true, false, Option, Some, None}
use Rattle.claims.specs.Time.{after_ms, never_sent}
use Rattle.claims.specs.holds.Holds.{no_holds}
use Rattle.claims.specs.declared.ClaimState.{ClaimState}
use Rattle.claims.specs.declared.ClaimState.TheVariants.{Waiting, Probing1, Probing2, Probing3, Deferred, Announced, Held, Lost}
use Rattle.claims.specs.declared.records.Claim.{Claim}
use Rattle.claims.specs.declared.records.Claim.TheVariants.{Instance, Host}
use Rattle.claims.specs.declared.Progress.{Progress}

-- the number of a claim's state: 0 waiting, 1 probing, 2 deferred, 3 held, 4 lost
abbrev pub state_number : ClaimState → ℕ
state_number (Waiting due) = 0
state_number (Probing1 due) = 1
state_number (Probing2 due) = 1
state_number (Probing3 due) = 1
state_number (Deferred due) = 2
state_number (Announced due) = 3
state_number Held = 3
state_number Lost = 4

-- when the claim's next step is due
abbrev pub due_of : ClaimState → Option ℕ
due_of (Waiting due) = Some due
due_of (Probing1 due) = Some due
due_of (Probing2 due) = Some due
due_of (Probing3 due) = Some due
due_of (Deferred due) = Some due
due_of (Announced due) = Some due
due_of Held = None
due_of Lost = None

-- the claim is held
abbrev pub held_now : ClaimState → Bool
held_now (Waiting due) = false
held_now (Probing1 due) = false
held_now (Probing2 due) = false
held_now (Probing3 due) = false
held_now (Deferred due) = false
held_now (Announced due) = true
held_now Held = true
held_now Lost = false

-- the state of one of the two claims
abbrev pub claim_of : Claim → Progress → ClaimState
claim_of Instance progress = progress.instance
claim_of Host progress = progress.host

-- "Waiting: first probe due at start plus draw." Nothing is multicast yet, no reply is set, no query is held, and nothing was updated.
unfoldable pub begun_at : ℕ → ℕ → Progress
begun_at now draw =
    record {
      instance = Waiting (after_ms now draw);
      host = Waiting (after_ms now draw);
      sent = never_sent;
      reply = None;
      holds = no_holds;
      updated = None;
      draw = draw;
      last = now;
    }

-- "A held claim goes back to waiting, first probe due at now plus its start draw; any other becomes lost for good."
abbrev pub after_conflict : ClaimState → ℕ → ClaimState
after_conflict (Waiting was) due = Lost
after_conflict (Probing1 was) due = Lost
after_conflict (Probing2 was) due = Lost
after_conflict (Probing3 was) due = Lost
after_conflict (Deferred was) due = Lost
after_conflict (Announced was) due = Waiting due
after_conflict Held due = Waiting due
after_conflict Lost due = Lost

-- "While probing, if theirs is later, the claim is deferred: its next first probe is due in 1,000 ms. In waiting or deferred a probe does nothing."
abbrev pub after_probe : ClaimState → ℕ → ClaimState
after_probe (Waiting was) due = Waiting was
after_probe (Probing1 was) due = Deferred due
after_probe (Probing2 was) due = Deferred due
after_probe (Probing3 was) due = Deferred due
after_probe (Deferred was) due = Deferred was
after_probe (Announced was) due = Announced was
after_probe Held due = Held
after_probe Lost due = Lost
