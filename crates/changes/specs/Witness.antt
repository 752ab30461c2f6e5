-- Calls to which the theorems apply, so that they are not about nothing: a holder of both names stops; it takes a new TXT, 6,000 ms later a new port, and then
-- announces again. Proved in proofs/Witness.antt. Assumes nothing.
use Rattle.std.specs.Prelude.{ℕ, ◌≡◌, false, List, [], ◌∷◌, length, eqb, None}
use Rattle.own.specs.changes.Changes.{NewData, new_port, new_txt}
use Rattle.claims.specs.Time.{never_sent}
use Rattle.claims.specs.holds.Holds.{no_holds}
use Rattle.claims.specs.declared.records.Own.TheVariants.{Ptr, Srv, Txt, A}
use Rattle.claims.specs.declared.ClaimState.TheVariants.{Held, Waiting, Probing2, Lost}
use Rattle.claims.specs.declared.ClaimState.{ClaimState}
use Rattle.roundtrip.specs.Cases.{sample}
use Rattle.roundtrip.specs.Writable.{Each}
use Rattle.responder.specs.Handed.{Tick}
use Rattle.responder.specs.Refusals.{tick_refusal}
use Rattle.responder.specs.changes.Changes.{Update, update_refusal, update_of}
use Rattle.responder.specs.Runs.{Call, ticked, updated, packet_of, run}
use Rattle.responder.specs.Data.{taken}
use Rattle.responder.specs.declared.State.{State}
use Rattle.changes.specs.Statement.{held_records, Other}

abbrev pub state_with : ClaimState → State
state_with c = record {
  setup = sample;
  progress = record { instance = c; host = Held; sent = never_sent; reply = None; holds = no_holds; updated = None; draw = 100; last = 0 };
}

abbrev pub holder : State
holder = state_with Held

abbrev pub tick : ℕ → Tick
tick time = record { time = time; room = 1452 }

abbrev pub update : ℕ → NewData → Update
update time new = record { time = time; room = 1452; new = new }

-- the TXT string "a", and the port 9
abbrev pub new_text : NewData
new_text = new_txt (1 ∷ 97 ∷ [])

abbrev pub changed : State
changed = (update_of holder (update 0 new_text)).state

abbrev pub between : List Call
between = updated (update 6000 (new_port 9)) ∷ []

-- `witness`: the stop and the updates are taken, at 5,999 ms the second is not, nor is one of a lost claim, nor one of bytes that are no strings; one that is
-- probing starts anew; and after them the second announcement goes out
pub record Witness : Type 0 where
  pub stops : tick_refusal holder (tick 0) ≡ 0
  pub held : held_records holder ≡ Ptr ∷ Srv ∷ Txt ∷ A ∷ []
  pub updates : update_refusal holder (update 0 new_text) ≡ 0
  pub too_soon : update_refusal changed (update 5999 (new_port 9)) ≡ 11
  pub again : taken changed between ≡ new_port 9 ∷ []
  pub other : Each (Other new_text) (taken changed between)
  pub sends : eqb (length (packet_of (run changed between) (ticked (tick 7000)))) 0 ≡ false
  pub lost : update_refusal (state_with Lost) (update 0 new_text) ≡ 10
  pub wrong : update_refusal holder (update 0 (new_txt (2 ∷ 97 ∷ []))) ≡ 7
  pub anew : (update_of (state_with (Probing2 250)) (update 200 new_text)).state.progress.instance ≡ Waiting 300
