-- What is written for an output, where nothing is refused. Assumes nothing.
use Prim.Native.Nat.{ℕ}
use mathlib.Core.Path.{◌≡◌, refl, ap, ◌∙◌}
use Rattle.std.specs.Prelude.{Option, Result, Ok}
use Rattle.wire.specs.refusals.Numbers.{refused_by}
use Rattle.wire.specs.declared.refusals.Refusal.{Refusal}
use Rattle.wire.proofs.refusals.Tests.{none_by}
use mathlib.Core.List.{List, [], ◌∷◌}
use lib.ListN.{length}
use Rattle.own.specs.declared.records.Setup.{Setup}
use Rattle.claims.specs.declared.records.Claim.{Claim}
use Rattle.claims.specs.declared.records.Set.{Set}
use Rattle.claims.specs.declared.steps.Output.{Output}
use Rattle.claims.specs.declared.steps.Output.TheVariants.{Nothing, Probe, Response}
use Rattle.writer.specs.own_packets.Own.{response_packet, probe_packet, length_of, refusal, write_tests, unless_refused, sent_of, written_of, answer_to, laid_over}
use Rattle.responder.specs.Calls.{packet_for}

length-sent : (packet : List ℕ) → length_of (Ok (sent_of packet)) ≡ length packet
length-sent [] = refl
length-sent (b ∷ bs) = refl

-- a call that is not refused has passed its tests
passes : (setup : Setup) (out : List ℕ) → refusal setup out ≡ 0 → refused_by (write_tests setup (length out)) ≡ Ok tt
unfolding refusal
passes setup out fine = none_by (write_tests setup (length out)) fine

-- the length and the buffer of a packet that is sent
abbrev pub Wrote : List ℕ → List ℕ → ℕ → List ℕ → Type 0
Wrote packet out n o = (n ≡ length packet) × (o ≡ laid_over packet out)

pub wrote :
    (setup : Setup) (out packet : List ℕ) (w : Result (Option ℕ) Refusal) (o : List ℕ) (n : ℕ)
    → refusal setup out ≡ 0
    → (w ≡ answer_to setup out packet) × (o ≡ laid_over (unless_refused (refusal setup out) packet) out)
    → n ≡ length_of w
    → Wrote packet out n o
wrote setup out packet w o n fine h r =
    let sent : w ≡ Ok (sent_of packet) = h.0 ∙ ap (λ (v : Result (Unit {0}) Refusal). written_of v packet) (passes setup out fine) in
    let laid : o ≡ laid_over packet out = rw fine at h.1 in
    (rw (r, sent) (length-sent packet), laid)

module _ (setup : Setup) (output : Output) where
  -- of a call that sends the output
  abbrev pub Sends : List ℕ → ℕ → List ℕ → Type 0
  Sends out n o = Wrote (packet_for setup output) out n o

  pub probe-packet : (claim : Claim) → output ≡ Probe claim → packet_for setup output ≡ probe_packet setup claim
  unfolding packet_for
  probe-packet claim e = simp e

  pub response_packet_lem : (set : Set) → output ≡ Response set → packet_for setup output ≡ response_packet setup 0 set
  unfolding packet_for
  response_packet_lem set e = simp e

  pub sends-nothing : (out : List ℕ) → output ≡ Nothing → Sends out 0 out
  unfolding packet_for
  sends-nothing out e = (simp e, simp e)

  pub sends :
      (out packet : List ℕ) (w : Result (Option ℕ) Refusal) (o : List ℕ) (n : ℕ)
      → refusal setup out ≡ 0
      → packet_for setup output ≡ packet
      → (w ≡ answer_to setup out packet) × (o ≡ laid_over (unless_refused (refusal setup out) packet) out)
      → n ≡ length_of w
      → Sends out n o
  sends out packet w o n fine e h r = rw e (wrote setup out packet w o n fine h r)
