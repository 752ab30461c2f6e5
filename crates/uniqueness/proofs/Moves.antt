-- What one accepted call does to a claim, in messages: law `move`. Assumes nothing.
use mathlib.Core.Path.{◌≡◌, refl, sym, ap, subst, ◌∙◌}
use mathlib.Core.Logic.{inl}
use mathlib.Core.Bool.{Bool, true, false}
use Prim.Native.Nat.{ℕ, ◌+◌, ◌≤◌}
use native.Mathlib.Omega.{arith}
use borrow.Author.Tests.{leb-true}
use Rattle.wire.specs.message.Message.{Message}
use Rattle.own.specs.records.Setups.{valid_setup}
use Rattle.claims.specs.Time.{last_time, after_ms}
use Rattle.claims.specs.Claims.{claim_of, held_now}
use Rattle.claims.proofs.changes.Updates as changes
use Rattle.own.specs.changes.Changes.{change_of}
use Rattle.claims.specs.records.Own.{has}
use Rattle.claims.specs.records.Sets.{records_of}
use Rattle.claims.proofs.Times.{after-exact}
use Rattle.claims.specs.declared.ClaimState.{ClaimState}
use Rattle.claims.specs.declared.ClaimState.TheVariants.{Waiting, Probing1, Probing2, Probing3, Deferred, Announced, Held, Lost}
use Rattle.claims.specs.declared.records.Set.{Set}
use Rattle.claims.specs.steps.Steps.{claim_due, taken_action}
use Rattle.claims.specs.declared.steps.Action.TheVariants as action
use Rattle.claims.specs.declared.steps.Output.{Output}
use Rattle.claims.specs.declared.steps.Output.TheVariants.{Probe, Response}
use Rattle.claims.proofs.answers.Receives.{plain-claim}
use Rattle.facts.specs.Facts.{facts_of}
use Rattle.claims.proofs.steps.Moves.{Move, stays, probes, announces, repeats, answers, tick-move}
use Rattle.writer.specs.own_packets.Own.{response_of, probe_of}
use Rattle.responder.specs.Calls.{walked_of}
use Rattle.responder.specs.declared.State.{State}
use Rattle.link.specs.Responder.{Claim, instance, host}
use Rattle.link.specs.Premises.{Among}
use Rattle.link.specs.Laws as law
use Rattle.responder.specs.Handed.{Arrival, Tick}
use Rattle.uniqueness.specs.Responder.{own_claim, responder}
use Rattle.uniqueness.specs.Rules.{messages_for, stage_of, claim_at, Fits, rules}
use Rattle.uniqueness.proofs.Lists.{clash, never}
use Rattle.uniqueness.proofs.Owned.{owned, Has, has-data}
use Rattle.uniqueness.proofs.Messages.{goes_out, carries, says-name}
use Rattle.uniqueness.proofs.Sent.{in_out}
use Rattle.uniqueness.proofs.Hearing.{Hears, same, yields, defers, heard}
use Rattle.uniqueness.proofs.Facts.{stage_held, held_stage, announce_held, repeat_held, all-announced, first_of}

module _ (x : State) (ok : valid_setup x.setup ≡ true) (k : Claim) where
  abbrev aaaa' : Bool
  aaaa' = x.setup.hasaaaa

  abbrev Moved : law.Step responder → Type 0
  Moved c = law.Move responder rules x.setup x c k

  module _ (tick : Tick) (time : tick.time ≤ last_time) where
    abbrev now : ℕ
    now = tick.time

    abbrev output : Output
    output = (walked_of x now).output

    -- the claim after the tick
    abbrev after : ClaimState
    after = claim_of (own_claim k) (walked_of x now).progress

    announcement : output ≡ Response (records_of (own_claim k) aaaa') → law.Announces responder rules x.setup x (law.ticks tick) k
    unfolding messages_for
    announcement e =
        let f = first_of x.setup k in
        let set : Set = records_of (own_claim k) aaaa' in
        let h : has f.1 set ≡ true = all-announced x.setup k f.0 f.1 f.2 f.3 in
        record {
          message = response_of x.setup 0 set;
          sent = in_out x ok (law.ticks tick) (Response set) (response_of x.setup 0 set) e (goes_out x.setup 0 set f.1 h f.3);
          all = λ type d g.
              let w : Has x.setup k type d = has-data x.setup k type d g in
              carries x.setup 0 set k type w.own w.is (all-announced x.setup k type w.own (owned k type w.own w.is) w.there) w.there;
          under = says-name x.setup 0 set k f.0 f.1 f.2 h f.3;
        }

    soon : (i : ℕ) → law.probing i (after_ms now 250) ≡ law.probing i (now + 250)
    soon i = ap (law.probing i) (after-exact now 250 time (omega arith))

    sent_probe : output ≡ Probe (own_claim k) → Among (law.to_all (probe_of x.setup (own_claim k))) (law.out responder rules x (law.ticks tick))
    unfolding messages_for
    sent_probe e = in_out x ok (law.ticks tick) (Probe (own_claim k)) (probe_of x.setup (own_claim k)) e (inl refl)

    first-probe :
        (c : ClaimState) → claim_at x k ≡ c → law.Unclaimed (stage_of c) → Probing1 (after_ms now 250) ≡ after → output ≡ Probe (own_claim k)
        → Moved (law.ticks tick)
    first-probe c e w t o =
        law.probes_first (subst (λ (d : ClaimState). law.Unclaimed (stage_of d)) (sym e) w) (sent_probe o) (sym (ap stage_of t) ∙ soon 1)

    probed :
        (c : ClaimState) → claim_at x k ≡ c → claim_due c now ≡ true → taken_action c now ≡ action.Probe after → output ≡ Probe (own_claim k)
        → Moved (law.ticks tick)
    probed (Waiting u) e d t o = first-probe (Waiting u) e tt (cc) o
    probed (Probing1 u) e d t o =
        let z : Probing2 (after_ms now 250) ≡ after = cc in
        law.probes_again 1 u (ap stage_of e) (omega arith) (leb-true u now d) (sent_probe o) (sym (ap stage_of z) ∙ soon 2)
    probed (Probing2 u) e d t o =
        let z : Probing3 (after_ms now 250) ≡ after = cc in
        law.probes_again 2 u (ap stage_of e) (omega arith) (leb-true u now d) (sent_probe o) (sym (ap stage_of z) ∙ soon 3)
    probed (Probing3 u) e d t o = clash (cc)
    probed (Deferred u) e d t o = first-probe (Deferred u) e tt (cc) o
    probed (Announced u) e d t o = clash (cc)
    probed Held e d t o = clash (cc)
    probed Lost e d t o = clash (cc)

    announced :
        (c : ClaimState) → claim_at x k ≡ c → claim_due c now ≡ true → taken_action c now ≡ action.Announce after
        → output ≡ Response (records_of (own_claim k) aaaa') → Moved (law.ticks tick)
    announced (Waiting u) e d t o = clash (cc)
    announced (Probing1 u) e d t o = clash (cc)
    announced (Probing2 u) e d t o = clash (cc)
    announced (Probing3 u) e d t o =
        law.wins tick u refl (ap stage_of e) (leb-true u now d) (announcement o) (announce_held (Probing3 u) after now t)
    announced (Deferred u) e d t o = clash (cc)
    announced (Announced u) e d t o = clash (cc)
    announced Held e d t o = clash (cc)
    announced Lost e d t o = clash (cc)

    ticked : Move (own_claim k) aaaa' now (claim_at x k) after output → Moved (law.ticks tick)
    ticked (stays e n) = law.stays (ap stage_of e)
    ticked (answers set e h o) = law.stays (ap stage_of e)
    ticked (probes d t o) = probed (claim_at x k) refl d t o
    ticked (announces d t o) = announced (claim_at x k) refl d t o
    ticked (repeats d t o) = let h = repeat_held (claim_at x k) after now t in law.stays (h.1 ∙ sym h.0)

  told-by : (arrival : Arrival) (m : Message) → Hears x arrival m k → Moved (law.hears arrival m)
  told-by arrival m (same e g) = law.stays e
  told-by arrival m (yields c g) = law.hears_conflict arrival m refl c
  told-by arrival m (defers i u c p g) = law.hears_later arrival m i u refl c p

pub move : (x : State) (ok : valid_setup x.setup ≡ true) (k : Claim) (c : law.Step responder) → law.time_of responder c ≤ last_time → Fits x c → Moved x ok k c
move x ok k (law.ticks tick) time fits = ticked x ok k tick time (tick-move (own_claim k) x.setup.hasaaaa tick.time x.progress)
move x ok k (law.hears arrival m) time fits = told-by x ok k arrival m (heard x arrival m k)
move x ok k (law.serves arrival m) time fits =
    law.stays (ap stage_of (plain-claim arrival.time (facts_of x.setup m) x.setup.hasaaaa (own_claim k) x.progress))
move x ok host (law.updates u) time fits = law.stays (ap stage_of (changes.update-host x.progress u.time (change_of u.new)))
move x ok instance (law.updates u) time fits = renewing (held_now x.progress.instance) refl
  where
    renewing : (b : Bool) → held_now x.progress.instance ≡ b → Moved x ok instance (law.updates u)
    renewing true h =
        law.stays
        (ap stage_of (changes.update-announces x.progress u.time (change_of u.new) h).0 ∙ sym (stage_held x.progress.instance h))
    renewing false h =
        let exact : after_ms u.time x.progress.draw ≡ u.time + x.progress.draw = after-exact u.time x.progress.draw time (omega (arith, fits.2)) in
        law.restarts u (u.time + x.progress.draw) refl refl
        (λ e. never (sym h ∙ held_stage x.progress.instance e))
        (ap stage_of (changes.update-restarts x.progress u.time (change_of u.new) h fits.1).0 ∙ ap law.waiting exact)
        (omega (arith, fits.2))
