-- Our responder meets the laws of `link`, so demand 3 holds of it. Assumes nothing.
use Rattle.std.specs.Prelude.{Option, Some}
use mathlib.Core.Path.{◌≡◌, refl, sym, ap, subst, ◌∙◌}
use mathlib.Core.Logic.{◌⊎◌, inl, inr}
use mathlib.Core.Bool.{true}
use mathlib.Core.Option.{some}
use mathlib.Core.List.{List, [], ◌∷◌}
use Prim.Native.Nat.{ℕ, ◌+◌, ◌≤◌}
use Rattle.wire.specs.case_folding.Fold.{same_name}
use Rattle.wire.proofs.case_folding.Equal.{same_sym}
use Rattle.own.specs.declared.records.Setup.{Setup}
use Rattle.own.specs.records.Setups.{valid_setup}
use Rattle.claims.specs.Claims.{due_of}
use Rattle.claims.specs.declared.Progress.{Progress}
use Rattle.claims.specs.steps.Steps.{steps, step_due}
use Rattle.claims.specs.declared.steps.Step.{Step}
use Rattle.claims.specs.declared.steps.Step.TheVariants.{OfClaim}
use Rattle.claims.specs.declared.ClaimState.{ClaimState}
use Rattle.claims.specs.declared.ClaimState.TheVariants.{Waiting, Probing1, Probing2, Probing3, Deferred, Announced, Held, Lost}
use Rattle.responder.specs.declared.State.{State}
use Rattle.link.specs.Responder.{Claim, instance, host, everyone, unicast}
use Rattle.link.specs.Premises.{Among}
use Rattle.link.specs.Laws as law
use Rattle.link.proofs.Demand3 as link
use Rattle.link.proofs.Joined as joining
use Rattle.uniqueness.specs.Responder.{own_claim, halves, changes, revise, listed, due_times, due, rdata, name, conflicts, defeats, responder}
use Rattle.uniqueness.specs.Statement.{Theorem, JoinedTheorem, FloorsTheorem}
use Rattle.uniqueness.specs.Rules.{stage_of, claim_at, Of, Ready, rules}
use Rattle.uniqueness.proofs.Lists.{clash, in_append, in_tail}
use Rattle.uniqueness.proofs.Owned.{owned, Has, has-data, one-claim}
use Rattle.uniqueness.proofs.Data.{tie-law, conflict_law}
use Rattle.uniqueness.proofs.Calls.{begun, ticked, received, updated}
use Rattle.uniqueness.proofs.Renewal.{revise-name, revise-other, revise-carries, revise-carried, revise-probe, renewal}
use Rattle.uniqueness.proofs.Hearing.{yields_to, defers_to}
use Rattle.uniqueness.proofs.Sent.{said}
use Rattle.uniqueness.proofs.Moves.{move}
use Rattle.uniqueness.proofs.Defence.{defends}

-- ---- the due steps

due-among : (s : Step) (ss : List Step) (progress : Progress) (u : ℕ) → Among s ss → step_due s progress ≡ Some u → Among u (due_times ss progress)
unfolding due_times
due-among s [] progress u h e = absurd h
due-among s (i ∷ is) progress u (inl q) e =
    in_append u (listed (step_due i progress)) (due_times is progress)
    (subst (λ (w : Option ℕ). Among u (listed w)) (sym (ap (λ (j : Step). step_due j progress) (sym q) ∙ e)) (inl refl))
due-among s (i ∷ is) progress u (inr h) e = in_tail u (listed (step_due i progress)) (due_times is progress) (due-among s is progress u h e)

among_steps : (k : Claim) → Among (OfClaim (own_claim k)) steps
among_steps instance = inl refl
among_steps host = inr (inl refl)

due_in_lem : (x : State) (k : Claim) (u : ℕ) → due_of (claim_at x k) ≡ Some u → Among u (due x)
unfolding due
due_in_lem x k u e = due-among (OfClaim (own_claim k)) steps x.progress u (among_steps k) e

waiting_due : (c : ClaimState) (u : ℕ) → stage_of c ≡ law.waiting u → due_of c ≡ Some u
waiting_due (Waiting v) u e = cc
waiting_due (Probing1 v) u e = clash (cc)
waiting_due (Probing2 v) u e = clash (cc)
waiting_due (Probing3 v) u e = clash (cc)
waiting_due (Deferred v) u e = clash (cc)
waiting_due (Announced v) u e = clash (cc)
waiting_due Held u e = clash (cc)
waiting_due Lost u e = clash (cc)

probing_due : (c : ClaimState) (i u : ℕ) → stage_of c ≡ law.probing i u → due_of c ≡ Some u
probing_due (Waiting v) i u e = clash (cc)
probing_due (Probing1 v) i u e = cc
probing_due (Probing2 v) i u e = cc
probing_due (Probing3 v) i u e = cc
probing_due (Deferred v) i u e = clash (cc)
probing_due (Announced v) i u e = clash (cc)
probing_due Held i u e = clash (cc)
probing_due Lost i u e = clash (cc)

-- ---- the laws

one-claim_law : (s t : Setup) (k l : Claim) (type : ℕ) (d e : List ℕ) → rdata s k type ≡ some d → rdata t l type ≡ some e → k ≡ l
one-claim_law s t k l type d e p q =
    let mine : Has s k type d = has-data s k type d p in
    let yours : Has t l type e = has-data t l type e q in
    one-claim k l type mine.own yours.own (owned k type mine.own mine.is) (owned l type yours.own yours.is)

kept : (s : Setup) (x : State) (c : law.Step responder) → Ready x s c → Of (law.next responder rules x c) (law.data_after responder c s)
kept s x (law.ticks t) r = record { setup = r.of.setup; valid = r.of.valid }
kept s x (law.hears a m) r = record { setup = r.of.setup; valid = r.of.valid }
kept s x (law.serves a m) r = record { setup = r.of.setup; valid = r.of.valid }
kept s x (law.updates u) r = record { setup = ap (revise u) r.of.setup; valid = r.fits.0 }

-- what is proved for the state's own set-up holds for the set-up that it is of
pub lawful : law.Lawful responder rules
lawful =
    record {
      name_sym = same_sym;
      one_claim = one-claim_law;
      tie = λ s t k type d e v w n p q g. tie-law s t k type d e n p q g;
      conflict = λ m s t k type d e v w n p q g c. conflict_law m s t k type d e n p q g c;
      begun = begun;
      ticked = ticked;
      received = received;
      updated = updated;
      revise_name = revise-name;
      revise_other = revise-other;
      revise_carries = revise-carries;
      revise_carried = revise-carried;
      revise_probe = revise-probe;
      renewed = λ s x u r.
          subst
          (λ (t : Setup). ((due : ℕ) × (rules.stage (law.next responder rules x (law.updates u)) instance ≡ law.waiting due) × (due ≤ u.time + law.most_draw))
          ⊎ ((rules.stage x instance ≡ law.held)
          × (rules.stage (law.next responder rules x (law.updates u)) instance ≡ law.held)
          × law.Tells responder rules (revise u t) x (law.updates u) instance (changes u) everyone))
          r.of.setup (renewal x r.of.valid u r.time r.fits);
      valid = λ x s of. subst (λ (t : Setup). valid_setup t ≡ true) of.setup of.valid;
      kept = kept;
      move = λ s x c k r. subst (λ (t : Setup). law.Move responder rules t x c k) r.of.setup (move x r.of.valid k c r.time r.fits);
      said = λ s x c k q r h e.
          subst (λ (t : Setup). responder.responds q.message (name t k) ≡ true → rules.stage (law.next responder rules x c) k ≡ law.held) r.of.setup
          (said x r.of.valid c r.fits k q h) e;
      yields = λ s x a m k r h.
          subst (λ (t : Setup). conflicts m t k ≡ true → law.Unclaimed (rules.stage (law.next responder rules x (law.hears a m)) k)) r.of.setup
          (yields_to x a m k) h;
      defers = λ s x a m k i u r h p.
          subst (λ (t : Setup). defeats m t k ≡ true → law.Unclaimed (rules.stage (law.next responder rules x (law.hears a m)) k)) r.of.setup
          (λ e. defers_to x a m k e i u p) h;
      defends = λ s x a t k type d r v n e h.
          subst
          (λ (q : Setup). same_name (name t k) (name q k) ≡ true
          → rdata q k type ≡ some d
          → law.Tells responder rules q x (law.hears a (rules.probe t k)) k type everyone
          ⊎ law.Tells responder rules q x (law.hears a (rules.probe t k)) k type (unicast (halves a.from) 5353))
          r.of.setup (λ f g. defends x r.of.valid a r.fits t k type d f g h) n e;
      due_waiting = λ x k u e. due_in_lem x k u (waiting_due (claim_at x k) u e);
      due_probing = λ x k i u e. due_in_lem x k u (probing_due (claim_at x k) i u e);
    }

-- Demand 3: for every list of starts, ticks, packets received and power cuts of our responders that meets the premises, both conclusions hold.
pub demand_3 : Theorem
demand_3 = link.demand_3 responder rules lawful

-- Two links joined: who takes a multicast of a differing record from the other does not hold after that call, and both never hold together again.
pub links_joined : JoinedTheorem
links_joined = joining.joined responder rules lawful

pub two_floors_joined : FloorsTheorem
two_floors_joined = joining.two_floors_joined responder rules lawful
