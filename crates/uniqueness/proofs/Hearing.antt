-- What a message does to a claim, by what it says: laws `yields` and `defers`, and a message that says neither. Assumes nothing.
use mathlib.Core.Path.{◌≡◌, refl, sym, ap, subst, ◌∙◌}
use mathlib.Core.Bool.{Bool, true, false, cond, not, ◌&&◌}
use Prim.Native.Nat.{ℕ}
use Rattle.wire.specs.message.Message.{Message, is_response}
use Rattle.own.specs.declared.records.Setup.{Setup}
use Rattle.claims.specs.Time.{after_ms}
use Rattle.claims.specs.Claims.{held_now, after_conflict, after_probe}
use Rattle.claims.specs.declared.ClaimState.{ClaimState}
use Rattle.claims.specs.declared.ClaimState.TheVariants.{Waiting, Probing1, Probing2, Probing3, Deferred, Announced, Held, Lost}
use Rattle.claims.specs.declared.records.Claim as own
use Rattle.claims.specs.declared.records.Claim.TheVariants.{Instance, Host}
use Rattle.wire.specs.Lists.{some as some_of}
use Rattle.facts.specs.probe.Probe.{asks_all, under, is_probe}
use Rattle.claims.specs.answers.Answers.{heard_for, heard_of}
use Rattle.claims.specs.declared.answers.Heard.{Heard}
use Rattle.claims.specs.declared.answers.Facts.{Facts}
use Rattle.claims.proofs.answers.Receives.{receive-claim}
use Rattle.facts.specs.Facts.{in_conflict, theirs_later, response_to, query_to, response_facts, query_facts, facts_of}
use Rattle.responder.specs.declared.State.{State}
use Rattle.link.specs.Responder.{Claim}
use Rattle.link.specs.Laws.{Unclaimed, probing}
use Rattle.responder.specs.Handed.{Arrival, coming_of}
use Rattle.uniqueness.specs.Responder.{own_claim, name, conflicts, defeats}
use Rattle.uniqueness.specs.Rules.{with, told, stage_of, claim_at}
use Rattle.uniqueness.proofs.Lists.{clash, never, and_left, and_right}

-- ---- the facts of a response and of a query

response_facts_lem : (s : Setup) (m : Message) → is_response m.flags ≡ true → facts_of s m ≡ response_facts s m
unfolding facts_of
response_facts_lem s m e = rw e

pub query-facts : (s : Setup) (m : Message) → is_response m.flags ≡ false → facts_of s m ≡ query_facts s m
unfolding facts_of
query-facts s m e = rw e

response_heard : (k : own.Claim) (s : Setup) (m : Message) → ((response_facts s m).response ≡ true) × (heard_for k (response_facts s m) ≡ response_to s k m)
unfolding response_facts
response_heard Instance s m = (refl, refl)
response_heard Host s m = (refl, refl)

pub query-heard : (k : own.Claim) (s : Setup) (m : Message) → ((query_facts s m).response ≡ false) × (heard_for k (query_facts s m) ≡ query_to s k m)
unfolding query_facts
query-heard Instance s m = (refl, refl)
query-heard Host s m = (refl, refl)

-- ---- a claim after a message

module _ (x : State) (a : Arrival) (m : Message) (k : Claim) where
  abbrev f : Facts
  f = facts_of x.setup m

  abbrev pub after : ClaimState
  after = claim_at (with x (told x a m).progress) k

  abbrev again : ℕ
  again = after_ms a.time x.progress.draw

  abbrev later : ℕ
  later = after_ms a.time 1000

  heard-is : after ≡ heard_of (claim_at x k) f.response (heard_for (own_claim k) f) again later
  heard-is = receive-claim (coming_of a) f x.setup.hasaaaa (own_claim k) x.progress

  by-response : is_response m.flags ≡ true → after ≡ cond (in_conflict x.setup (own_claim k) m) (after_conflict (claim_at x k) again) (claim_at x k)
  unfolding heard_of
  by-response e =
      heard-is
      ∙ ap (λ (g : Facts). heard_of (claim_at x k) g.response (heard_for (own_claim k) g) again later) (response_facts_lem x.setup m e)
      ∙ ap (λ (b : Bool). heard_of (claim_at x k) b (heard_for (own_claim k) (response_facts x.setup m)) again later) (response_heard (own_claim k) x.setup m).0
      ∙ ap (λ (h : Heard). heard_of (claim_at x k) true h again later) (response_heard (own_claim k) x.setup m).1

  by-query : is_response m.flags ≡ false → after ≡ cond (defeats m x.setup k) (after_probe (claim_at x k) later) (claim_at x k)
  unfolding heard_of defeats
  by-query e =
      heard-is
      ∙ ap (λ (g : Facts). heard_of (claim_at x k) g.response (heard_for (own_claim k) g) again later) (query-facts x.setup m e)
      ∙ ap (λ (b : Bool). heard_of (claim_at x k) b (heard_for (own_claim k) (query_facts x.setup m)) again later) (query-heard (own_claim k) x.setup m).0
      ∙ ap (λ (h : Heard). heard_of (claim_at x k) false h again later) (query-heard (own_claim k) x.setup m).1

  -- what it does, as a case
  pub data Hears : Type 0 where
    same : stage_of after ≡ stage_of (claim_at x k) → held_now after ≡ held_now (claim_at x k) → Hears
    yields : conflicts m x.setup k ≡ true → Unclaimed (stage_of after) → Hears
    defers : (i u : ℕ) → defeats m x.setup k ≡ true → stage_of (claim_at x k) ≡ probing i u → Unclaimed (stage_of after) → Hears

  is-conflict : is_response m.flags ≡ true → conflicts m x.setup k ≡ in_conflict x.setup (own_claim k) m
  unfolding conflicts
  is-conflict e = rw e

  put_off : (c : ClaimState) → claim_at x k ≡ c → defeats m x.setup k ≡ true → after ≡ after_probe c later → Hears
  put_off (Waiting u) e d y = same (ap stage_of (y ∙ sym e)) (ap held_now (y ∙ sym e))
  put_off (Probing1 u) e d y = defers 1 u d (ap stage_of e) (subst (λ (c : ClaimState). Unclaimed (stage_of c)) (sym y) tt)
  put_off (Probing2 u) e d y = defers 2 u d (ap stage_of e) (subst (λ (c : ClaimState). Unclaimed (stage_of c)) (sym y) tt)
  put_off (Probing3 u) e d y = defers 3 u d (ap stage_of e) (subst (λ (c : ClaimState). Unclaimed (stage_of c)) (sym y) tt)
  put_off (Deferred u) e d y = same (ap stage_of (y ∙ sym e)) (ap held_now (y ∙ sym e))
  put_off (Announced u) e d y = same (ap stage_of (y ∙ sym e)) (ap held_now (y ∙ sym e))
  put_off Held e d y = same (ap stage_of (y ∙ sym e)) (ap held_now (y ∙ sym e))
  put_off Lost e d y = same (ap stage_of (y ∙ sym e)) (ap held_now (y ∙ sym e))

  given-up : (c : ClaimState) (u : ℕ) → Unclaimed (stage_of (after_conflict c u))
  given-up (Waiting v) u = tt
  given-up (Probing1 v) u = tt
  given-up (Probing2 v) u = tt
  given-up (Probing3 v) u = tt
  given-up (Deferred v) u = tt
  given-up (Announced v) u = tt
  given-up Held u = tt
  given-up Lost u = tt

  pub heard : Hears
  heard = go (is_response m.flags) refl
    where
      response : is_response m.flags ≡ true → (b : Bool) → in_conflict x.setup (own_claim k) m ≡ b → after ≡ cond b (after_conflict (claim_at x k) again) (claim_at x k) → Hears
      response e true c y = yields (is-conflict e ∙ c) (subst (λ (d : ClaimState). Unclaimed (stage_of d)) (sym y) (given-up (claim_at x k) again))
      response e false c y = same (ap stage_of y) (ap held_now y)

      query : (b : Bool) → defeats m x.setup k ≡ b → after ≡ cond b (after_probe (claim_at x k) later) (claim_at x k) → Hears
      query true d y = put_off (claim_at x k) refl d y
      query false d y = same (ap stage_of y) (ap held_now y)

      go : (b : Bool) → is_response m.flags ≡ b → Hears
      go true e =
          response e (in_conflict x.setup (own_claim k) m) refl (by-response e)
      go false e = query (defeats m x.setup k) refl (by-query e)

  -- "A held claim goes back to waiting ..; any other becomes lost for good."
  pub yields_to : conflicts m x.setup k ≡ true → Unclaimed (stage_of after)
  unfolding conflicts
  yields_to h =
      let e = and_left (is_response m.flags) (in_conflict x.setup (own_claim k) m) h in
      let c = and_right (is_response m.flags) (in_conflict x.setup (own_claim k) m) h in
      subst (λ (d : ClaimState). Unclaimed (stage_of d))
      (sym (by-response e ∙ ap (λ (b : Bool). cond b (after_conflict (claim_at x k) again) (claim_at x k)) c))
      (given-up (claim_at x k) again)

  -- a probe is a query
  pub probe-query : is_probe (name x.setup k) m ≡ true → is_response m.flags ≡ false
  unfolding is_probe
  probe-query h = go (is_response m.flags) h
    where
      go : (b : Bool) → (not b && (some_of (asks_all (name x.setup k)) m.questions && some_of (under (name x.setup k)) m.authorities)) ≡ true → b ≡ false
      go true e = never e
      go false e = refl

  deferred : (c : ClaimState) (i u v : ℕ) → stage_of c ≡ probing i u → Unclaimed (stage_of (after_probe c v))
  deferred (Waiting w) i u v e = tt
  deferred (Probing1 w) i u v e = tt
  deferred (Probing2 w) i u v e = tt
  deferred (Probing3 w) i u v e = tt
  deferred (Deferred w) i u v e = tt
  deferred (Announced w) i u v e = clash (cc)
  deferred Held i u v e = clash (cc)
  deferred Lost i u v e = tt

  defeated_is : defeats m x.setup k ≡ true → is_response m.flags ≡ false
  unfolding defeats
  defeated_is h = probe-query (and_left (is_probe (name x.setup k) m) (theirs_later x.setup (own_claim k) m) h)

  -- "While probing, if theirs is later, the claim is deferred"
  pub defers_to : defeats m x.setup k ≡ true → (i u : ℕ) → stage_of (claim_at x k) ≡ probing i u → Unclaimed (stage_of after)
  defers_to h i u p =
      subst (λ (d : ClaimState). Unclaimed (stage_of d))
      (sym (by-query (defeated_is h) ∙ ap (λ (b : Bool). cond b (after_probe (claim_at x k) later) (claim_at x k)) h))
      (deferred (claim_at x k) i u later p)
