-- What a message asks for, and which messages are judged at once: a query asks for what its facts say, a response for nothing; a probe is never held.
-- Assumes nothing.
use Prim.Native.Nat.{ℕ}
use mathlib.Core.Path.{◌≡◌, refl}
use mathlib.Core.Bool.{Bool, true, false, cond, not, ◌&&◌}
use native.Mathlib.Omega.{arith}
use Rattle.claims.specs.records.Own.{has}
use Rattle.claims.specs.records.Sets.{no_record}
use Rattle.claims.specs.holds.Holds.{some_from, some_free}
use Rattle.claims.specs.answers.Answers.{heard_for, gap_of, asks_of, gap_for, judged_of}
use Rattle.claims.specs.answers.Held.{to_hold, receive_of}
use Rattle.claims.specs.declared.records.Claim.{Claim}
use Rattle.claims.specs.declared.records.Claim.TheVariants.{Instance, Host}
use Rattle.claims.specs.declared.records.Own.{Own}
use Rattle.claims.specs.declared.holds.Holds.{Holds}
use Rattle.claims.specs.declared.Progress.{Progress}
use Rattle.claims.specs.declared.answers.Facts.{Facts}
use Rattle.claims.specs.declared.answers.Coming.{Coming}
use Rattle.claims.proofs.records.Sets.{has-each}

clash : {A : Type 0} → ◌≡◌ {A = Bool} false true → A
clash h = let z : ◌≡◌ {A = ℕ} 0 1 = cc in absurd (omega arith)

module _ (f : Facts) where
  -- a query asks for what its facts say
  pub query-asks : (r : Own) → f.response ≡ false → has r (asks_of f).asked ≡ has r f.asked
  unfolding asks_of
  query-asks r e = rw e

  -- and only a query asks
  pub asks-query : (r : Own) → has r (asks_of f).asked ≡ true → f.response ≡ false
  unfolding asks_of
  asks-query r = go f.response
    where
      go : (b : Bool) → has r (cond b no_record f.asked) ≡ true → b ≡ false
      go true h = clash (sym' (has-each (λ o. false) r) h)
        where
          sym' : {x : Bool} → x ≡ false → x ≡ true → false ≡ true
          sym' e g = cc
      go false h = refl

  pub asks-gap : (k : Claim) → gap_for k (asks_of f) ≡ gap_of (heard_for k f).probe
  unfolding asks_of
  asks-gap Instance = refl
  asks-gap Host = refl

  pub asks-known : (r : Own) → has r (asks_of f).known ≡ has r f.known
  unfolding asks_of
  asks-known r = refl

  module _ (holds : Holds) (c : Coming) where
    -- "A probe is never held", "Queries from other ports aren't held" and a response is none
    pub probe-judged : (k : Claim) → (heard_for k f).probe ≡ true → to_hold holds c f ≡ false
    unfolding to_hold
    probe-judged Instance e = rw e (go f.response f.truncated)
      where
        go : (r t : Bool) → (not r && (t && false)) ≡ false
        go true t = refl
        go false true = refl
        go false false = refl
    probe-judged Host e = rw e (go f.response f.truncated f.instance.probe (not (some_from c.from holds) && some_free holds))
      where
        go : (r t i x : Bool) → (not r && (t && ((not i && false) && x))) ≡ false
        go true t i x = refl
        go false true true x = refl
        go false true false x = refl
        go false false i x = refl

    pub response_judged : f.response ≡ true → to_hold holds c f ≡ false
    unfolding to_hold
    response_judged e = rw e

    -- one without TC, and "a fifth", are judged at once
    pub whole-judged : f.truncated ≡ false → to_hold holds c f ≡ false
    unfolding to_hold
    whole-judged e = rw e (go f.response)
      where
        go : (r : Bool) → (not r && false) ≡ false
        go true = refl
        go false = refl

    pub fifth_judged : some_free holds ≡ false → to_hold holds c f ≡ false
    unfolding to_hold
    fifth_judged e = rw e (go f.response f.truncated (not f.instance.probe && not f.host.probe) (some_from c.from holds))
      where
        go : (r t p x : Bool) → (not r && (t && (p && (not x && false)))) ≡ false
        go true t p x = refl
        go false false p x = refl
        go false true false x = refl
        go false true true true = refl
        go false true true false = refl

    -- "A later TC query from there starts no second hold"
    pub again-judged : some_from c.from holds ≡ true → to_hold holds c f ≡ false
    unfolding to_hold
    again-judged e = rw e (go f.response f.truncated (not f.instance.probe && not f.host.probe))
      where
        go : (r t p : Bool) → (not r && (t && (p && false))) ≡ false
        go true t p = refl
        go false false p = refl
        go false true false = refl
        go false true true = refl

  pub judged_is : (progress : Progress) (c : Coming) (aaaa : Bool) → to_hold progress.holds c f ≡ false → receive_of progress c f aaaa ≡ judged_of progress c f aaaa
  unfolding receive_of
  judged_is progress c aaaa e = rw e
