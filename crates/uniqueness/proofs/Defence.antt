-- A held claim answers a probe for its name with each of its records: to the asker where the record was multicast less than a quarter of its TTL ago, else to
-- all, since a quarter of a TTL is more than the 250 ms for which a record may be left out. Assumes nothing.
use Rattle.std.specs.Prelude.{Option, Some, None}
use mathlib.Core.Path.{◌≡◌, refl, sym, ap, subst, ◌∙◌}
use mathlib.Core.Logic.{◌⊎◌, inl, inr}
use mathlib.Core.Bool.{Bool, true, false, ◌&&◌, ◌||◌}
use mathlib.Core.Option.{some}
use mathlib.Core.List.{List}
use Prim.Native.Nat.{ℕ, ◌-◌, ◌≤◌}
use native.Mathlib.Omega.{arith}
use lib.Dec.{eqb}
use borrow.Author.Tests.{ltb-false, le-ltb}
use Rattle.wire.specs.case_folding.Fold.{same_name}
use Rattle.wire.specs.message.Message.{Message}
use Rattle.own.specs.declared.records.Setup.{Setup}
use Rattle.own.specs.records.Setups.{valid_setup}
use Rattle.claims.specs.Time.{recently, sent_of}
use Rattle.claims.specs.Claims.{claim_of, held_now}
use Rattle.claims.specs.records.Own.{own_type, claim_for, has}
use Rattle.claims.specs.declared.records.Claim as own
use Rattle.claims.specs.declared.records.Own.{Own}
use Rattle.wire.specs.Lists.{some as some_of}
use Rattle.claims.specs.answers.Answers.{heard_for, wanted_of, unicast_asks, quarter_ttl, judged_of}
use Rattle.claims.specs.declared.answers.Received as received
use Rattle.claims.proofs.answers.Asking.{probe-judged, judged_is}
use Rattle.claims.specs.declared.answers.Heard.{Heard}
use Rattle.claims.specs.declared.answers.Facts.{Facts}
use Rattle.claims.proofs.answers.Causes.{at-once}
use Rattle.facts.specs.probe.Probe.{is_probe}
use Rattle.facts.specs.Questions.{is_qm}
use Rattle.facts.specs.Facts.{is_asked, is_asked_as, is_known, claim_name, query_facts, facts_of}
use Rattle.writer.specs.own_packets.Own.{probe_of}
use Rattle.responder.specs.Causes.{is_due, has_cause, is_to_asker, is_wanted, is_unicast}
use Rattle.responder.specs.declared.State.{State}
use Rattle.responder.proofs.Causes.{wanted_exactly, unicast-exactly}
use Rattle.link.specs.Responder.{Claim, Destination, everyone, unicast}
use Rattle.link.specs.Laws as law
use Rattle.responder.specs.Handed.{Arrival, coming_of}
use Rattle.uniqueness.specs.Responder.{own_claim, halves, rdata, name, responder}
use Rattle.uniqueness.specs.Rules.{told, claim_at, rules}
use Rattle.uniqueness.proofs.Owned.{Owned, srv, txt, a, aaaa, owned, Has, has-data, own_claim_lem, own_owner, own_carries, own_at_once}
use Rattle.uniqueness.proofs.Data.{no_response, is-probe}
use Rattle.uniqueness.proofs.Hearing.{query-facts, query-heard}
use Rattle.uniqueness.proofs.Facts.{held_stage, query-flag}
use Rattle.uniqueness.proofs.Sent.{told-all, told-asker}

-- a probe knows no answer
knows_none : (t : Setup) (k : Claim) (s : Setup) (r : Own) → is_known s r (probe_of t (own_claim k)) ≡ false
unfolding is_known probe_of some_of
knows_none t k s r = refl

type_any : (b : Bool) → ((b || true) && true) ≡ true
type_any true = refl
type_any false = refl

-- it asks for every record of the claim
asks-all : (t s : Setup) (k : Claim) (type : ℕ) (r : Own) → Owned k type r → same_name (name t k) (name s k) ≡ true → is_asked s r (probe_of t (own_claim k)) ≡ true
unfolding is_asked probe_of some_of
asks-all t s k type r o n = rw (own_owner s k type r o, own_carries k type r o, n, type_any (eqb 255 (own_type r))) refl

-- and wants unicast: no question without the bit asks for any
asks-unicast : (t s : Setup) (k : Claim) (r : Own) → is_asked_as is_qm s r (probe_of t (own_claim k)) ≡ false
unfolding is_asked_as probe_of some_of
asks-unicast t s k r = refl

-- the quarters of their TTLs are 30,000 and 1,125,000 ms
long_quarter : (k : Claim) (type : ℕ) (r : Own) → Owned k type r → 250 ≤ quarter_ttl r
long_quarter k type r (srv e) = omega arith
long_quarter k type r (txt e) = omega arith
long_quarter k type r (a e) = omega arith
long_quarter k type r (aaaa e) = omega arith

-- what is not recent by a longer gap is not by a shorter one
not-recent : (w : Option ℕ) (now gap longer : ℕ) → gap ≤ longer → recently w now longer ≡ false → recently w now gap ≡ false
not-recent None now gap longer l h = refl
not-recent (Some u) now gap longer l h = le-ltb (now - u) gap (let z : longer ≤ now - u = ltb-false (now - u) longer h in omega arith)

module _ (x : State) (ok : valid_setup x.setup ≡ true) (arrival : Arrival) (port : arrival.port ≡ 5353) (t : Setup) (k : Claim) (type : ℕ) (d : List ℕ) where
  abbrev now : ℕ
  now = arrival.time

  abbrev m : Message
  m = probe_of t (own_claim k)

  abbrev f : Facts
  f = facts_of x.setup m

  facts : f ≡ query_facts x.setup m
  facts = query-facts x.setup m (no_response t k)

  abbrev Told : Destination → Type 0
  Told to = law.Tells responder rules x.setup x (law.hears arrival m) k type to

  pub defends :
      same_name (name t k) (name x.setup k) ≡ true → rdata x.setup k type ≡ some d → rules.stage x k ≡ law.held
      → Told everyone ⊎ Told (unicast (halves arrival.from) 5353)
  unfolding is_due has_cause is_to_asker judged_of
  defends n e h = go (recently (sent_of w.own x.progress.sent) now (quarter_ttl w.own)) refl
    where
      w : Has x.setup k type d
      w = has-data x.setup k type d e

      o : Owned k type w.own
      o = owned k type w.own w.is

      claim : claim_for w.own ≡ own_claim k
      claim = own_claim_lem k type w.own o

      held_then : held_now (claim_of (claim_for w.own) x.progress) ≡ true
      held_then = subst (λ (j : own.Claim). held_now (claim_of j x.progress) ≡ true) (sym claim) (held_stage (claim_at x k) h)

      is-due : is_due x m w.own ≡ true
      is-due = rw (query-flag t (own_claim k), held_then, w.there, asks-all t x.setup k type w.own o n) refl

      probe : (heard_for (claim_for w.own) f).probe ≡ true
      probe =
          ap (λ (j : own.Claim). (heard_for j f).probe) claim ∙ ap (λ (g : Facts). (heard_for (own_claim k) g).probe) facts
          ∙ ap (λ (g : Heard). g.probe) (query-heard (own_claim k) x.setup m).1 ∙ is-probe t x.setup k n

      -- a probe is judged at once
      judged : told x arrival m ≡ judged_of x.progress (coming_of arrival) f x.setup.hasaaaa
      judged =
          judged_is f x.progress (coming_of arrival) x.setup.hasaaaa
          (probe-judged f x.progress.holds (coming_of arrival) (claim_for w.own) probe)

      own_probe : is_probe (claim_name x.setup (claim_for w.own)) m ≡ true
      own_probe = ap (λ (j : own.Claim). is_probe (claim_name x.setup j) m) claim ∙ is-probe t x.setup k n

      in_reply : (r : Own)
          → has r (judged_of x.progress (coming_of arrival) f x.setup.hasaaaa).unicast
          ≡ has r (wanted_of x.progress (unicast_asks x.progress f now) now x.setup.hasaaaa)
      in_reply r = refl

      goes_to_asker : recently (sent_of w.own x.progress.sent) now (quarter_ttl w.own) ≡ true → is_unicast x now m w.own ≡ true
      goes_to_asker g = rw (is-due, asks-unicast t x.setup k w.own, g, knows_none t k x.setup w.own) refl

      goes_to_all : recently (sent_of w.own x.progress.sent) now (quarter_ttl w.own) ≡ false → is_wanted x now m w.own ≡ true
      goes_to_all g =
          let late : recently (sent_of w.own x.progress.sent) now 250 ≡ false =
          not-recent (sent_of w.own x.progress.sent) now 250 (quarter_ttl w.own) (long_quarter k type w.own o) g in
          rw (is-due, asks-unicast t x.setup k w.own, g, knows_none t k x.setup w.own, own_probe, late) refl

      go : (b : Bool) → recently (sent_of w.own x.progress.sent) now (quarter_ttl w.own) ≡ b
          → Told everyone ⊎ Told (unicast (halves arrival.from) 5353)
      go true g =
          inr
          (subst (λ (p : ℕ). Told (unicast (halves arrival.from) p)) port
          (told-asker x ok k type w.own w.is arrival m w.there
          (ap (λ (r : received.Received). has w.own r.unicast) judged ∙ (in_reply w.own ∙ unicast-exactly x now m w.own ∙ goes_to_asker g))))
      go false g =
          inl
          (told-all x ok k type w.own w.is (law.hears arrival m) w.there (told x arrival m).answers refl
          (ap (λ (r : received.Received). has w.own r.answers) judged
          ∙ (at-once x.progress (coming_of arrival) f x.setup.hasaaaa w.own (own_at_once k type w.own o)
          ∙ wanted_exactly x now m w.own
          ∙ goes_to_all g)))
