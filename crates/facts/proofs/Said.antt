-- What a message says, put together. Assumes nothing.
use mathlib.Core.Path.{◌≡◌, refl, sym, ap, ◌∙◌}
use mathlib.Core.List.{List, [], ◌∷◌}
use mathlib.Core.Bool.{Bool, true, false, cond, not, ◌&&◌, and-false}
use Prim.Native.Nat.{ℕ, ◌<◌, ◌≤◌}
use borrow.Author.Tests.{le-leb, lt-leb}
use Rattle.wire.specs.Lists.{some}
use Rattle.wire.specs.message.Message.{Record, Message, is_response}
use Rattle.wire.specs.message.Layout.{record_at}
use Rattle.wire.specs.message.Readable.{message_in}
use Rattle.wire.specs.declared.message.Layout.{Layout}
use Rattle.wire.proofs.message.Walk.{readable-none}
use Rattle.claims.specs.records.Own.{own_type, own_ttl, each}
use Rattle.claims.specs.records.Sets.{no_record}
use Rattle.claims.specs.declared.answers.Heard.{Heard}
use Rattle.claims.specs.declared.answers.Facts.{Facts}
use Rattle.claims.specs.declared.records.Claim.{Claim}
use Rattle.claims.specs.declared.records.Claim.TheVariants.{Instance, Host}
use Rattle.claims.specs.declared.records.Set.{Set}
use Rattle.own.specs.declared.records.Setup.{Setup}
use Rattle.own.specs.records.Records.{own_name, own_rdata}
use Rattle.facts.specs.Questions.{is_qm}
use Rattle.facts.specs.probe.Probe.{under, asks_all, is_probe}
use Rattle.facts.specs.tiebreak.Later.{TieRecord, is_later, in_turn, compare_records, sort_by, tie}
use Rattle.facts.specs.tiebreak.Lists.{list_under}
use Rattle.facts.specs.Facts.{is_asked, is_asked_as, suppresses, is_known, claim_name, ours, theirs_later}
use Rattle.facts.specs.Facts.{response_to, query_to, is_truncated, response_facts, query_facts, facts_of}

module _ (s : Setup) (m : Message) (asked qm known : Set) (i h : Heard) where
  pub says-response : 32768 ≤ m.flags → asked ≡ no_record → qm ≡ no_record → known ≡ no_record → i ≡ response_to s Instance m → h ≡ response_to s Host m
      → ◌≡◌ {A = Facts} (record { response = true; truncated = false; asked = asked; qm = qm; known = known; instance = i; host = h }) (facts_of s m)
  unfolding facts_of response_facts
  says-response r ea eq ek ei eh =
      (λ j. record { response = true; truncated = false; asked = ea j; qm = eq j; known = ek j; instance = ei j; host = eh j })
      ∙ sym (ap (λ (b : Bool). cond b (response_facts s m) (query_facts s m)) (le-leb 32768 m.flags r))

  pub says-query : (t : Bool) → m.flags < 32768 → t ≡ is_truncated m.flags → asked ≡ each (λ o. is_asked s o m) → qm ≡ each (λ o. is_asked_as is_qm s o m) → known ≡ each (λ o. is_known s o m) → i ≡ query_to s Instance m → h ≡ query_to s Host m
      → ◌≡◌ {A = Facts} (record { response = false; truncated = t; asked = asked; qm = qm; known = known; instance = i; host = h }) (facts_of s m)
  unfolding facts_of query_facts
  says-query t r et ea eq ek ei eh =
      (λ j. record { response = false; truncated = et j; asked = ea j; qm = eq j; known = ek j; instance = ei j; host = eh j })
      ∙ sym (ap (λ (b : Bool). cond b (response_facts s m) (query_facts s m)) (lt-leb 32768 m.flags r))

-- without an Answer record nothing is known
pub none-known : (s : Setup) (p : List ℕ) (l : Layout) → l.answers.count ≤ 0 → (none : Set) → none ≡ no_record → none ≡ each (λ o. is_known s o (message_in p l))
unfolding is_known message_in some
none-known s p l h none e =
    e ∙ (λ i. each (λ o. some (suppresses (own_name s o) (own_type o) (own_rdata s o) (own_ttl o)) (sym (readable-none (record_at p) l.answers.count l.answers.at h) i)))

-- a list that has run out is not later
not-later : (own : List TieRecord) → is_later (in_turn compare_records [] own) ≡ false
unfolding in_turn
not-later [] = refl
not-later (x ∷ own) = refl

-- without an Authority record a query is no probe, and nothing is later
no_probe_lem : (name : List ℕ) (m : Message) → m.authorities ≡ [] → false ≡ is_probe name m
unfolding is_probe some
no_probe_lem name m e =
    let ask : Bool = some (asks_all name) m.questions in
    sym (ap (λ (rs : List Record). not (is_response m.flags) && (ask && some (under name) rs)) e
    ∙ ap (λ (b : Bool). not (is_response m.flags) && b) (and-false ask) ∙ and-false (not (is_response m.flags)))

none-later : (s : Setup) (c : Claim) (m : Message) → m.authorities ≡ [] → false ≡ theirs_later s c m
unfolding theirs_later tie list_under sort_by
none-later s c m e =
    sym (ap (λ (rs : List Record). is_later (tie (list_under (claim_name s c) rs) (ours s c))) e ∙ not-later (sort_by compare_records (ours s c)))

pub no_authority : (s : Setup) (c : Claim) (p : List ℕ) (l : Layout) → l.authorities.count ≤ 0
    → ◌≡◌ {A = Heard} (record { probe = false; later = false; conflict = false }) (query_to s c (message_in p l))
unfolding message_in
no_authority s c p l h =
    let none = readable-none (record_at p) l.authorities.count l.authorities.at h in
    λ i. record { probe = no_probe_lem (claim_name s c) (message_in p l) none i; later = none-later s c (message_in p l) none i; conflict = false }
