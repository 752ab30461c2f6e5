-- What a message says to a responder (specification, 'A claim's life' and 'Which answers go out'), read off the message's lists: names equal with letters
-- folded, class by its low 15 bits, rdata equal with names expanded. Assumes nothing: these are definitions.
use Rattle.std.specs.Prelude.{ℕ, ◌*◌, ◌/◌, ◌%◌, List, Bool, true, false, cond, not, ◌&&◌, ◌||◌, leb, eqb}
use Rattle.wire.specs.case_folding.Fold.{same_name}
use Rattle.wire.specs.expansion.Equal.{same_bytes}
use Rattle.wire.specs.message.Message.{Question, Record, Message, class_of, is_response, all_records}
use Rattle.claims.specs.records.Own.{own_type, own_ttl, claim_for, carries_data, first_of, second_of, claimed, has, each}
use Rattle.claims.specs.records.Sets.{no_record}
use Rattle.claims.specs.declared.records.Claim.{Claim}
use Rattle.claims.specs.declared.records.Claim.TheVariants.{Instance, Host}
use Rattle.claims.specs.declared.records.Own.{Own}
use Rattle.claims.specs.declared.records.Set.{Set}
use Rattle.own.specs.declared.records.Setup.{Setup}
use Rattle.own.specs.records.Records.{has_record, own_name, own_rdata}
use Rattle.wire.specs.Lists.{some}
use Rattle.facts.specs.Questions.{takes_in, asks_by, is_qm}
use Rattle.facts.specs.tiebreak.Later.{TieRecord, tie, is_later}
use Rattle.facts.specs.probe.Probe.{is_probe}
use Rattle.facts.specs.tiebreak.Lists.{theirs, own_list}
use Rattle.claims.specs.declared.answers.Heard.{Heard}
use Rattle.claims.specs.declared.answers.Facts.{Facts}

-- a type that asks for none of the claim's records: "a type other than 255 absent there", as 255 asks for all
abbrev pub absent : Setup → Claim → ℕ → Bool
absent s c rtype = not (some (λ o. has_record s o && takes_in rtype (own_type o)) (claimed c))

-- a type that asks for the record: "its type or 255"; for an NSEC, any that is absent from its claim
abbrev pub type_asks : Setup → Own → ℕ → Bool
type_asks s o rtype = cond (carries_data o) (takes_in rtype (own_type o)) (absent s (claim_for o) rtype)

-- "a question of a query has its name, its type or 255, and class 1 or 255"
abbrev pub asks_own : Setup → Own → Question → Bool
asks_own s o q = asks_by (own_name s o) (type_asks s o q.rtype) q

-- those asked for before, and those that a question asks for
abbrev pub asked_with : Setup → Question → Set → Set
asked_with s q before = each (λ o. has o before || asks_own s o q)

unfoldable pub is_asked : Setup → Own → Message → Bool
is_asked s o m = some (asks_own s o) m.questions

-- a question of a kind asks for the record
unfoldable pub is_asked_as : (Question → Bool) → Setup → Own → Message → Bool
is_asked_as kind s o m = some (λ q. kind q && asks_own s o q) m.questions

-- "an Answer record in the query has equal name, class, type and rdata and twice its TTL is at least our own TTL"; the class of own records is 1
abbrev pub suppresses : List ℕ → ℕ → List ℕ → ℕ → Record → Bool
suppresses name rtype own ttl r =
    same_name r.owner name && (eqb (class_of r.class) 1 && (eqb r.rtype rtype && (same_bytes r.rdata own && leb ttl (2 * r.ttl))))

unfoldable pub is_known : Setup → Own → Message → Bool
is_known s o m = some (suppresses (own_name s o) (own_type o) (own_rdata s o) (own_ttl o)) m.answers

-- "conflicts when name, class 1 and type are the claim's, TTL is not 0 and rdata differs. A type the claim has no record of never conflicts."
abbrev pub conflicts : List ℕ → ℕ → List ℕ → Record → Bool
conflicts name rtype own r =
    same_name r.owner name && (eqb (class_of r.class) 1 && (eqb r.rtype rtype && (not (eqb r.ttl 0) && not (same_bytes r.rdata own))))

-- "A response record of any section"
unfoldable pub conflicted : Setup → Own → Message → Bool
conflicted s o m = has_record s o && some (conflicts (own_name s o) (own_type o) (own_rdata s o)) (all_records m)

-- "One message counts once per claim, however many records conflict."
abbrev pub in_conflict : Setup → Claim → Message → Bool
in_conflict s c m = some (λ o. conflicted s o m) (claimed c)

-- the claim's name
abbrev pub claim_name : Setup → Claim → List ℕ
claim_name s c = own_name s (first_of c)

-- the own list of a claim in the tiebreak: its two records, or the first alone where there is no second, of class 1
abbrev pub ours : Setup → Claim → List TieRecord
ours s c = own_list (own_type (first_of c)) (own_rdata s (first_of c)) (has_record s (second_of c)) (own_type (second_of c)) (own_rdata s (second_of c))

-- "theirs is later": their records under the name, against the own ones
unfoldable pub theirs_later : Setup → Claim → Message → Bool
theirs_later s c m = is_later (tie (theirs (claim_name s c) m) (ours s c))

-- what a response says to a claim, and what a query says
abbrev pub response_to : Setup → Claim → Message → Heard
response_to s c m = record { probe = false; later = false; conflict = in_conflict s c m }

abbrev pub query_to : Setup → Claim → Message → Heard
query_to s c m = record { probe = is_probe (claim_name s c) m; later = theirs_later s c m; conflict = false }

-- "the TC bit is set": more known answers follow in later packets (RFC 6762, section 7.2)
abbrev pub is_truncated : ℕ → Bool
is_truncated flags = eqb (flags / 512 % 2) 1

unfoldable pub response_facts : Setup → Message → Facts
response_facts s m = record {
  response = true;
  truncated = false;
  asked = no_record;
  qm = no_record;
  known = no_record;
  instance = response_to s Instance m;
  host = response_to s Host m;
}

unfoldable pub query_facts : Setup → Message → Facts
query_facts s m = record {
  response = false;
  truncated = is_truncated m.flags;
  asked = each (λ o. is_asked s o m);
  qm = each (λ o. is_asked_as is_qm s o m);
  known = each (λ o. is_known s o m);
  instance = query_to s Instance m;
  host = query_to s Host m;
}

-- What a message says: a response can only conflict; a query can ask, know and probe.
unfoldable pub facts_of : Setup → Message → Facts
facts_of s m = cond (is_response m.flags) (response_facts s m) (query_facts s m)
