-- Which records a message brings out of a responder (specification, 'Which answers go out'), said of the message and the state: due, and not omitted for a cause.
-- Assumes nothing: these are definitions.
use Rattle.std.specs.Prelude.{ℕ, Bool, not, ◌&&◌, ◌||◌}
use Rattle.wire.specs.message.Message.{Message, is_response}
use Rattle.own.specs.records.Records.{has_record}
use Rattle.claims.specs.Time.{recently, sent_of}
use Rattle.claims.specs.Claims.{held_now, claim_of}
use Rattle.claims.specs.records.Own.{claim_for}
use Rattle.claims.specs.declared.records.Own.{Own}
use Rattle.claims.specs.answers.Answers.{gap_of, quarter_ttl}
use Rattle.facts.specs.probe.Probe.{is_probe}
use Rattle.facts.specs.Questions.{is_qm}
use Rattle.facts.specs.Facts.{is_asked, is_asked_as, is_known, claim_name}
use Rattle.responder.specs.declared.State.{State}

-- "A record is due when its claim is held (PTR: the instance claim), a question of a query has its name, its type or 255, and class 1 or 255."
unfoldable pub is_due : State → Message → Own → Bool
is_due s m o = not (is_response m.flags) && (held_now (claim_of (claim_for o) s.progress) && (has_record s.setup o && is_asked s.setup o m))

-- "It is omitted exactly when (a) an Answer record in the query has equal name, class, type and rdata and twice its TTL is at least our own TTL, or (b) it was
-- multicast less than 1,000 ms ago, 250 ms if the query is a probe for its claim."
unfoldable pub has_cause : State → ℕ → Message → Own → Bool
has_cause s time m o =
    is_known s.setup o m || recently (sent_of o s.progress.sent) time (gap_of (is_probe (claim_name s.setup (claim_for o)) m))

-- "A record or NSEC asked for from port 5353 only by questions with" the top bit of their class "goes to the asker by unicast if it was multicast less than a quarter
-- of its TTL ago, else by multicast."
unfoldable pub is_to_asker : State → ℕ → Message → Own → Bool
is_to_asker s time m o = not (is_asked_as is_qm s.setup o m) && recently (sent_of o s.progress.sent) time (quarter_ttl o)

-- due and not omitted, by multicast; and by unicast, for which there is no gap
abbrev pub is_wanted : State → ℕ → Message → Own → Bool
is_wanted s time m o = is_due s m o && (not (is_to_asker s time m o) && not (has_cause s time m o))

abbrev pub is_unicast : State → ℕ → Message → Own → Bool
is_unicast s time m o = is_due s m o && (is_to_asker s time m o && not (is_known s.setup o m))
