-- A packet received (specification, 'A claim's life' and 'Which answers go out'), on what the message says. Claims and answers are both judged on the state
-- that the call is given. Assumes nothing: these are definitions.
use Rattle.std.specs.Prelude.{ℕ, ◌*◌, Bool, true, false, cond, not, ◌&&◌, ◌||◌, Option, Some, None}
use Rattle.claims.specs.records.Own.{own_ttl, claim_for, present, has, each}
use Rattle.claims.specs.records.Sets.{no_record, at_once}
use Rattle.claims.specs.Time.{deferral, multicast_gap, defence_gap, after_ms, recently, sent_of, marked_all}
use Rattle.claims.specs.Claims.{held_now, claim_of, after_conflict, after_probe}
use Rattle.claims.specs.holds.Holds.{knowing_all}
use Rattle.claims.specs.declared.holds.Hold.{Hold}
use Rattle.claims.specs.declared.holds.Holds.{Holds}
use Rattle.claims.specs.declared.records.Claim.{Claim}
use Rattle.claims.specs.declared.records.Claim.TheVariants.{Instance, Host}
use Rattle.claims.specs.declared.records.Own.{Own}
use Rattle.claims.specs.declared.records.Own.TheVariants.{Ptr}
use Rattle.claims.specs.declared.records.Set.{Set}
use Rattle.claims.specs.declared.ClaimState.{ClaimState}
use Rattle.claims.specs.declared.Progress.{Progress}
use Rattle.claims.specs.declared.answers.Heard.{Heard}
use Rattle.claims.specs.declared.answers.Facts.{Facts}
use Rattle.claims.specs.declared.answers.Coming.{Coming}
use Rattle.claims.specs.declared.answers.Asks.{Asks}
use Rattle.claims.specs.declared.answers.Received.{Received}

-- what a message says to a claim
abbrev pub heard_for : Claim → Facts → Heard
heard_for Instance f = f.instance
heard_for Host f = f.host

-- A claim after a message. A response moves it where a record conflicts, "One message counts once per claim"; a query where it is a probe and "theirs is
-- later". `again` is now plus the start draw, `deferred` now plus 1,000.
unfoldable pub heard_of : ClaimState → Bool → Heard → ℕ → ℕ → ClaimState
heard_of c response h again deferred =
    cond response (cond h.conflict (after_conflict c again) c) (cond (h.probe && h.later) (after_probe c deferred) c)

-- "1,000 ms ago, 250 ms if the query is a probe for its claim"
abbrev pub gap_of : Bool → ℕ
gap_of probe = cond probe defence_gap multicast_gap

-- What a query asks for and knows, and the gap for each claim. "a question of a query": a response asks for nothing.
unfoldable pub asks_of : Facts → Asks
asks_of f = record {
  asked = cond f.response no_record f.asked;
  known = f.known;
  instancegap = gap_of f.instance.probe;
  hostgap = gap_of f.host.probe;
}

-- of a held query, which is no probe, what was kept
abbrev pub asks_of_hold : Hold → Asks
asks_of_hold h = record { asked = h.asked; known = h.known; instancegap = multicast_gap; hostgap = multicast_gap }

abbrev pub gap_for : Claim → Asks → ℕ
gap_for Instance q = q.instancegap
gap_for Host q = q.hostgap

-- "A record is due when its claim is held (PTR: the instance claim), a question of a query has its name, its type or 255, and class 1 or 255." AAAA "may be
-- missing".
abbrev pub is_due : Progress → Asks → Bool → Own → Bool
is_due progress q aaaa o = held_now (claim_of (claim_for o) progress) && (present o aaaa && has o q.asked)

-- "It is omitted exactly when (a) an Answer record in the query has equal name, class, type and rdata and twice its TTL is at least our own TTL, or (b)
-- it was multicast less than 1,000 ms ago, 250 ms if the query is a probe for its claim."
abbrev pub is_omitted : Progress → Asks → ℕ → Own → Bool
is_omitted progress q now o = has o q.known || recently (sent_of o progress.sent) now (gap_for (claim_for o) q)

-- the records that are due and not omitted
abbrev pub is_wanted : Progress → Asks → ℕ → Bool → Own → Bool
is_wanted progress q now aaaa o = is_due progress q aaaa o && not (is_omitted progress q now o)

unfoldable pub wanted_of : Progress → Asks → ℕ → Bool → Set
wanted_of progress q now aaaa = each (is_wanted progress q now aaaa)

-- ---- questions that want unicast (RFC 6762, section 5.4)

-- "a quarter of its TTL", in ms
abbrev pub quarter_ttl : Own → ℕ
quarter_ttl o = 250 * own_ttl o

-- "A record or NSEC asked for .. only by questions with it goes to the asker by unicast if it was multicast less than a quarter of its TTL ago, else by multicast."
abbrev pub is_to_asker : Progress → Facts → ℕ → Own → Bool
is_to_asker progress f now o = not (has o f.qm) && recently (sent_of o progress.sent) now (quarter_ttl o)

-- of the records that a query asks for those that go by unicast, if they go at all, or those that go by multicast
unfoldable pub asked_by : (unicast : Bool) → Progress → Facts → ℕ → Set
asked_by unicast progress f now = each (λ o. has o (asks_of f).asked && cond unicast (is_to_asker progress f now o) (not (is_to_asker progress f now o)))

-- what a query asks of all on the link, and what it asks for its sender alone: unicast answers "have no gap"
unfoldable pub multicast_asks : Progress → Facts → ℕ → Asks
multicast_asks progress f now = record {
  asked = asked_by false progress f now;
  known = f.known;
  instancegap = gap_of f.instance.probe;
  hostgap = gap_of f.host.probe;
}

unfoldable pub unicast_asks : Progress → Facts → ℕ → Asks
unicast_asks progress f now = record { asked = asked_by true progress f now; known = f.known; instancegap = 0; hostgap = 0 }

-- "PTR is set for a reply at now plus the draw, unless one is already set"
abbrev pub set_reply : Bool → Option ℕ → ℕ → Option ℕ
set_reply asks None due = cond asks (Some due) None
set_reply asks (Some was) due = Some was

-- The held queries after a message that is judged at once: a query, "with TC or without, a probe too, adds the known answers that it carries" to a held one of
-- its address.
unfoldable pub joined : Holds → Coming → Facts → Holds
joined holds c f = cond f.response holds (knowing_all c.from f.known holds)

-- "SRV, TXT, A, AAAA go out at once in one packet." "Receiving takes no due step." Unicast answers "go at once, PTR too, .. don't count as multicasts".
unfoldable pub judged_of : Progress → Coming → Facts → Bool → Received
judged_of progress c f aaaa =
    record {
      progress =
          record {
            instance = heard_of progress.instance f.response f.instance (after_ms c.now progress.draw) (after_ms c.now deferral);
            host = heard_of progress.host f.response f.host (after_ms c.now progress.draw) (after_ms c.now deferral);
            sent = marked_all (at_once (wanted_of progress (multicast_asks progress f c.now) c.now aaaa)) progress.sent c.now;
            reply = set_reply (has Ptr (wanted_of progress (multicast_asks progress f c.now) c.now aaaa)) progress.reply (after_ms c.now c.draw);
            holds = joined progress.holds c f;
            updated = progress.updated;
            draw = progress.draw;
            last = c.now;
          };
      answers = at_once (wanted_of progress (multicast_asks progress f c.now) c.now aaaa);
      unicast = wanted_of progress (unicast_asks progress f c.now) c.now aaaa;
    }

-- ---- a query from a port other than 5353: replies to plain resolvers

-- the records that are due: "Known answers in it are ignored", and it "neither starts nor obeys the 1,000 and 250 ms gaps"
unfoldable pub due_to : Progress → Asks → Bool → Set
due_to progress q aaaa = each (is_due progress q aaaa)

-- "PTR at once too". "Probes from such a port have no effect on any claim": nothing but the last time changes
unfoldable pub plain_of : Progress → ℕ → Facts → Bool → Received
plain_of progress now f aaaa = record {
  progress = record {
    instance = progress.instance;
    host = progress.host;
    sent = progress.sent;
    reply = progress.reply;
    holds = progress.holds;
    updated = progress.updated;
    draw = progress.draw;
    last = now;
  };
  answers = no_record;
  unicast = due_to progress (asks_of f) aaaa;
}
