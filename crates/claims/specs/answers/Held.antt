-- Which queries are held, and what is kept of them (specification, 'Held queries'; RFC 6762, section 7.2). Assumes nothing: these are definitions.
use Rattle.std.specs.Prelude.{Bool, cond, not, ◌&&◌, Some}
use Rattle.claims.specs.records.Sets.{no_record}
use Rattle.claims.specs.Time.{after_ms}
use Rattle.claims.specs.holds.Holds.{some_from, some_free, queued}
use Rattle.claims.specs.answers.Answers.{judged_of}
use Rattle.claims.specs.declared.Progress.{Progress}
use Rattle.claims.specs.declared.holds.Hold.{Hold}
use Rattle.claims.specs.declared.holds.Holds.{Holds}
use Rattle.claims.specs.declared.answers.Facts.{Facts}
use Rattle.claims.specs.declared.answers.Coming.{Coming}
use Rattle.claims.specs.declared.answers.Received.{Received}

-- "A probe is never held": a probe for either own claim, in whatever state the claim is
abbrev pub no_probe : Facts → Bool
no_probe f = not f.instance.probe && not f.host.probe

-- "a query with TC, .. that is no probe for either own claim, if no query from that address is held and fewer than four are"
unfoldable pub to_hold : Holds → Coming → Facts → Bool
to_hold holds c f = not f.response && (f.truncated && (no_probe f && (not (some_from c.from holds) && some_free holds)))

-- "It is due at now plus the second draw. What is kept is what it asked for and knows, for each own record": of a claim that is not held then too.
abbrev pub hold_of : Coming → Facts → Hold
hold_of c f = record { from = c.from; due = Some (after_ms c.now c.hold); asked = f.asked; known = f.known }

-- a query that is held is not answered at once and sets no reply
unfoldable pub held_back : Progress → Coming → Facts → Received
held_back progress c f = record {
  progress = record {
    instance = progress.instance;
    host = progress.host;
    sent = progress.sent;
    reply = progress.reply;
    holds = queued (hold_of c f) progress.holds;
    updated = progress.updated;
    draw = progress.draw;
    last = c.now;
  };
  answers = no_record;
  unicast = no_record;
}

unfoldable pub receive_of : Progress → Coming → Facts → Bool → Received
receive_of progress c f aaaa = cond (to_hold progress.holds c f) (held_back progress c f) (judged_of progress c f aaaa)
