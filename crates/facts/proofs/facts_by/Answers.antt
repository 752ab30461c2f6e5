use native.Mathlib.Omega.{arith}
use Rattle.wire.specs.message.Readable.{message_in}
use Rattle.facts.proofs.Asked.{asked-either}
use Rattle.facts.proofs.Said.{says-response, says-query}
use Rattle.facts.proofs.facts_by.Goals as goal

pub response_to-requires : goal.response_to-requires
response_to-requires c = c.requires

pub response_to-requires-then-l-ge32768 : goal.response_to-requires-then-l-ge32768
response_to-requires-then-l-ge32768 c = c.requires

pub returns-then-l-ge32768 : goal.returns-then-l-ge32768
unfolding message_in
returns-then-l-ge32768 c = let a = c.args in
    says-response a.setup (message_in a.p.now a.l) _ _ _ _ _ (omega arith) c.no_record.ensures c.no_record-then-l-ge32768.ensures c.no_record-then-l-ge32768-2.ensures
    c.response_to.ensures c.response_to-then-l-ge32768.ensures

pub asked_for-asked-requires : goal.asked_for-asked-requires
asked_for-asked-requires c = c.requires

pub known_of-requires : goal.known_of-requires
known_of-requires c = c.requires

pub heard_in-requires : goal.heard_in-requires
heard_in-requires c = c.requires

pub heard_in-requires-2 : goal.heard_in-requires-2
heard_in-requires-2 c = c.requires

pub returns : goal.returns
unfolding message_in
returns c = let a = c.args in
    let asked = c.asked_for-asked.ensures in
    says-query a.setup (message_in a.p.now a.l) _ _ _ _ _ _ (omega arith) c.is_truncated.ensures
    (asked-either a.setup (message_in a.p.now a.l) _ _ _ asked.qm_value asked.qu_value c.union.ensures) asked.qm_value c.known_of.ensures c.heard_in.ensures
    c.heard_in-2.ensures
