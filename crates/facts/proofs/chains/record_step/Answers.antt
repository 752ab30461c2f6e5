use mathlib.Core.Path.{ap, ◌∙◌}
use native.Mathlib.Omega.{arith}
use Rattle.wire.specs.message.Message.{ttl_of}
use Rattle.facts.proofs.chains.Walked.{record_stepped, record_room, record_unread}
use Rattle.facts.proofs.chains.record_step.Goals as goal

pub returns-then-ends-eq0 : goal.returns-then-ends-eq0
returns-then-ends-eq0 c = record_stepped _ _ _ c.whole_record.ensures

pub overflow_add-end : goal.overflow_add-end
overflow_add-end c = omega (arith, record_room _ _ _ c.past_labels-end.ensures (c.requires (omega arith)))

pub overflow_add-end-2 : goal.overflow_add-end-2
overflow_add-end-2 c = omega (arith, record_room _ _ _ c.past_labels-end.ensures (c.requires (omega arith)))

pub overflow_add-end-3 : goal.overflow_add-end-3
overflow_add-end-3 c = omega (arith, record_room _ _ _ c.past_labels-end.ensures (c.requires (omega arith)))

pub overflow_add-result : goal.overflow_add-result
overflow_add-result c = omega (arith, record_room _ _ _ c.past_labels-end.ensures (c.requires (omega arith)))

pub overflow_add-result-2 : goal.overflow_add-result-2
overflow_add-result-2 c = omega (arith, record_room _ _ _ c.past_labels-end.ensures (c.requires (omega arith)))

pub overflow_add-result-3 : goal.overflow_add-result-3
overflow_add-result-3 c = omega (arith, record_room _ _ _ c.past_labels-end.ensures (c.requires (omega arith)))

pub returns : goal.returns
returns c = record_unread _ _ _ c.past_labels-end.ensures (c.requires (omega arith)) _ _ _ _ c.be16.ensures c.be16-2.ensures
    (c.counted_ttl.ensures ∙ ap ttl_of c.be32.ensures) c.be16-rdlength.ensures
