use native.Mathlib.Omega.{arith}
use Rattle.wire.proofs.message.Sections.{message_short, message_long, message_header, message_sections}
use Rattle.wire.proofs.long_message.read_long.Goals.{then-p-lt-LEAST_MESSAGE-via-then-p-lt-LEAST_MESSAGE, then-p-lt-LEAST_MESSAGE-via-else-p-lt-LEAST_MESSAGE+then-p-gt-MOST_MESSAGE}
use Rattle.wire.proofs.long_message.read_long.Goals as goal

pub returns-then-p-lt-LEAST_MESSAGE : goal.returns-then-p-lt-LEAST_MESSAGE
returns-then-p-lt-LEAST_MESSAGE c = elim c.then-p-lt-LEAST_MESSAGE.branch [
  | then-p-lt-LEAST_MESSAGE-via-then-p-lt-LEAST_MESSAGE w ↦ message_short _ w.if-p-lt-LEAST_MESSAGE.true
  | then-p-lt-LEAST_MESSAGE-via-else-p-lt-LEAST_MESSAGE+then-p-gt-MOST_MESSAGE w ↦ message_long _ w.if-p-lt-LEAST_MESSAGE.false w.if-p-gt-MOST_MESSAGE.true
]

pub returns-then-not-plain_header : goal.returns-then-not-plain_header
returns-then-not-plain_header c = message_header _ (omega arith) (omega arith) _ c.be16.ensures _ c.plain_header.ensures (c.if-not-plain_header.true)

pub returns : goal.returns
returns c = message_sections _ (omega arith) (omega arith) _ c.be16.ensures _ c.plain_header.ensures (c.if-not-plain_header.false) _ c.read_sections.ensures
