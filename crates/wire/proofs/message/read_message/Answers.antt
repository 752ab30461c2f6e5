use Rattle.wire.proofs.message.Sections.{message_short, message_header, message_sections}
use Rattle.wire.proofs.message.Refused.{number_is}
use native.Mathlib.Omega.{arith}
use Rattle.wire.proofs.message.read_message.Goals as goal

pub returns-then-p-lt-LEAST_MESSAGE : goal.returns-then-p-lt-LEAST_MESSAGE
returns-then-p-lt-LEAST_MESSAGE c = let h = message_short _ c.if-p-lt-LEAST_MESSAGE.true in record { answer = h; number = number_is _ _ h }

pub returns-then-p-gt-MOST_IN_FRAME : goal.returns-then-p-gt-MOST_IN_FRAME
returns-then-p-gt-MOST_IN_FRAME c = let h = c.read_long.ensures in record { answer = h; number = number_is _ _ h }

pub returns-then-not-plain_header : goal.returns-then-not-plain_header
returns-then-not-plain_header c = let h = message_header c.args.p.now c.if-p-lt-LEAST_MESSAGE.false (omega arith) _ c.be16.ensures _ c.plain_header.ensures (c.if-not-plain_header.true) in record { answer = h; number = number_is _ _ h }

pub returns : goal.returns
returns c = let h = message_sections c.args.p.now c.if-p-lt-LEAST_MESSAGE.false (omega arith) _ c.be16.ensures _ c.plain_header.ensures (c.if-not-plain_header.false) _ c.read_sections.ensures in record { answer = h; number = number_is _ _ h }
