use native.Mathlib.Omega.{arith}
use Rattle.wire.proofs.message.Refused.{short_from, long_from, elsewhere_from, read_from_lem, told}
use Rattle.wire.proofs.message.read_from.Goals.{then-p-lt-LEAST_MESSAGE-via-then-p-lt-LEAST_MESSAGE, then-p-lt-LEAST_MESSAGE-via-else-p-lt-LEAST_MESSAGE+then-p-gt-MOST_MESSAGE}
use Rattle.wire.proofs.message.read_from.Goals as goal

pub returns-then-p-lt-LEAST_MESSAGE : goal.returns-then-p-lt-LEAST_MESSAGE
returns-then-p-lt-LEAST_MESSAGE c = elim c.then-p-lt-LEAST_MESSAGE.branch [
  | then-p-lt-LEAST_MESSAGE-via-then-p-lt-LEAST_MESSAGE w ↦ short_from _ _ w.if-p-lt-LEAST_MESSAGE.true
  | then-p-lt-LEAST_MESSAGE-via-else-p-lt-LEAST_MESSAGE+then-p-gt-MOST_MESSAGE w ↦ long_from _ _ w.if-p-gt-MOST_MESSAGE.true
]

pub returns-then-port_refused : goal.returns-then-port_refused
returns-then-port_refused c = elsewhere_from _ _ (omega arith) (omega arith) (told c.port_refused.ensures c.if-port_refused.true)

pub returns : goal.returns
returns c = read_from_lem _ _ (told c.port_refused.ensures c.if-port_refused.false) _ c.read_message.ensures.answer
