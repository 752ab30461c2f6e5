use Rattle.facts.proofs.Tests.{other_length}
use Rattle.facts.proofs.is_named.Goals as goal

pub returns-then-len-own : goal.returns-then-len-own
returns-then-len-own c = other_length _ _ _ _ (c.requires.long_if_known c.if-len-ne0.true) c.if-len-own.true
