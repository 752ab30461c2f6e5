use borrow.Author.Tests.{le-leb, lt-leb}
use Rattle.wire.proofs.message.counted_ttl.Goals as goal

pub returns-then-ttl-lt2147483648 : goal.returns-then-ttl-lt2147483648
returns-then-ttl-lt2147483648 c = simp (lt-leb _ _ c.if-ttl-lt2147483648.true)

pub returns-else-ttl-lt2147483648 : goal.returns-else-ttl-lt2147483648
returns-else-ttl-lt2147483648 c = simp (le-leb _ _ c.if-ttl-lt2147483648.false)
