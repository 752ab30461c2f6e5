use Rattle.std.proofs.Common.{rules}
use Rattle.claims.specs.holds.Holds.{some_free}
use Rattle.claims.specs.records.Sets.{some_of}
use Rattle.claims.proofs.holds.some_free.Goals as goal

pub returns : goal.returns
unfolding some_free some_of
returns c = search rules
