use Rattle.std.proofs.Common.{rules}
use Rattle.claims.specs.Refusals.{holds_kept}
use Rattle.claims.specs.records.Sets.{every_of}
use Rattle.claims.proofs.refusal_tests.holds_kept.Goals as goal

pub returns-then-hold_kept-3 : goal.returns-then-hold_kept-3
unfolding holds_kept every_of
returns-then-hold_kept-3 c = search rules

pub returns-else-hold_kept-3 : goal.returns-else-hold_kept-3
unfolding holds_kept every_of
returns-else-hold_kept-3 c = search rules
