use Rattle.std.proofs.Common.{rules}
use Rattle.claims.specs.holds.Holds.{queued}
use Rattle.claims.proofs.holds.add.Goals as goal

pub returns-then-not-is_taken : goal.returns-then-not-is_taken
unfolding queued
returns-then-not-is_taken c = search rules

pub returns-then-not-is_taken-2 : goal.returns-then-not-is_taken-2
unfolding queued
returns-then-not-is_taken-2 c = search rules

pub returns-then-not-is_taken-3 : goal.returns-then-not-is_taken-3
unfolding queued
returns-then-not-is_taken-3 c = search rules

pub returns-then-not-is_taken-4 : goal.returns-then-not-is_taken-4
unfolding queued
returns-then-not-is_taken-4 c = search rules

pub returns-else-not-is_taken-4 : goal.returns-else-not-is_taken-4
unfolding queued
returns-else-not-is_taken-4 c = search rules
