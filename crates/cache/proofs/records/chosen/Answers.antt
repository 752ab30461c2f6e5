use Rattle.std.proofs.Common.{arith}
use Rattle.std.proofs.lemmas.Grind.{common_steps}
use Rattle.std.proofs.lemmas.Bool.Decides.{nat_tests}
use Rattle.cache.specs.records.Heard.{chosen_of}
use Rattle.cache.proofs.records.chosen.Goals as goal

pub returns-then-not-is_taken : goal.returns-then-not-is_taken
unfolding chosen_of
returns-then-not-is_taken c = grind (arith, common_steps, nat_tests)

pub returns-then-h : goal.returns-then-h
unfolding chosen_of
returns-then-h c = grind (arith, common_steps, nat_tests)

pub returns-then-h-eq0 : goal.returns-then-h-eq0
unfolding chosen_of
returns-then-h-eq0 c = grind (arith, common_steps, nat_tests)

pub returns-then-equal-n : goal.returns-then-equal-n
unfolding chosen_of
returns-then-equal-n c = grind (arith, common_steps, nat_tests)

pub returns-then-h-eq0-2 : goal.returns-then-h-eq0-2
unfolding chosen_of
returns-then-h-eq0-2 c = grind (arith, common_steps, nat_tests)

pub returns-then-free-n : goal.returns-then-free-n
unfolding chosen_of
returns-then-free-n c = grind (arith, common_steps, nat_tests)

pub returns : goal.returns
unfolding chosen_of
returns c = grind (arith, common_steps, nat_tests)
