use Rattle.std.proofs.Common.{arith}
use Rattle.std.proofs.lemmas.Grind.{common_steps}
use Rattle.std.proofs.lemmas.Bool.Decides.{nat_tests}
use Rattle.browser.specs.Steps.{tick_tests_with}
use Rattle.browser.proofs.tick_refusal.Goals as goal

pub returns-then-time_refused : goal.returns-then-time_refused
unfolding tick_tests_with
returns-then-time_refused c = grind (arith, common_steps, nat_tests)

pub returns-then-room-lt-LEAST_OUT : goal.returns-then-room-lt-LEAST_OUT
unfolding tick_tests_with
returns-then-room-lt-LEAST_OUT c = grind (arith, common_steps, nat_tests)

pub returns-then-entries-ne0 : goal.returns-then-entries-ne0
unfolding tick_tests_with
returns-then-entries-ne0 c = grind (arith, common_steps, nat_tests)

pub returns-then-browser_refused : goal.returns-then-browser_refused
unfolding tick_tests_with
returns-then-browser_refused c = grind (arith, common_steps, nat_tests)

pub returns : goal.returns
unfolding tick_tests_with
returns c = grind (arith, common_steps, nat_tests)
