use Rattle.std.proofs.Common.{arith}
use Rattle.std.proofs.lemmas.Grind.{common_steps}
use Rattle.std.proofs.lemmas.Bool.Decides.{nat_tests}
use Rattle.browser.specs.known_answers.Known.{shown_ttl}
use Rattle.browser.proofs.known_answers.shown_ttl.Goals as goal

pub returns-then-e-time : goal.returns-then-e-time
unfolding shown_ttl
returns-then-e-time c = grind (arith, common_steps, nat_tests)

pub returns : goal.returns
unfolding shown_ttl
returns c = grind (arith, common_steps, nat_tests)
