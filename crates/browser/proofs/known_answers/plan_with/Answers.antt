use Rattle.std.proofs.Common.{arith}
use Rattle.std.proofs.lemmas.Grind.{common_steps}
use Rattle.std.proofs.lemmas.Bool.Decides.{nat_tests}
use Rattle.browser.specs.known_answers.Plans.{plan_with}
use Rattle.browser.proofs.known_answers.plan_with.Goals as goal

pub returns-then-n-ge-MOST_KNOWN : goal.returns-then-n-ge-MOST_KNOWN
unfolding plan_with
returns-then-n-ge-MOST_KNOWN c = grind (arith, common_steps, nat_tests)

pub returns : goal.returns
unfolding plan_with
returns c = grind (arith, common_steps, nat_tests)
