use Rattle.std.proofs.Common.{arith}
use Rattle.std.proofs.lemmas.Grind.{common_steps}
use Rattle.std.proofs.lemmas.Bool.Decides.{nat_tests}
use Rattle.browser.specs.service.Service.{right_labels}
use Rattle.browser.proofs.service.labels_right.Goals as goal

pub returns-then-protocol_fits : goal.returns-then-protocol_fits
unfolding right_labels
returns-then-protocol_fits c = grind (arith, common_steps, nat_tests)

pub returns-else-protocol_fits : goal.returns-else-protocol_fits
unfolding right_labels
returns-else-protocol_fits c = grind (arith, common_steps, nat_tests)
