use Rattle.std.proofs.Common.{arith}
use Rattle.std.proofs.lemmas.Grind.{common_steps}
use Rattle.std.proofs.lemmas.Bool.Decides.{nat_tests}
use Rattle.browser.specs.list.Listing.{shows_too}
use Rattle.browser.proofs.list.shows_too.Goals as goal

pub returns-then-is_shown : goal.returns-then-is_shown
unfolding shows_too
returns-then-is_shown c = grind (arith, common_steps, nat_tests)

pub returns-else-is_shown : goal.returns-else-is_shown
unfolding shows_too
returns-else-is_shown c = grind (arith, common_steps, nat_tests)
