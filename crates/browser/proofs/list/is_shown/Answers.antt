use Rattle.std.proofs.Common.{arith}
use Rattle.std.proofs.lemmas.Grind.{common_steps}
use Rattle.std.proofs.lemmas.Bool.Decides.{nat_tests}
use Rattle.cache.specs.entries.Entries.{is_of, live_of}
use Rattle.browser.specs.service.Service.{service_name}
use Rattle.browser.specs.list.Listing.{is_shown}
use Rattle.browser.proofs.service.Names.{name-front, name-long}
use Rattle.browser.proofs.list.is_shown.Goals as goal

pub returns-then-not-is_live : goal.returns-then-not-is_live
unfolding is_shown live_of is_of
returns-then-not-is_live c = grind (arith, common_steps, nat_tests)

pub slice_bounds-is_of-end : goal.slice_bounds-is_of-end
slice_bounds-is_of-end c = name-long (service_name c.args.b) _ c.service_name-name.ensures

pub returns-then-is_of : goal.returns-then-is_of
unfolding is_shown live_of
returns-then-is_of c = let n = name-front (service_name c.args.b) _ c.service_name-name.ensures in grind (arith, common_steps, nat_tests)

pub returns-else-is_of : goal.returns-else-is_of
unfolding is_shown live_of
returns-else-is_of c = let n = name-front (service_name c.args.b) _ c.service_name-name.ensures in grind (arith, common_steps, nat_tests)
