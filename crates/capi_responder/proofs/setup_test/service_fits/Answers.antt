use native.Mathlib.Omega.{arith}
use Rattle.std.proofs.lemmas.Grind.{common_steps}
use Rattle.capi_responder.specs.setup_test.Held.{service_of}
use Rattle.own.specs.records.Setups.{service_fits}
use Rattle.capi_responder.proofs.setup_test.service_fits.Goals as goal

pub returns-then-len-le-MOST_SERVICE : goal.returns-then-len-le-MOST_SERVICE
unfolding service_of service_fits
returns-then-len-le-MOST_SERVICE c = grind (arith, common_steps)

pub returns-else-len-le-MOST_SERVICE : goal.returns-else-len-le-MOST_SERVICE
unfolding service_of service_fits
returns-else-len-le-MOST_SERVICE c = grind (arith, common_steps)
