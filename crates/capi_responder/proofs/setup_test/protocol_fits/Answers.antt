use native.Mathlib.Omega.{arith}
use Rattle.std.proofs.lemmas.Grind.{common_steps}
use Rattle.own.specs.records.Setups.{protocol_fits}
use Rattle.capi_responder.proofs.setup_test.protocol_fits.Goals as goal

pub returns-then-same_bytes : goal.returns-then-same_bytes
unfolding protocol_fits
returns-then-same_bytes c = grind (arith, common_steps)

pub returns-else-same_bytes : goal.returns-else-same_bytes
unfolding protocol_fits
returns-else-same_bytes c = grind (arith, common_steps)
