use native.Mathlib.Omega.{arith}
use Rattle.std.proofs.lemmas.Grind.{common_steps}
use Rattle.capi_responder.specs.setup_test.Held.{label_of}
use Rattle.own.specs.records.Setups.{label_fits}
use Rattle.capi_responder.proofs.setup_test.label_fits.Goals as goal

pub returns-then-len-ne0 : goal.returns-then-len-ne0
unfolding label_of label_fits
returns-then-len-ne0 c = grind (arith, common_steps)

pub returns-else-len-ne0 : goal.returns-else-len-ne0
unfolding label_of label_fits
returns-else-len-ne0 c = grind (arith, common_steps)
