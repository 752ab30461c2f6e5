use native.Mathlib.Omega.{arith}
use Rattle.std.proofs.lemmas.Grind.{common_steps}
use Rattle.own.specs.records.Setups.{label_fits, instance_fits}
use Rattle.capi_responder.specs.setup_test.Held.{label_of}
use Rattle.capi_responder.proofs.setup_test.instance_fits.Goals as goal

pub returns-then-label_fits : goal.returns-then-label_fits
unfolding label_of label_fits instance_fits
returns-then-label_fits c = grind (arith, common_steps)

pub returns-else-label_fits : goal.returns-else-label_fits
unfolding label_of label_fits instance_fits
returns-else-label_fits c = grind (arith, common_steps)

pub slice_bounds-is_shown-end : goal.slice_bounds-is_shown-end
unfolding label_of label_fits
slice_bounds-is_shown-end c = grind (arith, common_steps)
