use native.Mathlib.Omega.{arith}
use Rattle.std.proofs.lemmas.Grind.{common_steps}
use Rattle.capi_responder.specs.setup_test.Held.{strings_of}
use Rattle.own.specs.records.Setups.{txt_fits}
use Rattle.capi_responder.proofs.setup_test.txt_fits.Goals as goal

pub returns-then-len-le-MOST_TXT : goal.returns-then-len-le-MOST_TXT
unfolding strings_of txt_fits
returns-then-len-le-MOST_TXT c = grind (arith, common_steps)

pub returns-else-len-le-MOST_TXT : goal.returns-else-len-le-MOST_TXT
unfolding strings_of txt_fits
returns-else-len-le-MOST_TXT c = grind (arith, common_steps)
